-- What a host behind a handle is asked.
use Rattle.std.proofs.Common.{refl}
use Rattle.std.specs.Prelude.{Result}
use Rattle.std.specs.Global.{Box}
use Rattle.std_alloc.specs.Box.{with_value}
use Rattle.cf_host.specs.Hosts.{Host as Host'}
use Rattle.cf_c_handles.specs.Hosts.{OfHost}
use Rattle.cf_c_handles.specs.declared.code.Code.{Code}
use Rattle.cf_c_handles.specs.declared.handle.object.Object.TheVariants.{Host}

-- what is told of a host is told of what stands behind the handle
pub asks : {X : Type 0} (Asks : Host' → Result X Code → Host' → Type 0) (h : Box Host') (r : Result X Code) (new : Host') → Asks h.value r new →
    OfHost Asks (Host h) r (Host (with_value h new))
asks Asks h r new asked = record { now = with_value h new; is = refl; asked = asked }
