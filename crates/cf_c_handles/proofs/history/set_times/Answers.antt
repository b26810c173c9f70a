use Rattle.std.proofs.Common.{subst, sym}
use Rattle.std_alloc.specs.Box.{with_value}
use Rattle.cf_c_handles.specs.Histories.{OfHistory, SetsTimes}
use Rattle.cf_c_handles.specs.declared.handle.object.Object.TheVariants.{History}
use Rattle.cf_c_handles.proofs.Histories.{asks}
use Rattle.cf_c_handles.proofs.history.set_times.Goals as goal

pub returns : goal.returns
returns c =
    let Asks = SetsTimes c.args.times.now in
    subst (λ held. OfHistory Asks held c.set_times_of.result (History (with_value c.in-History.history c.set_times_of.new.history))) (sym c.in-History.is)
    (asks Asks c.in-History.history c.set_times_of.result c.set_times_of.new.history (subst (λ h. Asks h c.set_times_of.result c.set_times_of.new.history) c.deref_mut.ensures.value c.set_times_of.ensures))
