use Rattle.std.proofs.Common.{subst, sym}
use Rattle.std_alloc.specs.Box.{with_value}
use Rattle.cf_c_handles.specs.Histories.{OfHistory, Says, said_numbered}
use Rattle.cf_c_handles.specs.declared.handle.object.Object.TheVariants.{History}
use Rattle.cf_c_handles.proofs.Histories.{asks}
use Rattle.cf_c_handles.proofs.history.say.Goals as goal

pub returns : goal.returns
returns c =
    let Asks = Says (said_numbered c.args.what) c.args.text.now c.args.ends.now in
    subst (λ held. OfHistory Asks held c.say_of.result (History (with_value c.in-History.history c.say_of.new.history))) (sym c.in-History.is)
    (asks Asks c.in-History.history c.say_of.result c.say_of.new.history (subst (λ h. Asks h c.say_of.result c.say_of.new.history) c.deref_mut.ensures.value c.say_of.ensures))
