use Rattle.std.proofs.Common.{refl, subst, sym}
use Rattle.cf_c_handles.specs.Histories.{IsLast}
use Rattle.cf_c_handles.proofs.Histories.{is_last}
use Rattle.cf_c_handles.proofs.history.put_name.Goals as goal

pub returns-in-Some : goal.returns-in-Some
returns-in-Some c =
    let last = c.in-Some.last in
    (refl, subst (IsLast c.args.texts.items) (sym c.replace.ensures.after) (subst (λ l. IsLast l last) (sym c.in-Some.ensures.items) (is_last c.pop.new.self.items last)))
