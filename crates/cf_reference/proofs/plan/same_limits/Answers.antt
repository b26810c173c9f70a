use Rattle.std.proofs.Common.{rules}
use Rattle.std.proofs.lemmas.Slice.Eq.{slice_eq-Decides}
use Rattle.cf_reference.proofs.plan.same_limits.Goals as goal

pub returns : goal.returns
returns c = slice_eq-Decides (λ a b. (λ yes. search rules, λ same. search rules)) _ _ _ c.eq.ensures
