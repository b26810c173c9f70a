use Rattle.std.proofs.Common.{rules}
use Rattle.std.proofs.lemmas.Slice.Eq.{slice_eq-Decides}
use Rattle.cf_explore.proofs.situation.same_marks.Goals as goal

pub returns-clause-same : goal.returns-clause-same
returns-clause-same c = (slice_eq-Decides (λ a b. (λ yes. search rules, λ same. search rules)) _ _ _ c.eq.ensures).0

pub returns-clause-other : goal.returns-clause-other
returns-clause-other c = (slice_eq-Decides (λ a b. (λ yes. search rules, λ same. search rules)) _ _ _ c.eq.ensures).1
