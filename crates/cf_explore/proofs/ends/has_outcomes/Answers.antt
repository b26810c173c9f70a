use Rattle.std.proofs.Common.{◌≡◌, Some, ap, sym, ◌∙◌}
use Rattle.std.specs.Prelude.{slice_get}
use Rattle.std.proofs.lemmas.Option.{same_Some, slice_get-get_or}
use Rattle.cf_explore.specs.declared.found.End.{End}
use Rattle.cf_explore.proofs.ends.has_outcomes.Goals as goal

pub returns-in-Some-clause-there : goal.returns-in-Some-clause-there
returns-in-Some-clause-there c = λ right.
    let end = c.in-Some.end.now in
    let at = c.in-Some.ensures.lookup in
    let there : slice_get c.args.ends.now c.args.i ≡ Some end = slice_get-get_or c.args.ends.now c.args.i end at.3.0 ∙ ap (λ x. Some x) (sym at.1) in
    let same : end.outcomes.items ≡ c.args.outcomes.now = sym c.deref.ensures.value ∙ c.same_outcomes.ensures.same right in
    (end, there, same)

pub returns-in-Some-clause-other : goal.returns-in-Some-clause-other
returns-in-Some-clause-other c = λ h.
    let end = c.in-Some.end.now in
    let at = c.in-Some.ensures.lookup in
    let there : slice_get c.args.ends.now c.args.i ≡ Some end = slice_get-get_or c.args.ends.now c.args.i end at.3.0 ∙ ap (λ x. Some x) (sym at.1) in
    let is : end ≡ h.0 = same_Some end h.0 (sym there ∙ h.1) in
    c.same_outcomes.ensures.other (c.deref.ensures.value ∙ ap (λ (e : End). e.outcomes.items) is ∙ h.2)
