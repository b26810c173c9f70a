use Rattle.std.proofs.Common.{◌≡◌, Some, ap, sym, ◌∙◌}
use Rattle.std.specs.Prelude.{slice_get}
use Rattle.std.proofs.lemmas.Option.{same_Some, slice_get-get_or}
use Rattle.cf_explore.specs.declared.layer.Entry.{Entry}
use Rattle.cf_explore.proofs.layer.stands_at.Goals as goal

pub returns-in-Some-clause-other : goal.returns-in-Some-clause-other
returns-in-Some-clause-other c = λ h.
    let entry = c.in-Some.entry.now in
    let at = c.in-Some.ensures.lookup in
    let there : slice_get c.args.entries.now c.args.i ≡ Some entry = slice_get-get_or c.args.entries.now c.args.i entry at.3.0 ∙ ap (λ x. Some x) (sym at.1) in
    let is : entry ≡ h.0 = same_Some entry h.0 (sym there ∙ h.1) in
    c.is_same.ensures.other (ap (λ (e : Entry). e.situation) is ∙ h.2)
