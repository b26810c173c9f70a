use Rattle.std.proofs.Common.{List, ap, rules, subst, sym, ◌∙◌}
use Rattle.cf_notes.specs.declared.wants.Want.{Want}
use Rattle.cf_row.specs.Puts.{IsNoPut, Plans}
use Rattle.cf_part.specs.Parts.{IsSound, Part, words_wanted}
use Rattle.cf_part.proofs.Kept.{planned_sound, planned_stages}
use Rattle.cf_part.proofs.part.Part.plan.Goals as goal

pub invariant_of-self-2 : goal.invariant_of-self-2
invariant_of-self-2 c =
    let i = c.self.inside in
    let plans : Plans i.row (words_wanted c.args.wants.now) c.plan.new.self =
    subst (λ ws. Plans i.row ws c.plan.new.self) (c.as_slice.ensures.value ∙ c.write_words.ensures.items) c.in-Ok.ensures.planned in
    record {
      sound = subst (λ (l : List Want). IsSound c.plan.new.self i.calls.items i.owed.items i.wanted.items l i.asked) (sym c.write_wants.ensures.items)
          (planned_sound i.row c.plan.new.self i.calls.items i.owed.items i.wanted.items i.wants.items c.args.wants.now i.asked (ap (λ (p : Part). p.asked) c.self.view_is ∙ c.requires.asked) c.self.invariant.sound plans c.requires.few);
      noted = planned_stages i.row c.plan.new.self _ i.notes plans c.self.invariant.noted;
      places = search rules;
    }

pub returns-in-Err-clause-why : goal.returns-in-Err-clause-why
returns-in-Err-clause-why c =
    let i = c.self.inside in
    subst (λ (p : Part). IsNoPut p.row.replica p.row.next (words_wanted c.args.wants.now) c.in-Err.fault) c.self.view_is
    (subst (λ ws. IsNoPut i.row.replica i.row.next ws c.in-Err.fault) (c.as_slice.ensures.value ∙ c.write_words.ensures.items) c.in-Err.ensures.why)
