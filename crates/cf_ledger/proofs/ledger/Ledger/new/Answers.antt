use Rattle.std.proofs.Common.{◌≡◌, ◌+◌, ◌∙◌, [], List, ℕ, ap, false, length, refl, rules, subst, sym}
use Rattle.std.proofs.lemmas.List.{length-replicate}
use Rattle.std.specs.Prelude.{position}
use Rattle.cf_forms.specs.Plans.{Planned, plan_of, with_room}
use Rattle.cf_model.specs.States.{State}
use Rattle.cf_ledger.specs.Ledgers.{IsKept}
use Rattle.cf_ledger.proofs.Flags.{none_set}
use Rattle.cf_ledger.proofs.Reserving.{no_places}
use Rattle.cf_ledger.proofs.ledger.Ledger.new.Goals as goal

pub invariant_of-result : goal.invariant_of-result
invariant_of-result c =
    let g = c.in_ok-graph.graph in
    let all = length c.args.plan.now.stages + c.args.room in
    let flags = c.in_ok-changed.ensures.flags in
    let none : IsKept (with_room c.in_ok-shared.shared c.args.room) [] g c.in_ok-changed.changed [] = record {
      place = search rules;
      written = refl;
      taken = tt;
      left = search rules;
      worked_out = c.in_ok-graph.ensures.worked_out;
      unset = ap (position (λ b. b)) flags ∙ none_set all;
      flags = ap length flags ∙ length-replicate all false ∙ sym (ap (λ (s : State). length s.plan.stages + s.plan.room) c.in_ok-graph.ensures.graph);
      noted = tt;
    } in
    record {
      whole = subst (λ (p : Planned). p ≡ plan_of p.stages p.limits) (sym c.in_ok-shared.ensures.same) c.in_ok-changed.ensures.whole;
      kept = subst (λ lists. IsKept (with_room c.in_ok-shared.shared c.args.room) c.new.result.items g c.in_ok-changed.changed lists) (sym c.new-2.ensures)
          (subst (λ (words : List ℕ). IsKept (with_room c.in_ok-shared.shared c.args.room) words g c.in_ok-changed.changed []) (sym c.new.ensures.items) none);
      places = no_places (length c.in_ok-changed.changed) c.new.result c.new-2.result;
    }
