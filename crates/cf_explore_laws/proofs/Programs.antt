-- The program of what callers were told.
use Rattle.std.proofs.Common.{◌≡◌, ℕ, ◌<◌, Some, None, Option, List, length, arith, ap, refl, sym, ◌∙◌, subst}
use Rattle.std.specs.Prelude.{Contains, map, slice_get}
use Rattle.std.specs.Option.{option_map}
use Rattle.std.proofs.lemmas.List.{length-map}
use Rattle.std.proofs.lemmas.Option.{get_or_from_slice_get, slice_get-map, slice_get_within}
use Rattle.cf_event.specs.declared.record.Record.{Record}
use Rattle.cf_explore.specs.declared.step.Step.{Step}
use Rattle.cf_explore_laws.specs.Tellings.{AreNumbered, AreToldSteps, step_for, steps_for}
use Rattle.cf_explore_laws.specs.Laws.{ProgramsAreThere}

told-at : (callers : List (ℕ × List Record)) (c : ℕ) (steps : List Step) (o : Option (ℕ × List Record)) → AreNumbered callers → slice_get callers c ≡ o → option_map steps_for o ≡ Some steps →
    AreToldSteps callers c steps
told-at callers c steps None numbered there is = absurd (let impossible : ⊥ = cc in impossible)
told-at callers c steps (Some k) numbered there is =
    let within : c < length callers = slice_get_within callers c k there in
    let found : Contains callers k = (c, within, get_or_from_slice_get callers c k k there) in
    let same : map step_for k.1 ≡ steps = cc in
    let number : k ≡ (c, k.1) = ap (λ (x : ℕ). (x, k.1)) (numbered c k there) in
    (k.1, subst (Contains callers) number found, sym same)

pub programs_are_there : ProgramsAreThere
programs_are_there m plan history callers numbered = record {
  same_plan = refl;
  all = (let so_many = length-map callers steps_for in omega arith);
  each = λ c steps there. told-at callers c steps (slice_get callers c) numbered refl (sym (slice_get-map steps_for callers c) ∙ there);
  workers = λ w l. absurd (omega arith);
}
