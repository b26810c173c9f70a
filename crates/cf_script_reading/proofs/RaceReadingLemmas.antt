-- What bytes say to a race, beside what they say to a run.
use Rattle.std.proofs.Common.{◌≡◌, ◌≤◌, ◌+◌, ℕ, suc, List, [], ◌∷◌, ◌++◌, length, All, Bool, true, false, Option, Some, None, Result, Ok, Err, refl, sym, ap, subst, ◌∙◌, arith, inl, inr}
use Rattle.std.specs.Prelude.{codes, nat_lt, option_and_then, option_map, if◌then◌else◌}
use Rattle.std.proofs.lemmas.List.{length-append}
use Rattle.std.proofs.lemmas.List.Elements.{All-nil}
use Rattle.serde_json.specs.Data.{Data, Items, no_items, item}
use Rattle.serde_json.specs.Find.{get, as_array, as_object}
use Rattle.cf_plan.specs.declared.faults.PlanFault.{PlanFault}
use Rattle.cf_forms.specs.declared.limits.Limit.{Limit}
use Rattle.cf_forms.specs.Plans.{Planned, PlannedStage, edges_of, has_place, with_stage, with_limit}
use Rattle.cf_plan.specs.Faults.{stage_fault, limit_fault}
use Rattle.cf_script_reading.specs.declared.fault.Part.TheVariants as parts
use Rattle.cf_script_reading.specs.declared.fault.ReadingFault.{ReadingFault}
use Rattle.cf_script_reading.specs.declared.fault.ReadingFault.TheVariants as faults
use Rattle.cf_script_reading.specs.declared.purpose.Purpose.TheVariants.{Run, Race}
use Rattle.cf_script_reading.proofs.RaceSteps.{After, Differ, Same, among, at_first, cases, races, runs}
use Rattle.cf_script_reading.specs.Checks.{◌>>=◌, fold_items, guard, ok_or, planned_unless}
use Rattle.cf_script_reading.specs.Funcs.{function_said}
use Rattle.cf_script_reading.specs.Limits.{kind_of, limit_next, number_named}
use Rattle.cf_script_reading.specs.Parts.{up_to}
use Rattle.cf_script_reading.specs.Purposes.{IsForRace}
use Rattle.cf_script_reading.specs.RaceReadings.{first_items, cut_at, reading_up_to, IsNotOfStep, IsFirstWrong, RacesAreReadAsRuns}
use Rattle.cf_script_reading.specs.Reading.{Outline, progress_start, drafted_of, items_said, json_of, outline, outline_of, script_with, with_steps, reading, race_reading}
use Rattle.cf_script_reading.specs.Scripts.{Script}
use Rattle.cf_script_reading.specs.ReadingProgress.{Progress}
use Rattle.cf_script_reading.specs.Versions.{version_of, room_said}
use Rattle.cf_script_reading.specs.declared.version.Version.{Version}
use Rattle.cf_script_reading.specs.Stages.{Drafted, form_of, nothing_drafted, number_after, sources_said, source_next, stage_next, with_function}

-- ---- before the steps are read no fault of a step is told

record NeverOfStep {A : Type 0} (r : Result A ReadingFault) : Type 0 where
  never : (k : ℕ) → r ≡ Err (faults.Step k) → ⊥

of_step : (fault : ReadingFault) (k : ℕ) → fault ≡ faults.Step k → IsNotOfStep fault → ⊥
of_step fault k e h = subst IsNotOfStep e h

never-ok : {A : Type 0} (x : A) → NeverOfStep {A = A} (Ok x)
never-ok x = record { never = λ k e. absurd cc }

never-err : {A : Type 0} (fault : ReadingFault) → IsNotOfStep fault → NeverOfStep {A = A} (Err fault)
never-err fault h = record { never = λ k e. let same : fault ≡ faults.Step k = cc in of_step fault k same h }

never-next : {A B : Type 0} (r : Result A ReadingFault) (next : A → Result B ReadingFault) → NeverOfStep r → ((x : A) → NeverOfStep (next x)) → NeverOfStep (r >>= next)
never-next (Ok x) next h more = more x
never-next (Err fault) next h more = record { never = λ k e. let same : fault ≡ faults.Step k = cc in h.never k (ap Err same) }

never-ok_or : {A : Type 0} (fault : ReadingFault) (o : Option A) → IsNotOfStep fault → NeverOfStep (ok_or fault o)
never-ok_or fault (Some x) h = never-ok x
never-ok_or fault None h = never-err fault h

never-guard : (b : Bool) (fault : ReadingFault) → IsNotOfStep fault → NeverOfStep (guard b fault)
never-guard true fault h = never-ok tt
never-guard false fault h = never-err fault h

never-planned_unless : (refusal : Option PlanFault) (k : ℕ) (plan : Planned) → NeverOfStep (planned_unless refusal k plan)
never-planned_unless None k plan = never-ok plan
never-planned_unless (Some refusal) k plan = never-err (faults.Plan refusal k) tt

never-fold : {S : Type 0} (next : S → Data → Result S ReadingFault) → ((s : S) (d : Data) → NeverOfStep (next s d)) → (items : Items) (s : S) → NeverOfStep (fold_items next s items)
unfolding fold_items
never-fold next h no_items s = never-ok s
never-fold next h (item d items) s = never-next (next s d) (λ t. fold_items next t items) (h s d) (never-fold next h items)

never-sources : (fault : ReadingFault) (said : Option Data) → IsNotOfStep fault → NeverOfStep (sources_said fault said)
never-sources fault None h = never-ok []
never-sources fault (Some d) h =
    never-next _ (fold_items (source_next fault) []) (never-ok_or fault (as_array d) h) (λ items.
    never-fold (source_next fault) (λ found e. never-ok_or fault (option_map (λ n. found ++ n ∷ []) (up_to 65535 e)) h) items [])

never-stage : (version : Version) (drafted : Drafted) (d : Data) → NeverOfStep (stage_next version drafted d)
unfolding stage_next
never-stage version drafted d =
    let k = length drafted.plan.stages in
    let wrong = faults.Shape (parts.Stage k) in
    never-next _ _ (never-ok_or wrong (form_of version d) tt) (λ form.
    never-next _ _ (never-sources wrong (get (codes "of") d) tt) (λ sources.
    never-next _ _ (never-ok_or (faults.Function k) (function_said (get (codes "fn") d)) tt) (λ function.
    let stage : PlannedStage = record { form = form; sources = sources; function = number_after drafted.functions function } in
    never-next _ _ (never-planned_unless (stage_fault k (edges_of drafted.plan.stages) stage) k (with_stage drafted.plan stage)) (λ plan.
    never-ok (record { plan = plan; functions = with_function drafted.functions function })))))

never-limit : (plan : Planned) (d : Data) → NeverOfStep (limit_next plan d)
unfolding limit_next
never-limit plan d =
    let k = length plan.limits in
    let wrong = faults.Shape (parts.Limit k) in
    never-next _ _ (never-ok_or wrong (number_named 65535 (codes "stage") d) tt) (λ stage.
    never-next _ _ (never-ok_or wrong (number_named 4294967295 (codes "at") d) tt) (λ at.
    never-next _ _ (never-ok_or wrong (kind_of d) tt) (λ kind.
    let limit : Limit = record { stage = stage; at = at; kind = kind } in
    never-planned_unless (limit_fault plan limit.stage) k (with_limit plan limit))))

never-drafted_of : (version : Version) (room : ℕ) (stages limits : Items) → NeverOfStep (drafted_of version room stages limits)
unfolding drafted_of
never-drafted_of version room stages limits =
    never-next _ _ (never-fold (stage_next version) (never-stage version) stages nothing_drafted) (λ drafted.
    never-next _ _ (never-fold limit_next never-limit limits drafted.plan) (λ plan.
    never-next _ _ (never-guard (has_place plan.stages room) (faults.Shape parts.Room) tt) (λ place.
    never-ok (record { plan = plan; functions = drafted.functions }))))

never-outline_of : (d : Data) → NeverOfStep (outline_of d)
unfolding outline_of
never-outline_of d =
    never-next _ _ (never-ok_or (faults.Shape parts.Top) (as_object d) tt) (λ top.
    never-next _ _ (never-ok_or (faults.Shape parts.Version) (version_of d) tt) (λ version.
    never-next _ _ (never-ok_or (faults.Shape parts.Room) (room_said version (get (codes "room") d)) tt) (λ room.
    never-next _ _ (never-ok_or (faults.Shape parts.Stages) (option_and_then as_array (get (codes "stages") d)) tt) (λ stages.
    never-next _ _ (never-ok_or (faults.Shape parts.Limits) (items_said (get (codes "limits") d)) tt) (λ limits.
    never-next _ _ (never-ok_or (faults.Shape parts.Steps) (items_said (get (codes "steps") d)) tt) (λ steps.
    never-next _ _ (never-drafted_of version room stages limits) (λ drafted.
    never-ok (record { version = version; plan = drafted.plan; room = room; functions = drafted.functions; steps = steps }))))))))

never-if : (b : Bool) (x y : Result Outline ReadingFault) → NeverOfStep x → NeverOfStep y → NeverOfStep (if b then x else y)
never-if true x y h k = h
never-if false x y h k = k

never-outline : (bytes : List ℕ) → NeverOfStep (outline bytes)
unfolding outline
never-outline bytes =
    never-if (nat_lt 1048576 (length bytes)) _ _ (never-err faults.TooLong tt) (never-next _ outline_of (never-ok_or faults.NotJson (json_of bytes) tt) never-outline_of)

-- ---- with its steps

-- what makes a script of a progress that was read
made_of : (make : Progress → Script) (r : Result Progress ReadingFault) (s : Script) → (r >>= λ c. Ok (make c)) ≡ Ok s → (c : Progress) × (r ≡ Ok c) × (make c ≡ s)
made_of make (Ok c) s e = let same : make c ≡ s = cc in (c, refl, same)
made_of make (Err fault) s e = absurd cc

none_of : (make : Progress → Script) (r : Result Progress ReadingFault) (fault : ReadingFault) → (r >>= λ c. Ok (make c)) ≡ Err fault → r ≡ Err fault
none_of make (Ok c) fault e = absurd cc
none_of make (Err told) fault e = cc

module _ (o : Outline) where
  abbrev made : Progress → Script
  made = script_with o

  abbrev start : Progress
  start = progress_start o

  abbrev v : Version
  v = o.version

  abbrev scripted : Result Progress ReadingFault → Result Script ReadingFault
  scripted r = r >>= λ c. Ok (made c)

  module _ (bytes : List ℕ) (is : outline bytes ≡ Ok o) where
    to_run : reading bytes ≡ scripted (runs v start o.steps)
    to_run = ap (λ x. x >>= with_steps Run) is

    to_race : race_reading bytes ≡ scripted (races v start o.steps)
    to_race = ap (λ x. x >>= with_steps Race) is

    to_run_up_to : (k : ℕ) → reading_up_to k bytes ≡ scripted (runs v start (first_items k o.steps))
    to_run_up_to k = ap (λ x. x >>= λ p. with_steps Run (cut_at k p)) is

    first_is_told : (k : ℕ) → IsFirstWrong bytes k → race_reading bytes ≡ Err (faults.Step k)
    first_is_told k w =
        let front = made_of made _ w.before (sym (to_run_up_to k) ∙ w.reads) in
        let before = front.0 in
        let same : before.steps ≡ w.before.steps = ap (λ (t : Script). t.steps) front.2 in
        let count : length before.steps ≡ k = ap length same ∙ w.count in
        let told = at_first v o.steps start k before front.1 (omega arith) (subst (All IsForRace) (sym same) w.for_race) (elim w.wrong [
          | inl e ↦ inl (none_of made _ _ (sym to_run ∙ e) ∙ ap (λ j. Err (faults.Step j)) (sym count))
          | inr alone ↦ (let next : k + 1 ≡ suc k = omega arith in
              let whole = made_of made _ alone.script (sym (to_run_up_to (k + 1)) ∙ alone.reads) in
              inr (record {
                step = alone.step;
                with_it = whole.0;
                goes_on = subst (λ j. runs v start (first_items j o.steps) ≡ Ok whole.0) next whole.1;
                adds = ap (λ (t : Script). t.steps) whole.2 ∙ alone.goes_on ∙ ap (λ steps. steps ++ alone.step ∷ []) (sym same);
                not_taken = alone.not_taken;
              }))
        ]) in
        to_race ∙ ap scripted told ∙ ap (λ j. Err (faults.Step j)) count

    law-same : Same v start o.steps → RacesAreReadAsRuns bytes
    law-same same =
        let run = to_run ∙ ap scripted same.run_ok in
        let race = to_race ∙ ap scripted same.race_ok in
        record {
          scripts = λ s. (
            λ e. (let is_it : made same.progress ≡ s = cc in (run ∙ ap Ok is_it, subst (λ (t : Script). All IsForRace t.steps) is_it same.for_race)),
            λ h. race ∙ sym run ∙ h.0,
          );
          other_faults = λ fault h. (λ e. absurd cc, λ e. absurd cc);
          steps = λ k. (λ e. absurd cc, first_is_told k);
          no_later = λ j k e f. absurd cc;
        }

    law-differ : Differ v start o.steps → RacesAreReadAsRuns bytes
    law-differ w =
        let k0 = length w.before.steps in
        let race = to_race ∙ ap scripted w.race_told in
        record {
          scripts = λ s. (
            λ e. absurd cc,
            λ h. absurd (let whole = made_of made _ s (sym to_run ∙ h.0) in
                not_all whole.0 whole.1 (subst (λ (t : Script). All IsForRace t.steps) (sym whole.2) h.1)),
          );
          other_faults = λ fault h. (
            λ e. (let same : fault ≡ faults.Step k0 = cc in absurd (of_step fault k0 same h)),
            λ e. (let f = its_fault fault (none_of made _ fault (sym to_run ∙ e)) in absurd (of_step fault f.0 f.1 h)),
          );
          steps = λ k. (λ e. (let same : k0 ≡ k = cc in subst (IsFirstWrong bytes) same is_first), first_is_told k);
          no_later = λ j k e f. (
              let here : j ≡ k0 = cc in
              let told = its_fault (faults.Step k) (none_of made _ _ (sym to_run ∙ f)) in
              let there : k ≡ told.0 = cc in
              let le = told.2 in
              omega arith);
        }
      where
        its_fault : (fault : ReadingFault) → runs v start o.steps ≡ Err fault → (j : ℕ) × (fault ≡ faults.Step j) × (length w.before.steps ≤ j)
        its_fault fault e = elim w.wrong [
          | inl told ↦ (let same : fault ≡ faults.Step (length w.before.steps) = cc in (length w.before.steps, same, omega arith))
          | inr alone ↦ (let behind = subst (After v (w.before.steps ++ alone.step ∷ [])) e alone.rest in
              let one = length-append w.before.steps (alone.step ∷ []) in
              let le = behind.2 in
              (behind.0, behind.1, omega arith))
        ]

        not_all : (progress : Progress) → runs v start o.steps ≡ Ok progress → All IsForRace progress.steps → ⊥
        not_all progress e h = elim w.wrong [
          | inl told ↦ absurd cc
          | inr alone ↦ (let behind = subst (After v (w.before.steps ++ alone.step ∷ [])) e alone.rest in
              let taken = among w.before.steps alone.step behind.0 (subst (All IsForRace) behind.1 h) in
              let not_taken = alone.not_taken in
              absurd cc)
        ]

        is_first : IsFirstWrong bytes (length w.before.steps)
        is_first =
            let count = w.count in
            let m : w.m ≡ length w.before.steps = omega arith in
            let next : suc w.m ≡ length w.before.steps + 1 = omega arith in
            record {
              before = made w.before;
              reads = to_run_up_to (length w.before.steps) ∙ ap scripted (subst (λ j. runs v start (first_items j o.steps) ≡ Ok w.before) m w.reads);
              count = refl;
              for_race = w.for_race;
              wrong = elim w.wrong [
                | inl told ↦ inl (to_run ∙ ap scripted told)
                | inr alone ↦ inr (record {
                  script = made alone.with_it;
                  reads = to_run_up_to (length w.before.steps + 1) ∙ ap scripted (subst (λ j. runs v start (first_items j o.steps) ≡ Ok alone.with_it) next alone.goes_on);
                  step = alone.step;
                  goes_on = alone.adds;
                  not_taken = alone.not_taken;
                })
              ];
            }

law-by : (bytes : List ℕ) (x : Result Outline ReadingFault) → outline bytes ≡ x → NeverOfStep x → RacesAreReadAsRuns bytes
law-by bytes (Ok o) is never = elim (cases o.version o.steps (progress_start o) (All-nil IsForRace)) [ inl same ↦ law-same o bytes is same | inr w ↦ law-differ o bytes is w ]
law-by bytes (Err fault) is never =
    let run : reading bytes ≡ Err fault = ap (λ x. x >>= with_steps Run) is in
    let race : race_reading bytes ≡ Err fault = ap (λ x. x >>= with_steps Race) is in
    let told : (k : ℕ) → race_reading bytes ≡ Err (faults.Step k) → ⊥ = λ k e. (let same : fault ≡ faults.Step k = cc in never.never k (ap Err same)) in
    record {
      scripts = λ s. (λ e. absurd cc, λ h. let e = h.0 in absurd cc);
      other_faults = λ f h. (λ e. run ∙ sym race ∙ e, λ e. race ∙ sym run ∙ e);
      steps = λ k. (λ e. absurd (told k e), λ w. let none : reading_up_to k bytes ≡ Err fault = ap (λ x. x >>= λ p. with_steps Run (cut_at k p)) is in let some = w.reads in absurd cc);
      no_later = λ j k e f. absurd (told j e);
    }

pub races_are_read_as_runs : (bytes : List ℕ) → RacesAreReadAsRuns bytes
races_are_read_as_runs bytes = law-by bytes (outline bytes) refl (never-outline bytes)
