-- A sweep keeps what is true of the stages, and leads to what serving the lowest ready stage, time after time, leads to.
use Rattle.std.proofs.Common.{◌≡◌, ◌≢◌, ℕ, ◌+◌, ◌<◌, ◌≤◌, ◌∷◌, ◌++◌, [], List, All, Bool, true, false, cond, Option, Some, None, Contains, length, suc, zero, arith, ap, sym, ◌∙◌, subst, refl, set, set-set, length-set, length-append, inl, inr, get_or, replicate}
use Rattle.std.specs.Prelude.{IfNone, IfSome, option_and_then, slice_get, position}
use Rattle.std.proofs.lemmas.Bool.Decides.{eqb_tells}
use Rattle.std.proofs.lemmas.List.Elements.{All-head, All-tail, All-cons, All-nil}
use Rattle.std.proofs.lemmas.List.Quantifiers.{position-Some}
use Rattle.std.proofs.lemmas.Option.{slice_get-get_or}
use Rattle.cf_bits.proofs.Positions.{position_is, position_is_none}
use Rattle.cf_outcome.specs.declared.outcome.Outcome.{Outcome}
use Rattle.cf_forms.specs.declared.forms.Args.{Args}
use Rattle.cf_forms.specs.Forms.{composes}
use Rattle.cf_forms.specs.Plans.{PlannedStage, dependents_of, form_at}
use Rattle.cf_plan.proofs.DependentLemmas.{dependents_above}
use Rattle.cf_model.specs.declared.stage.Stage.{Stage}
use Rattle.cf_model.specs.declared.stage.Stage.TheVariants.{Pending, Ready, Claimed, Linked, Settled}
use Rattle.cf_core.specs.declared.kept.KeptStage.{KeptStage}
use Rattle.cf_model.specs.States.{State, is_ready, new_states, outcome_in, outcome_of}
use Rattle.cf_core.specs.declared.stages.Stages.{Stages}
use Rattle.cf_core.specs.Keeping.SoundStages.{AreSound}
use Rattle.cf_core.specs.Keeping.Treatment.{IsSteady, dated_in, treated}
use Rattle.cf_core.specs.Keeping.Links.{IsFree, list_at}
use Rattle.cf_model.specs.Calling.{AreRun, CallsOf, Runs}
use Rattle.cf_core.specs.Keeping.Serving.{ServesOnce}
use Rattle.cf_core.specs.Keeping.Sound.{AreTreated, IsSound, StayTaken, is_bound, is_waiting, kept_at, links_after, mark_all, mark_one, marks_after, settled_view}
use Rattle.cf_core.specs.Keeping.Sweeps.{AreServed, AreSwept, IsReadyWith, IsSwept, Serves, Visits, turns_after}
use Rattle.cf_core.specs.Keeping.Taking.{ready_with}
use Rattle.cf_core.specs.Keeping.Offers.{args_of}
use Rattle.cf_core.specs.Keeping.Turns.{planned_at}
use Rattle.cf_core.proofs.Keeping.Lowest.{all_flags, flag_at, get_is, ready_first, ready_none}
use Rattle.cf_core.proofs.Keeping.Marking.{get-set_same}
use Rattle.cf_core.proofs.Keeping.Marks.{dated_in-set}
use Rattle.cf_core.proofs.Keeping.Moves.{claim_sound, is_steady, link_room, link_sound, outcome_there, settled_view_at, settle_same, settle_sound, turn_same}
use Rattle.cf_core.proofs.Keeping.Places.{StayTaken-set, kept_put, planned_there, ready_args, same_put, undated}
use Rattle.cf_model.proofs.Calling.{all_run, run-shape}
use Rattle.cf_model.proofs.StateLemmas.{slice_get-set_other}
use Rattle.cf_core.proofs.Keeping.Serving.{runs_once}
use Rattle.cf_core.proofs.Keeping.Soundness.{bound_free, idle_sound, turn_sound}
use Rattle.cf_core.proofs.Keeping.Sums.{StepsUpTo-at, kept_there}
use Rattle.cf_core.proofs.Keeping.Writes.{linking_is_alone}

-- ---- flags

-- one that isn't set, behind others that aren't
one_more : (flags : List Bool) (m : ℕ) → AreTreated m flags → slice_get flags m ≡ Some false → AreTreated (m + 1) flags
one_more flags m h e i l = elim (eqb_tells i m) [
  | inl s ↦ ap (slice_get flags) s.1 ∙ e
  | inr s ↦ h i (let ne = s.1 in omega (arith, l, ne))
]

-- one that is cleared
cleared_too : (flags : List Bool) (m : ℕ) → m < length flags → AreTreated m flags → AreTreated (m + 1) (set flags m false)
cleared_too flags m l h = one_more (set flags m false) m (λ i b. slice_get-set_other flags m i false (λ e. absurd (omega (arith, e, b))) ∙ h i b) (get-set_same flags m false l)

written_above : (flags : List Bool) (m : ℕ) (b : Bool) → AreTreated m flags → AreTreated m (set flags m b)
written_above flags m b h i l = slice_get-set_other flags m i b (λ e. absurd (omega (arith, e, l))) ∙ h i l

none_set : (flags : List Bool) (n : ℕ) → length flags ≡ n → AreTreated n flags → flags ≡ replicate n false
none_set [] zero l h = refl
none_set [] (suc n) l h = absurd (omega arith)
none_set (x ∷ flags) zero l h = absurd (omega arith)
none_set (x ∷ flags) (suc n) l h =
    let first : Some x ≡ Some false = h zero (omega arith) in
    let is : x ≡ false = cc in
    let rest = none_set flags n (omega arith) (λ i b. h (suc i) (omega arith)) in cc

none_of : (n : ℕ) → position (λ b. b) (replicate n false) ≡ None
none_of n = position_is_none (λ b. b) (replicate n false) false (λ j l. unset n j)
  where
    unset : (n j : ℕ) → get_or (replicate n false) j false ≡ false
    unset zero j = refl
    unset (suc n) zero = refl
    unset (suc n) (suc j) = unset n j

-- ---- marks above a stage

marked_above : (kept : List KeptStage) (stages : List ℕ) (marks : List Bool) (m : ℕ) → All (λ j. m < j) stages → AreTreated (m + 1) marks → AreTreated (m + 1) (mark_all kept stages marks)
marked_above kept [] marks m a h = h
marked_above kept (j ∷ stages) marks m a h =
    marked_above kept stages (mark_one kept j marks) m (All-tail (λ j. m < j) j stages a)
    (λ i l. one_kept (is_waiting ((kept_at kept j).stage)) i (let above = All-head (λ j. m < j) j stages a in λ e. absurd (omega (arith, above, e, l))) ∙ h i l)
  where
    one_kept : (b : Bool) (i : ℕ) → i ≢ j → slice_get (cond b (set marks j true) marks) i ≡ slice_get marks i
    one_kept true i ne = slice_get-set_other marks j i true ne
    one_kept false i ne = refl

all_contained : (xs : List ℕ) (m : ℕ) → ((i : ℕ) → Contains xs i → m < i) → All (λ i. m < i) xs
all_contained [] m h = All-nil (λ i. m < i)
all_contained (x ∷ xs) m h = All-cons (λ i. m < i) x xs (h x (0, omega arith, refl)) (all_contained xs m (λ i c. h i (suc c.0, omega (arith, c.1), c.2)))

-- ---- one stage of a sweep

module _ (plan : List PlannedStage) (kept : List KeptStage) (links : List (List ℕ)) (steps turns : ℕ) where
  -- what holds with more turns holds with fewer
  fewer_turns : (marks ready : List Bool) (more : ℕ) → turns ≤ more → IsSound plan kept marks ready links steps more → IsSound plan kept marks ready links steps turns
  fewer_turns marks ready more l h = record {
    few_stages = h.few_stages;
    few_edges = h.few_edges;
    sources_lower = h.sources_lower;
    all_kept = h.all_kept;
    all_marks = h.all_marks;
    all_links = h.all_links;
    ready_are = h.ready_are;
    waits = h.waits;
    listed = h.listed;
    bound = h.bound;
    above = h.above;
    kept_steps = h.kept_steps;
    steps_left = h.steps_left;
    turns_left = (let left = h.turns_left in omega (arith, left));
  }

  pub swept_few : (n m : ℕ) → IsSwept plan n m kept links steps turns → turns < 20481
  swept_few n m h =
      let sound = h.sound in
      let left = sound.turns_left in
      omega (arith, left, sound.few_stages, sound.few_edges)

  pub swept_within : (n m : ℕ) → IsSwept plan n m kept links steps turns → length kept ≡ length plan
  swept_within n m h = let sound = h.sound in sound.all_kept

  pub swept_steady : (n m : ℕ) → IsSwept plan n m kept links steps turns → IsSteady [] plan kept n
  swept_steady n m h = is_steady plan kept h.marks h.ready links steps turns h.sound n h.treated

  -- a treated stage is seen as it is kept
  pub swept_stage : (n m i : ℕ) → IsSwept plan n m kept links steps turns → i < length plan → i < n → slice_get (settled_view plan kept) i ≡ Some ((kept_at kept i).stage)
  swept_stage n m i h l b = settled_view_at plan kept h.marks h.ready links steps turns h.sound i n l (swept_steady n m h) b

  pub swept_outcome : (n m i : ℕ) → IsSwept plan n m kept links steps turns → i < length plan → i < n → outcome_in (settled_view plan kept) i ≡ outcome_of ((kept_at kept i).stage)
  swept_outcome n m i h l b = ap (option_and_then outcome_of) (swept_stage n m i h l b)

  pub swept_room : (n m j : ℕ) → IsSwept plan n m kept links steps turns → length (list_at links j) < 65535
  swept_room n m j h = link_room plan kept h.marks h.ready links steps turns h.sound j

  pub swept_free : (n m d : ℕ) → IsSwept plan n m kept links steps turns → is_ready ((kept_at kept d).stage) ≡ true → IsFree links d
  swept_free n m d h e =
      let sound = h.sound in
      let is = ready_args ((kept_at kept d).stage) e in
      bound_free kept links d (ap is_bound is.1) sound.bound

  -- a stage that doesn't wait has nothing to be treated for
  pub swept_idle : (m : ℕ) → IsSwept plan m m kept links steps turns → m < length plan → is_waiting ((kept_at kept m).stage) ≡ false → IsSwept plan (m + 1) m kept links steps turns
  swept_idle m h l idle = by_mark (get_or h.marks m false) (slice_get-get_or h.marks m false in_marks)
    where
      in_marks : m < length h.marks
      in_marks = let all = h.sound in omega (arith, all.all_marks, l)

      by_mark : (b : Bool) → slice_get h.marks m ≡ Some b → IsSwept plan (m + 1) m kept links steps turns
      by_mark false e = record { marks = h.marks; ready = h.ready; sound = h.sound; treated = one_more h.marks m h.treated e; served = h.served }
      by_mark true e = record {
        marks = set h.marks m false;
        ready = h.ready;
        sound = fewer_turns (set h.marks m false) h.ready (turns + 1) (omega arith) (idle_sound plan kept h.marks h.ready links steps turns h.sound m (planned_at plan m) (planned_there plan m l) e idle);
        treated = cleared_too h.marks m in_marks h.treated;
        served = h.served;
      }

  -- one that isn't ready has nothing to be served for
  pub swept_unready : (m : ℕ) → IsSwept plan (m + 1) m kept links steps turns → m < length plan → is_ready ((kept_at kept m).stage) ≡ false → IsSwept plan (m + 1) (m + 1) kept links steps turns
  swept_unready m h l e =
      let sound = h.sound in
      let flag = flag_at plan kept h.marks h.ready links steps turns h.sound m (omega (arith, sound.all_kept, l)) in
      record { marks = h.marks; ready = h.ready; sound = h.sound; treated = h.treated; served = one_more h.ready m h.served (flag ∙ ap (λ b. Some b) e) }

  -- one that is ready is the lowest
  pub swept_lowest : (m : ℕ) → IsSwept plan (m + 1) m kept links steps turns → m < length plan → is_ready ((kept_at kept m).stage) ≡ true → position is_ready (settled_view plan kept) ≡ Some m
  swept_lowest m h l e =
      let sound = h.sound in
      let in_kept : m < length kept = omega (arith, sound.all_kept, l) in
      let flag = flag_at plan kept h.marks h.ready links steps turns h.sound m in_kept ∙ ap (λ b. Some b) e in
      let all = all_flags plan kept h.marks h.ready links steps turns h.sound in
      ready_first plan kept h.marks h.ready links steps turns h.sound m
      (position_is (λ b. b) h.ready m false (omega (arith, all, in_kept)) (λ j b. get_is h.ready j false false (h.served j b)) (get_is h.ready m true false flag))
      (λ i b. h.treated i (omega arith))

  -- at the end no stage is marked, and none is ready
  pub swept_marks : IsSwept plan (length plan) (length plan) kept links steps turns → IsSound plan kept (replicate (length plan) false) (replicate (length plan) false) links steps turns
  swept_marks h =
      let sound = h.sound in
      let all = all_flags plan kept h.marks h.ready links steps turns h.sound in
      let P : List Bool → List Bool → Type 0 = λ marks ready. IsSound plan kept marks ready links steps turns in
      subst (λ ready. P (replicate (length plan) false) ready) (none_set h.ready (length plan) (all ∙ sound.all_kept) h.served)
      (subst (λ marks. P marks h.ready) (none_set h.marks (length plan) sound.all_marks h.treated) h.sound)

  pub swept_none : IsSwept plan (length plan) (length plan) kept links steps turns → position is_ready (settled_view plan kept) ≡ None
  swept_none h = ready_none plan kept (replicate (length plan) false) (replicate (length plan) false) links steps turns (swept_marks h) (none_of (length plan)) (none_of (length plan))

  -- what treating a stage leads to stays
  pub swept_same : (m : ℕ) (new : KeptStage) → IsSwept plan m m kept links steps turns → m < length plan → new ≡ treated kept (planned_at plan m) (kept_at kept m) → settled_view plan (set kept m new) ≡ settled_view plan kept
  swept_same m new h l is =
      ap (λ k. settled_view plan (set kept m k)) is
      ∙ turn_same plan kept h.marks h.ready links steps turns h.sound m (planned_at plan m) (planned_there plan m l) (swept_steady m m h)

  -- a stage that settles marks none up to it
  settled_marks : (marks ready : List Bool) (m : ℕ) (after : List KeptStage) (o : Outcome) → IsSound plan kept marks ready links steps turns → (first : List Bool) → AreTreated (m + 1) first →
      AreTreated (m + 1) (marks_after plan after links first m (Settled o))
  settled_marks marks ready m after o sound first h =
      marked_above after (list_at links m) (mark_all after (dependents_of plan m) first) m (all_contained (list_at links m) m (sound.above m))
      (marked_above after (dependents_of plan m) first m (dependents_above 0 plan m sound.sources_lower) h)

  after_marks : (marks ready : List Bool) (m : ℕ) (after : List KeptStage) (stage : Stage) → IsSound plan kept marks ready links steps turns → (first : List Bool) → AreTreated (m + 1) first →
      AreTreated (m + 1) (marks_after plan after links first m stage)
  after_marks marks ready m after (Settled o) sound first h = settled_marks marks ready m after o sound first h
  after_marks marks ready m after Pending sound first h = h
  after_marks marks ready m after (Ready args) sound first h = h
  after_marks marks ready m after Claimed sound first h = h
  after_marks marks ready m after (Linked j) sound first h = h

  counted_few : (stage : Stage) → turns_after turns stage ≤ turns + 1
  counted_few stage = by_waiting (is_waiting stage)
    where
      by_waiting : (b : Bool) → cond b turns (turns + 1) ≤ turns + 1
      by_waiting true = omega arith
      by_waiting false = omega arith

module _ (plan : List PlannedStage) (kept : List KeptStage) (links : List (List ℕ)) (steps turns : ℕ) (m : ℕ) (l : m < length plan) where
  -- a stage is treated, which is a turn where it no longer waits
  pub swept_treated : (new : KeptStage) → new ≡ treated kept (planned_at plan m) (kept_at kept m) → is_waiting ((kept_at kept m).stage) ≡ true → IsSwept plan m m kept links steps turns →
      IsSwept plan (m + 1) m (set kept m new) (links_after links m new.stage) steps (turns_after turns new.stage)
  swept_treated new is waiting h = by_mark (get_or h.marks m false) (slice_get-get_or h.marks m false in_marks)
    where
      in_marks : m < length h.marks
      in_marks = let all = h.sound in omega (arith, all.all_marks, l)

      in_kept : m < length kept
      in_kept = let all = h.sound in omega (arith, all.all_kept, l)

      by_mark : (b : Bool) → slice_get h.marks m ≡ Some b → IsSwept plan (m + 1) m (set kept m new) (links_after links m new.stage) steps (turns_after turns new.stage)
      by_mark true e =
          let after = set kept m new in
          let first = set h.marks m false in
          let turn = turn_sound plan kept h.marks h.ready links steps turns h.sound m (planned_at plan m) (planned_there plan m l) e waiting in
          let sound : IsSound plan after (marks_after plan after links first m new.stage) (set h.ready m (is_ready new.stage)) (links_after links m new.stage) steps (turns + 1) = rw is turn in
          record {
            marks = marks_after plan after links first m new.stage;
            ready = set h.ready m (is_ready new.stage);
            sound = fewer_turns plan after (links_after links m new.stage) steps (turns_after turns new.stage) (marks_after plan after links first m new.stage) (set h.ready m (is_ready new.stage)) (turns + 1)
                (counted_few plan kept links steps turns new.stage) sound;
            treated = after_marks plan kept links steps turns h.marks h.ready m after new.stage h.sound first (cleared_too h.marks m in_marks h.treated);
            served = written_above h.ready m (is_ready new.stage) h.served;
          }
      by_mark false e =
          let all = h.sound in
          let waits = all.waits m (planned_at plan m) (kept_at kept m) (planned_there plan m l) (kept_there kept m in_kept) e in
          let same : new ≡ kept_at kept m = is ∙ waits in
          let P : KeptStage → Type 0 = λ k. IsSwept plan (m + 1) m (set kept m k) (links_after links m k.stage) steps (turns_after turns k.stage) in
          subst P (sym same) (still ((kept_at kept m).stage) refl)
        where
          still : (stage : Stage) → (kept_at kept m).stage ≡ stage → IsSwept plan (m + 1) m (set kept m (kept_at kept m)) (links_after links m ((kept_at kept m).stage)) steps (turns_after turns ((kept_at kept m).stage))
          still stage s =
              let unlinked : links_after links m ((kept_at kept m).stage) ≡ links = waiting_links ((kept_at kept m).stage) waiting in
              let turns_same : turns_after turns ((kept_at kept m).stage) ≡ turns = ap (λ b. cond b turns (turns + 1)) waiting in
              rw (same_put kept m (kept_at kept m) in_kept refl, unlinked, turns_same)
              (record { marks = h.marks; ready = h.ready; sound = h.sound; treated = one_more h.marks m h.treated e; served = h.served })
            where
              waiting_links : (x : Stage) → is_waiting x ≡ true → links_after links m x ≡ links
              waiting_links Pending w = refl
              waiting_links (Linked j) w = refl
              waiting_links (Ready args) w = cc
              waiting_links Claimed w = cc
              waiting_links (Settled o) w = cc

  -- a stage settles in a step of its own
  pub swept_settled : (o : Outcome) → outcome_of ((kept_at kept m).stage) ≡ None → IsSwept plan (m + 1) m kept links steps turns →
      IsSwept plan (m + 1) (m + 1) (set kept m (record { stage = Settled o; step = steps + 1 })) (set links m []) (steps + 1) turns
  swept_settled o e h =
      let new : KeptStage = record { stage = Settled o; step = steps + 1 } in
      let all = h.sound in
      let flags = all_flags plan kept h.marks h.ready links steps turns h.sound in
      record {
        marks = marks_after plan (set kept m new) links h.marks m (Settled o);
        ready = set h.ready m false;
        sound = settle_sound plan kept h.marks h.ready links steps turns h.sound m o l e;
        treated = settled_marks plan kept links steps turns h.marks h.ready m (set kept m new) o h.sound h.marks h.treated;
        served = cleared_too h.ready m (omega (arith, flags, all.all_kept, l)) h.served;
      }

  -- a ready stage is linked to a lower one, as if it had been claimed before
  pub swept_linked : (j : ℕ) → j < m → is_ready ((kept_at kept m).stage) ≡ true → composes (form_at plan m) ≡ true → outcome_of ((kept_at kept j).stage) ≡ None → IsSwept plan (m + 1) m kept links steps turns →
      IsSwept plan (m + 1) (m + 1) (set kept m (record { stage = Linked j; step = steps + 1 })) (set links j (m ∷ list_at links j)) (steps + 1) turns
  swept_linked j lower e composing open_target h =
      let k = kept_at kept m in
      let claimed : KeptStage = record { stage = Claimed; step = k.step } in
      let new : KeptStage = record { stage = Linked j; step = steps + 1 } in
      let all = h.sound in
      let in_kept : m < length kept = omega (arith, all.all_kept, l) in
      let in_ready : m < length h.ready = (let flags = all_flags plan kept h.marks h.ready links steps turns h.sound in omega (arith, flags, in_kept)) in
      let args = ready_args k.stage e in
      let few = StepsUpTo-at steps kept m k all.kept_steps (kept_there kept m in_kept) in
      let first = claim_sound plan kept h.marks h.ready links steps turns h.sound m k.step args.0 l args.1 few in
      let is_claimed : (kept_at (set kept m claimed) m).stage ≡ Claimed = ap (λ (x : KeptStage). x.stage) (kept_put kept m claimed in_kept) in
      let undated_target : dated_in (set kept m claimed) j ≡ None = dated_in-set kept m j claimed (λ s. absurd (omega (arith, lower, s))) ∙ undated kept j (omega (arith, lower, in_kept)) open_target in
      let second = link_sound plan (set kept m claimed) h.marks (set h.ready m false) links steps turns first m j l lower is_claimed composing undated_target in
      record {
        marks = h.marks;
        ready = set (set h.ready m false) m false;
        sound = subst (λ after. IsSound plan after h.marks (set (set h.ready m false) m false) (set links j (m ∷ list_at links j)) (steps + 1) turns) (set-set kept m claimed new) second;
        treated = h.treated;
        served = cleared_too (set h.ready m false) m (omega (arith, length-set h.ready m false, in_ready)) (written_above h.ready m false h.served);
      }

  -- what that leads to
  pub swept_link_same : (j step : ℕ) → j < m → is_ready ((kept_at kept m).stage) ≡ true → outcome_of ((kept_at kept j).stage) ≡ None → IsSwept plan (m + 1) m kept links steps turns →
      settled_view plan (set kept m (record { stage = Linked j; step = step })) ≡ set (settled_view plan kept) m (Linked j)
  swept_link_same j step lower e open_target h =
      let steady = swept_steady plan kept links steps turns (m + 1) m h in
      let args = ready_args ((kept_at kept m).stage) e in
      linking_is_alone plan kept m j step lower (outcome_there plan kept h.marks h.ready links steps turns h.sound m (m + 1) l steady (omega arith) ∙ ap outcome_of args.1)
      (outcome_there plan kept h.marks h.ready links steps turns h.sound j (m + 1) (omega arith) steady (omega arith) ∙ open_target)

-- ---- a stage that is ready, whether it is written as that or not

module _ (plan : List PlannedStage) (kept : List KeptStage) (links : List (List ℕ)) (steps turns : ℕ) (m : ℕ) (args : Args) (l : m < length plan) where
  -- a stage that waits and has its arguments is ready with them
  pub offered_ready : treated kept (planned_at plan m) (kept_at kept m) ≡ record { stage = Ready args; step = (kept_at kept m).step } → is_waiting ((kept_at kept m).stage) ≡ true → IsSwept plan m m kept links steps turns →
      IsSwept plan (m + 1) m (ready_with kept m args) links steps (turns + 1)
  offered_ready is waiting h = swept_treated plan kept links steps turns m l (record { stage = Ready args; step = (kept_at kept m).step }) (sym is) waiting h

  pub offered_same : treated kept (planned_at plan m) (kept_at kept m) ≡ record { stage = Ready args; step = (kept_at kept m).step } → IsSwept plan m m kept links steps turns → settled_view plan (ready_with kept m args) ≡ settled_view plan kept
  offered_same is h = swept_same plan kept links steps turns m (record { stage = Ready args; step = (kept_at kept m).step }) h l (sym is)

  there : IsSwept plan (m + 1) m (ready_with kept m args) links steps turns → m < length kept
  there h =
      let all = swept_within plan (ready_with kept m args) links steps turns (m + 1) m h in
      let same = length-set kept m (record { stage = Ready args; step = (kept_at kept m).step }) in
      omega (arith, all, same, l)

  seen : IsSwept plan (m + 1) m (ready_with kept m args) links steps turns → (kept_at (ready_with kept m args) m).stage ≡ Ready args
  seen h = ap (λ (k : KeptStage). k.stage) (kept_put kept m (record { stage = Ready args; step = (kept_at kept m).step }) (there h))

  pub with_stage : IsSwept plan (m + 1) m (ready_with kept m args) links steps turns → slice_get (settled_view plan (ready_with kept m args)) m ≡ Some (Ready args)
  with_stage h = swept_stage plan (ready_with kept m args) links steps turns (m + 1) m m h l (omega arith) ∙ ap (λ x. Some x) (seen h)

  pub with_lowest : IsSwept plan (m + 1) m (ready_with kept m args) links steps turns → position is_ready (settled_view plan (ready_with kept m args)) ≡ Some m
  with_lowest h = swept_lowest plan (ready_with kept m args) links steps turns m h l (ap is_ready (seen h))

  -- it settles in a step of its own
  pub with_settled : (o : Outcome) → IsSwept plan (m + 1) m (ready_with kept m args) links steps turns →
      IsSwept plan (m + 1) (m + 1) (set kept m (record { stage = Settled o; step = steps + 1 })) (set links m []) (steps + 1) turns
  with_settled o h =
      subst (λ after. IsSwept plan (m + 1) (m + 1) after (set links m []) (steps + 1) turns) (set-set kept m (record { stage = Ready args; step = (kept_at kept m).step }) (record { stage = Settled o; step = steps + 1 }))
      (swept_settled plan (ready_with kept m args) links steps turns m l o (ap outcome_of (seen h)) h)

  pub with_settle_same : (o : Outcome) → settled_view plan (ready_with kept m args) ≡ settled_view plan kept → IsSwept plan (m + 1) m (ready_with kept m args) links steps turns →
      settled_view plan (set kept m (record { stage = Settled o; step = steps + 1 })) ≡ new_states [] plan (set (settled_view plan kept) m (Settled o))
  with_settle_same o same h =
      ap (settled_view plan) (sym (set-set kept m (record { stage = Ready args; step = (kept_at kept m).step }) (record { stage = Settled o; step = steps + 1 })))
      ∙ settle_same plan (ready_with kept m args) h.marks h.ready links steps turns h.sound m (m + 1) o l (swept_steady plan (ready_with kept m args) links steps turns (m + 1) m h) (omega arith) (ap outcome_of (seen h))
      ∙ ap (λ xs. new_states [] plan (set xs m (Settled o))) same

  pub with_taken : (o : Outcome) → IsSwept plan (m + 1) m (ready_with kept m args) links steps turns → StayTaken kept (set kept m (record { stage = Settled o; step = steps + 1 }))
  with_taken o h = StayTaken-set kept m (record { stage = Settled o; step = steps + 1 }) (there h) (λ _. refl)

args_told : (stage : Stage) (args : Args) → Some args ≡ args_of stage → stage ≡ Ready args
args_told (Ready x) args e = cc
args_told Pending args e = cc
args_told Claimed args e = cc
args_told (Linked j) args e = cc
args_told (Settled o) args e = cc

no_args : (stage : Stage) → None ≡ args_of stage → is_ready stage ≡ false
no_args (Ready x) e = cc
no_args Pending e = refl
no_args Claimed e = refl
no_args (Linked j) e = refl
no_args (Settled o) e = refl

-- what a stage that is treated tells of itself
pub told_ready : (plan : List PlannedStage) (m : ℕ) (s : Stages) (x : Option Args) → x ≡ args_of ((kept_at s.kept.items m).stage) → m < length plan → AreSwept plan (m + 1) m s → IfSome x (λ args. IsReadyWith plan m args s)
told_ready plan m s None e l h = tt
told_ready plan m s (Some args) e l h =
    let all = swept_within plan s.kept.items s.links s.steps s.turns (m + 1) m h in
    let is = args_told ((kept_at s.kept.items m).stage) args e in
    let same : ready_with s.kept.items m args ≡ s.kept.items = same_put s.kept.items m (record { stage = Ready args; step = (kept_at s.kept.items m).step }) (omega (arith, all, l)) (ap (λ stage. record { stage = stage; step = (kept_at s.kept.items m).step }) is) in
    record { swept = subst (λ after. IsSwept plan (m + 1) m after s.links s.steps s.turns) (sym same) h; same = ap (settled_view plan) same }

pub told_unready : (plan : List PlannedStage) (m : ℕ) (s : Stages) (x : Option Args) → x ≡ args_of ((kept_at s.kept.items m).stage) → m < length plan → AreSwept plan (m + 1) m s → IfNone x (AreSwept plan (m + 1) (m + 1) s)
told_unready plan m s (Some args) e l h = tt
told_unready plan m s None e l h = swept_unready plan s.kept.items s.links s.steps s.turns m h l (no_args ((kept_at s.kept.items m).stage) e)

-- under other names
pub IsSwept-same : (plan : List PlannedStage) (n m : ℕ) (k1 k2 : List KeptStage) (l1 l2 : List (List ℕ)) (s1 s2 t1 t2 : ℕ) → k1 ≡ k2 → l1 ≡ l2 → s1 ≡ s2 → t1 ≡ t2 → IsSwept plan n m k2 l2 s2 t2 → IsSwept plan n m k1 l1 s1 t1
IsSwept-same plan n m k1 k2 l1 l2 s1 s2 t1 t2 a b c d h = rw (a, b, c, d) h

pub unready_stage : (stage : Stage) → ((args : Args) → stage ≢ Ready args) → is_ready stage ≡ false
unready_stage Pending ne = refl
unready_stage (Ready args) ne = absurd (ne args refl)
unready_stage Claimed ne = refl
unready_stage (Linked j) ne = refl
unready_stage (Settled o) ne = refl

-- stages that are treated by calls are so in a sweep
pub treated_swept : (plan : List PlannedStage) (n : ℕ) (s : Stages) → AreSound plan s → AreTreated n s.marks → AreSwept plan n 0 s
treated_swept plan n s sound treated = record { marks = s.marks; ready = s.ready; sound = sound; treated = treated; served = λ i l. absurd (omega arith) }

-- ---- the stages that were served

AreServed-push : {M : Type 0} (calls : CallsOf M) (plan : List PlannedStage) (stages : List Stage) (claims : List (Option ℕ)) (l m n : M) (which : List ℕ) (before after : List Stage) (opened : List (Option ℕ)) (i : ℕ) →
    AreServed calls plan stages claims l which before opened m → ServesOnce calls plan before m i after n → AreServed calls plan stages claims l (which ++ i ∷ []) after (set opened i None) n
AreServed-push calls plan stages claims l m n [] before after opened i h one =
    let (same, closed, kept) = h in
    (after, n, subst (λ x. ServesOnce calls plan stages x i after n) kept (subst (λ xs. ServesOnce calls plan xs m i after n) same one), (refl, ap (λ xs. set xs i None) closed, refl))
AreServed-push calls plan stages claims l m n (j ∷ which) before after opened i h one =
    let (next, k, first, rest) = h in
    (next, k, first, AreServed-push calls plan next (set claims j None) k m n which before after opened i rest one)

-- a visit of stage i, which was served or not
pub visited : {M : Type 0} (calls : CallsOf M) (plan : List PlannedStage) (stages : List Stage) (claims : List (Option ℕ)) (l m n : M) (count : ℕ) (before after : List Stage) (opened closed : List (Option ℕ)) (i : ℕ) (b : Bool) →
    Serves calls plan stages claims l count before opened m → Visits calls plan b before opened m i after closed n → Serves calls plan stages claims l (cond b (count + 1) count) after closed n
visited calls plan stages claims l m n count before after opened closed i true h v =
    subst (λ xs. Serves calls plan stages claims l (count + 1) after xs n) (sym v.1) (record {
      which = h.which ++ i ∷ [];
      served = AreServed-push calls plan stages claims l m n h.which before after opened i h.served v.0;
      counted = (let k = length-append h.which (i ∷ []) in let c = h.counted in omega (arith, k, c));
    })
visited calls plan stages claims l m n count before after opened closed i false h v =
    let (same, none, kept) = v in
    subst (λ x. Serves calls plan stages claims l count after closed x) (sym kept)
    (subst (λ xs. Serves calls plan stages claims l count after xs m) (sym none)
    (subst (λ xs. Serves calls plan stages claims l count xs opened m) (sym same) h))

pub visits-claims : {M : Type 0} (calls : CallsOf M) (plan : List PlannedStage) (b : Bool) (before after : List Stage) (opened closed : List (Option ℕ)) (m n : M) (i : ℕ) →
    Visits calls plan b before opened m i after closed n → length closed ≡ length opened
visits-claims calls plan true before after opened closed m n i v = ap length v.1 ∙ length-set opened i None
visits-claims calls plan false before after opened closed m n i v = ap length v.1

-- each of them is claimed and finished
serves-runs : {M : Type 0} (calls : CallsOf M) (who : ℕ) (s : State) (m n : M) (which : List ℕ) (after : List Stage) (closed : List (Option ℕ)) → length s.stages ≡ length s.claims →
    AreServed calls s.plan.stages s.stages s.claims m which after closed n → AreRun calls who s m which (record s { stages = after; claims = closed }) n
serves-runs calls who s m n [] after closed same h = let (e, f, kept) = h in (rw (e, f) refl, kept)
serves-runs calls who s m n (i ∷ which) after closed same h =
    let (next, k, one, rest) = h in
    let found = position-Some is_ready s.stages i Pending one.lowest in
    let u : State = record s { stages = next; claims = set s.claims i None } in
    let run = runs_once calls who s m k i s.stages next refl (omega (arith, same, found.0)) one in
    let shape = run-shape calls who s u m k i run in
    (u, k, run, serves-runs calls who u k n which after closed (let a = shape.all_stages in let b = shape.all_claims in omega (arith, a, b, same)) rest)

pub swept_runs : {M : Type 0} (calls : CallsOf M) (who : ℕ) (s : State) (m n : M) (count : ℕ) (after : List Stage) (closed : List (Option ℕ)) → length s.stages ≡ length s.claims →
    Serves calls s.plan.stages s.stages s.claims m count after closed n → Runs calls who s m count (record s { stages = after; claims = closed }) n
swept_runs calls who s m n count after closed same h = all_run calls who s (record s { stages = after; claims = closed }) m n h.which count (serves-runs calls who s m n h.which after closed same h.served) h.counted
