-- What is true of the stages between any two calls stays true.
use Rattle.std.proofs.Common.{◌≡◌, ◌≢◌, ℕ, ◌+◌, ◌<◌, ◌≤◌, ◌∷◌, [], List, All, Bool, true, false, Option, Some, None, Contains, length, suc, zero, arith, ap, sym, ◌∙◌, subst, refl, set, map, inl, inr, length-set}
use Rattle.std.specs.Prelude.{slice_get, option_and_then, unwrap_or, count_by}
use Rattle.std.specs.Option.{option_map}
use Rattle.std.specs.List.{sum_by}
use Rattle.std.proofs.lemmas.Bool.Decides.{eqb_tells}
use Rattle.std.proofs.lemmas.List.{map-set}
use Rattle.std.proofs.lemmas.List.Elements.{All-head, All-tail, All-cons, All-nil, All-set}
use Rattle.cf_outcome.specs.declared.outcome.Outcome.{Outcome}
use Rattle.std.specs.Option.{option_map_or}
use Rattle.std.proofs.lemmas.Option.{slice_get_within}
use Rattle.cf_forms.specs.declared.forms.Due.{Due}
use Rattle.cf_forms.specs.declared.forms.Due.TheVariants.{Waits as IsWaits, Settles, Needs}
use Rattle.cf_forms.specs.Plans.{PlannedStage, dependents_of, form_at, mentions, sources_at}
use Rattle.cf_plan.proofs.DependentLemmas.{dependents_converse}
use Rattle.cf_model.specs.declared.stage.Stage.{Stage}
use Rattle.cf_model.specs.declared.stage.Stage.TheVariants.{Pending, Ready, Claimed, Linked, Settled}
use Rattle.cf_model.specs.States.{outcome_of, is_ready}
use Rattle.cf_model.proofs.StateLemmas.{slice_get-set_other}
use Rattle.cf_core.specs.declared.kept.KeptStage.{KeptStage}
use Rattle.cf_core.specs.Keeping.Treatment.{dated_in, dated_of, treated, treated_by, due_kept, late_due, linked_kept}
use Rattle.cf_core.specs.Keeping.Marks.{WaitsNow}
use Rattle.cf_core.specs.Keeping.Links.{list_at, IsFree}
use Rattle.cf_core.specs.Keeping.Sound.{IsSound, IsListed, AreAbove, AreListed, AreBound, is_waiting, is_bound, kept_at, mark_all, marks_after, links_after, marks_of, steps_of, link_marks}
use Rattle.cf_core.proofs.Keeping.Marking.{mentioned, get-set_same, length-mark_all, count-mark_all, count-set_false}
use Rattle.cf_core.proofs.Keeping.Sums.{sum_by-set_at, marks_from-set, kept_there, kept_is, emptied_sum, StepsUpTo-set, StepsUpTo-le, StepsUpTo-at}
use Rattle.cf_core.proofs.Keeping.Waiting.{never_linked, links_same, NamesDependents, but_marks, but_closed, but_unsettled, but_settled, stays, treated_again, treated-few, sources_below}

-- ---- pieces

some_step : (stage : Stage) → outcome_of stage ≡ None → 1 ≤ steps_of stage
some_step Pending e = omega arith
some_step (Ready args) e = omega arith
some_step Claimed e = omega arith
some_step (Linked j) e = omega arith
some_step (Settled o) e = cc

some_marks : (plan : List PlannedStage) (d : ℕ) (stage : Stage) → outcome_of stage ≡ None → length (dependents_of plan d) ≤ marks_of plan d stage
some_marks plan d Pending e = omega arith
some_marks plan d (Ready args) e = omega arith
some_marks plan d Claimed e = omega arith
some_marks plan d (Linked j) e = omega arith
some_marks plan d (Settled o) e = cc

-- ---- stages in lists were linked

bound_at : (kept : List KeptStage) (d : ℕ) (new : KeptStage) → d < length kept → (is_bound ((kept_at kept d).stage) ≡ true → is_bound new.stage ≡ true) →
    (i : ℕ) → is_bound ((kept_at kept i).stage) ≡ true → is_bound ((kept_at (set kept d new) i).stage) ≡ true
bound_at kept d new l h i b = elim (eqb_tells i d) [
  | inl s ↦ (let same = s.1 in
      let is : kept_at (set kept d new) i ≡ new = kept_is (set kept d new) i new (ap (slice_get (set kept d new)) same ∙ get-set_same kept d new l) in
      ap (λ (k : KeptStage). is_bound k.stage) is ∙ h (ap (λ n. is_bound ((kept_at kept n).stage)) (sym same) ∙ b))
  | inr s ↦ (let is : kept_at (set kept d new) i ≡ kept_at kept i = ap (λ x. unwrap_or x (record { stage = Pending; step = 0 })) (slice_get-set_other kept d i new s.1) in
      ap (λ (k : KeptStage). is_bound k.stage) is ∙ b)
]

pub All-more : {X : Type 0} (P Q : X → Type 0) (xs : List X) → ((x : X) → P x → Q x) → All P xs → All Q xs
All-more P Q [] h a = All-nil Q
All-more P Q (x ∷ xs) h a = All-cons Q x xs (h x (All-head P x xs a)) (All-more P Q xs h (All-tail P x xs a))

pub bound_more : (kept : List KeptStage) (links : List (List ℕ)) (d : ℕ) (new : KeptStage) → d < length kept → (is_bound ((kept_at kept d).stage) ≡ true → is_bound new.stage ≡ true) →
    AreBound kept links → AreBound (set kept d new) links
bound_more kept links d new l h =
    let P : ℕ → Type 0 = λ i. is_bound ((kept_at kept i).stage) ≡ true in
    let Q : ℕ → Type 0 = λ i. is_bound ((kept_at (set kept d new) i).stage) ≡ true in
    All-more (All P) (All Q) links (λ xs a. All-more P Q xs (bound_at kept d new l h) a)

-- a stage that wasn't linked stands in no list
pub bound_within : (kept : List KeptStage) (i : ℕ) → is_bound ((kept_at kept i).stage) ≡ true → i < length kept
bound_within [] i e = cc
bound_within (k ∷ kept) zero e = omega arith
bound_within (k ∷ kept) (suc i) e = let h = bound_within kept i e in omega arith

pub bound_free : (kept : List KeptStage) (links : List (List ℕ)) (d : ℕ) → is_bound ((kept_at kept d).stage) ≡ false → AreBound kept links → IsFree links d
bound_free kept links d e =
    let P : ℕ → Type 0 = λ i. is_bound ((kept_at kept i).stage) ≡ true in
    All-more (All P) (All (λ i. i ≢ d)) links (λ xs a. All-more P (λ i. i ≢ d) xs (λ i b s. (let f = ap (λ n. is_bound ((kept_at kept n).stage)) s in cc)) a)

-- ---- stages in lists are above

list_emptied : (links : List (List ℕ)) (d : ℕ) → list_at (set links d []) d ≡ []
list_emptied [] d = refl
list_emptied (xs ∷ links) zero = refl
list_emptied (xs ∷ links) (suc d) = list_emptied links d

in_none : (i : ℕ) → Contains [] i → ⊥
in_none i c = absurd (omega (arith, c.1))

pub above_emptied : (links : List (List ℕ)) (d : ℕ) → AreAbove links → AreAbove (set links d [])
above_emptied links d h j i c = elim (eqb_tells j d) [
  | inl s ↦ (let none = ap (list_at (set links d [])) s.1 ∙ list_emptied links d in absurd (in_none i (subst (λ xs. Contains xs i) none c)))
  | inr s ↦ h j i (subst (λ xs. Contains xs i) (ap (λ x. unwrap_or x []) (slice_get-set_other links d j [] s.1)) c)
]

front_or_rest : (xs : List ℕ) (d i : ℕ) (P : ℕ → Type 0) → P d → ((n : ℕ) → Contains xs n → P n) → Contains (d ∷ xs) i → P i
front_or_rest xs d i P here rest (zero, l, e) = let same : d ≡ i = e in subst P same here
front_or_rest xs d i P here rest (suc k, l, e) = rest i (k, omega arith, e)

pub above_pushed : (links : List (List ℕ)) (j d : ℕ) → j < length links → j < d → AreAbove links → AreAbove (set links j (d ∷ list_at links j))
above_pushed links j d within lower h t i c = elim (eqb_tells t j) [
  | inl s ↦ (let new = d ∷ list_at links j in
      let same = s.1 in
      let is : list_at (set links j new) t ≡ new = ap (list_at (set links j new)) same ∙ ap (λ x. unwrap_or x []) (get-set_same links j new within) in
      front_or_rest (list_at links j) d i (λ n. t < n) (omega arith) (λ n b. (let l = h j n b in omega (arith, l))) (subst (λ xs. Contains xs i) is c))
  | inr s ↦ h t i (subst (λ xs. Contains xs i) (ap (λ x. unwrap_or x []) (slice_get-set_other links j t (d ∷ list_at links j) s.1)) c)
]

-- ---- links once a stage is written

pub listed_settled : (kept : List KeptStage) (links : List (List ℕ)) (d step : ℕ) (o : Outcome) → d < length kept → AreListed kept links →
    AreListed (set kept d (record { stage = Settled o; step = step })) (set links d [])
listed_settled kept links d step o l h i j k there linked = elim (eqb_tells i d) [
  | inl s ↦ (let same = s.1 in
      let is : slice_get (set kept d (record { stage = Settled o; step = step })) i ≡ Some (record { stage = Settled o; step = step }) = ap (slice_get (set kept d (record { stage = Settled o; step = step }))) same ∙ get-set_same kept d (record { stage = Settled o; step = step }) l in
      absurd (not_linked k (record { stage = Settled o; step = step }) o (sym there ∙ is) refl linked))
  | inr s ↦ (let b = h i j k (sym (slice_get-set_other kept d i (record { stage = Settled o; step = step }) s.1) ∙ there) linked in
      record { lower = b.lower; listed = still b })
]
  where
    not_linked : (k n : KeptStage) (o : Outcome) → Some k ≡ Some n → n.stage ≡ Settled o → k.stage ≡ Linked j → ⊥
    not_linked k n o e f g = let same : k ≡ n = cc in let t = ap (λ (x : KeptStage). x.stage) same in cc

    still : IsListed kept links i j → dated_in (set kept d (record { stage = Settled o; step = step })) j ≡ None → Contains (list_at (set links d []) j) i
    still b none = elim (eqb_tells j d) [
      | inl t ↦ (let same = t.1 in
          let dated : dated_in (set kept d (record { stage = Settled o; step = step })) j ≡ Some (o, step) =
          ap (dated_in (set kept d (record { stage = Settled o; step = step }))) same ∙ ap (option_and_then dated_of) (get-set_same kept d (record { stage = Settled o; step = step }) l) in cc)
      | inr t ↦ (let before : dated_in kept j ≡ None = ap (option_and_then dated_of) (sym (slice_get-set_other kept d j (record { stage = Settled o; step = step }) t.1)) ∙ none in
          let same : list_at (set links d []) j ≡ list_at links j = ap (λ x. unwrap_or x []) (slice_get-set_other links d j [] t.1) in
          subst (λ xs. Contains xs i) (sym same) (b.listed before))
    ]

-- the stage is settled neither before nor then, and no list is shorter
pub listed_unsettled : (kept : List KeptStage) (links more : List (List ℕ)) (d : ℕ) (new old : KeptStage) → slice_get kept d ≡ Some old → outcome_of old.stage ≡ None → outcome_of new.stage ≡ None → AreListed kept links →
    ((i j : ℕ) → Contains (list_at links j) i → Contains (list_at more j) i) → ((j : ℕ) → new.stage ≡ Linked j → IsListed (set kept d new) more d j) → AreListed (set kept d new) more
listed_unsettled kept links more d new old at e f h longer here i j k there linked = elim (eqb_tells i d) [
  | inl s ↦ (let same = s.1 in
      let is : Some k ≡ Some new = sym there ∙ ap (slice_get (set kept d new)) same ∙ get-set_same kept d new (slice_get_within kept d old at) in
      let same_k : k ≡ new = cc in
      subst (λ n. IsListed (set kept d new) more n j) (sym same) (here j (ap (λ (x : KeptStage). x.stage) (sym same_k) ∙ linked)))
  | inr s ↦ (let b = h i j k (sym (slice_get-set_other kept d i new s.1) ∙ there) linked in
      record { lower = b.lower; listed = λ none. longer i j (b.listed (undated none)) })
]
  where
    undated : dated_in (set kept d new) j ≡ None → dated_in kept j ≡ None
    undated none = elim (eqb_tells j d) [
      | inl t ↦ ap (dated_in kept) t.1 ∙ ap (option_and_then dated_of) at ∙ ap (option_map (λ o. (o, old.step))) e
      | inr t ↦ ap (option_and_then dated_of) (sym (slice_get-set_other kept d j new t.1)) ∙ none
    ]

-- ---- a stage settles

pub settled_sound : (plan : List PlannedStage) (kept : List KeptStage) (marks ready : List Bool) (links : List (List ℕ)) (steps turns : ℕ) → NamesDependents plan → IsSound plan kept marks ready links steps turns →
    (d : ℕ) (o : Outcome) (step steps2 turns2 : ℕ) (first : List Bool) → d < length plan → outcome_of ((kept_at kept d).stage) ≡ None → step ≤ steps2 → steps ≤ steps2 → steps2 ≤ steps + 1 →
    length first ≡ length marks → ((i : ℕ) → i ≢ d → slice_get first i ≡ slice_get marks i) → turns2 + count_by (λ b. b) first ≤ turns + count_by (λ b. b) marks →
    IsSound plan (set kept d (record { stage = Settled o; step = step })) (mark_all (set kept d (record { stage = Settled o; step = step })) (list_at links d) (mark_all (set kept d (record { stage = Settled o; step = step })) (dependents_of plan d) first))
    (set ready d false) (set links d []) steps2 turns2
settled_sound plan kept marks ready links steps turns named h d o step steps2 turns2 first l unsettled step_few more next count others fewer =
    let new : KeptStage = record { stage = Settled o; step = step } in
    let old = kept_at kept d in
    let in_kept : d < length kept = omega (arith, h.all_kept) in
    let there = kept_there kept d in_kept in
    let marked = mark_all (set kept d new) (dependents_of plan d) first in
    let settles = some_step old.stage unsettled in
    let frees = some_marks plan d old.stage unsettled in
    let steps_sum = sum_by-set_at (λ (k : KeptStage). steps_of k.stage) kept d old new there in
    let marks_sum = marks_from-set plan 0 kept d old new there in
    let zero_plus : 0 + d ≡ d = omega arith in
    let marks_sum2 = rw zero_plus at marks_sum in
    let links_sum = emptied_sum links d in
    let count_first = count-mark_all (set kept d new) (dependents_of plan d) first in
    let count_second = count-mark_all (set kept d new) (list_at links d) marked in
    record {
      few_stages = h.few_stages;
      few_edges = h.few_edges;
      sources_lower = h.sources_lower;
      all_kept = length-set kept d new ∙ h.all_kept;
      all_marks = length-mark_all (set kept d new) (list_at links d) marked ∙ length-mark_all (set kept d new) (dependents_of plan d) first ∙ count ∙ h.all_marks;
      all_links = λ e c. (let same = length-set links d [] in let enough = h.all_links e c in omega (arith, same, enough));
      ready_are = ap (λ xs. set xs d false) h.ready_are ∙ sym (map-set (λ (k : KeptStage). is_ready k.stage) kept d new);
      waits = but_closed plan (set kept d new) (mark_all (set kept d new) (list_at links d) marked) d
          (but_settled plan kept links first d new old there unsettled (count ∙ h.all_marks) named h.listed (but_marks plan kept marks first d others h.waits))
          (λ p k ep ek em. (let is : Some k ≡ Some new = sym ek ∙ get-set_same kept d new in_kept in let same : k ≡ new = cc in rw same refl));
      listed = listed_settled kept links d step o in_kept h.listed;
      bound = All-set (λ xs. All (λ i. is_bound ((kept_at (set kept d new) i).stage) ≡ true) xs) links d [] (All-nil (λ i. is_bound ((kept_at (set kept d new) i).stage) ≡ true)) (bound_more kept links d new in_kept (λ _. refl) h.bound);
      above = above_emptied links d h.above;
      kept_steps = StepsUpTo-set steps2 kept d new (StepsUpTo-le steps steps2 kept more h.kept_steps) step_few;
      steps_left = (let left = h.steps_left in omega (arith, steps_sum, settles, left));
      turns_left = (let left = h.turns_left in omega (arith, marks_sum2, links_sum, count_first, count_second, frees, left));
    }

-- ---- a stage is written that is settled neither before nor then

pub unsettled_sound : (plan : List PlannedStage) (kept : List KeptStage) (marks ready : List Bool) (links : List (List ℕ)) (steps turns : ℕ) → IsSound plan kept marks ready links steps turns →
    (d : ℕ) (new : KeptStage) (steps2 turns2 : ℕ) (first : List Bool) (more : List (List ℕ)) → d < length plan → outcome_of ((kept_at kept d).stage) ≡ None → outcome_of new.stage ≡ None →
    steps ≤ steps2 → new.step ≤ steps2 → steps2 + steps_of new.stage ≤ steps + steps_of ((kept_at kept d).stage) →
    length first ≡ length marks → ((i : ℕ) → i ≢ d → slice_get first i ≡ slice_get marks i) →
    ((p : PlannedStage) → slice_get plan d ≡ Some p → slice_get first d ≡ Some false → WaitsNow (set kept d new) p new) →
    length more ≡ length links → AreListed (set kept d new) more → AreBound (set kept d new) more → AreAbove more →
    turns2 + count_by (λ b. b) first + marks_of plan d new.stage + sum_by length more ≤ turns + count_by (λ b. b) marks + marks_of plan d ((kept_at kept d).stage) + sum_by length links →
    IsSound plan (set kept d new) first (set ready d (is_ready new.stage)) more steps2 turns2
unsettled_sound plan kept marks ready links steps turns h d new steps2 turns2 first more l before then later step_few fewer count others waits same_links listed bound above budget =
    let old = kept_at kept d in
    let in_kept : d < length kept = omega (arith, h.all_kept) in
    let there = kept_there kept d in_kept in
    let steps_sum = sum_by-set_at (λ (k : KeptStage). steps_of k.stage) kept d old new there in
    let marks_sum = marks_from-set plan 0 kept d old new there in
    let zero_plus : 0 + d ≡ d = omega arith in
    let marks_sum2 = rw zero_plus at marks_sum in
    record {
      few_stages = h.few_stages;
      few_edges = h.few_edges;
      sources_lower = h.sources_lower;
      all_kept = length-set kept d new ∙ h.all_kept;
      all_marks = count ∙ h.all_marks;
      all_links = λ e c. (let enough = h.all_links e c in omega (arith, same_links, enough));
      ready_are = ap (λ xs. set xs d (is_ready new.stage)) h.ready_are ∙ sym (map-set (λ (k : KeptStage). is_ready k.stage) kept d new);
      waits = but_closed plan (set kept d new) first d (but_unsettled plan kept first d old new there before then (but_marks plan kept marks first d others h.waits))
          (λ p k ep ek em. (let is : Some k ≡ Some new = sym ek ∙ get-set_same kept d new in_kept in let same : k ≡ new = cc in subst (WaitsNow (set kept d new) p) (sym same) (waits p ep em)));
      listed = listed;
      bound = bound;
      above = above;
      kept_steps = StepsUpTo-set steps2 kept d new (StepsUpTo-le steps steps2 kept later h.kept_steps) step_few;
      steps_left = (let left = h.steps_left in omega (arith, steps_sum, fewer, left));
      turns_left = (let left = h.turns_left in omega (arith, marks_sum2, budget, left));
    }

-- ---- dependents name their source

pub names_dependents : (plan : List PlannedStage) → NamesDependents plan
names_dependents plan i d p e c =
    let sources : sources_at plan i ≡ p.sources = ap (λ x. option_map_or (λ (s : PlannedStage). s.sources) x []) e in
    let same = dependents_converse plan d i ∙ ap (mentions d) sources in
    let some = mentioned p.sources d c in
    omega (arith, same, some)

-- ---- a marked stage is treated

-- the lists stay, and each stage that is linked now was linked before
pub kept_lists : (kept : List KeptStage) (links : List (List ℕ)) (d : ℕ) (new old : KeptStage) → slice_get kept d ≡ Some old → outcome_of old.stage ≡ None → outcome_of new.stage ≡ None → AreListed kept links →
    ((j : ℕ) → new.stage ≡ Linked j → old.stage ≡ Linked j) → AreListed (set kept d new) links
kept_lists kept links d new old at e f h back =
    listed_unsettled kept links links d new old at e f h (λ i j c. c) (λ j l. (let b = h d j old at (back j l) in
    record { lower = b.lower; listed = λ none. b.listed (undated j none) }))
  where
    undated : (j : ℕ) → dated_in (set kept d new) j ≡ None → dated_in kept j ≡ None
    undated j none = elim (eqb_tells j d) [
      | inl t ↦ ap (dated_in kept) t.1 ∙ ap (option_and_then dated_of) at ∙ ap (option_map (λ o. (o, old.step))) e
      | inr t ↦ ap (option_and_then dated_of) (sym (slice_get-set_other kept d j new t.1)) ∙ none
    ]

-- what a treated stage can be
waiting_unsettled : (stage : Stage) → is_waiting stage ≡ true → outcome_of stage ≡ None
waiting_unsettled Pending e = refl
waiting_unsettled (Linked j) e = refl
waiting_unsettled (Ready args) e = cc
waiting_unsettled Claimed e = cc
waiting_unsettled (Settled o) e = cc

pub due_steps : (due : Due) (at step : ℕ) → steps_of ((due_kept due at step).stage) ≤ 2
due_steps IsWaits at step = omega arith
due_steps (Settles o) at step = omega arith
due_steps (Needs args) at step = omega arith

link_steps : (j step : ℕ) (x : Option (Outcome × ℕ)) → steps_of ((linked_kept j step x).stage) ≤ 1
link_steps j step None = omega arith
link_steps j step (Some x) = omega arith

treated_steps : (kept : List KeptStage) (p : PlannedStage) (stage : Stage) (step : ℕ) → is_waiting stage ≡ true → steps_of ((treated_by kept p stage step).stage) ≤ steps_of stage
treated_steps kept p Pending step e = let due = late_due p.form (map (dated_in kept) p.sources) in due_steps due.0 due.1 step
treated_steps kept p (Linked j) step e = link_steps j step (dated_in kept j)
treated_steps kept p (Ready args) step e = cc
treated_steps kept p Claimed step e = cc
treated_steps kept p (Settled o) step e = cc

pub due_marks : (plan : List PlannedStage) (d : ℕ) (due : Due) (at step : ℕ) → marks_of plan d ((due_kept due at step).stage) ≤ length (dependents_of plan d) + link_marks (form_at plan d)
due_marks plan d IsWaits at step = omega arith
due_marks plan d (Settles o) at step = omega arith
due_marks plan d (Needs args) at step = omega arith

linked_marks : (plan : List PlannedStage) (d j step : ℕ) (x : Option (Outcome × ℕ)) → marks_of plan d ((linked_kept j step x).stage) ≤ length (dependents_of plan d)
linked_marks plan d j step None = omega arith
linked_marks plan d j step (Some x) = omega arith

treated_marks : (plan : List PlannedStage) (d : ℕ) (kept : List KeptStage) (p : PlannedStage) (stage : Stage) (step : ℕ) → is_waiting stage ≡ true → marks_of plan d ((treated_by kept p stage step).stage) ≤ marks_of plan d stage
treated_marks plan d kept p Pending step e = let due = late_due p.form (map (dated_in kept) p.sources) in due_marks plan d due.0 due.1 step
treated_marks plan d kept p (Linked j) step e = linked_marks plan d j step (dated_in kept j)
treated_marks plan d kept p (Ready args) step e = cc
treated_marks plan d kept p Claimed step e = cc
treated_marks plan d kept p (Settled o) step e = cc

-- a stage that is linked once it was treated was linked before
treated_linked : (kept : List KeptStage) (p : PlannedStage) (stage : Stage) (step j : ℕ) → (treated_by kept p stage step).stage ≡ Linked j → stage ≡ Linked j
treated_linked kept p Pending step j e = let due = late_due p.form (map (dated_in kept) p.sources) in absurd (never_linked due.0 due.1 step j e)
treated_linked kept p (Linked i) step j e = ap (λ n. Linked n) (sym (links_same i step (dated_in kept i) j e))
treated_linked kept p (Ready args) step j e = cc
treated_linked kept p Claimed step j e = cc
treated_linked kept p (Settled o) step j e = cc

treated_bound : (kept : List KeptStage) (p : PlannedStage) (stage : Stage) (step : ℕ) → is_bound stage ≡ true → is_bound ((treated_by kept p stage step).stage) ≡ true
treated_bound kept p Pending step e = cc
treated_bound kept p (Linked j) step e = by_target (dated_in kept j)
  where
    by_target : (x : Option (Outcome × ℕ)) → is_bound ((linked_kept j step x).stage) ≡ true
    by_target None = refl
    by_target (Some x) = refl
treated_bound kept p (Ready args) step e = cc
treated_bound kept p Claimed step e = cc
treated_bound kept p (Settled o) step e = refl

module _ (plan : List PlannedStage) (kept : List KeptStage) (marks ready : List Bool) (links : List (List ℕ)) (steps turns : ℕ) (h : IsSound plan kept marks ready links steps turns)
    (m : ℕ) (p : PlannedStage) (planned : slice_get plan m ≡ Some p) (marked : slice_get marks m ≡ Some true) where
  fewer : (turns + 1) + count_by (λ b. b) (set marks m false) ≡ turns + count_by (λ b. b) marks
  fewer = let e = count-set_false marks m marked in omega (arith, e)

  -- one that no longer waits
  pub idle_sound : is_waiting ((kept_at kept m).stage) ≡ false → IsSound plan kept (set marks m false) ready links steps (turns + 1)
  idle_sound idle = record {
    few_stages = h.few_stages;
    few_edges = h.few_edges;
    sources_lower = h.sources_lower;
    all_kept = h.all_kept;
    all_marks = length-set marks m false ∙ h.all_marks;
    all_links = h.all_links;
    ready_are = h.ready_are;
    waits = but_closed plan kept (set marks m false) m (but_marks plan kept marks (set marks m false) m (λ i ne. slice_get-set_other marks m i false ne) h.waits)
        (λ q k eq ek em. (let is = kept_is kept m k ek in stays kept q k.stage k.step (ap (λ (x : KeptStage). is_waiting x.stage) (sym is) ∙ idle)));
    listed = h.listed;
    bound = h.bound;
    above = h.above;
    kept_steps = h.kept_steps;
    steps_left = h.steps_left;
    turns_left = (let left = h.turns_left in let e = fewer in omega (arith, left, e));
  }

  module _ (waiting : is_waiting ((kept_at kept m).stage) ≡ true) where
    within : m < length plan
    within = slice_get_within plan m p planned

    there : slice_get kept m ≡ Some (kept_at kept m)
    there = kept_there kept m (let l = within in omega (arith, h.all_kept, l))

    lower : All (λ j. j < m) p.sources
    lower = sources_below plan m p h.sources_lower planned

    linked_lower : (j : ℕ) → (kept_at kept m).stage ≡ Linked j → j < m
    linked_lower j e = let b = h.listed m j (kept_at kept m) there e in b.lower

    few : (treated kept p (kept_at kept m)).step ≤ steps
    few = treated-few steps kept p ((kept_at kept m).stage) ((kept_at kept m).step) h.kept_steps (StepsUpTo-at steps kept m (kept_at kept m) h.kept_steps there)

    unsettled_turn : (x : Stage) (step : ℕ) → treated kept p (kept_at kept m) ≡ record { stage = x; step = step } → outcome_of x ≡ None →
        IsSound plan (set kept m (record { stage = x; step = step })) (set marks m false) (set ready m (is_ready x)) links steps (turns + 1)
    unfolding within there lower linked_lower few fewer
    unsettled_turn x step e none =
        let k = kept_at kept m in
        let new : KeptStage = record { stage = x; step = step } in
        let s : step ≤ steps = subst (λ (k : KeptStage). k.step ≤ steps) e few in
        let before = waiting_unsettled k.stage waiting in
        let f = fewer in
        let P : KeptStage → Type 0 = λ n. steps_of n.stage ≤ steps_of k.stage in
        let Q : KeptStage → Type 0 = λ n. marks_of plan m n.stage ≤ marks_of plan m k.stage in
        let R : KeptStage → Type 0 = λ n. treated (set kept m n) p n ≡ n in
        let S : KeptStage → Type 0 = λ n. (j : ℕ) → n.stage ≡ Linked j → k.stage ≡ Linked j in
        let B : KeptStage → Type 0 = λ n. is_bound k.stage ≡ true → is_bound n.stage ≡ true in
        let fewer_steps = subst P e (treated_steps kept p k.stage k.step waiting) in
        let fewer_marks = subst Q e (treated_marks plan m kept p k.stage k.step waiting) in
        let again : treated (set kept m new) p new ≡ new = subst R e (treated_again kept m p k.stage k.step lower linked_lower) in
        let linked = subst S e (λ j l. treated_linked kept p k.stage k.step j l) in
        let bound = subst B e (treated_bound kept p k.stage k.step) in
        unsettled_sound plan kept marks ready links steps turns h m new steps (turns + 1) (set marks m false) links within before none (omega arith) s (omega (arith, fewer_steps))
        (length-set marks m false) (λ i ne. slice_get-set_other marks m i false ne)
        (λ q eq em. (let same : q ≡ p = (let t : Some q ≡ Some p = sym eq ∙ planned in cc) in rw same again))
        refl (kept_lists kept links m new k there before none h.listed linked) (bound_more kept links m new (slice_get_within kept m k there) bound h.bound) h.above
        (omega (arith, fewer_marks, f))

    by_stage : (x : Stage) (step : ℕ) → treated kept p (kept_at kept m) ≡ record { stage = x; step = step } →
        IsSound plan (set kept m (record { stage = x; step = step })) (marks_after plan (set kept m (record { stage = x; step = step })) links (set marks m false) m x) (set ready m (is_ready x)) (links_after links m x) steps (turns + 1)
    unfolding within there lower linked_lower few fewer
    by_stage (Settled o) step e =
        let s : step ≤ steps = subst (λ (k : KeptStage). k.step ≤ steps) e few in
        let f = fewer in
        settled_sound plan kept marks ready links steps turns (names_dependents plan) h m o step steps (turns + 1) (set marks m false) within (waiting_unsettled ((kept_at kept m).stage) waiting) s (omega arith) (omega arith)
        (length-set marks m false) (λ i ne. slice_get-set_other marks m i false ne) (omega (arith, f))
    by_stage Pending step e = unsettled_turn Pending step e refl
    by_stage (Ready args) step e = unsettled_turn (Ready args) step e refl
    by_stage Claimed step e = unsettled_turn Claimed step e refl
    by_stage (Linked j) step e = unsettled_turn (Linked j) step e refl

    -- one that waits
    pub turn_sound : IsSound plan (set kept m (treated kept p (kept_at kept m))) (marks_after plan (set kept m (treated kept p (kept_at kept m))) links (set marks m false) m ((treated kept p (kept_at kept m)).stage))
        (set ready m (is_ready ((treated kept p (kept_at kept m)).stage))) (links_after links m ((treated kept p (kept_at kept m)).stage)) steps (turns + 1)
    turn_sound = by_stage ((treated kept p (kept_at kept m)).stage) ((treated kept p (kept_at kept m)).step) refl
