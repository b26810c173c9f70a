-- Each kind of move of a call: it keeps what is true between calls, and leads to what the sequential graph's move does.
use Rattle.std.proofs.Common.{◌≡◌, ◌≢◌, ℕ, ◌+◌, ◌<◌, ◌≤◌, ◌∷◌, [], List, All, Bool, true, false, cond, Some, None, Contains, length, suc, zero, arith, ap, sym, ◌∙◌, subst, refl, set, map, inl, inr, length-set}
use Rattle.std.specs.Prelude.{slice_get, option_and_then, unwrap_or}
use Rattle.std.specs.Option.{option_map}
use Rattle.std.proofs.lemmas.Bool.Decides.{eqb_tells}
use Rattle.std.proofs.lemmas.List.Elements.{All-head, All-tail, All-cons, All-nil, All-set}
use Rattle.std.proofs.lemmas.Option.{slice_get_within}
use Rattle.cf_outcome.specs.declared.outcome.Outcome.{Outcome}
use Rattle.cf_forms.specs.declared.forms.Args.{Args}
use Rattle.cf_forms.specs.Forms.{composes}
use Rattle.cf_forms.specs.Plans.{PlannedStage, form_at, dependents_of}
use Rattle.cf_model.specs.declared.stage.Stage.TheVariants.{Ready, Claimed, Linked, Settled}
use Rattle.cf_model.specs.States.{outcome_of, outcome_in, new_states}
use Rattle.cf_model.proofs.StateLemmas.{slice_get-set_other}
use Rattle.cf_core.specs.declared.kept.KeptStage.{KeptStage}
use Rattle.cf_core.specs.Keeping.Treatment.{IsSteady, all_treated, dated_in, linked_kept, stages_of, treated}
use Rattle.cf_core.specs.Keeping.Links.{list_at}
use Rattle.cf_core.specs.Keeping.Sound.{AreBound, IsSound, is_bound, kept_at, mark_all, marks_of, link_marks, settled_view, steps_of}
use Rattle.cf_core.proofs.Keeping.Marking.{get-set_same}
use Rattle.cf_core.proofs.Keeping.Sums.{sum_by-set_at, list_in_sum, kept_there, kept_is, list_there}
use Rattle.cf_core.proofs.Keeping.Waiting.{steady_below, steady_at, treated-take, sources_below}
use Rattle.cf_core.proofs.Keeping.Turns.{turns_change_nothing}
use Rattle.cf_core.proofs.Keeping.Settling.{settling_is_after}
use Rattle.cf_core.proofs.Keeping.Writes.{claiming_is_alone, linking_is_alone}
use Rattle.cf_core.proofs.Keeping.Marks.{dated_in-set}
use Rattle.cf_core.proofs.Keeping.Soundness.{All-more, above_pushed, settled_sound, unsettled_sound, bound_within, bound_more, bound_free, kept_lists, listed_unsettled, names_dependents}

pub get-map : {X Y : Type 0} (f : X → Y) (xs : List X) (i : ℕ) → slice_get (map f xs) i ≡ option_map f (slice_get xs i)
get-map f [] i = refl
get-map f (x ∷ xs) zero = refl
get-map f (x ∷ xs) (suc i) = get-map f xs i

-- what is true of each list is true of one
list_all_at : (P : List ℕ → Type 0) (links : List (List ℕ)) (j : ℕ) → j < length links → All P links → P (list_at links j)
list_all_at P [] j l a = absurd (omega arith)
list_all_at P (x ∷ links) zero l a = All-head P x links a
list_all_at P (x ∷ links) (suc j) l a = list_all_at P links j (omega arith) (All-tail P x links a)

module _ (plan : List PlannedStage) (kept : List KeptStage) (marks ready : List Bool) (links : List (List ℕ)) (steps turns : ℕ) (h : IsSound plan kept marks ready links steps turns) where
  pub is_steady : (m : ℕ) → ((i : ℕ) → i < m → slice_get marks i ≡ Some false) → IsSteady [] plan kept m
  is_steady m none = steady_below plan kept marks links m h.sources_lower h.waits h.listed none

  -- a stage below all marks is as it is kept
  pub settled_view_at : (d m : ℕ) → d < length plan → IsSteady [] plan kept m → d < m → slice_get (settled_view plan kept) d ≡ Some ((kept_at kept d).stage)
  settled_view_at d m l steady below =
      get-map (λ (k : KeptStage). k.stage) (all_treated [] plan kept) d
      ∙ ap (option_map (λ (k : KeptStage). k.stage)) (steady_at plan kept m d steady below ∙ kept_there kept d (omega (arith, h.all_kept)))

  pub outcome_there : (d m : ℕ) → d < length plan → IsSteady [] plan kept m → d < m → outcome_in (settled_view plan kept) d ≡ outcome_of ((kept_at kept d).stage)
  outcome_there d m l steady below = ap (option_and_then outcome_of) (settled_view_at d m l steady below)

  -- ---- a turn

  pub turn_same : (m : ℕ) (p : PlannedStage) → slice_get plan m ≡ Some p → IsSteady [] plan kept m → settled_view plan (set kept m (treated kept p (kept_at kept m))) ≡ settled_view plan kept
  turn_same m p planned steady =
      let k = kept_at kept m in
      let l = slice_get_within plan m p planned in
      let there = kept_there kept m (omega (arith, h.all_kept, l)) in
      let same = treated-take kept m p k.stage k.step (sources_below plan m p h.sources_lower planned) (λ j e. (let b = h.listed m j k there e in b.lower)) in
      ap stages_of (ap (λ new. all_treated [] plan (set kept m new)) (sym same) ∙ turns_change_nothing plan kept m p k planned there steady)

  -- ---- a stage is settled by a call

  pub settle_sound : (d : ℕ) (o : Outcome) → d < length plan → outcome_of ((kept_at kept d).stage) ≡ None →
      IsSound plan (set kept d (record { stage = Settled o; step = steps + 1 }))
      (mark_all (set kept d (record { stage = Settled o; step = steps + 1 })) (list_at links d) (mark_all (set kept d (record { stage = Settled o; step = steps + 1 })) (dependents_of plan d) marks))
      (set ready d false) (set links d []) (steps + 1) turns
  settle_sound d o l e = settled_sound plan kept marks ready links steps turns (names_dependents plan) h d o (steps + 1) (steps + 1) turns marks l e (omega arith) (omega arith) (omega arith) refl (λ i ne. refl) (omega arith)

  pub settle_same : (d m : ℕ) (o : Outcome) → d < length plan → IsSteady [] plan kept m → d < m → outcome_of ((kept_at kept d).stage) ≡ None →
      settled_view plan (set kept d (record { stage = Settled o; step = steps + 1 })) ≡ new_states [] plan (set (settled_view plan kept) d (Settled o))
  settle_same d m o l steady below e = settling_is_after plan kept d steps o h.kept_steps (outcome_there d m l steady below ∙ e)

  -- ---- a ready stage is claimed

  pub claim_sound : (d step : ℕ) (args : Args) → d < length plan → (kept_at kept d).stage ≡ Ready args → step ≤ steps →
      IsSound plan (set kept d (record { stage = Claimed; step = step })) marks (set ready d false) links steps turns
  claim_sound d step args l e few =
      let new : KeptStage = record { stage = Claimed; step = step } in
      let k = kept_at kept d in
      let there = kept_there kept d (omega (arith, h.all_kept)) in
      let before : outcome_of k.stage ≡ None = ap outcome_of e in
      let two = ap steps_of e in
      let budget = ap (marks_of plan d) e in
      unsettled_sound plan kept marks ready links steps turns h d new steps turns marks links l before refl (omega arith) few (omega (arith, two)) refl (λ i ne. refl)
      (λ p ep em. refl) refl (kept_lists kept links d new k there before refl h.listed (λ j s. cc))
      (bound_more kept links d new (slice_get_within kept d k there) (λ b. (let f = ap is_bound e in cc)) h.bound) h.above
      (omega (arith, budget))

  pub claim_same : (d step m : ℕ) (args : Args) → d < length plan → IsSteady [] plan kept m → d < m → (kept_at kept d).stage ≡ Ready args →
      settled_view plan (set kept d (record { stage = Claimed; step = step })) ≡ set (settled_view plan kept) d Claimed
  claim_same d step m args l steady below e = claiming_is_alone plan kept d step (outcome_there d m l steady below ∙ ap outcome_of e)

  -- ---- the stages that stand in lists are there

  pub links_within : (d : ℕ) → All (λ i. i < length plan) (list_at links d)
  links_within d = All-more (λ i. is_bound ((kept_at kept i).stage) ≡ true) (λ i. i < length plan) (list_at links d) (λ i e. (let l = bound_within kept i e in omega (arith, l, h.all_kept)))
      (list_all links d h.bound)
    where
      list_all : (links : List (List ℕ)) (d : ℕ) → AreBound kept links → All (λ i. is_bound ((kept_at kept i).stage) ≡ true) (list_at links d)
      list_all [] d a = All-nil (λ i. is_bound ((kept_at kept i).stage) ≡ true)
      list_all (xs ∷ links) zero a = All-head (All (λ i. is_bound ((kept_at kept i).stage) ≡ true)) xs links a
      list_all (xs ∷ links) (suc d) a = list_all links d (All-tail (All (λ i. is_bound ((kept_at kept i).stage) ≡ true)) xs links a)

  -- ---- a claimed stage is linked to a lower one

  pub link_free : (d : ℕ) → (kept_at kept d).stage ≡ Claimed → All (λ stages. All (λ i. i ≢ d) stages) links
  link_free d e = bound_free kept links d (ap is_bound e) h.bound

  pub link_room : (j : ℕ) → length (list_at links j) < 65535
  link_room j =
      let some = list_in_sum links j in
      let left = h.turns_left in
      let few = h.few_stages in
      let edges = h.few_edges in
      omega (arith, some, left, few, edges)

  pub link_sound : (d j : ℕ) → d < length plan → j < d → (kept_at kept d).stage ≡ Claimed → composes (form_at plan d) ≡ true → dated_in kept j ≡ None →
      IsSound plan (set kept d (record { stage = Linked j; step = steps + 1 })) marks (set ready d false) (set links j (d ∷ list_at links j)) (steps + 1) turns
  link_sound d j l lower e composing open_target =
      let new : KeptStage = record { stage = Linked j; step = steps + 1 } in
      let k = kept_at kept d in
      let there = kept_there kept d (omega (arith, h.all_kept)) in
      let before : outcome_of k.stage ≡ None = ap outcome_of e in
      let enough = h.all_links d composing in
      let in_links : j < length links = omega (arith, enough) in
      let two = ap steps_of e in
      let budget = ap (marks_of plan d) e in
      let one : link_marks (form_at plan d) ≡ 1 = ap (λ b. cond b 1 0) composing in
      let longer = sum_by-set_at {X = List ℕ} length links j (list_at links j) (d ∷ list_at links j) (list_there links j in_links) in
      let P : ℕ → Type 0 = λ i. is_bound ((kept_at (set kept d new) i).stage) ≡ true in
      let here : P d = ap (λ (x : KeptStage). is_bound x.stage) (kept_is (set kept d new) d new (get-set_same kept d new (slice_get_within kept d k there))) in
      let others = bound_more kept links d new (slice_get_within kept d k there) (λ b. refl) h.bound in
      let at_j = list_all_at (All P) links j in_links others in
      unsettled_sound plan kept marks ready links steps turns h d new (steps + 1) turns marks (set links j (d ∷ list_at links j)) l before refl (omega arith) (omega arith) (omega (arith, two)) refl (λ i ne. refl)
      (λ p ep em. (let same : dated_in (set kept d new) j ≡ None = dated_in-set kept d j new (λ s. absurd (omega arith)) ∙ open_target in ap (linked_kept j (steps + 1)) same))
      (length-set links j (d ∷ list_at links j))
      (listed_unsettled kept links (set links j (d ∷ list_at links j)) d new k there before refl h.listed (contains_more links j d in_links)
      (λ i s. (let same : i ≡ j = cc in record { lower = subst (λ n. n < d) (sym same) lower; listed = λ none. subst (λ n. Contains (list_at (set links j (d ∷ list_at links j)) n) d) (sym same) (contains_new links j d in_links) })))
      (All-set (All P) links j (d ∷ list_at links j) (All-cons P d (list_at links j) here at_j) others) (above_pushed links j d in_links lower h.above)
      (omega (arith, budget, one, longer))
    where
      list_is : (links : List (List ℕ)) (j d : ℕ) → j < length links → list_at (set links j (d ∷ list_at links j)) j ≡ d ∷ list_at links j
      list_is links j d within = ap (λ x. unwrap_or x []) (get-set_same links j (d ∷ list_at links j) within)

      contains_new : (links : List (List ℕ)) (j d : ℕ) → j < length links → Contains (list_at (set links j (d ∷ list_at links j)) j) d
      contains_new links j d within = subst (λ xs. Contains xs d) (sym (list_is links j d within)) (0, omega arith, refl)

      contains_more : (links : List (List ℕ)) (j d : ℕ) → j < length links → (i t : ℕ) → Contains (list_at links t) i → Contains (list_at (set links j (d ∷ list_at links j)) t) i
      contains_more links j d within i t c = elim (eqb_tells t j) [
        | inl s ↦ (let same = s.1 in
            let before : Contains (list_at links j) i = subst (λ n. Contains (list_at links n) i) same c in
            let now : Contains (d ∷ list_at links j) i = (suc before.0, omega (arith, before.1), before.2) in
            subst (λ n. Contains (list_at (set links j (d ∷ list_at links j)) n) i) (sym same) (subst (λ xs. Contains xs i) (sym (list_is links j d within)) now))
        | inr s ↦ (let same : list_at (set links j (d ∷ list_at links j)) t ≡ list_at links t = ap (λ x. unwrap_or x []) (slice_get-set_other links j t (d ∷ list_at links j) s.1) in
            subst (λ xs. Contains xs i) (sym same) c)
      ]

  pub link_same : (d j step m : ℕ) → d < length plan → IsSteady [] plan kept m → d < m → j < d → (kept_at kept d).stage ≡ Claimed → outcome_of ((kept_at kept j).stage) ≡ None →
      settled_view plan (set kept d (record { stage = Linked j; step = step })) ≡ set (settled_view plan kept) d (Linked j)
  link_same d j step m l steady below lower e open_target =
      linking_is_alone plan kept d j step lower (outcome_there d m l steady below ∙ ap outcome_of e) (outcome_there j m (omega arith) steady (omega arith) ∙ open_target)
