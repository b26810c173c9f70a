-- What is true of the stages between any two calls stays true when one is attached.
use Rattle.std.proofs.Common.{◌≡◌, ◌≢◌, ℕ, ◌+◌, ◌<◌, ◌≤◌, ◌∷◌, ◌++◌, [], List, All, Bool, true, false, cond, Some, length, suc, zero, arith, ap, sym, ◌∙◌, refl, map, set, inl, inr, length-append}
use Rattle.std.specs.Prelude.{slice_get, option_and_then, unwrap_or, ◌==◌}
use Rattle.std.specs.List.{sum_by}
use Rattle.std.proofs.lemmas.Bool.Decides.{nat_tests}
use Rattle.std.proofs.lemmas.List.{map-append}
use Rattle.std.proofs.lemmas.List.Elements.{All-head, All-tail}
use Rattle.std.proofs.lemmas.List.Sums.{sum_by-cons, sum_by-append}
use Rattle.std.proofs.lemmas.Option.{slice_get_within}
use Rattle.cf_forms.specs.declared.forms.Due.{Due}
use Rattle.cf_forms.specs.declared.forms.Due.TheVariants.{Waits, Settles, Needs}
use Rattle.cf_forms.specs.Plans.{PlannedStage, HasLowerSources, dependents_of, edges_of, form_at, mentions}
use Rattle.cf_plan.specs.Rows.{all_sources}
use Rattle.cf_forms.proofs.ListLemmas.{slice_get-front, slice_get-push, slice_get-seam}
use Rattle.cf_forms.proofs.PlanLemmas.{HasLowerSources-push}
use Rattle.cf_plan.proofs.DependentLemmas.{length-dependents_from, mentions-append, mentions_none, all_sources_below}
use Rattle.cf_model.specs.declared.stage.Stage.{Stage}
use Rattle.cf_model.specs.declared.stage.Stage.TheVariants.{Pending, Ready, Claimed, Linked, Settled}
use Rattle.cf_model.specs.States.{is_ready}
use Rattle.cf_core.specs.declared.kept.KeptStage.{KeptStage}
use Rattle.cf_core.specs.Keeping.Treatment.{StepsUpTo, dated_in, dated_of, due_kept, late_due, linked_kept, treated, treated_by}
use Rattle.cf_core.specs.Keeping.Sound.{IsSound, StayTaken, is_bound, kept_at, link_marks, marks_of, marks_from, steps_of}
use Rattle.cf_core.specs.Keeping.Attaching.{due_now, open_one, open_count}
use Rattle.cf_core.proofs.Keeping.Attaching.{due_again}
use Rattle.cf_core.proofs.Keeping.Sums.{StepsUpTo-le}
use Rattle.cf_core.proofs.Keeping.Waiting.{never_linked, sources_below}
use Rattle.cf_core.proofs.Keeping.Soundness.{All-more, bound_within, due_marks, due_steps}

-- ---- one element more

pub set-push : {X : Type 0} (xs : List X) (x y : X) → set (xs ++ x ∷ []) (length xs) y ≡ xs ++ y ∷ []
set-push [] x y = refl
set-push (z ∷ xs) x y = ap (λ r. z ∷ r) (set-push xs x y)

-- ---- outcomes with their steps

dated_old : (kept : List KeptStage) (k : KeptStage) (j : ℕ) → j < length kept → dated_in (kept ++ k ∷ []) j ≡ dated_in kept j
dated_old kept k j l = ap (option_and_then dated_of) (slice_get-front kept (k ∷ []) j l)

map_old : (kept : List KeptStage) (k : KeptStage) (sources : List ℕ) → All (λ j. j < length kept) sources → map (dated_in (kept ++ k ∷ [])) sources ≡ map (dated_in kept) sources
map_old kept k [] h = refl
map_old kept k (j ∷ sources) h =
    let here = dated_old kept k j (All-head (λ i. i < length kept) j sources h) in
    let rest = map_old kept k sources (All-tail (λ i. i < length kept) j sources h) in cc

pub treated_old : (kept : List KeptStage) (new : KeptStage) (p : PlannedStage) (stage : Stage) (step : ℕ) → All (λ j. j < length kept) p.sources → ((j : ℕ) → stage ≡ Linked j → j < length kept) →
    treated_by (kept ++ new ∷ []) p stage step ≡ treated_by kept p stage step
treated_old kept new p Pending step h l = ap (λ q. let due = late_due p.form q in due_kept due.0 due.1 step) (map_old kept new p.sources h)
treated_old kept new p (Linked j) step h l = ap (linked_kept j step) (dated_old kept new j (l j refl))
treated_old kept new p (Ready args) step h l = refl
treated_old kept new p Claimed step h l = refl
treated_old kept new p (Settled o) step h l = refl

-- ---- linked stages

kept_old : (kept : List KeptStage) (k : KeptStage) (i : ℕ) → i < length kept → kept_at (kept ++ k ∷ []) i ≡ kept_at kept i
kept_old kept k i l = ap (λ x. unwrap_or x (record { stage = Pending; step = 0 })) (slice_get-front kept (k ∷ []) i l)

bound_old : (kept : List KeptStage) (k : KeptStage) (i : ℕ) → is_bound ((kept_at kept i).stage) ≡ true → is_bound ((kept_at (kept ++ k ∷ []) i).stage) ≡ true
bound_old kept k i e = ap (λ (x : KeptStage). is_bound x.stage) (kept_old kept k i (bound_within kept i e)) ∙ e

-- ---- how many marks can still come

open_mention : Stage → ℕ → ℕ
open_mention (Settled o) m = 0
open_mention stage m = m

open_mentions : ℕ → List KeptStage → List ℕ → ℕ
open_mentions n [] sources = 0
open_mentions n (k ∷ kept) sources = open_mention k.stage (mentions n sources) + open_mentions (n + 1) kept sources

all_sources-push : (plan : List PlannedStage) (p : PlannedStage) (i : ℕ) → mentions i (all_sources (plan ++ p ∷ [])) ≡ mentions i (all_sources plan) + mentions i p.sources
all_sources-push [] p i = let e = mentions-append i p.sources [] in let none : mentions i [] ≡ 0 = refl in omega (arith, e, none)
all_sources-push (q ∷ plan) p i =
    let whole = mentions-append i q.sources (all_sources (plan ++ p ∷ [])) in
    let front = mentions-append i q.sources (all_sources plan) in
    let rest = all_sources-push plan p i in
    omega (arith, whole, front, rest)

dependents-push : (plan : List PlannedStage) (p : PlannedStage) (i : ℕ) → length (dependents_of (plan ++ p ∷ []) i) ≡ length (dependents_of plan i) + mentions i p.sources
dependents-push plan p i =
    let now = length-dependents_from 0 (plan ++ p ∷ []) i in
    let before = length-dependents_from 0 plan i in
    let more = all_sources-push plan p i in
    omega (arith, now, before, more)

form_old : (plan : List PlannedStage) (p : PlannedStage) (i : ℕ) → i < length plan → form_at (plan ++ p ∷ []) i ≡ form_at plan i
form_old [] p i l = absurd (omega arith)
form_old (q ∷ plan) p zero l = refl
form_old (q ∷ plan) p (suc i) l = form_old plan p i (omega arith)

form_new : (plan : List PlannedStage) (p : PlannedStage) → form_at (plan ++ p ∷ []) (length plan) ≡ p.form
form_new [] p = refl
form_new (q ∷ plan) p = form_new plan p

one_mark_more : (plan : List PlannedStage) (p : PlannedStage) (i : ℕ) (stage : Stage) → i < length plan → marks_of (plan ++ p ∷ []) i stage ≤ marks_of plan i stage + open_mention stage (mentions i p.sources)
unfolding open_mention
one_mark_more plan p i Pending l = let d = dependents-push plan p i in let f = ap link_marks (form_old plan p i l) in omega (arith, d, f)
one_mark_more plan p i (Ready args) l = let d = dependents-push plan p i in let f = ap link_marks (form_old plan p i l) in omega (arith, d, f)
one_mark_more plan p i Claimed l = let d = dependents-push plan p i in let f = ap link_marks (form_old plan p i l) in omega (arith, d, f)
one_mark_more plan p i (Linked j) l = let d = dependents-push plan p i in omega (arith, d)
one_mark_more plan p i (Settled o) l = omega arith

marks_more : (plan : List PlannedStage) (p : PlannedStage) (n : ℕ) (kept : List KeptStage) → n + length kept ≤ length plan →
    marks_from (plan ++ p ∷ []) n kept ≤ marks_from plan n kept + open_mentions n kept p.sources
unfolding open_mentions
marks_more plan p n [] l = omega arith
marks_more plan p n (k ∷ kept) l =
    let here = one_mark_more plan p n k.stage (omega arith) in
    let rest = marks_more plan p (n + 1) kept (omega arith) in
    omega (arith, here, rest)

marks_from-push : (plan : List PlannedStage) (n : ℕ) (kept : List KeptStage) (k : KeptStage) → marks_from plan n (kept ++ k ∷ []) ≡ marks_from plan n kept + marks_of plan (n + length kept) k.stage
marks_from-push plan n [] k = let same : n + 0 ≡ n = omega arith in rw same (omega arith)
marks_from-push plan n (x ∷ kept) k =
    let same : (n + 1) + length kept ≡ n + suc (length kept) = omega arith in
    let rest = rw same at (marks_from-push plan (n + 1) kept k) in
    omega (arith, rest)

-- each mention of a source that isn't settled is one more
mention : ℕ → ℕ → ℕ
mention n j = cond (j == n) 1 0

singles : ℕ → List KeptStage → ℕ → ℕ
singles n [] j = 0
singles n (k ∷ kept) j = open_mention k.stage (mention n j) + singles (n + 1) kept j

open_none : (stage : Stage) → open_mention stage 0 ≡ 0
unfolding open_mention
open_none Pending = refl
open_none (Ready args) = refl
open_none Claimed = refl
open_none (Linked j) = refl
open_none (Settled o) = refl

open_unit : (stage : Stage) → open_mention stage 1 ≡ open_one stage
unfolding open_mention
open_unit Pending = refl
open_unit (Ready args) = refl
open_unit Claimed = refl
open_unit (Linked j) = refl
open_unit (Settled o) = refl

open_sum : (stage : Stage) (a b : ℕ) → open_mention stage (a + b) ≡ open_mention stage a + open_mention stage b
unfolding open_mention
open_sum Pending a b = refl
open_sum (Ready args) a b = refl
open_sum Claimed a b = refl
open_sum (Linked j) a b = refl
open_sum (Settled o) a b = refl

mention_same : (n : ℕ) → mention n n ≡ 1
unfolding mention
mention_same n = let same : (n == n) ≡ true = grind (arith, nat_tests) in ap (λ b. cond b 1 0) same

mention_other : (n j : ℕ) → j ≢ n → mention n j ≡ 0
unfolding mention
mention_other n j ne = let other : (j == n) ≡ false = grind (arith, nat_tests) in ap (λ b. cond b 1 0) other

past : (n : ℕ) (kept : List KeptStage) (j : ℕ) → j < n → singles n kept j ≡ 0
unfolding singles
past n [] j l = refl
past n (k ∷ kept) j l =
    let here = ap (open_mention k.stage) (mention_other n j (λ e. absurd (omega arith))) ∙ open_none k.stage in
    let rest = past (n + 1) kept j (omega arith) in
    omega (arith, here, rest)

single : (n : ℕ) (kept : List KeptStage) (d : ℕ) → singles n kept (n + d) ≤ open_one ((kept_at kept d).stage)
unfolding singles
single n [] d = omega arith
single n (k ∷ kept) zero =
    let at : n + 0 ≡ n = omega arith in
    let here = ap (open_mention k.stage) (ap (mention n) at ∙ mention_same n) ∙ open_unit k.stage in
    let rest = past (n + 1) kept (n + 0) (omega arith) in
    omega (arith, here, rest)
single n (k ∷ kept) (suc d) =
    let here = ap (open_mention k.stage) (mention_other n (n + suc d) (λ e. absurd (omega arith))) ∙ open_none k.stage in
    let at : (n + 1) + d ≡ n + suc d = omega arith in
    let rest = rw at at (single (n + 1) kept d) in
    omega (arith, here, rest)

nothing_mentioned : (n : ℕ) (kept : List KeptStage) → open_mentions n kept [] ≡ 0
unfolding open_mentions
nothing_mentioned n [] = refl
nothing_mentioned n (k ∷ kept) = let here = open_none k.stage in let rest = nothing_mentioned (n + 1) kept in omega (arith, here, rest)

one_more_mentioned : (n : ℕ) (kept : List KeptStage) (j : ℕ) (sources : List ℕ) → open_mentions n kept (j ∷ sources) ≡ singles n kept j + open_mentions n kept sources
unfolding open_mentions singles mention
one_more_mentioned n [] j sources = refl
one_more_mentioned n (k ∷ kept) j sources =
    let cut : mentions n (j ∷ sources) ≡ mention n j + mentions n sources = sum_by-cons (λ i. cond (i == n) 1 0) j sources in
    let here = ap (open_mention k.stage) cut ∙ open_sum k.stage (mention n j) (mentions n sources) in
    let rest = one_more_mentioned (n + 1) kept j sources in
    omega (arith, here, rest)

counted : (kept : List KeptStage) (sources : List ℕ) → open_mentions 0 kept sources ≤ open_count kept sources
counted kept [] = let e = nothing_mentioned 0 kept in omega (arith, e)
counted kept (j ∷ sources) =
    let cut = one_more_mentioned 0 kept j sources in
    let at : 0 + j ≡ j = omega arith in
    let here = rw at at (single 0 kept j) in
    let rest = counted kept sources in
    omega (arith, cut, here, rest)

-- ---- the whole

StepsUpTo-push : (n : ℕ) (kept : List KeptStage) (k : KeptStage) → StepsUpTo n kept → k.step ≤ n → StepsUpTo n (kept ++ k ∷ [])
StepsUpTo-push n [] k h l = (l, tt)
StepsUpTo-push n (x ∷ kept) k h l = (h.0, StepsUpTo-push n kept k h.1 l)

due_step : (due : Due) (steps : ℕ) → (due_kept due (steps + 1) 0).step ≤ steps + 1
due_step Waits steps = omega arith
due_step (Settles o) steps = omega arith
due_step (Needs args) steps = omega arith

-- One stage more, which has taken what its sources hold, in a step of its own.
pub attach_sound : (plan : List PlannedStage) (kept : List KeptStage) (marks ready : List Bool) (links : List (List ℕ)) (steps turns : ℕ) → IsSound plan kept marks ready links steps turns →
    (p : PlannedStage) (due : Due) (turns2 : ℕ) → due_now kept p.form p.sources ≡ due → length plan < 4096 → edges_of plan + length p.sources ≤ 16384 → All (λ j. j < length plan) p.sources → length plan < length links →
    turns2 + open_count kept p.sources + link_marks p.form ≤ turns + length p.sources + 1 →
    IsSound (plan ++ p ∷ []) (kept ++ due_kept due (steps + 1) 0 ∷ []) (marks ++ false ∷ []) (ready ++ is_ready ((due_kept due (steps + 1) 0).stage) ∷ []) links (steps + 1) turns2
unfolding open_mention
attach_sound plan kept marks ready links steps turns h p due turns2 is few edges lower room budget =
    let n = length plan in
    let fresh : KeptStage = due_kept due (steps + 1) 0 in
    let longer = length-append plan (p ∷ []) in
    let kept_longer = length-append kept (fresh ∷ []) in
    let marks_longer = length-append marks (false ∷ []) in
    let all_kept = h.all_kept in
    let all_marks = h.all_marks in
    let in_kept : (j : ℕ) → j < n → j < length kept = λ j l. omega (arith, all_kept) in
    let more_edges = sum_by-append (λ (s : PlannedStage). length s.sources) plan (p ∷ []) in
    let one_edge = sum_by-cons (λ (s : PlannedStage). length s.sources) p [] in
    let no_edge : sum_by (λ (s : PlannedStage). length s.sources) [] ≡ 0 = refl in
    let steps_more = sum_by-append (λ (k : KeptStage). steps_of k.stage) kept (fresh ∷ []) in
    let steps_one = sum_by-cons (λ (k : KeptStage). steps_of k.stage) fresh [] in
    let steps_few = due_steps due (steps + 1) 0 in
    let marks_count = sum_by-append (λ (x : Bool). cond x 1 0) marks (false ∷ []) in
    let marks_one = sum_by-cons (λ (x : Bool). cond x 1 0) false [] in
    let new_marks = marks_from-push (plan ++ p ∷ []) 0 kept fresh in
    let few_marks = due_marks (plan ++ p ∷ []) (0 + length kept) due (steps + 1) 0 in
    let old_marks = marks_more plan p 0 kept (omega (arith, all_kept)) in
    let mentioned = counted kept p.sources in
    let at : 0 + length kept ≡ n = omega (arith, all_kept) in
    let linkable : link_marks (form_at (plan ++ p ∷ []) (0 + length kept)) ≡ link_marks p.form = ap (λ m. link_marks (form_at (plan ++ p ∷ []) m)) at ∙ ap link_marks (form_new plan p) in
    let none_yet : length (dependents_of (plan ++ p ∷ []) (0 + length kept)) ≡ 0 = ap (λ m. length (dependents_of (plan ++ p ∷ []) m)) at ∙ no_dependents plan p h.sources_lower lower in
    let not_yet : (i : ℕ) (k : KeptStage) → slice_get kept i ≡ Some k → i < n = λ i k e. (let l = slice_get_within kept i k e in omega (arith, all_kept)) in
    let again : treated kept p fresh ≡ fresh = due_again kept p due (steps + 1) is in
    record {
      few_stages = omega (arith, longer);
      few_edges = omega (arith, more_edges, one_edge, no_edge);
      sources_lower = HasLowerSources-push 0 plan p h.sources_lower (λ k d l. let s = lower k d l in omega arith);
      all_kept = omega (arith, longer, kept_longer, all_kept);
      all_marks = omega (arith, longer, marks_longer, all_marks);
      all_links = λ d c. omega (arith, longer);
      ready_are = ap (λ xs. xs ++ is_ready fresh.stage ∷ []) h.ready_are ∙ sym (map-append (λ (k : KeptStage). is_ready k.stage) kept (fresh ∷ []));
      waits = λ i q k eq ek em. elim (slice_get-push plan p i q eq) [
        | inl old ↦ (let l = slice_get_within plan i q old in
            let ek' : slice_get kept i ≡ Some k = sym (slice_get-front kept (fresh ∷ []) i (in_kept i l)) ∙ ek in
            let em' : slice_get marks i ≡ Some false = sym (slice_get-front marks (false ∷ []) i (omega (arith, all_marks))) ∙ em in
            let below = sources_below plan i q h.sources_lower old in
            treated_old kept fresh q k.stage k.step (All-more (λ j. j < i) (λ j. j < length kept) q.sources (λ j s. in_kept j (omega (arith, s, l))) below) (λ j e. (let s = h.listed i j k ek' e in let t = s.lower in in_kept j (omega (arith, t, l))))
            ∙ h.waits i q k old ek' em')
        | inr new ↦ (let same : i ≡ length kept = omega (arith, new.0, all_kept) in
            let is_k : Some k ≡ Some fresh = sym ek ∙ ap (slice_get (kept ++ fresh ∷ [])) same ∙ slice_get-seam kept fresh [] in
            let k_is : k ≡ fresh = cc in
            let q_is = new.1 in
            rw (k_is, ← q_is) (treated_old kept fresh p fresh.stage fresh.step (All-more (λ j. j < n) (λ j. j < length kept) p.sources (λ j s. in_kept j s) lower) (λ j e. absurd (never_linked due (steps + 1) 0 j e)) ∙ again))
      ];
      listed = λ i j k ek linked. elim (slice_get-push kept fresh i k ek) [
        | inl old ↦ (let s = h.listed i j k old linked in
            let l = not_yet i k old in
            let t = s.lower in
            record { lower = s.lower; listed = λ none. s.listed (sym (dated_old kept fresh j (in_kept j (omega (arith, t, l)))) ∙ none) })
        | inr new ↦ absurd (never_linked due (steps + 1) 0 j (ap (λ (x : KeptStage). x.stage) new.1 ∙ linked))
      ];
      bound = All-more (All (λ i. is_bound ((kept_at kept i).stage) ≡ true)) (All (λ i. is_bound ((kept_at (kept ++ fresh ∷ []) i).stage) ≡ true)) links
          (λ xs a. All-more (λ i. is_bound ((kept_at kept i).stage) ≡ true) (λ i. is_bound ((kept_at (kept ++ fresh ∷ []) i).stage) ≡ true) xs (λ i e. bound_old kept fresh i e) a) h.bound;
      above = h.above;
      kept_steps = StepsUpTo-push (steps + 1) kept fresh (StepsUpTo-le steps (steps + 1) kept (omega arith) h.kept_steps) (due_step due steps);
      steps_left = (let left = h.steps_left in omega (arith, left, steps_more, steps_one, steps_few, longer));
      turns_left = (let left = h.turns_left in omega (arith, left, marks_count, marks_one, new_marks, few_marks, old_marks, mentioned, linkable, none_yet, more_edges, one_edge, longer, budget));
    }
  where
    no_dependents : (plan : List PlannedStage) (p : PlannedStage) → HasLowerSources 0 plan → All (λ j. j < length plan) p.sources → length (dependents_of (plan ++ p ∷ []) (length plan)) ≡ 0
    no_dependents plan p h lower = length-dependents_from 0 (plan ++ p ∷ []) (length plan) ∙ all_sources-push plan p (length plan) ∙ none
      where
        plan_none : mentions (length plan) (all_sources plan) ≡ 0
        plan_none = let below = all_sources_below 0 plan h in mentions_none (length plan) (all_sources plan) (λ m d l e. (let s = below m d l in absurd (omega arith)))

        new_none : mentions (length plan) p.sources ≡ 0
        new_none = mentions_none (length plan) p.sources (λ m d l e. (let s = lower m d l in absurd (omega arith)))

        none : mentions (length plan) (all_sources plan) + mentions (length plan) p.sources ≡ 0
        none = let a = plan_none in let b = new_none in omega (arith, a, b)

-- a stage that is taken stays so
pub StayTaken-push : (kept : List KeptStage) (new : KeptStage) → StayTaken kept (kept ++ new ∷ [])
StayTaken-push [] new i e = cc
StayTaken-push (k ∷ kept) new zero e = e
StayTaken-push (k ∷ kept) new (suc i) e = StayTaken-push kept new i e
