-- What follows of it that work calls the function of each stage that it works on once.
use Rattle.std.proofs.Common.{◌≡◌, ◌≢◌, ℕ, ◌+◌, ◌≤◌, true, false, None, All, suc, length, arith, ap, sym, subst, ◌∙◌, refl, List, [], ◌∷◌, ◌++◌, length-append}
use Rattle.std.specs.List.{AllPairs}
use Rattle.std.proofs.lemmas.List.Elements.{All-cons, All-nil}
use Rattle.std.proofs.lemmas.List.Kept.{AllPairs-cons}
use Rattle.std.proofs.lemmas.List.Sums.{count_by-le-length}
use Rattle.cf_forms.specs.declared.forms.Args.{Args}
use Rattle.cf_forms.specs.declared.forms.Answer.{Answer}
use Rattle.cf_forms.specs.Meanings.{Meanings, stage_answer}
use Rattle.cf_forms.specs.Plans.{Planned}
use Rattle.cf_model.specs.declared.replies.Claimed.TheVariants.{Granted}
use Rattle.cf_model.specs.declared.events.Event.{Event}
use Rattle.cf_model.specs.declared.events.Event.TheVariants.{Claim as Claims, Finish as Finishes}
use Rattle.cf_model.specs.declared.events.Reply.{Reply}
use Rattle.cf_model.specs.declared.events.Reply.TheVariants.{Claim as ToldClaim}
use Rattle.cf_model.specs.States.{State, lowest_ready_of, stage_at}
use Rattle.cf_model.specs.Events.{answered, state_after}
use Rattle.cf_model.specs.Claims.{is_claimable, claimable_count}
use Rattle.cf_model.specs.Calls.{is_attach}
use Rattle.cf_model.specs.Growth.{SameShape}
use Rattle.cf_model.specs.Working.{finished_after, worked, worked_once}
use Rattle.cf_model.specs.Calling.{AreRun, AreStateless, CallsOf, Runs, RunsOnce}
use Rattle.cf_model.proofs.Claimable.{state_after-not_claimable}
use Rattle.cf_model.proofs.Histories.{claiming-not_claimable, ready-claimable, ready-not_pending}
use Rattle.cf_model.proofs.LowestReady.{lowest_ready-is_ready}
use Rattle.cf_model.proofs.Shape.{answered-shape}
use Rattle.cf_model.proofs.Working.{IsBetweenTurns, at_first, at_last, one_more, worked_once-claimable, worked_once-shape}

-- the plan that a claim leaves
claimed-plan : (s c : State) (e : Event) (r : Reply) → is_attach e ≡ false → answered s e ≡ (r, c) → s.plan.stages ≡ c.plan.stages
claimed-plan s c e r other is =
    let shape = answered-shape s e other in
    let there : (answered s e).1 ≡ c = ap (λ (d : Reply × State). d.1) is in
    sym (ap (λ (p : Planned). p.stages) shape.plan) ∙ ap (λ (x : State). x.plan.stages) there

same-answer : (who : ℕ) (meanings : Meanings) (s c t : State) (i : ℕ) (args : Args) (answer : Answer) → answered s (Claims who i) ≡ (ToldClaim (Granted args), c) → s.plan.stages ≡ c.plan.stages → answer ≡ stage_answer meanings s.plan.stages i args →
    t ≡ (answered c (Finishes who i answer)).1 → t ≡ worked_once who meanings s i
same-answer who meanings s c t i args answer granted plan told is =
    is ∙ ap (λ a. (answered c (Finishes who i a)).1) (told ∙ ap (λ p. stage_answer meanings p i args) plan) ∙ sym (ap (finished_after who meanings i) granted)

pub runs_none : {M : Type 0} (calls : CallsOf M) (who : ℕ) (s : State) (m : M) → Runs calls who s m 0 s m
runs_none calls who s m = record { which = []; run = (refl, refl); counted = refl; no_stage_twice = λ i j d below within. absurd (omega arith) }

module _ {M : Type 0} (calls : CallsOf M) (who : ℕ) where
  -- ---- one stage

  -- it is worked on as by functions that answer so
  run_worked : (s t : State) (m n : M) (i : ℕ) (h : RunsOnce calls who s m i t n) → t ≡ worked_once who (λ number given. h.answer) s i
  run_worked s t m n i h = h.finished ∙ sym (ap (finished_after who (λ number given. h.answer) i) h.granted)

  pub run-shape : (s t : State) (m n : M) (i : ℕ) → RunsOnce calls who s m i t n → SameShape s t
  run-shape s t m n i h = subst (SameShape s) (sym (run_worked s t m n i h)) (worked_once-shape who (λ number given. h.answer) s i)

  -- a stage that nobody can claim stays so
  run-not_claimable : (s t : State) (m n : M) (i j : ℕ) → RunsOnce calls who s m i t n → is_claimable (stage_at s j) ≡ false → is_claimable (stage_at t j) ≡ false
  run-not_claimable s t m n i j h e =
      let events : t ≡ state_after s (Claims who i ∷ Finishes who i h.answer ∷ []) = h.finished ∙ sym (ap (λ (d : Reply × State). (answered d.1 (Finishes who i h.answer)).1) h.granted) in
      ap (λ x. is_claimable (stage_at x j)) events ∙ state_after-not_claimable s (Claims who i ∷ Finishes who i h.answer ∷ []) j e

  -- and so does the one that was run
  run-claimed : (s t : State) (m n : M) (i : ℕ) → RunsOnce calls who s m i t n → is_claimable (stage_at t i) ≡ false
  run-claimed s t m n i h =
      let claimed : is_claimable (stage_at h.claimed i) ≡ false =
      sym (ap (λ (d : Reply × State). is_claimable (stage_at d.1 i)) h.granted) ∙ claiming-not_claimable s who i (ready-not_pending (stage_at s i) (lowest_ready-is_ready s i h.lowest)) in
      ap (λ x. is_claimable (stage_at x i)) h.finished ∙ state_after-not_claimable h.claimed (Finishes who i h.answer ∷ []) i claimed

  -- ---- none twice

  not_run : (s t : State) (m n : M) (which : List ℕ) (i : ℕ) → AreRun calls who s m which t n → is_claimable (stage_at s i) ≡ false → All (λ j. i ≢ j) which
  not_run s t m n [] i h e = All-nil (λ j. i ≢ j)
  not_run s t m n (j ∷ which) i h e =
      let (r, k, one, rest) = h in
      All-cons (λ j. i ≢ j) j which
      (λ same. let ready : is_claimable (stage_at s i) ≡ true = ap (λ x. is_claimable (stage_at s x)) same ∙ ready-claimable (stage_at s j) (lowest_ready-is_ready s j one.lowest) in cc)
      (not_run r t k n which i rest (run-not_claimable s r m k j i one e))

  run-distinct : (s t : State) (m n : M) (which : List ℕ) → AreRun calls who s m which t n → AllPairs (λ i j. i ≢ j) which
  run-distinct s t m n [] h = λ i j d below within. absurd (omega arith)
  run-distinct s t m n (i ∷ which) h =
      let (r, k, one, rest) = h in
      AllPairs-cons (λ i j. i ≢ j) i which (not_run r t k n which i rest (run-claimed s r m k i one)) (run-distinct r t k n which rest)

  -- ---- so many

  pub all_run : (s t : State) (m n : M) (which : List ℕ) (count : ℕ) → AreRun calls who s m which t n → length which ≡ count → Runs calls who s m count t n
  all_run s t m n which count h counted = record { which = which; run = h; counted = counted; no_stage_twice = run-distinct s t m n which h }

  AreRun-both : (s t u : State) (m n o : M) (which more : List ℕ) → AreRun calls who s m which t n → AreRun calls who t n more u o → AreRun calls who s m (which ++ more) u o
  AreRun-both s t u m n o [] more h k = subst (λ x. AreRun calls who x m more u o) h.0 (subst (λ x. AreRun calls who t x more u o) h.1 k)
  AreRun-both s t u m n o (i ∷ which) more h k =
      let (r, p, one, rest) = h in (r, p, one, AreRun-both r t u p n o which more rest k)

  -- some, and then more
  pub runs_on : (s t u : State) (m n o : M) (count more : ℕ) → Runs calls who s m count t n → Runs calls who t n more u o → Runs calls who s m (count + more) u o
  runs_on s t u m n o count more h k =
      all_run s u m o (h.which ++ k.which) (count + more) (AreRun-both s t u m n o h.which k.which h.run k.run)
      (let l = length-append h.which k.which in let a = h.counted in let b = k.counted in omega (arith, l, a, b))

  pub runs_one : (s t : State) (m n : M) (i : ℕ) → RunsOnce calls who s m i t n → Runs calls who s m 1 t n
  runs_one s t m n i h = all_run s t m n (i ∷ []) 1 (t, n, h, (refl, refl)) refl

  -- each takes one of those that may be claimed
  run-claimable : (s t : State) (m n : M) (which : List ℕ) → AreRun calls who s m which t n → claimable_count t + length which ≤ claimable_count s
  run-claimable s t m n [] h = let e = ap claimable_count h.0 in omega (arith, e)
  run-claimable s t m n (i ∷ which) h =
      let (r, p, one, rest) = h in
      let fewer = worked_once-claimable who (λ number given. one.answer) s i one.lowest in
      let e = ap claimable_count (run_worked s r m p i one) in
      let more = run-claimable r t p n which rest in
      omega (arith, fewer, e, more)

  -- there are at most as many as stages
  pub runs_few : (s t : State) (m n : M) (count : ℕ) → length s.stages ≡ length s.plan.stages → Runs calls who s m count t n → count ≤ length s.plan.stages
  runs_few s t m n count same h =
      let some = run-claimable s t m n h.which h.run in
      let at_most = count_by-le-length is_claimable s.stages in
      let c = h.counted in omega (arith, some, at_most, c, same)

  -- ---- functions that remember nothing

  stateless_run : (meanings : Meanings) (s t : State) (m n : M) (i : ℕ) → AreStateless calls m meanings → RunsOnce calls who s m i t n → (t ≡ worked_once who meanings s i) × (n ≡ m)
  stateless_run meanings s t m n i stateless one =
      let told = stateless _ one.args one.answer n one.called in
      (same-answer who meanings s one.claimed t i one.args one.answer one.granted (claimed-plan s one.claimed (Claims who i) (ToldClaim (Granted one.args)) refl one.granted) told.0 one.finished, told.1)

  turns_done : (meanings : Meanings) (whole : ℕ × State) (stages count : ℕ) (s t : State) (m n : M) (which : List ℕ) → AreStateless calls m meanings → AreRun calls who s m which t n →
      IsBetweenTurns who meanings whole stages count s → IsBetweenTurns who meanings whole stages (count + length which) t
  turns_done meanings whole stages count s t m n [] stateless h between =
      let none : count + 0 ≡ count = omega arith in
      subst (λ k. IsBetweenTurns who meanings whole stages k t) (sym none) (subst (λ x. IsBetweenTurns who meanings whole stages count x) (sym h.0) between)
  turns_done meanings whole stages count s t m n (i ∷ which) stateless h between =
      let (r, k, one, rest) = h in
      let same = stateless_run meanings s r m k i stateless one in
      let sum : count + 1 + length which ≡ count + suc (length which) = omega arith in
      subst (λ c. IsBetweenTurns who meanings whole stages c t) sum
      (turns_done meanings whole stages (count + 1) r t k n which (subst (λ x. AreStateless calls x meanings) (sym same.1) stateless) rest
      (subst (λ x. IsBetweenTurns who meanings whole stages (count + 1) x) (sym same.0) (one_more who meanings whole stages count s i one.lowest between)))

  -- where none is ready then, they are all
  pub runs_all : (meanings : Meanings) (s t : State) (m n : M) (count : ℕ) → length s.stages ≡ length s.plan.stages → Runs calls who s m count t n → lowest_ready_of t ≡ None → AreStateless calls m meanings → (count, t) ≡ worked who meanings s
  runs_all meanings s t m n count same h none stateless =
      let between = turns_done meanings (worked who meanings s) (length s.plan.stages) 0 s t m n h.which stateless h.run (at_first who meanings s (length s.plan.stages) refl same) in
      let e : 0 + length h.which ≡ count = (let c = h.counted in omega (arith, c)) in
      at_last who meanings (worked who meanings s) (length s.plan.stages) count t none
      (subst (λ k. IsBetweenTurns who meanings (worked who meanings s) (length s.plan.stages) k t) e between)
