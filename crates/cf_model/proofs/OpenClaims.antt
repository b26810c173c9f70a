-- Which claims an event leaves open.
use Rattle.std.proofs.Common.{◌≡◌, ◌≢◌, ℕ, zero, suc, ◌+◌, ◌⊎◌, inl, inr, Bool, true, false, cond, Option, Some, None, List, [], ◌∷◌, ◌++◌, length, set, replicate, refl, ap, ◌∙◌, arith}
use Rattle.std.specs.Prelude.{slice_get, unwrap_or, nat_lt}
use Rattle.cf_outcome.specs.declared.outcome.Outcome.{Outcome}
use Rattle.cf_forms.specs.declared.forms.Answer.{Answer}
use Rattle.cf_forms.specs.declared.forms.Landing.{Landing}
use Rattle.cf_forms.specs.declared.forms.Landing.TheVariants.{Settles as Lands, Links}
use Rattle.cf_forms.specs.declared.limits.Limit.{Limit}
use Rattle.cf_forms.specs.Forms.{landing}
use Rattle.cf_forms.specs.Plans.{form_at}
use Rattle.cf_model.specs.declared.replies.Ticked.TheVariants.{Fired, Past}
use Rattle.cf_model.specs.declared.events.Event.TheVariants.{Tick as Ticks}
use Rattle.cf_model.specs.States.{State, outcome_at}
use Rattle.cf_model.specs.Events.{answered, cancelled_by, due_limits, finished_by, firing, landed, limit_outcome, linked_to, settled_by, settling, source_outcome}

abbrev pub claim_in : List (Option ℕ) → ℕ → Option ℕ
claim_in claims i = unwrap_or (slice_get claims i) None

pub same_claim : (i : ℕ) (xs ys : List (Option ℕ)) → ys ≡ xs → claim_in ys i ≡ claim_in xs i
same_claim i xs ys e = ap (λ (l : List (Option ℕ)). claim_in l i) e

pub none_open : (n i : ℕ) → claim_in (let l : List (Option ℕ) = replicate n None in l) i ≡ None
none_open zero i = refl
none_open (suc n) zero = refl
none_open (suc n) (suc i) = none_open n i

-- ---- what leaves the list of claims

pub settled_claims : (x : Option Outcome) (s : State) (i : ℕ) (o : Outcome) → (settled_by x s i o).1.claims ≡ s.claims
settled_claims (Some old) s i o = refl
settled_claims None s i o = refl

pub cancelled_claims : (x : Option Outcome) (s : State) (i : ℕ) → (cancelled_by x s i).1.claims ≡ s.claims
cancelled_claims (Some old) s i = refl
cancelled_claims None s i = refl

firing_claims : (limits : List Limit) (count : ℕ) (s : State) → (firing count s limits).1.claims ≡ s.claims
firing_claims [] count s = refl
firing_claims (l ∷ limits) count s =
    let done = settling s l.stage (limit_outcome l.kind) in
    firing_claims limits _ done.1 ∙ settled_claims (outcome_at s l.stage) s l.stage (limit_outcome l.kind)

chosen_claims : {X : Type 0} (b : Bool) (s : State) (p q : X × State) → p.1.claims ≡ s.claims → q.1.claims ≡ s.claims → (cond b p q).1.claims ≡ s.claims
chosen_claims true s p q e f = e
chosen_claims false s p q e f = f

pub ticked_claims : (s : State) (who now : ℕ) → (answered s (Ticks who now)).1.claims ≡ s.claims
ticked_claims s who now =
    let fired = firing 0 s (due_limits s now) in
    chosen_claims (nat_lt now s.moment) s (Past, s) (Fired fired.0, record fired.1 { moment = now; used = s.used + length (due_limits s now) }) refl (firing_claims (due_limits s now) 0 s)

linked_claims : (x : Option Outcome) (s : State) (i j : ℕ) → (linked_to x s i j).claims ≡ s.claims
linked_claims (Some o) s i j = refl
linked_claims None s i j = refl

pub landed_claims : (to : Landing) (s : State) (i : ℕ) → (landed s i to).claims ≡ s.claims
landed_claims (Lands o) s i = refl
landed_claims (Links j) s i = linked_claims (outcome_at s j) s i j

pub finished_claims : (x : Option Outcome) (s : State) (i : ℕ) (answer : Answer) → (finished_by x s i answer).1.claims ≡ s.claims
finished_claims (Some old) s i answer = refl
finished_claims None s i answer = landed_claims (landing (form_at s.plan.stages i) i (source_outcome s i) answer) s i

-- ---- a list with one claim more or less

pub pushed_claim : (xs : List (Option ℕ)) (i c : ℕ) → claim_in xs i ≡ Some c → claim_in (xs ++ None ∷ []) i ≡ Some c
pushed_claim [] i c e = (let no : ⊥ = cc in absurd no)
pushed_claim (x ∷ xs) zero c e = e
pushed_claim (x ∷ xs) (suc i) c e = pushed_claim xs i c e

pub claim_before_push : (xs : List (Option ℕ)) (i c : ℕ) → claim_in (xs ++ None ∷ []) i ≡ Some c → claim_in xs i ≡ Some c
claim_before_push [] zero c e = e
claim_before_push [] (suc i) c e = e
claim_before_push (x ∷ xs) zero c e = e
claim_before_push (x ∷ xs) (suc i) c e = claim_before_push xs i c e

pub claim_before_set : (xs : List (Option ℕ)) (j i : ℕ) (x : Option ℕ) (w : ℕ) → claim_in (set xs j x) i ≡ Some w → ((i ≡ j) × (x ≡ Some w)) ⊎ (claim_in xs i ≡ Some w)
claim_before_set [] j i x w e = inr e
claim_before_set (y ∷ xs) zero zero x w e = inl (refl, e)
claim_before_set (y ∷ xs) zero (suc i) x w e = inr e
claim_before_set (y ∷ xs) (suc j) zero x w e = inr e
claim_before_set (y ∷ xs) (suc j) (suc i) x w e = further (claim_before_set xs j i x w e)
  where
    further : ((i ≡ j) × (x ≡ Some w)) ⊎ (claim_in xs i ≡ Some w) → ((suc i ≡ suc j) × (x ≡ Some w)) ⊎ (claim_in xs i ≡ Some w)
    further (inl h) = inl (ap suc h.0, h.1)
    further (inr h) = inr h

-- once claim j is closed
pub claim_before_close : (xs : List (Option ℕ)) (j i w : ℕ) → claim_in (set xs j None) i ≡ Some w → (i ≢ j) × (claim_in xs i ≡ Some w)
claim_before_close [] j i w e = (let no : ⊥ = cc in absurd no)
claim_before_close (y ∷ xs) zero zero w e = (let no : ⊥ = cc in absurd no)
claim_before_close (y ∷ xs) zero (suc i) w e = (omega arith, e)
claim_before_close (y ∷ xs) (suc j) zero w e = (omega arith, e)
claim_before_close (y ∷ xs) (suc j) (suc i) w e = let h = claim_before_close xs j i w e in (let ne : i ≢ j = h.0 in omega arith, h.1)
