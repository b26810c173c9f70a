-- To which session each claim was granted.
use Rattle.std.proofs.Common.{◌≡◌, ℕ, zero, suc, ◌+◌, ◌≤◌, ◌⊎◌, inl, inr, Bool, true, false, cond, Option, Some, None, List, [], ◌∷◌, ◌++◌, length, map, set, All, Contains, refl, ap, sym, ◌∙◌, subst, append-nil, length-append, arith}
use Rattle.std.proofs.Common.{Result, Ok, Err}
use Rattle.std.specs.Result.{OnErr, OnOk}
use Rattle.std.specs.Prelude.{◌≢◌, ◌==◌}
use Rattle.std.specs.Option.{option_map_or}
use Rattle.std.proofs.lemmas.Bool.{eq-eqb}
use Rattle.std.proofs.lemmas.List.{append_assoc}
use Rattle.std.proofs.lemmas.List.Elements.{All-contains, Contains-append_cases, Contains-append_right}
use Rattle.cf_forms.specs.Plans.{Planned, PlannedStage, attached_stage}
use Rattle.cf_model.specs.declared.stage.Stage.{Stage}
use Rattle.cf_model.specs.declared.stage.Stage.TheVariants.{Pending, Ready, Claimed as IsClaimed, Linked, Settled}
use Rattle.cf_model.specs.declared.replies.Claimed.TheVariants.{Granted, Settled as IsSettled, Taken, NotReady}
use Rattle.cf_model.specs.declared.replies.Finished.{Finished}
use Rattle.cf_model.specs.declared.replies.Finished.TheVariants.{NotYours}
use Rattle.cf_model.specs.declared.events.Event.{Event}
use Rattle.cf_model.specs.declared.events.Event.TheVariants.{Complete as Completes, Fail as Fails, FailAs as FailsAs, Cancel as Cancels, Claim as Claims, Finish as Finishes, Tick as Ticks, Attach as Attaches}
use Rattle.cf_model.specs.declared.events.Reply.{Reply}
use Rattle.cf_model.specs.declared.events.Reply.TheVariants.{Flag as ToldFlag, Claim as ToldClaim, Finish as ToldFinish, Tick as ToldTick, Attach as ToldAttach}
use Rattle.cf_outcome.specs.declared.outcome.Outcome.TheVariants.{Value as Gives, Fault}
use Rattle.cf_outcome.specs.declared.outcome.Cause.TheVariants.{Thrown}
use Rattle.cf_model.specs.States.{State, claim_at, outcome_at, stage_at, start}
use Rattle.cf_model.specs.Events.{answered, attached_by, cause_of, claimed_by, finished_by, state_after}
use Rattle.cf_model.proofs.OpenClaims.{cancelled_claims, claim_before_close, claim_before_push, claim_before_set, claim_in, finished_claims, none_open, same_claim, settled_claims, ticked_claims}
use Rattle.cf_model.specs.Laws.{grants_of, is_grant}
use Rattle.cf_model.proofs.Moves.{grants_once}
use Rattle.cf_event.specs.Words.{word_of}
use Rattle.cf_event.specs.Decoding.{event_of}
use Rattle.cf_ledger.specs.Ledgers.{AreTaken, Does, Ledger, roomier, with_more}
use Rattle.cf_ledger.proofs.Growth.{answered_more}
use Rattle.cf_row.specs.declared.entry.Entry.{Entry}
use Rattle.cf_row.specs.declared.grants.Claim.{Claim}
use Rattle.cf_row.specs.Rows.{history_of, session_of, words_in}
use Rattle.cf_row.specs.Grants.{ClaimsAreOnes, claim_of, granted_by, granted_from, granted_in}
use Rattle.cf_row.proofs.Elements.{contains_cases, contains_first, contains_none}
use Rattle.cf_row.proofs.Own.{history_count, history_push}

abbrev claim : ℕ → ℕ → Claim
claim i t = record { stage = i; session = t }

-- ---- one entry more

granted_push : (s : State) (row : List Entry) (es : List Event) (x : Entry) (e : Event) → length row ≡ length es →
    granted_from s (row ++ x ∷ []) (es ++ e ∷ []) ≡ granted_from s row es ++ claim_of (granted_by e ((answered (state_after s es) e).0)) (session_of x.token)
granted_push s [] [] x e same = append-nil (claim_of (granted_by e ((answered s e).0)) (session_of x.token))
granted_push s [] (d ∷ es) x e same = absurd (omega arith)
granted_push s (y ∷ row) [] x e same = absurd (omega arith)
granted_push s (y ∷ row) (d ∷ es) x e same =
    let one = claim_of (granted_by d ((answered s d).0)) (session_of y.token) in
    let t = (answered s d).1 in
    ap (λ (l : List Claim). one ++ l) (granted_push t row es x e (omega arith))
    ∙ sym (append_assoc one (granted_from t row es) (claim_of (granted_by e ((answered (state_after t es) e).0)) (session_of x.token)))

granted_in_push : (plan : Planned) (row : List Entry) (x : Entry) (e : Event) → words_in row ≡ map word_of (history_of row) → event_of x.word ≡ Some e →
    granted_in plan (row ++ x ∷ []) ≡ granted_in plan row ++ claim_of (granted_by e ((answered (state_after (start plan) (history_of row)) e).0)) (session_of x.token)
granted_in_push plan row x e named read =
    ap (granted_from (start plan) (row ++ x ∷ [])) (history_push row x e named read) ∙ granted_push (start plan) row (history_of row) x e (sym (history_count row named))

-- by what the code's steps say
pub granted_take : (old new : Ledger) (seen seen2 : List Entry) (claims claims2 : List Claim) (x : Entry) (e : Event) (reply : Reply) (session : ℕ) → words_in seen ≡ map word_of (history_of seen) →
    old.events ≡ history_of seen → event_of x.word ≡ Some e → Does x.word old reply new → seen2 ≡ seen ++ x ∷ [] → claims ≡ granted_in old.plan seen → claims2 ≡ claims ++ claim_of (granted_by e reply) session →
    session ≡ session_of x.token → claims2 ≡ granted_in new.plan seen2
granted_take old new seen seen2 claims claims2 x e reply session named events read does is kept more whose =
    let same : does.event ≡ e = (let h : Some does.event ≡ Some e = sym does.read ∙ read in cc) in
    let plan : new.plan ≡ old.plan = ap (λ (l : Ledger). l.plan) does.written in
    let replied : reply ≡ (answered (state_after (start old.plan) (history_of seen)) e).0 =
    ap (λ p. p.0) does.told ∙ ap (λ (d : Event). (answered (state_after (start old.plan) old.events) d).0) same ∙ ap (λ (es : List Event). (answered (state_after (start old.plan) es) e).0) events in
    more ∙ ap (λ (l : List Claim). l ++ claim_of (granted_by e reply) session) kept
    ∙ ap (λ (r : Reply). granted_in old.plan seen ++ claim_of (granted_by e r) session) replied
    ∙ ap (λ (n : ℕ). granted_in old.plan seen ++ claim_of (granted_by e ((answered (state_after (start old.plan) (history_of seen)) e).0)) n) whose
    ∙ sym (granted_in_push old.plan seen x e named read)
    ∙ ap (λ (p : Planned). granted_in p (seen ++ x ∷ [])) (sym plan)
    ∙ ap (granted_in new.plan) (sym is)

-- one claim more, or none
pub claim_count : (o : Option ℕ) (claims claims2 : List Claim) (session : ℕ) → claims2 ≡ claims ++ claim_of o session → length claims2 ≤ length claims + 1
claim_count None claims claims2 session is = let size = ap (λ (l : List Claim). length l) (is ∙ append-nil claims) in omega (arith, size)
claim_count (Some i) claims claims2 session is =
    let one : Claim = record { stage = i; session = session } in
    let size = ap (λ (l : List Claim). length l) is ∙ length-append claims (one ∷ []) in omega (arith, size)

-- ---- more room

pub granted_more : (more : ℕ) (s : State) (row : List Entry) (es : List Event) → AreTaken s es → granted_from (roomier more s) row es ≡ granted_from s row es
granted_more more s [] es h = refl
granted_more more s (x ∷ row) [] h = refl
granted_more more s (x ∷ row) (e ∷ es) h =
    let one = claim_of (granted_by e ((answered s e).0)) (session_of x.token) in
    ap (λ (p : Reply × State). claim_of (granted_by e p.0) (session_of x.token) ++ granted_from p.1 row es) (answered_more more s e (h.0.room))
    ∙ ap (λ (l : List Claim). one ++ l) (granted_more more ((answered s e).1) row es h.1)

pub granted_grow : {E : Type 0} (r : Result (Unit {0}) E) (old new : Ledger) (seen : List Entry) (claims : List Claim) (more : ℕ) → OnOk r (new ≡ with_more old more) → OnErr r (new ≡ old) →
    AreTaken (start old.plan) (history_of seen) → claims ≡ granted_in old.plan seen → claims ≡ granted_in new.plan seen
granted_grow (Ok u) old new seen claims more grown same taken are =
    are ∙ sym (granted_more more (start old.plan) seen (history_of seen) taken) ∙ ap (λ (l : Ledger). granted_in l.plan seen) (sym grown)
granted_grow (Err e) old new seen claims more grown same taken are = are ∙ ap (λ (l : Ledger). granted_in l.plan seen) (sym same)

-- ---- an open claim was granted

claim_step : (x : Stage) (s : State) (who j i w : ℕ) → claim_at ((claimed_by x s who j).1) i ≡ Some w → (granted_by (Claims who j) (ToldClaim ((claimed_by x s who j).0)) ≡ Some i) ⊎ (claim_at s i ≡ Some w)
claim_step (Ready args) s who j i w e = by_set (claim_before_set s.claims j i (Some who) w e)
  where
    by_set : ((i ≡ j) × (Some who ≡ Some w)) ⊎ (claim_in s.claims i ≡ Some w) → (Some j ≡ Some i) ⊎ (claim_at s i ≡ Some w)
    by_set (inl h) = inl (ap Some (sym h.0))
    by_set (inr h) = inr h
claim_step (Settled o) s who j i w e = inr e
claim_step IsClaimed s who j i w e = inr e
claim_step (Linked k) s who j i w e = inr e
claim_step Pending s who j i w e = inr e

finish_step : (b : Bool) (s : State) (p : Finished × State) (j i w : ℕ) → p.1.claims ≡ set s.claims j None → claim_at ((cond b p (NotYours, s)).1) i ≡ Some w → claim_at s i ≡ Some w
finish_step true s p j i w closed e = (claim_before_close s.claims j i w (sym (same_claim i (set s.claims j None) p.1.claims closed) ∙ e)).1
finish_step false s p j i w closed e = e

attach_step : (room : ℕ) (s : State) (new : PlannedStage) (i w : ℕ) → claim_at ((attached_by room s new).1) i ≡ Some w → claim_at s i ≡ Some w
attach_step zero s new i w e = e
attach_step (suc room) s new i w e = claim_before_push s.claims i w e

pub step : (s : State) (d : Event) (i w : ℕ) → claim_at ((answered s d).1) i ≡ Some w → (granted_by d ((answered s d).0) ≡ Some i) ⊎ (claim_at s i ≡ Some w)
step s (Completes who j v) i w e = inr (sym (same_claim i s.claims _ (settled_claims (outcome_at s j) s j (Gives v))) ∙ e)
step s (Fails who j code) i w e = inr (sym (same_claim i s.claims _ (settled_claims (outcome_at s j) s j (Fault (Thrown code) false))) ∙ e)
step s (FailsAs who j failure) i w e = inr (sym (same_claim i s.claims _ (settled_claims (outcome_at s j) s j (Fault (cause_of failure) false))) ∙ e)
step s (Cancels who j) i w e = inr (sym (same_claim i s.claims _ (cancelled_claims (outcome_at s j) s j)) ∙ e)
step s (Claims who j) i w e = claim_step (stage_at s j) s who j i w e
step s (Finishes who j answer) i w e =
    let closed : State = record s { claims = set s.claims j None } in
    inr (finish_step (option_map_or (λ w. w == who) (claim_at s j) false) s (finished_by (outcome_at s j) closed j answer) j i w (finished_claims (outcome_at s j) closed j answer) e)
step s (Ticks who now) i w e = inr (sym (same_claim i s.claims _ (ticked_claims s who now)) ∙ e)
step s (Attaches who form of function) i w e = inr (attach_step s.plan.room s (attached_stage form of function) i w e)

-- a claim is open that was so before these entries, or that one of them was granted
abbrev IsFrom : State → List Entry → List Event → ℕ → Type 0
IsFrom s row es i = ((v : ℕ) × (claim_at s i ≡ Some v)) ⊎ ((t : ℕ) × Contains (granted_from s row es) (record { stage = i; session = t }))

here : (o : Option ℕ) (i t : ℕ) (rest : List Claim) → o ≡ Some i → Contains (claim_of o t ++ rest) (record { stage = i; session = t })
here None i t rest is = (let no : ⊥ = cc in absurd no)
here (Some j) i t rest is =
    let same : j ≡ i = cc in
    let c : Claim = record { stage = i; session = t } in
    subst (λ (k : ℕ). Contains (claim_of (Some k) t ++ rest) c) (sym same) (contains_first c rest)

open_from : (s : State) (row : List Entry) (es : List Event) (i w : ℕ) → length row ≡ length es → claim_at (state_after s es) i ≡ Some w → IsFrom s row es i
open_from s [] [] i w same e = inl (w, e)
open_from s [] (d ∷ es) i w same e = absurd (omega arith)
open_from s (x ∷ row) [] i w same e = absurd (omega arith)
open_from s (x ∷ row) (d ∷ es) i w same e = behind (open_from ((answered s d).1) row es i w (omega arith) e)
  where
    before : (v : ℕ) → (granted_by d ((answered s d).0) ≡ Some i) ⊎ (claim_at s i ≡ Some v) → IsFrom s (x ∷ row) (d ∷ es) i
    before v (inl g) = inr (session_of x.token, here (granted_by d ((answered s d).0)) i (session_of x.token) (granted_from ((answered s d).1) row es) g)
    before v (inr o) = inl (v, o)

    behind : IsFrom ((answered s d).1) row es i → IsFrom s (x ∷ row) (d ∷ es) i
    behind (inl h) = before h.0 (step s d i h.0 h.1)
    behind (inr h) =
        let c : Claim = record { stage = i; session = h.0 } in
        inr (h.0, Contains-append_right (claim_of (granted_by d ((answered s d).0)) (session_of x.token)) (granted_from ((answered s d).1) row es) c h.1)

pub open_is_granted : (plan : Planned) (row : List Entry) (i w : ℕ) → words_in row ≡ map word_of (history_of row) → claim_at (state_after (start plan) (history_of row)) i ≡ Some w →
    (t : ℕ) × Contains (granted_in plan row) (record { stage = i; session = t })
open_is_granted plan row i w named e = from_start (open_from (start plan) row (history_of row) i w (sym (history_count row named)) e)
  where
    from_start : IsFrom (start plan) row (history_of row) i → (t : ℕ) × Contains (granted_in plan row) (record { stage = i; session = t })
    from_start (inl h) = (let no : ⊥ = (let none = none_open (length plan.stages) i in cc) in absurd no)
    from_start (inr h) = h

-- so it stands among the claims that are kept
some_claim : (o : Option ℕ) → o ≢ None → (w : ℕ) × (o ≡ Some w)
some_claim None ne = absurd (ne refl)
some_claim (Some w) ne = (w, refl)

pub open_is_kept : (plan : Planned) (row : List Entry) (claims : List Claim) (i : ℕ) → claims ≡ granted_in plan row → words_in row ≡ map word_of (history_of row) → claim_at (state_after (start plan) (history_of row)) i ≢ None →
    All (λ (c : Claim). c.stage ≢ i) claims → ⊥
open_is_kept plan row claims i are named some none =
    let who = some_claim (claim_at (state_after (start plan) (history_of row)) i) some in
    let g = open_is_granted plan row i who.0 named who.1 in
    let c : Claim = record { stage = i; session = g.0 } in
    All-contains (λ (c : Claim). c.stage ≢ i) claims c none (subst (λ (l : List Claim). Contains l c) (sym are) g.1) refl

-- ---- no stage's claim was granted to two sessions

grant_is : (e : Event) (reply : Reply) (i : ℕ) → granted_by e reply ≡ Some i → is_grant i e reply ≡ true
grant_is (Claims who j) (ToldClaim (Granted args)) i is =
    let same : j ≡ i = cc in
    eq-eqb i j (sym same)
grant_is (Claims who j) (ToldClaim IsSettled) i is = (let no : ⊥ = cc in absurd no)
grant_is (Claims who j) (ToldClaim Taken) i is = (let no : ⊥ = cc in absurd no)
grant_is (Claims who j) (ToldClaim NotReady) i is = (let no : ⊥ = cc in absurd no)
grant_is (Claims who j) (ToldFlag b) i is = (let no : ⊥ = cc in absurd no)
grant_is (Claims who j) (ToldFinish f) i is = (let no : ⊥ = cc in absurd no)
grant_is (Claims who j) (ToldTick t) i is = (let no : ⊥ = cc in absurd no)
grant_is (Claims who j) (ToldAttach a) i is = (let no : ⊥ = cc in absurd no)
grant_is (Completes who j v) reply i is = (let no : ⊥ = cc in absurd no)
grant_is (Fails who j code) reply i is = (let no : ⊥ = cc in absurd no)
grant_is (FailsAs who j failure) reply i is = (let no : ⊥ = cc in absurd no)
grant_is (Cancels who j) reply i is = (let no : ⊥ = cc in absurd no)
grant_is (Finishes who j answer) reply i is = (let no : ⊥ = cc in absurd no)
grant_is (Ticks who now) reply i is = (let no : ⊥ = cc in absurd no)
grant_is (Attaches who form of function) reply i is = (let no : ⊥ = cc in absurd no)

-- the one claim that an entry was granted
the_one : (o : Option ℕ) (i u t : ℕ) → Contains (claim_of o u) (record { stage = i; session = t }) → (o ≡ Some i) × (u ≡ t)
the_one None i u t h = absurd (contains_none (claim i t) h)
the_one (Some j) i u t h = is_first (contains_cases (claim j u) (claim i t) [] h)
  where
    is_first : ((claim j u) ≡ (claim i t)) ⊎ Contains [] (claim i t) → (Some j ≡ Some i) × (u ≡ t)
    is_first (inl e) = (ap (λ (c : Claim). Some c.stage) e, ap (λ (c : Claim). c.session) e)
    is_first (inr n) = absurd (contains_none (claim i t) n)

counted : (i : ℕ) (b : Bool) (e : Event) (s : State) (es : List Event) → is_grant i e ((answered s e).0) ≡ b → grants_of i ((answered s e).1) es ≤ grants_of i s (e ∷ es)
counted i true e s es is = rw is (omega arith)
counted i false e s es is = rw is (omega arith)

granted_more_than : (i : ℕ) (e : Event) (s : State) (es : List Event) → is_grant i e ((answered s e).0) ≡ true → grants_of i s (e ∷ es) ≡ 1 + grants_of i ((answered s e).1) es
granted_more_than i e s es is = rw is refl

granted_count : (s : State) (row : List Entry) (es : List Event) (i t : ℕ) → Contains (granted_from s row es) (record { stage = i; session = t }) → 1 ≤ grants_of i s es
granted_count s [] es i t h = absurd (contains_none (claim i t) h)
granted_count s (x ∷ row) [] i t h = absurd (contains_none (claim i t) h)
granted_count s (x ∷ row) (e ∷ es) i t h =
    by_place (granted_count ((answered s e).1) row es i t) (Contains-append_cases (claim_of (granted_by e ((answered s e).0)) (session_of x.token)) (granted_from ((answered s e).1) row es) (claim i t) h)
  where
    by_place : (Contains (granted_from ((answered s e).1) row es) (claim i t) → 1 ≤ grants_of i ((answered s e).1) es) → Contains (claim_of (granted_by e ((answered s e).0)) (session_of x.token)) (claim i t) ⊎ Contains (granted_from ((answered s e).1) row es) (claim i t) → 1 ≤ grants_of i s (e ∷ es)
    by_place further (inl g) =
        let one = granted_more_than i e s es (grant_is e ((answered s e).0) i (the_one (granted_by e ((answered s e).0)) i (session_of x.token) t g).0) in
        omega (arith, one)
    by_place further (inr g) =
        let rest = further g in
        let le = counted i (is_grant i e ((answered s e).0)) e s es refl in
        omega (arith, rest, le)

one_session : (s : State) (row : List Entry) (es : List Event) (i t u : ℕ) → Contains (granted_from s row es) (record { stage = i; session = t }) → Contains (granted_from s row es) (record { stage = i; session = u }) → t ≡ u
one_session s [] es i t u g h = absurd (contains_none (claim i t) g)
one_session s (x ∷ row) [] i t u g h = absurd (contains_none (claim i t) g)
one_session s (x ∷ row) (e ∷ es) i t u g h =
    by_places (one_session ((answered s e).1) row es i t u) (Contains-append_cases own (granted_from ((answered s e).1) row es) (claim i t) g) (Contains-append_cases own (granted_from ((answered s e).1) row es) (claim i u) h)
  where
    own : List Claim
    own = claim_of (granted_by e ((answered s e).0)) (session_of x.token)

    only : (v w : ℕ) → Contains own (claim i v) → Contains (granted_from ((answered s e).1) row es) (claim i w) → ⊥
    only v w a b =
        let one = granted_more_than i e s es (grant_is e ((answered s e).0) i (the_one (granted_by e ((answered s e).0)) i (session_of x.token) v a).0) in
        let rest = granted_count ((answered s e).1) row es i w b in
        let most = grants_once s (e ∷ es) i in
        omega (arith, one, rest, most)

    by_places : (Contains (granted_from ((answered s e).1) row es) (claim i t) → Contains (granted_from ((answered s e).1) row es) (claim i u) → t ≡ u) → Contains own (claim i t) ⊎ Contains (granted_from ((answered s e).1) row es) (claim i t) → Contains own (claim i u) ⊎ Contains (granted_from ((answered s e).1) row es) (claim i u) → t ≡ u
    by_places further (inl a) (inl b) = sym (the_one (granted_by e ((answered s e).0)) i (session_of x.token) t a).1 ∙ (the_one (granted_by e ((answered s e).0)) i (session_of x.token) u b).1
    by_places further (inl a) (inr b) = absurd (only t u a b)
    by_places further (inr a) (inl b) = absurd (only u t b a)
    by_places further (inr a) (inr b) = further a b

pub claims_are_ones : ClaimsAreOnes
claims_are_ones plan row i t u g h = one_session (start plan) row (history_of row) i t u g h
