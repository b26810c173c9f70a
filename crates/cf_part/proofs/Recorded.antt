-- A session's claim that was granted is among its records, with what it was granted with.
use Rattle.std.proofs.Common.{◌≡◌, ℕ, suc, ◌+◌, ◌-◌, ◌⊎◌, inl, inr, Bool, true, false, cond, eqb, Option, Some, None, List, [], ◌∷◌, All, Contains, length, take, refl, ap, sym, ◌∙◌, subst, append-nil, arith}
use Rattle.std.proofs.lemmas.Bool.{eq-eqb}
use Rattle.std.proofs.lemmas.List.{take_all}
use Rattle.std.proofs.lemmas.List.Elements.{All-contains, Contains-append_cases, Contains-append_right}
use Rattle.cf_forms.specs.declared.forms.Args.{Args}
use Rattle.cf_model.specs.declared.events.Event.{Event}
use Rattle.cf_model.specs.declared.events.Event.TheVariants.{Complete as Completes, Fail as Fails, FailAs as FailsAs, Cancel as Cancels, Claim as Claims, Finish as Finishes, Tick as Ticks, Attach as Attaches}
use Rattle.cf_model.specs.declared.events.Reply.{Reply}
use Rattle.cf_model.specs.declared.events.Reply.TheVariants.{Flag as ToldFlag, Claim as ToldClaim, Finish as ToldFinish, Tick as ToldTick, Attach as ToldAttach}
use Rattle.cf_model.specs.declared.replies.Claimed.TheVariants.{Granted, Settled as IsSettled, Taken, NotReady}
use Rattle.cf_model.specs.States.{State, start}
use Rattle.cf_model.specs.Events.{answered, state_after, state_at}
use Rattle.cf_event.specs.declared.record.Record.{Record}
use Rattle.cf_event.specs.declared.record.Record.TheVariants.{Did, Saw}
use Rattle.cf_event.specs.Histories.{IsAnswered, dids}
use Rattle.cf_row.specs.declared.entry.Entry.{Entry}
use Rattle.cf_row.specs.declared.grants.Claim.{Claim}
use Rattle.cf_row.specs.Rows.{FitsEachRow, FitsUpTo, Replica, history_of, own_from, own_in, session_of}
use Rattle.cf_row.specs.Grants.{IsGrantedTo, claim_of, granted_by, granted_from}
use Rattle.cf_row.proofs.Elements.{contains_cases, contains_first, contains_none}
use Rattle.cf_part.specs.Steps.{IsGrantedWith, grant_of}

-- a claim, and what it was granted with
record IsGrant (e : Event) (reply : Reply) (i : ℕ) : Type 0 where
  who : ℕ
  args : Args
  event : e ≡ Claims who i
  told : reply ≡ ToldClaim (Granted args)

grant_is : (e : Event) (reply : Reply) (i : ℕ) → granted_by e reply ≡ Some i → IsGrant e reply i
grant_is (Claims who j) (ToldClaim (Granted args)) i is =
    let same : j ≡ i = cc in
    record { who = who; args = args; event = ap (Claims who) same; told = refl }
grant_is (Claims who j) (ToldClaim IsSettled) i is = (let no : ⊥ = cc in absurd no)
grant_is (Claims who j) (ToldClaim Taken) i is = (let no : ⊥ = cc in absurd no)
grant_is (Claims who j) (ToldClaim NotReady) i is = (let no : ⊥ = cc in absurd no)
grant_is (Claims who j) (ToldFlag b) i is = (let no : ⊥ = cc in absurd no)
grant_is (Claims who j) (ToldFinish f) i is = (let no : ⊥ = cc in absurd no)
grant_is (Claims who j) (ToldTick t) i is = (let no : ⊥ = cc in absurd no)
grant_is (Claims who j) (ToldAttach a) i is = (let no : ⊥ = cc in absurd no)
grant_is (Completes who j v) reply i is = (let no : ⊥ = cc in absurd no)
grant_is (Fails who j code) reply i is = (let no : ⊥ = cc in absurd no)
grant_is (FailsAs who j failure) reply i is = (let no : ⊥ = cc in absurd no)
grant_is (Cancels who j) reply i is = (let no : ⊥ = cc in absurd no)
grant_is (Finishes who j answer) reply i is = (let no : ⊥ = cc in absurd no)
grant_is (Ticks who now) reply i is = (let no : ⊥ = cc in absurd no)
grant_is (Attaches who form of function) reply i is = (let no : ⊥ = cc in absurd no)

abbrev claim : ℕ → ℕ → Claim
claim i t = record { stage = i; session = t }

-- the one claim that an entry was granted
the_one : (o : Option ℕ) (i u t : ℕ) → Contains (claim_of o u) (claim i t) → (o ≡ Some i) × (u ≡ t)
the_one None i u t h = absurd (contains_none (claim i t) h)
the_one (Some j) i u t h = is_first (contains_cases (claim j u) (claim i t) [] h)
  where
    is_first : (claim j u ≡ claim i t) ⊎ Contains [] (claim i t) → (Some j ≡ Some i) × (u ≡ t)
    is_first (inl e) = (ap (λ (c : Claim). Some c.stage) e, ap (λ (c : Claim). c.session) e)
    is_first (inr n) = absurd (contains_none (claim i t) n)

-- it stands among the session's own entries, at a place where it was granted
record StandsIn (s : State) (n t i : ℕ) (row : List Entry) (es : List Event) : Type 0 where
  place : ℕ
  who : ℕ
  args : Args
  own : Contains (own_from t n row es) (n + place + 1, Claims who i)
  told : (answered (state_after s (take place es)) (Claims who i)).0 ≡ ToldClaim (Granted args)

own_first : (b : Bool) (p : ℕ × Event) (l : List (ℕ × Event)) → b ≡ true → Contains (cond b (p ∷ l) l) p
own_first true p l is = contains_first p l
own_first false p l is = (let no : ⊥ = cc in absurd no)

own_later : (b : Bool) (p q : ℕ × Event) (l : List (ℕ × Event)) → Contains l q → Contains (cond b (p ∷ l) l) q
own_later true p q l h = Contains-append_right (p ∷ []) l q h
own_later false p q l h = h

stands_first : (s : State) (n t i : ℕ) (x : Entry) (row : List Entry) (e : Event) (es : List Event) → IsGrant e ((answered s e).0) i → session_of x.token ≡ t → StandsIn s n t i (x ∷ row) (e ∷ es)
stands_first s n t i x row e es g mine =
    let one : suc n ≡ n + 0 + 1 = omega arith in
    let here : Contains (own_from t n (x ∷ row) (e ∷ es)) (suc n, e) = own_first (eqb (session_of x.token) t) (suc n, e) (own_from t (suc n) row es) (eq-eqb (session_of x.token) t mine) in
    record {
      place = 0;
      who = g.who;
      args = g.args;
      own = subst (λ (d : Event). Contains (own_from t n (x ∷ row) (e ∷ es)) (n + 0 + 1, d)) g.event (subst (λ (m : ℕ). Contains (own_from t n (x ∷ row) (e ∷ es)) (m, e)) one here);
      told = ap (λ (d : Event). (answered s d).0) (sym g.event) ∙ g.told;
    }

stands_later : (s : State) (n t i : ℕ) (x : Entry) (row : List Entry) (e : Event) (es : List Event) → StandsIn ((answered s e).1) (suc n) t i row es → StandsIn s n t i (x ∷ row) (e ∷ es)
stands_later s n t i x row e es h =
    let next : suc n + h.place + 1 ≡ n + suc h.place + 1 = omega arith in
    record {
      place = suc h.place;
      who = h.who;
      args = h.args;
      own = subst (λ (m : ℕ). Contains (own_from t n (x ∷ row) (e ∷ es)) (m, Claims h.who i)) next (own_later (eqb (session_of x.token) t) (suc n, e) (suc n + h.place + 1, Claims h.who i) (own_from t (suc n) row es) h.own);
      told = h.told;
    }

stands : (s : State) (n t i : ℕ) (row : List Entry) (es : List Event) → Contains (granted_from s row es) (record { stage = i; session = t }) → StandsIn s n t i row es
stands s n t i [] es h = (let c : Claim = record { stage = i; session = t } in absurd (contains_none c h))
stands s n t i (x ∷ row) [] h = (let c : Claim = record { stage = i; session = t } in absurd (contains_none c h))
stands s n t i (x ∷ row) (e ∷ es) h =
    let c : Claim = record { stage = i; session = t } in
    by_place (stands ((answered s e).1) (suc n) t i row es) (Contains-append_cases (claim_of (granted_by e ((answered s e).0)) (session_of x.token)) (granted_from ((answered s e).1) row es) c h)
  where
    by_place : (Contains (granted_from ((answered s e).1) row es) (record { stage = i; session = t }) → StandsIn ((answered s e).1) (suc n) t i row es) →
        Contains (claim_of (granted_by e ((answered s e).0)) (session_of x.token)) (record { stage = i; session = t }) ⊎ Contains (granted_from ((answered s e).1) row es) (record { stage = i; session = t }) → StandsIn s n t i (x ∷ row) (e ∷ es)
    by_place further (inl g) =
        let one = the_one (granted_by e ((answered s e).0)) i (session_of x.token) t g in
        stands_first s n t i x row e es (grant_is e ((answered s e).0) i one.0) one.1
    by_place further (inr g) = stands_later s n t i x row e es (further g)

-- so the session has a record of it
record HasDid (rs : List Record) (place : ℕ) (e : Event) : Type 0 where
  reply : Reply
  there : Contains rs (Did place e reply)

abbrev placed : ℕ → Event → ℕ × Event
placed p e = (p, e)

did_first : (place : ℕ) (d : Event) (reply : Reply) (rs : List Record) (p : ℕ) (e : Event) → placed place d ≡ placed p e → HasDid (Did place d reply ∷ rs) p e
did_first place d reply rs p e same =
    let at : place ≡ p = ap (λ (q : ℕ × Event). q.0) same in
    let is : d ≡ e = ap (λ (q : ℕ × Event). q.1) same in
    let first : Contains (Did place d reply ∷ rs) (Did place d reply) = contains_first (Did place d reply) rs in
    record { reply = reply; there = subst (λ (f : Event). Contains (Did place d reply ∷ rs) (Did p f reply)) is (subst (λ (m : ℕ). Contains (Did place d reply ∷ rs) (Did m d reply)) at first) }

did_later : (r : Record) (rs : List Record) (p : ℕ) (e : Event) → HasDid rs p e → HasDid (r ∷ rs) p e
did_later r rs p e h = record { reply = h.reply; there = Contains-append_right (r ∷ []) rs (Did p e h.reply) h.there }

has_did : (rs : List Record) (p : ℕ) (e : Event) → Contains (dids rs) (p, e) → HasDid rs p e
has_did [] p e h = absurd (contains_none (p, e) h)
has_did (Did place d reply ∷ rs) p e h = by_place (has_did rs p e) (contains_cases (place, d) (p, e) (dids rs) h)
  where
    by_place : (Contains (dids rs) (p, e) → HasDid rs p e) → (placed place d ≡ placed p e) ⊎ Contains (dids rs) (p, e) → HasDid (Did place d reply ∷ rs) p e
    by_place further (inl same) = did_first place d reply rs p e same
    by_place further (inr later) = did_later (Did place d reply) rs p e (further later)
has_did (Saw place ask answer ∷ rs) p e h = did_later (Saw place ask answer) rs p e (has_did rs p e h)

same_stage : (i : ℕ) (place who : ℕ) (args : Args) (reply : Reply) → reply ≡ ToldClaim (Granted args) → grant_of i (Did place (Claims who i) reply) ≡ Some args
same_stage i place who args reply is =
    let same : eqb i i ≡ true = eq-eqb i i refl in
    ap (λ (r : Reply). grant_of i (Did place (Claims who i) r)) is ∙ ap (λ (b : Bool). cond b (Some args) None) same

pub granted_is_recorded : (r : Replica) (i : ℕ) → FitsEachRow r → IsGrantedTo r r.session i → (args : Args) × IsGrantedWith r.records i args
granted_is_recorded r i fits granted =
    let f : FitsUpTo r.plan r.session (length r.seen) r.seen r.records = fits r.seen (record { rest = []; is = sym (append-nil r.seen) }) in
    let at = stands (start r.plan) 0 r.session i r.seen (history_of r.seen) granted in
    let own : Contains (dids r.records) (0 + at.place + 1, Claims at.who i) =
    subst (λ (l : List (ℕ × Event)). Contains l (0 + at.place + 1, Claims at.who i)) (sym (f.did ∙ ap (own_in r.session) (take_all (length r.seen) r.seen (omega arith)))) at.own in
    let did = has_did r.records (0 + at.place + 1) (Claims at.who i) own in
    let answer = All-contains (IsAnswered r.plan (history_of r.seen)) r.records (Did (0 + at.place + 1) (Claims at.who i) did.reply) f.answers did.there in
    let back : 0 + at.place + 1 - 1 ≡ at.place = omega arith in
    let told : did.reply ≡ ToldClaim (Granted at.args) =
    answer.2 ∙ ap (λ (k : ℕ). (answered (state_at r.plan (history_of r.seen) k) (Claims at.who i)).0) back ∙ at.told in
    (at.args, (Did (0 + at.place + 1) (Claims at.who i) did.reply, did.there, same_stage i (0 + at.place + 1) at.who at.args did.reply told))

pub not_unrecorded : (r : Replica) (i : ℕ) → FitsEachRow r → IsGrantedTo r r.session i → All (λ (x : Record). grant_of i x ≡ None) r.records → ⊥
not_unrecorded r i fits granted none =
    let h = granted_is_recorded r i fits granted in
    let no : grant_of i h.1.0 ≡ None = All-contains (λ (x : Record). grant_of i x ≡ None) r.records h.1.0 none h.1.1 in
    let some = h.1.2 in
    (let bad : ⊥ = cc in bad)
