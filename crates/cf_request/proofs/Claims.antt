-- A claim changes one stage at most, which is settled neither before nor after.
use Rattle.std.proofs.Common.{◌≡◌, ◌≢◌, ◌<◌, ℕ, zero, suc, Option, Some, true, false, List, [], ◌∷◌, length, set, refl, ap, sym, ◌∙◌, arith, subst, inl, inr, append-nil, drop, ◌⊎◌}
use Rattle.std.specs.Prelude.{is_some, option_and_then, unwrap_or}
use Rattle.std.proofs.lemmas.Bool.{cases_eq}
use Rattle.std.proofs.lemmas.List.Elements.{All-nil}
use Rattle.cf_forms.specs.declared.forms.Args.{Args}
use Rattle.cf_model.specs.declared.stage.Stage.{Stage}
use Rattle.cf_model.specs.declared.stage.Stage.TheVariants.{Pending, Ready, Claimed, Linked, Settled}
use Rattle.cf_model.specs.declared.events.Event.{Event}
use Rattle.cf_model.specs.declared.events.Event.TheVariants.{Claim as Claims}
use Rattle.cf_model.specs.declared.events.Reply.{Reply}
use Rattle.cf_model.specs.declared.events.Reply.TheVariants.{Claim as ToldClaim}
use Rattle.cf_model.specs.declared.replies.Claimed.{Claimed as Told}
use Rattle.cf_model.specs.declared.replies.Claimed.TheVariants.{Granted, Settled as RefusedAsSettled, Taken as RefusedAsTaken, NotReady}
use Rattle.cf_model.specs.Events.{answered, claimed_by, claiming}
use Rattle.cf_model.specs.Graphs.{stage_in}
use Rattle.cf_model.specs.Ranges.{EventFits}
use Rattle.cf_model.specs.States.{State, is_ready, outcome_of}
use Rattle.cf_model.proofs.StateLemmas.{slice_get-set_other}
use Rattle.cf_event.specs.Decoding.{event_of}
use Rattle.cf_ledger.specs.Ledgers.{Does, Ledger, stages_of, state_of}
use Rattle.cf_request.specs.Ready.{AreFitBut, FitState, Lanes, ReadySets, lanes_of}
use Rattle.cf_request.specs.Telling.{AreFresh, AreSettled, IsKept, Tells, is_settled_in}
use Rattle.cf_request.proofs.Sets.{fit_others, fit_reached_all}
use Rattle.cf_request.proofs.Telling.{next_is, same_most, settled_more, view_of}
use Rattle.cf_request.proofs.Words.{none_lost}

-- it isn't granted
abbrev pub IsRefused : Told → Type 0
IsRefused told = (told ≡ RefusedAsSettled) ⊎ ((told ≡ RefusedAsTaken) ⊎ (told ≡ NotReady))

others_by : (x : Stage) (s : State) (who i j : ℕ) → j ≢ i → stage_in ((claimed_by x s who i).1.stages) j ≡ stage_in s.stages j
others_by (Ready args) s who i j differs = ap (λ (o : Option Stage). unwrap_or o Pending) (slice_get-set_other s.stages i j Claimed differs)
others_by (Settled o) s who i j differs = refl
others_by Claimed s who i j differs = refl
others_by (Linked k) s who i j differs = refl
others_by Pending s who i j differs = refl

unsettled : (stages : List Stage) (i : ℕ) (args : Args) → stage_in stages i ≡ Ready args → is_settled_in (set stages i Claimed) i ≡ is_settled_in stages i
unsettled [] i args h = cc
unsettled (x ∷ stages) zero args h = ap (λ (y : Stage). is_some (outcome_of y)) (sym h)
unsettled (x ∷ stages) (suc i) args h = unsettled stages i args h

settled_by : (x : Stage) (s : State) (who i j : ℕ) → stage_in s.stages i ≡ x → is_settled_in ((claimed_by x s who i).1.stages) j ≡ is_settled_in s.stages j
settled_by (Ready args) s who i j h = elim (cases_eq j i) [
  | inl same ↦ subst (λ (k : ℕ). is_settled_in (set s.stages i Claimed) k ≡ is_settled_in s.stages k) (sym same) (unsettled s.stages i args h)
  | inr differs ↦ ap (λ (o : Option Stage). is_some (option_and_then outcome_of o)) (slice_get-set_other s.stages i j Claimed differs)
]
settled_by (Settled o) s who i j h = refl
settled_by Claimed s who i j h = refl
settled_by (Linked k) s who i j h = refl
settled_by Pending s who i j h = refl

next_claimed : (old new : Ledger) (word who i : ℕ) (reply : Reply) → Does word old reply new → event_of word ≡ Some (Claims who i) → state_of new ≡ (claiming (state_of old) who i).1
next_claimed old new word who i reply does is =
    let same : does.event ≡ Claims who i = (let read = does.read in cc) in
    next_is old new word reply does ∙ ap (λ (e : Event). (answered (state_of old) e).1) same

none_fresh : (old new : List Stage) → ((j : ℕ) → is_settled_in new j ≡ is_settled_in old j) → AreFresh old new []
none_fresh old new same = record { rising = tt; before = All-nil (λ i. is_settled_in old i ≡ false); settled = All-nil (λ i. is_settled_in new i ≡ true); all = λ j was is. (let e = same j in cc) }

fresh_claim : (old new : Ledger) (word who i : ℕ) (reply : Reply) → Does word old reply new → event_of word ≡ Some (Claims who i) → AreFresh (state_of old).stages (state_of new).stages []
fresh_claim old new word who i reply does is =
    let s = state_of old in
    subst (λ (t : State). AreFresh s.stages t.stages []) (sym (next_claimed old new word who i reply does is))
    (none_fresh s.stages ((claiming s who i).1.stages) (λ j. settled_by (stage_in s.stages i) s who i j refl))

-- a stage that is claimed isn't ready
unready : (stages : List Stage) (i : ℕ) → is_ready (stage_in (set stages i Claimed) i) ≡ false
unready [] i = refl
unready (x ∷ stages) zero = refl
unready (x ∷ stages) (suc i) = unready stages i

granted_by : (x : Stage) (s : State) (who i : ℕ) (args : Args) → (claimed_by x s who i).0 ≡ Granted args → is_ready (stage_in ((claimed_by x s who i).1.stages) i) ≡ false
granted_by (Ready a) s who i args h = unready s.stages i
granted_by (Settled o) s who i args h = absurd (cc)
granted_by Claimed s who i args h = absurd (cc)
granted_by (Linked k) s who i args h = absurd (cc)
granted_by Pending s who i args h = absurd (cc)

-- where none is granted, all stays
refused_by : (x : Stage) (s : State) (who i : ℕ) (told : Told) → (claimed_by x s who i).0 ≡ told → IsRefused told → (claimed_by x s who i).1 ≡ s
refused_by (Ready a) s who i told is (inl h) = (let wrong : Granted a ≡ RefusedAsSettled = is ∙ h in absurd (cc))
refused_by (Ready a) s who i told is (inr (inl h)) = (let wrong : Granted a ≡ RefusedAsTaken = is ∙ h in absurd (cc))
refused_by (Ready a) s who i told is (inr (inr h)) = (let wrong : Granted a ≡ NotReady = is ∙ h in absurd (cc))
refused_by (Settled o) s who i told is h = refl
refused_by Claimed s who i told is h = refl
refused_by (Linked k) s who i told is h = refl
refused_by Pending s who i told is h = refl

told_claimed : (old new : Ledger) (word who i : ℕ) (told : Told) → Does word old (ToldClaim told) new → event_of word ≡ Some (Claims who i) → (claiming (state_of old) who i).0 ≡ told
told_claimed old new word who i told does is =
    let same : does.event ≡ Claims who i = (let read = does.read in cc) in
    let all : (ToldClaim told, state_of new) ≡ answered (state_of old) (Claims who i) = does.told ∙ ap (answered (state_of old)) same in
    let reply : ToldClaim told ≡ ToldClaim ((claiming (state_of old) who i).0) = ap (λ p. p.0) all in
    (let e = reply in cc)

pub granted_claim : (old new : Ledger) (word who i : ℕ) (args : Args) → Does word old (ToldClaim (Granted args)) new → event_of word ≡ Some (Claims who i) → is_ready (stage_in (state_of new).stages i) ≡ false
granted_claim old new word who i args does is =
    subst (λ (t : State). is_ready (stage_in t.stages i) ≡ false) (sym (next_claimed old new word who i (ToldClaim (Granted args)) does is))
    (granted_by (stage_in (state_of old).stages i) (state_of old) who i args (told_claimed old new word who i (Granted args) does is))

pub refused_claim : (old new : Ledger) (word who i : ℕ) (told : Told) → Does word old (ToldClaim told) new → event_of word ≡ Some (Claims who i) → IsRefused told → state_of new ≡ state_of old
refused_claim old new word who i told does is h =
    next_claimed old new word who i (ToldClaim told) does is
    ∙ refused_by (stage_in (state_of old).stages i) (state_of old) who i told (told_claimed old new word who i told does is) h

-- what is kept stays
pub kept_claim : (old new : Ledger) (word who i : ℕ) (reply : Reply) (order : List ℕ) (places count : ℕ) → IsKept old order places count → Does word old reply new → event_of word ≡ Some (Claims who i) → IsKept new order places count
kept_claim old new word who i reply order places count h does is =
    let same = same_most old new word reply does in
    let most = h.most in
    let room = h.room in
    record {
      settled = subst (AreSettled new) (append-nil order) (settled_more old new word reply order [] h.settled does (fresh_claim old new word who i reply does is));
      few = h.few;
      most = omega (arith, same, most);
      room = omega (arith, same, room);
    }

pub tells_claim : (old new : Ledger) (word who i : ℕ) (reply : Reply) (order : List ℕ) (count : ℕ) (before after : Lanes) → Does word old reply new → event_of word ≡ Some (Claims who i) →
    Tells word (view_of old order count before) reply (view_of new order count after)
tells_claim old new word who i reply order count before after does is =
    record { does = does; fresh = []; are = fresh_claim old new word who i reply does is; told = sym (append-nil (drop count order)); taken = refl }

-- its stage is there, and still is
pub there_claim : (old new : Ledger) (word who i : ℕ) (reply : Reply) → Does word old reply new → event_of word ≡ Some (Claims who i) → i < stages_of new
there_claim old new word who i reply does is =
    let same : does.event ≡ Claims who i = (let read = does.read in cc) in
    let fits : EventFits (stages_of old) (Claims who i) = subst (EventFits (stages_of old)) same does.taken.fits in
    let less = none_lost old new word reply does in
    omega (arith, fits, less)

-- the stage alone is left
pub left_claim : (old new : Ledger) (word who i stages : ℕ) (reply : Reply) (r : ReadySets) → Does word old reply new → event_of word ≡ Some (Claims who i) → length (state_of old).stages ≡ stages_of old → FitState (state_of old) r →
    AreFitBut (λ j. j ≡ i) (state_of new).stages (record r { of = lanes_of stages 0 r.of })
left_claim old new word who i stages reply r does is size h =
    let s = state_of old in
    let r' : ReadySets = record r { of = lanes_of stages 0 r.of } in
    subst (λ (t : State). AreFitBut (λ j. j ≡ i) t.stages r') (sym (next_claimed old new word who i reply does is))
    (fit_others s.stages ((claiming s who i).1.stages) i r' (λ j differs. others_by (stage_in s.stages i) s who i j differs) (fit_reached_all s stages 0 r h size))
