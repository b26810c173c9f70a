-- Events by their words.
use Rattle.std.proofs.Common.{◌≡◌, ℕ, zero, suc, ◌+◌, ◌<◌, ◌≤◌, Bool, Some, List, [], ◌∷◌, ◌++◌, cond, true, false, nat_lt, refl, ap, subst, sym, ◌∙◌, arith, length, length-append}
use Rattle.std.proofs.lemmas.Bool.{ltb-false, ltb-true}
use Rattle.cf_forms.specs.Plans.{Planned, PlannedStage, attached_stage}
use Rattle.cf_model.specs.declared.events.Event.{Event}
use Rattle.cf_model.specs.declared.events.Event.TheVariants.{Complete as Completes, Fail as Fails, FailAs as FailsAs, Cancel as Cancels, Claim as Claims, Finish as Finishes, Tick as Ticks, Attach as Attaches}
use Rattle.cf_model.specs.declared.events.Reply.{Reply}
use Rattle.cf_model.specs.Calls.{is_attach}
use Rattle.cf_model.specs.Events.{answered, attached_by}
use Rattle.cf_model.specs.States.{State}
use Rattle.cf_model.proofs.Shape.{answered-grows, answered-shape}
use Rattle.cf_event.specs.Decoding.{event_of}
use Rattle.cf_event.specs.Words.{word_of}
use Rattle.cf_ledger.specs.Ledgers.{Does, HasRoomFor, Ledger, stages_of, state_of}
use Rattle.cf_request.specs.Ready.{HasLanes, Lanes, and_lane, lanes_of, with_lane}
use Rattle.cf_request.specs.Telling.{Teller, TellsEvent, TellsWord, answers_attach}
use Rattle.cf_request.proofs.Telling.{next_is}

-- ---- how many stages there are

pub same_count : (e : Event) (s : State) → is_attach e ≡ false → length ((answered s e).1.plan.stages) ≡ length s.plan.stages
same_count e s isnt = ap (λ (p : Planned). length p.stages) (answered-shape s e isnt).plan

-- and so does a word of it
pub none_more : (e : Event) (old new : Ledger) (word : ℕ) (reply : Reply) → event_of word ≡ Some e → is_attach e ≡ false → Does word old reply new → stages_of new ≡ stages_of old
none_more e old new word reply is isnt does =
    let same : does.event ≡ e = (let read = does.read in cc) in
    ap (λ (s : State). length s.plan.stages) (next_is old new word reply does) ∙ ap (λ (d : Event). length ((answered (state_of old) d).1.plan.stages)) same ∙ same_count e (state_of old) isnt

lanes_stay_by : (b : Bool) (stages lane : ℕ) (of : List ℕ) → nat_lt (length of) stages ≡ b → length of ≡ stages → cond b (of ++ lane ∷ []) of ≡ of
lanes_stay_by true stages lane of less same = let l = ltb-true (length of) stages less in absurd (omega (arith, l, same))
lanes_stay_by false stages lane of less same = refl

-- where all stages have a lane, none is added
pub lanes_stay : (stages lane : ℕ) (of : List ℕ) → length of ≡ stages → lanes_of stages lane of ≡ of
lanes_stay stages lane of same = lanes_stay_by (nat_lt (length of) stages) stages lane of refl same

pub same_lanes : (stages lane : ℕ) (lanes : Lanes) → length lanes.of ≡ stages → with_lane stages lane lanes ≡ lanes
same_lanes stages lane lanes same = ap (λ (of : List ℕ). let x : Lanes = record lanes { of = of } in x) (lanes_stay stages lane lanes.of same)

pub event_told : (e : Event) (old new : Teller) (reply : Reply) → event_of (word_of e) ≡ Some e → is_attach e ≡ false → HasLanes (state_of old.ledger) old.lanes.of → TellsWord 0 (word_of e) old reply new →
    TellsEvent e old reply new
event_told e old new reply is isnt all done =
    let h = done.tells in
    let same : h.does.event ≡ e = (let read = h.does.read in cc) in
    let more = none_more e old.ledger new.ledger (word_of e) reply is isnt h.does in
    record { read = is; tells = done; answered = h.does.told ∙ ap (answered (state_of old.ledger)) same; lanes = done.lanes ∙ same_lanes (stages_of new.ledger) 0 old.lanes (all ∙ sym more) }

-- so is an event whose word this is
pub word_told : (e : Event) (old new : Teller) (reply : Reply) (word : ℕ) → event_of word ≡ Some e → word_of e ≡ word → is_attach e ≡ false → HasLanes (state_of old.ledger) old.lanes.of → ((lane : ℕ) → TellsWord lane word old reply new) →
    TellsEvent e old reply new
word_told e old new reply word read named isnt all done =
    event_told e old new reply (subst (λ (w : ℕ). event_of w ≡ Some e) (sym named) read) isnt all (subst (λ (w : ℕ). TellsWord 0 w old reply new) (sym named) (done 0))

attached_count : (room : ℕ) (s : State) (new : PlannedStage) → 0 < room → length ((attached_by room s new).1.plan.stages) ≡ length s.plan.stages + 1
attached_count zero s new l = absurd (omega (arith, l))
attached_count (suc room) s new l = length-append s.plan.stages (new ∷ [])

same_by : (e : Event) (s : State) → is_attach e ≡ false → length ((answered s e).1.plan.stages) ≡ length s.plan.stages + 0
same_by e s isnt = let same = same_count e s isnt in omega (arith, same)

counted_by : (e : Event) (s : State) → HasRoomFor s e → length ((answered s e).1.plan.stages) ≡ length s.plan.stages + cond (answers_attach ((answered s e).0)) 1 0
counted_by (Completes who i v) s room = same_by (Completes who i v) s refl
counted_by (Fails who i code) s room = same_by (Fails who i code) s refl
counted_by (FailsAs who i failure) s room = same_by (FailsAs who i failure) s refl
counted_by (Cancels who i) s room = same_by (Cancels who i) s refl
counted_by (Claims who i) s room = same_by (Claims who i) s refl
counted_by (Finishes who i answer) s room = same_by (Finishes who i answer) s refl
counted_by (Ticks who now) s room = same_by (Ticks who now) s refl
counted_by (Attaches who form of function) s room = attached_count s.plan.room s (attached_stage form of function) room

-- a word leaves all stages there
pub none_lost : (old new : Ledger) (word : ℕ) (reply : Reply) → Does word old reply new → stages_of old ≤ stages_of new
none_lost old new word reply does =
    let grows = answered-grows (state_of old) does.event in
    let more = ap (λ (l : List PlannedStage). length l) grows.stages ∙ length-append (state_of old).plan.stages grows.more in
    let now = ap (λ (s : State). length s.plan.stages) (next_is old new word reply does) in
    omega (arith, more, now)

-- its reply tells whether there is one stage more
pub more_told : (old new : Ledger) (word : ℕ) (reply : Reply) → Does word old reply new → stages_of new ≡ stages_of old + cond (answers_attach reply) 1 0
more_told old new word reply does =
    let s = state_of old in
    let is : reply ≡ (answered s does.event).0 = ap (λ (p : Reply × State). p.0) does.told in
    ap (λ (r : State). length r.plan.stages) (next_is old new word reply does) ∙ counted_by does.event s does.taken.room
    ∙ ap (λ (r : Reply). stages_of old + cond (answers_attach r) 1 0) (sym is)

one_few : (b : Bool) → cond b 1 0 ≤ 1
one_few true = omega arith
one_few false = omega arith

-- and there is at most one
pub at_most_one : (old new : Ledger) (word : ℕ) (reply : Reply) → Does word old reply new → stages_of new ≤ stages_of old + 1
at_most_one old new word reply does =
    let more = more_told old new word reply does in
    let few = one_few (answers_attach reply) in
    omega (arith, more, few)

more_by : (b c : Bool) (stages lane : ℕ) (of : List ℕ) → nat_lt (length of) stages ≡ c → stages ≡ length of + cond b 1 0 → and_lane b lane of ≡ and_lane c lane of
more_by true true stages lane of less is = refl
more_by false false stages lane of less is = refl
more_by true false stages lane of less is = let l = ltb-false (length of) stages less in absurd (omega (arith, l, is))
more_by false true stages lane of less is = let l = ltb-true (length of) stages less in absurd (omega (arith, l, is))

-- and so whether there is one lane more
pub lanes_told : (old new : Ledger) (word lane : ℕ) (reply : Reply) (of : List ℕ) → Does word old reply new → length of ≡ stages_of old → and_lane (answers_attach reply) lane of ≡ lanes_of (stages_of new) lane of
lanes_told old new word lane reply of does all =
    more_by (answers_attach reply) (nat_lt (length of) (stages_of new)) (stages_of new) lane of refl (more_told old new word reply does ∙ ap (λ (n : ℕ). n + cond (answers_attach reply) 1 0) (sym all))
