-- There is a place for each stage that there may ever be.
use Rattle.std.proofs.Common.{◌≡◌, ℕ, zero, suc, ◌-◌, ◌<◌, ◌≤◌, List, [], ◌∷◌, length-append, refl, ap, arith, Bool, false, Option, Some, None}
use Rattle.std.specs.Prelude.{is_some}
use Rattle.cf_forms.specs.Plans.{PlannedStage, attached_stage}
use Rattle.cf_model.specs.declared.events.Event.{Event}
use Rattle.cf_model.specs.declared.events.Event.TheVariants.{Complete as Completes, Fail as Fails, FailAs as FailsAs, Cancel as Cancels, Claim as Claims, Finish as Finishes, Tick as Ticks, Attach as Attaches}
use Rattle.cf_model.specs.States.{State, start}
use Rattle.cf_model.specs.Events.{answered, attached_by as attached_as, state_after}
use Rattle.cf_model.proofs.Shape.{answered-shape}
use Rattle.cf_ledger.specs.Ledgers.{AreTaken, HasRoomFor}
use Rattle.cf_row.specs.Rows.{Replica, history_of, stages_of}
use Rattle.cf_part.specs.declared.question.Fault.{Fault}
use Rattle.cf_part.specs.Parts.{places_of}

-- an event leaves as many places
abbrev HasAsMany : State → State → Type 0
HasAsMany s t = places_of t.plan ≤ places_of s.plan

same_places : (s t : State) → t.plan ≡ s.plan → HasAsMany s t
same_places s t is = (let same = ap places_of is in omega (arith, same))

attached_places : (room : ℕ) (s : State) (new : PlannedStage) → s.plan.room ≡ room → 0 < room → HasAsMany s ((attached_as room s new).1)
attached_places zero s new is some = absurd (omega (arith, some))
attached_places (suc room) s new is some =
    let count = length-append s.plan.stages (new ∷ []) in
    omega (arith, is, count)

places_after : (s : State) (e : Event) → HasRoomFor s e → HasAsMany s ((answered s e).1)
places_after s (Completes who i v) room = same_places s ((answered s (Completes who i v)).1) (answered-shape s (Completes who i v) refl).plan
places_after s (Fails who i code) room = same_places s ((answered s (Fails who i code)).1) (answered-shape s (Fails who i code) refl).plan
places_after s (FailsAs who i failure) room = same_places s ((answered s (FailsAs who i failure)).1) (answered-shape s (FailsAs who i failure) refl).plan
places_after s (Cancels who i) room = same_places s ((answered s (Cancels who i)).1) (answered-shape s (Cancels who i) refl).plan
places_after s (Claims who i) room = same_places s ((answered s (Claims who i)).1) (answered-shape s (Claims who i) refl).plan
places_after s (Finishes who i answer) room = same_places s ((answered s (Finishes who i answer)).1) (answered-shape s (Finishes who i answer) refl).plan
places_after s (Ticks who now) room = same_places s ((answered s (Ticks who now)).1) (answered-shape s (Ticks who now) refl).plan
places_after s (Attaches who form of function) room = attached_places s.plan.room s (attached_stage form of function) refl room

places_all : (s : State) (es : List Event) → AreTaken s es → HasAsMany s (state_after s es)
places_all s [] h = (let same : places_of s.plan ≡ places_of s.plan = refl in omega (arith, same))
places_all s (e ∷ es) h =
    let one = places_after s e h.0.room in
    let rest = places_all ((answered s e).1) es h.1 in
    omega (arith, one, rest)

pub stages_have_places : (r : Replica) (n : ℕ) → AreTaken (start r.plan) (history_of r.seen) → n ≡ places_of r.plan → stages_of r ≤ n
stages_have_places r n taken is = (let all = places_all (start r.plan) (history_of r.seen) taken in omega (arith, all, is))

pub no_fault : (o : Option Fault) (b : Bool) → b ≡ is_some o → b ≡ false → o ≡ None
no_fault None b is none = refl
no_fault (Some f) b is none = (let bad : ⊥ = cc in absurd bad)
