-- Records of a pass that fit a list of events.
use Rattle.cf_forms.specs.Plans.{Planned}
use Rattle.std.proofs.Common.{◌≡◌, ℕ, ◌+◌, List, [], ◌∷◌, ◌++◌, length, sym, refl, subst}
use mathlib.Core.List.{map-append}
use Rattle.cf_model.specs.declared.asks.Ask.{Ask}
use Rattle.cf_model.specs.declared.asks.Told.{Told}
use Rattle.cf_model.specs.declared.events.Event.{Event}
use Rattle.cf_model.specs.declared.events.Reply.{Reply}
use Rattle.cf_model.specs.Events.{answered, told}
use Rattle.cf_model.specs.Ranges.{AskFits}
use Rattle.cf_event.specs.declared.record.Record.{Record}
use Rattle.cf_event.specs.Histories.{AreRecordsOf}
use Rattle.cf_model.specs.Calls.{event_by, who_of}
use Rattle.cf_event.proofs.Histories.{records_did, records_more, records_none, records_saw}
use Rattle.cf_model.specs.declared.calls.Call.{Call}
use Rattle.cf_model.specs.declared.calls.Call.TheVariants.{Complete, Fail, FailAs, Cancel, Claim, Finish, Tick, Attach}
use Rattle.cf_desk.specs.declared.calls.Rec.{Rec}
use Rattle.cf_desk.specs.declared.calls.Rec.TheVariants.{Did, Saw}
use Rattle.cf_desk.specs.Log.{Catches, state_from}
use Rattle.cf_desk.specs.Records.{Fits, record_by, records_by}

pub fits_more : (plan : Planned) (c : ℕ) (seen now : List Event) (rs : List Rec) → Catches c seen now → Fits plan c seen rs → Fits plan c now rs
fits_more plan c seen now rs h f = subst (λ (l : List Event). Fits plan c l rs) (sym h.joined) (records_more plan c seen h.others (records_by c rs) h.none f)

-- one record more
one_more : (plan : Planned) (c : ℕ) (now : List Event) (rs : List Rec) (r : Rec) → AreRecordsOf plan c now (records_by c rs ++ record_by c r ∷ []) → Fits plan c now (rs ++ r ∷ [])
one_more plan c now rs r f = subst (λ (l : List Record). AreRecordsOf plan c now l) (sym (map-append (record_by c) rs (r ∷ []))) f

pub fits_did : (plan : Planned) (c : ℕ) (seen : List Event) (rs : List Rec) (call : Call) (reply : Reply) → who_of (event_by c call) ≡ c → reply ≡ (answered (state_from plan seen) (event_by c call)).0 → Fits plan c seen rs
    → Fits plan c (seen ++ event_by c call ∷ []) (rs ++ Did (length seen + 1) call reply ∷ [])
fits_did plan c seen rs call reply mine replied f =
    one_more plan c (seen ++ event_by c call ∷ []) rs (Did (length seen + 1) call reply) (records_did plan c seen (records_by c rs) (event_by c call) reply mine replied f)

pub fits_saw : (plan : Planned) (c : ℕ) (seen : List Event) (rs : List Rec) (ask : Ask) (answer : Told) → answer ≡ told (state_from plan seen) ask → AskFits (length (state_from plan seen).plan.stages) ask → Fits plan c seen rs
    → Fits plan c seen (rs ++ Saw (length seen) ask answer ∷ [])
fits_saw plan c seen rs ask answer is there f =
    one_more plan c seen rs (Saw (length seen) ask answer) (records_saw plan c seen (records_by c rs) ask answer is there f)

pub fits_new : (plan : Planned) (c : ℕ) → Fits plan c [] []
fits_new plan c = records_none plan c

-- a caller's call is its own event
pub own_call : (c : ℕ) (call : Call) → who_of (event_by c call) ≡ c
own_call c (Complete i v) = refl
own_call c (Fail i code) = refl
own_call c (FailAs i failure) = refl
own_call c (Cancel i) = refl
own_call c (Claim i) = refl
own_call c (Finish i answer) = refl
own_call c (Tick now) = refl
own_call c (Attach form of function) = refl
