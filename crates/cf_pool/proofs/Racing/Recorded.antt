-- The records of a pass are what the history makes of its caller's events.
use Rattle.std.proofs.Common.{◌≡◌, ℕ, suc, ◌+◌, ◌-◌, Bool, true, false, cond, eqb, List, [], ◌∷◌, ◌++◌, length, take, map, All, sym, refl, ap, ◌∙◌, append_assoc, length-append, arith}
use Rattle.std.specs.List.{filter}
use Rattle.std.proofs.Math.Seq.{take-append_seam}
use Rattle.std.proofs.lemmas.List.Elements.{All-head, All-tail}
use Rattle.cf_forms.specs.Plans.{Planned}
use Rattle.cf_model.specs.declared.events.Event.{Event}
use Rattle.cf_model.specs.declared.events.Reply.{Reply}
use Rattle.cf_model.proofs.Histories.{state_after-append}
use Rattle.cf_model.specs.States.{State, start}
use Rattle.cf_model.specs.Events.{answered, state_after, state_at}
use Rattle.cf_model.specs.Calls.{as_call, event_by, who_of}
use Rattle.cf_pool.specs.Answering.{Answers}
use Rattle.cf_model.specs.declared.calls.Call.{Call}
use Rattle.cf_model.specs.declared.calls.Call.TheVariants.{Complete, Fail, FailAs, Cancel, Claim, Finish, Tick, Attach}
use Rattle.cf_desk.specs.declared.calls.Rec.{Rec}
use Rattle.cf_desk.specs.declared.calls.Rec.TheVariants.{Did, Saw}
use Rattle.cf_event.specs.Events.{placed}
use Rattle.cf_desk.specs.Log.{state_from}
use Rattle.cf_event.specs.Histories.{IsAnswered}
use Rattle.cf_desk.specs.Records.{dids, Fits, record_by, records_by}
use Rattle.std.specs.Prelude.{Some, None}
use Rattle.cf_pool.specs.Works.{Owed, AreWork, owed_by}
use Rattle.cf_pool.specs.Records.{recorded}

-- the changing calls among records
abbrev pub only_dids : List Rec → List Rec
only_dids [] = []
only_dids (Did place call reply ∷ rs) = Did place call reply ∷ only_dids rs
only_dids (Saw place ask answer ∷ rs) = only_dids rs

-- the record of an event at a place
abbrev told_of : Planned → List Event → ℕ × Event → Rec
told_of plan history p = Did p.0 (as_call p.1) ((answered (state_at plan history (p.0 - 1)) p.1).0)

abbrev mine : ℕ → ℕ × Event → Bool
mine c e = eqb (who_of e.1) c

call_by : (c : ℕ) (call : Call) → as_call (event_by c call) ≡ call
call_by c (Complete i v) = refl
call_by c (Fail i code) = refl
call_by c (FailAs i failure) = refl
call_by c (Cancel i) = refl
call_by c (Claim i) = refl
call_by c (Finish i answer) = refl
call_by c (Tick now) = refl
call_by c (Attach form of function) = refl

told_rec : (plan : Planned) (history : List Event) (c place : ℕ) (call : Call) (reply : Reply) → reply ≡ (answered (state_at plan history (place - 1)) (event_by c call)).0 → Did place call reply ≡ told_of plan history (place, event_by c call)
told_rec plan history c place call reply e = (λ i. Did place (sym (call_by c call) i) (e i))

told_dids : (plan : Planned) (history : List Event) (c : ℕ) (rs : List Rec) → All (IsAnswered plan history) (records_by c rs) → only_dids rs ≡ map (told_of plan history) (dids c rs)
told_dids plan history c [] h = refl
told_dids plan history c (Did place call reply ∷ rs) h =
    let head = All-head (IsAnswered plan history) (record_by c (Did place call reply)) (records_by c rs) h in
    (λ i. told_rec plan history c place call reply head.2 i ∷ told_dids plan history c rs (All-tail (IsAnswered plan history) (record_by c (Did place call reply)) (records_by c rs) h) i)
told_dids plan history c (Saw place ask answer ∷ rs) h = told_dids plan history c rs (All-tail (IsAnswered plan history) (record_by c (Saw place ask answer)) (records_by c rs) h)

told_here : (plan : Planned) (xs ws : List Event) (w : Event) → told_of plan (xs ++ w ∷ ws) (suc (length xs), w) ≡ Did (suc (length xs)) (as_call w) ((answered (state_from plan xs) w).0)
told_here plan xs ws w =
    ap (λ (l : List Event). Did (suc (length xs)) (as_call w) ((answered (state_from plan l) w).0))
    (ap (λ (k : ℕ). take k (xs ++ w ∷ ws)) (let e : suc (length xs) - 1 ≡ length xs = omega arith in e) ∙ take-append_seam xs (w ∷ ws))

split_told : (f : ℕ × Event → Rec) (b : Bool) (p : ℕ × Event) (ps : List (ℕ × Event)) (r : Rec) (rs : List Rec) → f p ≡ r → map f ps ≡ rs → map f (cond b (p ∷ ps) ps) ≡ cond b (r ∷ rs) rs
split_told f true p ps r rs e h = (λ i. e i ∷ h i)
split_told f false p ps r rs e h = h

longer : (xs : List Event) (w : Event) → suc (length xs) ≡ length (xs ++ w ∷ [])
longer xs w = omega (arith, length-append xs (w ∷ []))

told_events : (plan : Planned) (c : ℕ) (xs ws : List Event) → map (told_of plan (xs ++ ws)) (filter (mine c) (placed (length xs) ws)) ≡ recorded c (length xs) (state_from plan xs) ws
told_events plan c xs [] = refl
told_events plan c xs (w ∷ ws) =
    split_told (told_of plan (xs ++ w ∷ ws)) (eqb (who_of w) c) (suc (length xs), w) (filter (mine c) (placed (suc (length xs)) ws))
    (Did (suc (length xs)) (as_call w) ((answered (state_from plan xs) w).0)) (recorded c (suc (length xs)) ((answered (state_from plan xs) w).1) ws)
    (told_here plan xs ws w)
    ((λ i. map (told_of plan (sym (append_assoc xs (w ∷ []) ws) i)) (filter (mine c) (placed (longer xs w i) ws)))
    ∙ told_events plan c (xs ++ w ∷ []) ws
    ∙ (λ i. recorded c (sym (longer xs w) i) (state_after-append (start plan) xs (w ∷ []) i) ws))

pub fits_recorded : (plan : Planned) (c : ℕ) (history : List Event) (rs : List Rec) → Fits plan c history rs → only_dids rs ≡ recorded c 0 (start plan) history
fits_recorded plan c history rs f = told_dids plan history c rs f.answers ∙ ap (map (told_of plan history)) f.did ∙ told_events plan c [] history

split_append : (r : Rec) (b : Bool) (xs ys zs : List Rec) → xs ≡ ys ++ zs → cond b (r ∷ xs) xs ≡ cond b (r ∷ ys) ys ++ zs
split_append r true xs ys zs e = ap (λ l. r ∷ l) e
split_append r false xs ys zs e = e

pub recorded_append : (c n : ℕ) (s : State) (xs ys : List Event) → recorded c n s (xs ++ ys) ≡ recorded c n s xs ++ recorded c (n + length xs) (state_after s xs) ys
recorded_append c n s [] ys = ap (λ (k : ℕ). recorded c k s ys) (let e : n ≡ n + 0 = omega arith in e)
recorded_append c n s (x ∷ xs) ys =
    let t = (answered s x).1 in
    split_append (Did (suc n) (as_call x) ((answered s x).0)) (eqb (who_of x) c) (recorded c (suc n) t (xs ++ ys)) (recorded c (suc n) t xs) (recorded c (n + suc (length xs)) (state_after t xs) ys)
    (recorded_append c (suc n) t xs ys ∙ ap (λ (k : ℕ). recorded c (suc n) t xs ++ recorded c k (state_after t xs) ys) (let e : suc n + length xs ≡ n + suc (length xs) = omega arith in e))

pub only_append : (rs qs : List Rec) → only_dids (rs ++ qs) ≡ only_dids rs ++ only_dids qs
only_append [] qs = refl
only_append (Did place call reply ∷ rs) qs = ap (λ l. Did place call reply ∷ l) (only_append rs qs)
only_append (Saw place ask answer ∷ rs) qs = only_append rs qs

-- work has no questions
pub only_work : (answers : Answers) (plan : Planned) (owed : Owed) (rs : List Rec) → AreWork answers plan owed rs → only_dids rs ≡ rs
only_work answers plan owed [] h = refl
only_work answers plan owed (Did place call reply ∷ rs) h = ap (λ l. Did place call reply ∷ l) (only_work answers plan (owed_by (Did place call reply)) rs h.1)
only_work answers plan None (Saw place ask answer ∷ rs) h = absurd h.0
only_work answers plan (Some owed) (Saw place ask answer ∷ rs) h = absurd h.0
