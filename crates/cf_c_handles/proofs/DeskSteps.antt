-- What a caller of a desk holds is finished or comes late, and a row of completions goes on.
use Rattle.std.proofs.Common.{◌≡◌, ◌≢◌, ◌==◌, ◌⊎◌, inl, inr, ⊎_elim, ℕ, ◌+◌, ◌<◌, ◌≤◌, Bool, true, false, cond, Option, Some, None, Result, Ok, Err, List, [], ◌∷◌, ◌++◌, get_or, length, set, take, sym, refl, ap, ◌∙◌, subst, arith}
use Rattle.std.proofs.lemmas.List.{take_more}
use Rattle.std.proofs.lemmas.Bool.Decides.{nat_tests}
use Rattle.std.proofs.lemmas.Option.{slice_get-get_or, slice_get_past}
use Rattle.std.specs.Option.{option_map_or}
use Rattle.cf_outcome.specs.declared.outcome.Outcome.{Outcome}
use Rattle.std.specs.Arc.{arc_value}
use Rattle.cf_forms.specs.declared.forms.Answer.{Answer}
use Rattle.cf_forms.specs.declared.forms.Args.{Args}
use Rattle.cf_model.specs.declared.events.Reply.{Reply}
use Rattle.cf_model.specs.declared.events.Reply.TheVariants.{Claim as ToldClaim, Finish as ToldFinish}
use Rattle.cf_model.specs.declared.replies.Claimed.TheVariants.{Granted}
use Rattle.cf_model.specs.declared.replies.Finished.{Finished}
use Rattle.cf_model.specs.declared.replies.Finished.TheVariants.{Won, Late, NotYours}
use Rattle.cf_model.specs.Events.{finished_by, finishing}
use Rattle.cf_model.specs.States.{State, claim_at, lowest_ready_of, outcome_at}
use Rattle.cf_model.specs.declared.calls.Call.TheVariants.{Claim, Finish}
use Rattle.cf_desk.specs.Log.{state_from}
use Rattle.cf_desk.specs.declared.faults.DeskFault.{DeskFault}
use Rattle.cf_desk.specs.Results.{DeskAnswers, Refuses}
use Rattle.cf_desk.specs.Views.{Acts, Desk, Follows, HoldsClaim, IsSamePass, LooksOnce, Pass, state_of}
use Rattle.cf_desk.proofs.OpenClaims.{claims_stay_open}
use Rattle.cf_ledger.specs.declared.step.Held.{Held}
use Rattle.cf_c_handles.specs.DeskTasks.{AreCompleted, Claims, DeskTakes, Ends, Finishes, IsFinished, CompletesMany, IsNotGranted, IsRow, StepsCaller, StepsDesk, call_of, reply_number}
use Rattle.cf_c_handles.specs.Desks.{IsSameCaller}
use Rattle.cf_c_handles.specs.Tasks.{held_by}
use Rattle.cf_c_handles.specs.Codes.{desk_code}
use Rattle.cf_c_handles.specs.declared.code.Code.{Code}
use Rattle.cf_c_handles.specs.declared.code.Code.TheVariants.{Lost, NoStage, NotHeld}
use Rattle.cf_c_handles.specs.declared.handle.object.Caller.{Caller as Caller'}
use Rattle.cf_c_handles.specs.declared.handle.object.Object.{Object}
use Rattle.cf_c_handles.specs.declared.handle.object.Object.TheVariants.{Caller}
use Rattle.cf_c_handles.specs.declared.values.CfGiven.{CfGiven}
use Rattle.cf_c_handles.specs.declared.values.task.CfTask.{CfTask}

finish_by : (b : Bool) (x : Option Outcome) (s t : State) (i : ℕ) (answer : Answer) → b ≡ true → ((cond b (finished_by x s i answer) (NotYours, t)).0 ≡ Won) ⊎ ((cond b (finished_by x s i answer) (NotYours, t)).0 ≡ Late)
finish_by true None s t i answer e = inl refl
finish_by true (Some o) s t i answer e = inr refl
finish_by false x s t i answer e = (let no : ⊥ = cc in absurd no)

same_number : (n : ℕ) → (n == n) ≡ true
same_number n = grind (arith, nat_tests)

finish_mine : (s : State) (who i : ℕ) (answer : Answer) → claim_at s i ≡ Some who → ((finishing s who i answer).0 ≡ Won) ⊎ ((finishing s who i answer).0 ≡ Late)
finish_mine s who i answer e =
    finish_by (option_map_or (λ w. w == who) (claim_at s i) false) (outcome_at s i) (record s { claims = set s.claims i None }) s i answer
    (ap (λ (x : Option ℕ). option_map_or (λ w. w == who) x false) e ∙ same_number who)

pub held_finish : (d : Desk) (p q : Pass) (i : ℕ) (answer : Answer) (reply : Reply) → HoldsClaim p i → DeskAnswers d p (Finish i answer) reply q → (reply ≡ ToldFinish Won) ⊎ (reply ≡ ToldFinish Late)
held_finish d p q i answer reply h a =
    let same : a.found ≡ p = ⊎_elim (λ x. x.1) (λ x. absurd (x.0 h.0)) a.caught in
    let acts : Acts p (Finish i answer) reply q = subst (λ (f : Pass). Acts f (Finish i answer) reply q) same a.acts in
    let mine = claims_stay_open p.known.setting.plan p.known.caller i p.known.seen acts.before acts.caught h.1 in
    ⊎_elim (λ e. inl (acts.replied ∙ ap (λ (f : Finished). ToldFinish f) e)) (λ e. inr (acts.replied ∙ ap (λ (f : Finished). ToldFinish f) e))
    (finish_mine (state_from p.known.setting.plan acts.before) p.known.caller i answer mine)

-- and so is C told
pub held_finished : (d : Desk) (h : Held) (p q : Pass) (reply : Reply) → HoldsClaim p h.stage → DeskAnswers d p (Finish h.stage h.answer) reply q → IsFinished d h p (reply_number reply) q
held_finished d h p q reply held a =
    ⊎_elim (λ e. record { held = held; reply = Won; answers = subst (λ (r : Reply). DeskAnswers d p (Finish h.stage h.answer) r q) e a; tells = ap (λ (n : ℕ). let r : Result ℕ Code = Ok n in r) (sym (ap reply_number e)) })
    (λ e. record { held = held; reply = Late; answers = subst (λ (r : Reply). DeskAnswers d p (Finish h.stage h.answer) r q) e a; tells = ap (λ (n : ℕ). let r : Result ℕ Code = Ok n in r) (sym (ap reply_number e)) })
    (held_finish d p q h.stage h.answer reply held a)

-- one stage more is completed
completed_push : (d : Desk) (xs : List CfGiven) (x : CfGiven) (p q r : Pass) (reply : Reply) → AreCompleted d xs p q → DeskAnswers d q (call_of x) reply r → AreCompleted d (xs ++ x ∷ []) p r
completed_push d [] x p q r reply h a = (r, (reply, subst (λ (s : Pass). DeskAnswers d s (call_of x) reply r) h a), refl)
completed_push d (y ∷ ys) x p q r reply h a = (h.0, h.1, completed_push d ys x h.0 q r reply h.2 a)

pub completed_more : (d : Desk) (xs : List CfGiven) (k : ℕ) (x : CfGiven) (p q r : Pass) (reply : Reply) → k < length xs → AreCompleted d (take k xs) p q → DeskAnswers d q (call_of (get_or xs k x)) reply r
    → AreCompleted d (take (k + 1) xs) p r
completed_more d xs k x p q r reply l h a = subst (λ (ys : List CfGiven). AreCompleted d ys p r) (sym (take_more xs k x l)) (completed_push d (take k xs) (get_or xs k x) p q r reply h a)

-- all are completed, or the next one is refused
pub row_done : (d : Desk) (given : List CfGiven) (k : ℕ) (p q : Pass) → length given ≤ k → k ≤ length given → AreCompleted d (take k given) p q → IsRow d given p (Ok tt) q (length given)
row_done d given k p q past few h =
    let same : k ≡ length given = omega arith in
    record {
      few = omega arith;
      found = q;
      front = subst (λ (n : ℕ). AreCompleted d (take n given) p q) same h;
      ends = subst (λ (x : Option CfGiven). Ends d x q (Ok tt) q) (sym (slice_get_past given (length given) (omega arith))) (refl, refl);
    }

pub row_refused : (d : Desk) (given : List CfGiven) (k : ℕ) (x : CfGiven) (p found q : Pass) (why : DeskFault) → k < length given → AreCompleted d (take k given) p found
    → Refuses d found (call_of (get_or given k x)) q why → IsRow d given p (Err (desk_code why)) q k
row_refused d given k x p found q why l h a =
    record {
      few = omega arith;
      found = found;
      front = h;
      ends = subst (λ (y : Option CfGiven). Ends d y found (Err (desk_code why)) q) (sym (slice_get-get_or given k x l)) (record { why = why; refuses = a; tells = refl });
    }

-- ---- the ways in which a step goes

pub not_there : (d : Desk) (h : Held) (p : Pass) → length (state_of p.known).plan.stages ≤ h.stage → Finishes d (Some h) p (Err NoStage) p
not_there d h p past = inl (refl, past, refl)

pub not_held : (d : Desk) (h : Held) (p : Pass) → h.stage < length (state_of p.known).plan.stages → (HoldsClaim p h.stage → ⊥) → Finishes d (Some h) p (Err NotHeld) p
not_held d h p there none = inr (inl (refl, there, (λ e. none (there, e)), refl))

pub finish_refused : (d : Desk) (h : Held) (p q : Pass) (why : DeskFault) (code : Code) → HoldsClaim p h.stage → Refuses d p (Finish h.stage h.answer) q why → code ≡ desk_code why → Finishes d (Some h) p (Err code) q
finish_refused d h p q why code held a is = inr (inr (held, record { why = why; refuses = a; tells = is }))

pub claim_lost : (d : Desk) (i : ℕ) (p q : Pass) (reply : Reply) → DeskAnswers d p (Claim i) reply q → ((args : Args) → reply ≢ ToldClaim (Granted args)) → IsNotGranted d i p Lost q
claim_lost d i p q reply a lost = inl (refl, record { reply = reply; answers = a; lost = lost })

pub claim_refused : (d : Desk) (i : ℕ) (p q : Pass) (why : DeskFault) (code : Code) → Refuses d p (Claim i) q why → code ≡ desk_code why → IsNotGranted d i p code q
claim_refused d i p q why code a is = inr (record { why = why; refuses = a; tells = is })

-- what is ready after a look is claimed
pub takes_found : (d : Desk) (p found q : Pass) (ready : Option ℕ) (had has : CfTask) (r : Result (Unit {0}) Code) → Follows p found → LooksOnce d p found → ready ≡ lowest_ready_of (state_of found.known) → Claims d ready found had r has q
    → DeskTakes d p had r has q
takes_found d p found q ready had has r seen looks told claims = record { found = found; seen = seen; looks = looks; claims = subst (λ (x : Option ℕ). Claims d x found had r has q) told claims }

pub step_done : (c now : Caller') (between : Pass) (had has : CfTask) (told : ℕ) (r : Result (Unit {0}) Code) → Finishes (arc_value c.desk) (held_by had) c.pass (Ok told) between
    → DeskTakes (arc_value c.desk) between (record had { finished = told }) r has now.pass → StepsDesk had has c r now
step_done c now between had has told r finishes takes = inl (record { told = told; between = between; finishes = finishes; takes = takes })

pub step_refused : (c now : Caller') (had : CfTask) (code : Code) → Finishes (arc_value c.desk) (held_by had) c.pass (Err code) now.pass → StepsDesk had had c (Err code) now
step_refused c now had code finishes = inr (record { code = code; told = refl; finishes = finishes; task = refl })

-- ---- behind the handle

pub steps_at : (h : Object) (c d : Caller') (had has : CfTask) (r : Result (Unit {0}) Code) → h ≡ Caller c → IsSameCaller c d → StepsDesk had has c r d → StepsCaller had has h r (Caller d)
steps_at h c d had has r is same steps = rw is (record { now = d; is = refl; same = same; asked = steps })

pub many_at : (h : Object) (c d : Caller') (desk : Desk) (given : List CfGiven) (had has : ℕ) (r : Result (Unit {0}) Code) → h ≡ Caller c → d.desk ≡ c.desk → desk ≡ arc_value c.desk → IsSamePass c.pass d.pass → IsRow desk given c.pass r d.pass has
    → CompletesMany given h had r (Caller d) has
many_at h c d desk given had has r is shared at same row = rw is (record { now = d; is = refl; same = record { desk = shared; pass = same }; asked = subst (λ (x : Desk). IsRow x given c.pass r d.pass has) at row })
