-- What work is made of, and that it stays work as the plan grows.
use Rattle.std.proofs.Common.{◌≡◌, ℕ, ◌<◌, ◌≤◌, inl, inr, Option, Some, None, List, [], ◌∷◌, ◌++◌, length, sym, refl, ap, ◌∙◌, subst, length-append, arith}
use Rattle.std.specs.Prelude.{unwrap_or}
use Rattle.std.specs.Option.{option_map_or}
use Rattle.cf_forms.specs.declared.forms.Answer.{Answer}
use Rattle.cf_forms.specs.declared.forms.Args.{Args}
use Rattle.cf_pool.specs.Answering.{Answers, IsAnswer, MayAnswer}
use Rattle.cf_forms.specs.Plans.{Planned, PlannedStage, function_at}
use Rattle.cf_forms.proofs.ListLemmas.{slice_get-front}
use Rattle.cf_model.specs.declared.events.Event.{Event}
use Rattle.cf_model.specs.declared.events.Reply.{Reply}
use Rattle.cf_model.specs.declared.events.Reply.TheVariants.{Flag as ToldFlag, Claim as ToldClaim, Finish as ToldFinish, Tick as ToldTick, Attach as ToldAttach}
use Rattle.cf_model.specs.declared.replies.Claimed.TheVariants.{Granted, Settled as IsSettled, Taken, NotReady}
use Rattle.cf_model.specs.States.{State, start}
use Rattle.cf_model.specs.Events.{state_after}
use Rattle.cf_model.specs.Growth.{Grows}
use Rattle.cf_model.proofs.Histories.{state_after-append}
use Rattle.cf_model.proofs.Shape.{state_after-grows}
use Rattle.cf_model.specs.declared.calls.Call.{Call}
use Rattle.cf_model.specs.declared.calls.Call.TheVariants.{Complete, Fail, FailAs, Cancel, Claim, Finish, Tick, Attach}
use Rattle.cf_desk.specs.declared.calls.Rec.{Rec}
use Rattle.cf_desk.specs.declared.calls.Rec.TheVariants.{Did, Saw}
use Rattle.cf_desk.specs.declared.faults.DeskFault.{DeskFault}
use Rattle.cf_model.specs.Calls.{event_by}
use Rattle.cf_desk.specs.Faults.{HasRoom, IsOnStage}
use Rattle.cf_desk.specs.Log.{state_from}
use Rattle.cf_desk.specs.Results.{DeskAnswers, CaughtUp, Refuses}
use Rattle.cf_desk.specs.Views.{Acts, Desk, Follows, Pass, state_of}
use Rattle.cf_pool.specs.Jobs.{granted_by}
use Rattle.cf_pool.specs.Works.{AreWork, IsNext, Owed, owed_by}

-- ---- states that a pass has seen

-- the state of a pass that has seen more
pub goes_on_from : (p q : Pass) (seen : List Event) → q.known.setting ≡ p.known.setting → q.known.seen ≡ p.known.seen ++ seen → state_of q.known ≡ state_after (state_of p.known) seen
goes_on_from p q seen same on =
    ap (λ x. state_from x.plan q.known.seen) same ∙ ap (λ l. state_from p.known.setting.plan l) on ∙ state_after-append (start p.known.setting.plan) p.known.seen seen

-- its plan has grown
pub pass_grows : (p q : Pass) (seen : List Event) → q.known.setting ≡ p.known.setting → q.known.seen ≡ p.known.seen ++ seen → Grows (state_of p.known) (state_of q.known)
pass_grows p q seen same on = subst (Grows (state_of p.known)) (sym (goes_on_from p q seen same on)) (state_after-grows (state_of p.known) seen)

pub more_stages : (s r : State) → Grows s r → length s.plan.stages ≤ length r.plan.stages
more_stages s r g = let e = ap (λ (l : List PlannedStage). length l) g.stages in let l = length-append s.plan.stages g.more in omega arith

-- what a stage's function answers stays
pub function_stays : (s r : State) (i : ℕ) → Grows s r → i < length s.plan.stages → unwrap_or (function_at s.plan.stages i) 0 ≡ unwrap_or (function_at r.plan.stages i) 0
function_stays s r i g l =
    sym (ap (λ stages. unwrap_or (function_at stages i) 0) g.stages ∙ ap (λ (x : Option PlannedStage). unwrap_or (option_map_or (λ (p : PlannedStage). p.function) x None) 0) (slice_get-front s.plan.stages g.more i l))

pub answer_stays : (answers : Answers) (s r : State) (i : ℕ) (args : Args) (answer : Answer) → Grows s r → i < length s.plan.stages → MayAnswer answers s.plan.stages i args answer → MayAnswer answers r.plan.stages i args answer
answer_stays answers s r i args answer g l = subst (λ (n : ℕ). IsAnswer (answers n args) answer) (function_stays s r i g l)

-- ---- a call on stages that the pass knows, for which it needn't look

as_it_was : (d : Desk) (knows : Type 0) (p q : Pass) → knows → CaughtUp d knows p q → q ≡ p
as_it_was d knows p q k (inl h) = h.1
as_it_was d knows p q k (inr h) = absurd (h.0 k)

pub acts_known : (d : Desk) (p q : Pass) (call : Call) (reply : Reply) → IsOnStage p (event_by p.known.caller call) → DeskAnswers d p call reply q → Acts p call reply q × HasRoom p
acts_known d p q call reply there a =
    let same = as_it_was d (IsOnStage p (event_by p.known.caller call)) p a.found there a.caught in
    subst (λ (m : Pass). Acts m call reply q × HasRoom m) same (a.acts, a.room)

pub acts_looks : (p q : Pass) (call : Call) (reply : Reply) → Acts p call reply q → q.known.looks ≡ p.known.looks
acts_looks p q call reply a = ap (λ (h : Pass). h.known.looks) a.is

pub refuses_known : (d : Desk) (p q : Pass) (call : Call) (fault : DeskFault) → IsOnStage p (event_by p.known.caller call) → Refuses d p call q fault → Follows p q × (q.known.looks ≡ p.known.looks)
refuses_known d p q call fault there r =
    let same = as_it_was d (IsOnStage p (event_by p.known.caller call)) p r.found there r.caught in
    subst (λ (m : Pass). Follows m q × (q.known.looks ≡ m.known.looks)) same (r.left, r.looks)

-- ---- a record of work is a claim by one who owes nothing, or the finish that is owed

pub by_record : (answers : Answers) (plan : Planned) (P : Owed → Rec → Type 0)
    → ((place i : ℕ) (reply : Reply) → i < length plan.stages → P None (Did place (Claim i) reply))
    → ((place i : ℕ) (args : Args) (answer : Answer) (reply : Reply) → MayAnswer answers plan.stages i args answer → P (Some (i, args)) (Did place (Finish i answer) reply))
    → (o : Owed) (r : Rec) → IsNext answers plan o r → P o r
by_record answers plan P claims finishes None (Did place (Claim i) reply) h = claims place i reply h
by_record answers plan P claims finishes None (Did place (Finish i answer) reply) h = absurd h
by_record answers plan P claims finishes None (Did place (Complete i v) reply) h = absurd h
by_record answers plan P claims finishes None (Did place (Fail i code) reply) h = absurd h
by_record answers plan P claims finishes None (Did place (FailAs i failure) reply) h = absurd h
by_record answers plan P claims finishes None (Did place (Cancel i) reply) h = absurd h
by_record answers plan P claims finishes None (Did place (Tick now) reply) h = absurd h
by_record answers plan P claims finishes None (Did place (Attach form of function) reply) h = absurd h
by_record answers plan P claims finishes None (Saw place ask answer) h = absurd h
by_record answers plan P claims finishes (Some (j, args)) (Did place (Finish i answer) reply) h =
    subst (λ (k : ℕ). P (Some (k, args)) (Did place (Finish i answer) reply)) h.0 (finishes place i args answer reply h.1)
by_record answers plan P claims finishes (Some owed) (Did place (Claim i) reply) h = absurd h
by_record answers plan P claims finishes (Some owed) (Did place (Complete i v) reply) h = absurd h
by_record answers plan P claims finishes (Some owed) (Did place (Fail i code) reply) h = absurd h
by_record answers plan P claims finishes (Some owed) (Did place (FailAs i failure) reply) h = absurd h
by_record answers plan P claims finishes (Some owed) (Did place (Cancel i) reply) h = absurd h
by_record answers plan P claims finishes (Some owed) (Did place (Tick now) reply) h = absurd h
by_record answers plan P claims finishes (Some owed) (Did place (Attach form of function) reply) h = absurd h
by_record answers plan P claims finishes (Some owed) (Saw place ask answer) h = absurd h

-- ---- what is owed is the finish of a stage of the plan

-- what a claim's record makes owed
abbrev pub owed_as : ℕ → Option Args → Owed
owed_as i None = None
owed_as i (Some args) = Some (i, args)

pub owed_claim : (place i : ℕ) (reply : Reply) → owed_by (Did place (Claim i) reply) ≡ owed_as i (granted_by reply)
owed_claim place i (ToldFlag b) = refl
owed_claim place i (ToldClaim (Granted args)) = refl
owed_claim place i (ToldClaim IsSettled) = refl
owed_claim place i (ToldClaim Taken) = refl
owed_claim place i (ToldClaim NotReady) = refl
owed_claim place i (ToldFinish f) = refl
owed_claim place i (ToldTick t) = refl
owed_claim place i (ToldAttach a) = refl

-- the stage whose finish is owed is one of n
abbrev pub OwesBelow : ℕ → Owed → Type 0
OwesBelow n None = Unit {0}
OwesBelow n (Some owed) = owed.0 < n

granted_below : (n i : ℕ) (x : Option Args) → i < n → OwesBelow n (owed_as i x)
granted_below n i None l = tt
granted_below n i (Some args) l = l

owes_below : (answers : Answers) (plan : Planned) (o : Owed) (r : Rec) → IsNext answers plan o r → OwesBelow (length plan.stages) (owed_by r)
owes_below answers plan = by_record answers plan (λ o r. OwesBelow (length plan.stages) (owed_by r))
    (λ place i reply l. subst (OwesBelow (length plan.stages)) (sym (owed_claim place i reply)) (granted_below (length plan.stages) i (granted_by reply) l))
    (λ place i args answer reply is. tt)

-- ---- work over a plan is work over what it grows to

next_grown : (answers : Answers) (s r : State) → Grows s r → (o : Owed) (x : Rec) → IsNext answers s.plan o x → OwesBelow (length s.plan.stages) o → IsNext answers r.plan o x
next_grown answers s r g = by_record answers s.plan (λ o x. OwesBelow (length s.plan.stages) o → IsNext answers r.plan o x)
    (λ place i reply l owed. let more = more_stages s r g in omega (arith, l, more))
    (λ place i args answer reply may owed. (refl, answer_stays answers s r i args answer g owed may))

work_grown_on : (answers : Answers) (s r : State) (o : Owed) (rs : List Rec) → Grows s r → OwesBelow (length s.plan.stages) o → AreWork answers s.plan o rs → AreWork answers r.plan o rs
work_grown_on answers s r o [] g below h = tt
work_grown_on answers s r o (x ∷ rs) g below h =
    (next_grown answers s r g o x h.0 below, work_grown_on answers s r (owed_by x) rs g (owes_below answers s.plan o x h.0) h.1)

pub work_grown : (answers : Answers) (s r : State) (rs : List Rec) → Grows s r → AreWork answers s.plan None rs → AreWork answers r.plan None rs
work_grown answers s r rs g h = work_grown_on answers s r None rs g tt h
