-- How the passes of a race begin.
use Rattle.std.proofs.Common.{◌≡◌, ◌==◌, ℕ, zero, suc, ◌+◌, ◌<◌, ◌≤◌, ◌⊎◌, inl, inr, true, List, [], ◌∷◌, ◌++◌, length, map, take, drop, get_or, sym, refl, ap, ◌∙◌, subst, arith, length-append}
use Rattle.std.specs.List.{All}
use Rattle.std.proofs.lemmas.List.{take_more}
use Rattle.std.proofs.lemmas.List.Elements.{All-nil, All-cons, All-head, All-tail, All-get_or, All-weaker}
use Rattle.cf_model.specs.declared.events.Event.{Event}
use Rattle.cf_model.specs.declared.events.Event.TheVariants.{Complete as Completes, Fail as Fails, FailAs as FailsAs, Cancel as Cancels, Claim as Claims, Finish as Finishes, Tick as Ticks, Attach as Attaches}
use Rattle.cf_model.specs.declared.events.Reply.{Reply}
use Rattle.cf_model.specs.Events.{answered, state_after}
use Rattle.cf_model.specs.Ranges.{EventFits, EventsFit}
use Rattle.cf_model.specs.States.{State, start}
use Rattle.cf_model.proofs.Shape.{state_after-grows}
use Rattle.cf_pool.proofs.Working.{more_stages}
use Rattle.std.proofs.lemmas.Bool.Decides.{nat_tests}
use Rattle.cf_model.specs.declared.calls.Call.{Call}
use Rattle.cf_desk.specs.declared.calls.Rec.{Rec}
use Rattle.cf_desk.specs.declared.calls.Rec.TheVariants.{Did, Saw}
use Rattle.cf_desk.specs.declared.faults.DeskFault.{DeskFault}
use Rattle.cf_desk.specs.declared.faults.DeskFault.TheVariants.{NoStage, BadAttach, LogFull, PassFull}
use Rattle.cf_desk.specs.declared.row.DeskConfig.{DeskConfig}
use Rattle.cf_desk.specs.Faults.{AttachFits, EventNames, IsDue, IsFitting, IsOnStage}
use Rattle.cf_desk.specs.Laws.{call_of}
use Rattle.cf_event.specs.Events.{own}
use Rattle.cf_desk.specs.Log.{state_from}
use Rattle.cf_desk.specs.Records.{dids, Fits}
use Rattle.cf_desk.specs.Results.{DeskAnswers, CaughtUp, Refuses}
use Rattle.cf_desk.specs.Rule.{blank, fresh, with_seen}
use Rattle.cf_desk.specs.Views.{Acts, Follows, IsOf, Pass, Meets, Desk, SeesFull, new_pass, opened, state_of}
use Rattle.cf_desk.proofs.Events.{fits_more as event_fits_more}
use Rattle.cf_desk.proofs.Recs.{fits_did, fits_more, fits_new, own_call}
use Rattle.cf_model.specs.Calls.{as_call, event_by, is_from_outside}
use Rattle.cf_pool.specs.Races.{AreSteps, IsStep, race_functions}
use Rattle.cf_pool.specs.Beginnings.{HasTaken, HaveBegun, IsApart, IsHeldUp, IsIdle, HasDoneSteps}

-- ---- the steps

-- a step is caller 0's call
same_who : (who : ℕ) → (who == 0) ≡ true → 0 ≡ who
same_who who e = grind (arith, nat_tests)

step_by : (e : Event) → is_from_outside e ≡ true → event_by 0 (as_call e) ≡ e
step_by (Completes who i v) h = ap (λ (w : ℕ). Completes w i v) (same_who who h)
step_by (Fails who i code) h = ap (λ (w : ℕ). Fails w i code) (same_who who h)
step_by (FailsAs who i failure) h = ap (λ (w : ℕ). FailsAs w i failure) (same_who who h)
step_by (Cancels who i) h = ap (λ (w : ℕ). Cancels w i) (same_who who h)
step_by (Claims who i) h = cc
step_by (Finishes who i answer) h = cc
step_by (Ticks who now) h = ap (λ (w : ℕ). Ticks w now) (same_who who h)
step_by (Attaches who form of function) h = ap (λ (w : ℕ). Attaches w form of function) (same_who who h)

calls_push : (c : ℕ) (rs : List Rec) (place : ℕ) (call : Call) (reply : Reply) → map call_of (dids c (rs ++ Did place call reply ∷ [])) ≡ map call_of (dids c rs) ++ event_by c call ∷ []
calls_push c [] place call reply = refl
calls_push c (Did p d r ∷ rs) place call reply = ap (λ l. event_by c d ∷ l) (calls_push c rs place call reply)
calls_push c (Saw p a t ∷ rs) place call reply = calls_push c rs place call reply

pub none_taken : (d : Desk) (calls : ℕ) (steps : List Event) (p : Pass) → IsIdle d calls p → p.known.caller ≡ 0 → HasTaken d steps 0 p
none_taken d calls steps p h zeroth = record {
  of = h.of;
  caller = zeroth;
  fit = subst (λ (l : List Event). Fits p.known.setting.plan p.known.caller l p.records) (sym h.unseeing)
      (subst (Fits p.known.setting.plan p.known.caller []) (sym h.idle) (fits_new p.known.setting.plan p.known.caller));
  held = ap length h.idle;
  did = ap (λ l. map call_of (dids 0 l)) h.idle;
}

-- one step more
one_acted : (d : Desk) (steps : List Event) (k : ℕ) (e : Event) (call : Call) (reply : Reply) (p q : Pass) → HasTaken d steps k p → k < length steps → All IsStep steps → call ≡ as_call (get_or steps k e) → Acts p call reply q → HasTaken d steps (k + 1) q
one_acted d steps k e call reply p q h lt are is a = subst (HasTaken d steps (k + 1)) (sym a.is) (record {
  of = h.of;
  caller = h.caller;
  fit = fits_did p.known.setting.plan p.known.caller a.before p.records call reply (own_call p.known.caller call) a.replied
      (fits_more p.known.setting.plan p.known.caller p.known.seen a.before p.records a.caught h.fit);
  held = length-append p.records (Did (length a.before + 1) call reply ∷ []) ∙ ap (λ (m : ℕ). m + 1) h.held;
  did = calls_push 0 p.records (length a.before + 1) call reply
      ∙ (λ i. h.did i ++ event_by 0 (is i) ∷ [])
      ∙ ap (λ (x : Event). take k steps ++ x ∷ []) (step_by (get_or steps k e) (All-get_or IsStep steps k e lt are).0)
      ∙ sym (take_more steps k e lt);
})

-- a pass that has seen more
none_more : (d : Desk) (steps : List Event) (k : ℕ) (p q : Pass) → HasTaken d steps k p → Follows p q → HasTaken d steps k q
none_more d steps k p q h f = subst (HasTaken d steps k) (sym f.is) (record {
  of = h.of;
  caller = h.caller;
  fit = fits_more p.known.setting.plan p.known.caller p.known.seen f.now p.records f.caught h.fit;
  held = h.held;
  did = h.did;
})

-- or had to catch up
found_taken : (d : Desk) (steps : List Event) (k : ℕ) (knows : Type 0) (p found : Pass) → HasTaken d steps k p → CaughtUp d knows p found → HasTaken d steps k found
found_taken d steps k knows p found h (inl as_it_was) = subst (HasTaken d steps k) (sym as_it_was.1) h
found_taken d steps k knows p found h (inr looked) = none_more d steps k p found h looked.1

-- one step more, by a pass that may have had to catch up first
pub one_taken : (d : Desk) (steps : List Event) (k : ℕ) (e : Event) (call : Call) (reply : Reply) (p q : Pass) → HasTaken d steps k p → k < length steps → All IsStep steps → call ≡ as_call (get_or steps k e) → DeskAnswers d p call reply q → HasTaken d steps (k + 1) q
one_taken d steps k e call reply p q h lt are is answers =
    one_acted d steps k e call reply answers.found q (found_taken d steps k (IsOnStage p (event_by p.known.caller call)) p answers.found h answers.caught) lt are is answers.acts

-- a step that is refused
pub step_refused : (d : Desk) (steps : List Event) (k : ℕ) (e : Event) (call : Call) (fault : DeskFault) (p q : Pass) → HasTaken d steps k p → k < length steps → All IsStep steps → call ≡ as_call (get_or steps k e)
    → Refuses d p call q fault → HasDoneSteps d steps q
step_refused d steps k e call fault p q h lt are is refused =
    let found = found_taken d steps k (IsOnStage p (event_by p.known.caller call)) p refused.found h refused.caught in
    let event : event_by p.known.caller call ≡ get_or steps k e = (λ i. event_by (h.caller i) (is i)) ∙ step_by (get_or steps k e) (All-get_or IsStep steps k e lt are).0 in
    record {
      taken = k;
      few = omega arith;
      done = none_more d steps k refused.found q found refused.left;
      all = inr (record { few = lt; fault = fault; default = e; due = subst (λ (x : Event). IsDue q d x fault) event refused.due });
    }

-- ---- a step that fits, where caller 0 has seen its own alone, is refused for a full log alone

-- what fits is on stages that are there
fits_names : (n : ℕ) (e : Event) → EventFits n e → EventNames n e
fits_names n (Completes who i v) fits = fits
fits_names n (Fails who i code) fits = fits
fits_names n (FailsAs who i failure) fits = fits
fits_names n (Cancels who i) fits = fits
fits_names n (Claims who i) fits = fits
fits_names n (Finishes who i answer) fits = fits
fits_names n (Ticks who now) fits = fits
fits_names n (Attaches who form of function) fits = fits.1

-- each of the events fits where it stands
fits_at : (s : State) (events : List Event) (k : ℕ) (e : Event) → k < length events → EventsFit s events → EventFits (length (state_after s (take k events)).plan.stages) (get_or events k e)
fits_at s [] k e lt fits = absurd (omega arith)
fits_at s (x ∷ events) zero e lt fits = fits.0
fits_at s (x ∷ events) (suc k) e lt fits = fits_at ((answered s x).1) events k e (omega arith) fits.1

-- events that name some stages that are there alone fit, whatever is attached before them
pub fits_below : (n : ℕ) (s : State) (events : List Event) → n ≤ length s.plan.stages → All (EventFits n) events → EventsFit s events
fits_below n s [] le fits = tt
fits_below n s (e ∷ events) le fits =
    let next = (answered s e).1 in
    let more = more_stages s next (state_after-grows s (e ∷ [])) in
    (event_fits_more n (length s.plan.stages) e le (All-head (EventFits n) e events fits), fits_below n next events (omega (arith, le, more)) (All-tail (EventFits n) e events fits))

pub held_up_by_log : (d : Desk) (steps : List Event) (k calls : ℕ) (p : Pass) → HasTaken d steps k p → d.setting.functions ≡ race_functions → AreSteps d.setting.plan steps → p.known.seen ≡ take k steps → p.calls ≡ calls → length steps < calls
    → IsHeldUp d steps k p → SeesFull d p
held_up_by_log d steps k calls p h functions are seen room enough held = by_cause held.fault held.due
  where
    e : Event
    e = get_or steps k held.default

    state : state_of p.known ≡ state_after (start d.setting.plan) (take k steps)
    state = ap (λ (s : DeskConfig). state_from s.plan p.known.seen) h.of.1 ∙ ap (state_from d.setting.plan) seen

    there : IsOnStage p e
    there = fits_names (length (state_of p.known).plan.stages) e
        (subst (λ (s : State). EventFits (length s.plan.stages) e) (sym state) (fits_at (start d.setting.plan) steps k held.default held.few are.1))

    fits : IsFitting p e
    fits = subst (λ (n : ℕ). AttachFits n e) (sym functions ∙ sym (ap (λ (s : DeskConfig). s.functions) h.of.1)) (All-get_or IsStep steps k held.default held.few are.0).1

    by_cause : (fault : DeskFault) → IsDue p d e fault → SeesFull d p
    by_cause NoStage due = absurd (due there)
    by_cause BadAttach due = absurd (due.1 fits)
    by_cause PassFull due = absurd (let full = due.2 in let few = held.few in let recorded = h.held in omega arith)
    by_cause LogFull due = due.3

-- ---- the others

none_before : (xs ys : List Event) → [] ≡ xs ++ ys → xs ≡ []
none_before [] ys e = refl
none_before (x ∷ xs) ys e = absurd (let l = ap length e in omega arith)

-- caller 0 has seen what it had seen
met_seen : (p q p' q' : Pass) → q.known.seen ≡ [] → (m : Meets p q p' q') → m.all ≡ p.known.seen
met_seen p q p' q' none m = split m.either
  where
    split : (m.all ≡ p.known.seen) ⊎ (m.all ≡ q.known.seen) → m.all ≡ p.known.seen
    split (inl e) = e
    split (inr e) = let nothing : m.all ≡ [] = e ∙ none in nothing ∙ sym (none_before p.known.seen m.begins_left.others (sym nothing ∙ m.begins_left.joined))

pub met_first : (p q p' q' : Pass) → q.known.seen ≡ [] → Meets p q p' q' → p' ≡ p
met_first p q p' q' none m = m.left ∙ ap (λ (l : List Event). let h : Pass = record p { known = with_seen l p.known } in h) (met_seen p q p' q' none m)

pub met_other : (d : Desk) (calls : ℕ) (p q p' q' : Pass) → IsIdle d calls q → Meets p q p' q' → IsApart d calls p.known.seen q'
met_other d calls p q p' q' idle m =
    let all = met_seen p q p' q' idle.unseeing m in
    let others : m.all ≡ m.begins_right.others = m.begins_right.joined ∙ ap (λ l. l ++ m.begins_right.others) idle.unseeing in
    subst (IsApart d calls p.known.seen) (sym m.right) (record {
      of = idle.of;
      idle = idle.idle;
      none = ap (own q.known.caller) (sym all ∙ others) ∙ m.begins_right.none;
      room = idle.room;
    })

-- ---- the new passes

idle_new : (d : Desk) (calls c n : ℕ) → All (IsIdle d calls) (map (new_pass d.table calls) (fresh d.setting c n))
idle_new d calls c zero = All-nil (IsIdle d calls)
idle_new d calls c (suc n) =
    All-cons (IsIdle d calls) (new_pass d.table calls (blank d.setting c)) (map (new_pass d.table calls) (fresh d.setting (suc c) n))
    (record { of = (refl, refl); idle = refl; unseeing = refl; room = refl }) (idle_new d calls (suc c) n)

pub record Parted (d : Desk) (calls : ℕ) (p : Pass) (ps : List Pass) : Type 0 where
  pub zeroth : p.known.caller ≡ 0
  pub first : IsIdle d calls p
  pub others : All (IsIdle d calls) ps

parted_new : (d : Desk) (calls n : ℕ) (p : Pass) (ps : List Pass) → 0 < n → p ≡ get_or (map (new_pass d.table calls) (fresh d.setting 0 n)) 0 p → ps ≡ drop 1 (map (new_pass d.table calls) (fresh d.setting 0 n)) → Parted d calls p ps
parted_new d calls zero p ps l first others = absurd (omega arith)
parted_new d calls (suc n) p ps l first others = record {
  zeroth = ap (λ (h : Pass). h.known.caller) first;
  first = subst (IsIdle d calls) (sym first) (record { of = (refl, refl); idle = refl; unseeing = refl; room = refl });
  others = subst (All (IsIdle d calls)) (sym others) (idle_new d calls 1 n);
}

pub parted : (d : Desk) (calls : ℕ) (all : List Pass) (p : Pass) (ps : List Pass) → 0 < d.setting.callers → all ≡ opened d.table d.setting calls → p ≡ get_or all 0 p → ps ≡ take 0 all ++ drop 1 all → Parted d calls p ps
parted d calls all p ps l is first others =
    parted_new d calls d.setting.callers p ps l (first ∙ ap (λ (h : List Pass). get_or h 0 p) is) (others ∙ ap (drop 1) is)

-- all are of the desk
pub begun_of : (d : Desk) (steps : List Event) (calls : ℕ) (ps : List Pass) → HaveBegun d steps calls ps → All (IsOf d) ps
begun_of d steps calls ps h = subst (All (IsOf d)) (sym h.are)
    (All-cons (IsOf d) h.first h.others h.took.done.of (All-weaker (IsApart d calls h.first.known.seen) (IsOf d) (λ p a. a.of) h.others h.apart))
