-- What calls do, once their pass has caught up.
use Rattle.std.proofs.Common.{◌≡◌, ◌⊎◌, ◌+◌, ◌<◌, ◌≤◌, ◌∙◌, ◌∷◌, ◌++◌, [], inl, inr, Bool, true, false, rules, List, length, length-append, sym, ap, arith, subst}
use Rattle.std.specs.Bool.{IsTrue}
use Rattle.cf_model.specs.declared.events.Reply.{Reply}
use Rattle.cf_model.specs.declared.calls.Call.{Call}
use Rattle.cf_desk.specs.declared.calls.Rec.{Rec}
use Rattle.cf_desk.specs.declared.calls.Rec.TheVariants.{Did}
use Rattle.cf_desk.specs.declared.faults.DeskFault.{DeskFault}
use Rattle.cf_desk.specs.declared.faults.DeskFault.TheVariants.{LogFull}
use Rattle.cf_model.specs.Calls.{event_by}
use Rattle.cf_desk.specs.Faults.{HasRoom, IsDue, IsFitting, IsOnStage}
use Rattle.cf_desk.specs.Results.{DeskAnswers, CaughtUp, IsRecorded, Refuses}
use Rattle.cf_desk.specs.Views.{Acts, Desk, Follows, IsSamePass, Pass, SeesFull}
use Rattle.cf_desk.proofs.Passes.{caught_as, caught_longer, still_fitting, still_on_stage}

pub is_true : IsTrue true
is_true = search rules

pub not_true : IsTrue false → ⊥
not_true h = search rules

caught_caller : (d : Desk) (p q : Pass) (knows : Type 0) → CaughtUp d knows p q → q.known.caller ≡ p.known.caller
caught_caller d p q knows (inl h) = ap (λ (x : Pass). x.known.caller) h.1
caught_caller d p q knows (inr h) = ap (λ (x : Pass). x.known.caller) h.1.is

pub caught_same : (d : Desk) (p q : Pass) (knows : Type 0) → CaughtUp d knows p q → IsSamePass p q
caught_same d p q knows (inl h) = let e = h.1 in (ap (λ (x : Pass). x.table) e, ap (λ (x : Pass). x.known.setting) e, ap (λ (x : Pass). x.known.caller) e, ap (λ (x : Pass). x.calls) e)
caught_same d p q knows (inr h) = let e = h.1.is in (ap (λ (x : Pass). x.table) e, ap (λ (x : Pass). x.known.setting) e, ap (λ (x : Pass). x.known.caller) e, ap (λ (x : Pass). x.calls) e)

module _ (d : Desk) (p m q : Pass) (call : Call) (known : Bool) (to : IsTrue known → IsOnStage p (event_by p.known.caller call)) (from : IsOnStage p (event_by p.known.caller call) → IsTrue known) (caught : CaughtUp d (IsTrue known) p m) where
  same : m.known.caller ≡ p.known.caller
  same = caught_caller d p m (IsTrue known) caught

  here : CaughtUp d (IsOnStage p (event_by p.known.caller call)) p m
  here = caught_as d p m (IsTrue known) (IsOnStage p (event_by p.known.caller call)) to from caught

  pub answered_there : (reply : Reply) → IsOnStage m (event_by m.known.caller call) → IsFitting m (event_by m.known.caller call) → HasRoom m → Acts m call reply q → DeskAnswers d p call reply q
  answered_there reply there fits room acts = record {
    found = m;
    caught = here;
    there = subst (λ n. IsOnStage m (event_by n call)) same there;
    fits = subst (λ n. IsFitting m (event_by n call)) same fits;
    room = room;
    acts = acts;
  }

  pub refused_there : (fault : DeskFault) → Follows m q → q.known.looks ≡ m.known.looks → (fault ≡ LogFull) ⊎ (q ≡ m) → IsDue q d (event_by m.known.caller call) fault → Refuses d p call q fault
  refused_there fault left looks unseen due = record {
    found = m;
    caught = here;
    left = left;
    looks = looks;
    unseen = unseen;
    due = subst (λ n. IsDue q d (event_by n call) fault) same due;
  }

-- what has only seen more has as much room
pub still_room : (p q : Pass) → Follows p q → HasRoom p → HasRoom q
still_room p q f h =
    let records = ap (λ (x : Pass). x.records) f.is in
    let calls = ap (λ (x : Pass). x.calls) f.is in
    subst (λ n. length q.records < n) (sym calls) (subst (λ (l : List Rec). length l < p.calls) (sym records) h)

pub due_full : (d : Desk) (p q : Pass) (call : Call) → Follows p q → IsOnStage p (event_by p.known.caller call) → IsFitting p (event_by p.known.caller call) → HasRoom p → SeesFull d q → IsDue q d (event_by p.known.caller call) LogFull
due_full d p q call f there fits room full = (still_on_stage p q (event_by p.known.caller call) f there, still_fitting p q (event_by p.known.caller call) f fits, still_room p q f room, full)

-- ---- what a call that is answered adds

found_longer : (d : Desk) (p q : Pass) (knows : Type 0) → CaughtUp d knows p q → length p.known.seen ≤ length q.known.seen
found_longer d p q knows (inl h) = (let e = ap (λ (x : Pass). length x.known.seen) h.1 in omega (arith, e))
found_longer d p q knows (inr h) = (let e = ap (λ (x : Pass). length x.known.seen) h.1.is in let more = caught_longer _ _ _ h.1.caught in omega (arith, e, more))

found_records : (d : Desk) (p q : Pass) (knows : Type 0) → CaughtUp d knows p q → q.records ≡ p.records
found_records d p q knows (inl h) = ap (λ (x : Pass). x.records) h.1
found_records d p q knows (inr h) = ap (λ (x : Pass). x.records) h.1.is

pub recorded : (d : Desk) (p q : Pass) (call : Call) (reply : Reply) → DeskAnswers d p call reply q → IsRecorded p call reply q
recorded d p q call reply h =
    let before = h.acts.before in
    let e = event_by h.found.known.caller call in
    let longer = found_longer d p h.found _ h.caught in
    let more = caught_longer _ _ before h.acts.caught in
    let seen = ap (λ (x : Pass). length x.known.seen) h.acts.is ∙ length-append before (e ∷ []) in
    record {
      place = length before + 1;
      after = omega (arith, longer, more);
      within = omega (arith, seen);
      records = ap (λ (x : Pass). x.records) h.acts.is ∙ ap (λ l. l ++ Did (length before + 1) call reply ∷ []) (found_records d p h.found _ h.caught);
    }
