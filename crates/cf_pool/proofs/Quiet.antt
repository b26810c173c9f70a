-- A run before which no claim was open ends quiet.
use Rattle.std.proofs.Common.{◌≡◌, ℕ, Bool, true, false, Option, Some, None, List, [], ◌∷◌, map, sym, refl, ap, ◌∙◌}
use Rattle.std.specs.List.{All}
use Rattle.std.proofs.lemmas.Bool.{false_from_ne_true}
use Rattle.std.proofs.lemmas.List.Elements.{All-contains, All-head, All-tail}
use Rattle.cf_pool.specs.Answering.{Answers}
use Rattle.cf_model.specs.declared.events.Event.{Event}
use Rattle.cf_model.specs.declared.events.Reply.{Reply}
use Rattle.cf_model.specs.declared.calls.Call.{Call}
use Rattle.cf_model.specs.declared.calls.Call.TheVariants.{Complete, Fail, FailAs, Cancel, Claim, Finish, Tick, Attach}
use Rattle.cf_model.specs.Calls.{event_by}
use Rattle.cf_model.specs.States.{State, claim_at, stage_at}
use Rattle.cf_model.proofs.ClaimedStages.{is_claimed}
use Rattle.cf_model.proofs.LowestReady.{lowest_ready-none}
use Rattle.cf_expr.specs.Histories.{IsQuiet, is_work}
use Rattle.cf_expr.proofs.Quiet.{is_quiet}
use Rattle.cf_desk.specs.declared.calls.Kept.{Kept}
use Rattle.cf_desk.specs.declared.calls.Rec.{Rec}
use Rattle.cf_desk.specs.declared.calls.Rec.TheVariants.{Did, Saw}
use Rattle.cf_desk.specs.Laws.{call_of}
use Rattle.cf_desk.specs.Records.{dids}
use Rattle.cf_desk.specs.Views.{Desk, Pass}
use Rattle.cf_pool.specs.Claims.{open_after, open_by}
use Rattle.cf_pool.specs.Closings.{RanOut}
use Rattle.cf_pool.specs.PlainRuns.{made_by}
use Rattle.cf_pool.specs.Works.{owed_by}
use Rattle.cf_pool.proofs.ClaimedStages.{claimed_open}

-- the record leaves nothing owed, and opens no claim
pub record IsNoWork (r : Rec) : Type 0 where
  pub owes : owed_by r ≡ None
  pub opens : (i : ℕ) (was : Bool) → open_by i was r ≡ true → was ≡ true

pub step_no_work : (c place : ℕ) (call : Call) (reply : Reply) → is_work (event_by c call) ≡ false → IsNoWork (Did place call reply)
step_no_work c place (Complete i v) reply h = record { owes = refl; opens = λ j was e. e }
step_no_work c place (Fail i code) reply h = record { owes = refl; opens = λ j was e. e }
step_no_work c place (FailAs i failure) reply h = record { owes = refl; opens = λ j was e. e }
step_no_work c place (Cancel i) reply h = record { owes = refl; opens = λ j was e. e }
step_no_work c place (Claim i) reply h = cc
step_no_work c place (Finish i answer) reply h = cc
step_no_work c place (Tick now) reply h = record { owes = refl; opens = λ j was e. e }
step_no_work c place (Attach form of function) reply h = record { owes = refl; opens = λ j was e. e }

-- none of the calls that the pass has made is work
abbrev pub MadeNoWork : Pass → Type 0
MadeNoWork p = All (λ e. is_work e ≡ false) (made_by p)

opened_none : (c i : ℕ) (was : Bool) (rs : List Rec) → All (λ e. is_work e ≡ false) (map call_of (dids c rs)) → open_after i was rs ≡ true → was ≡ true
opened_none c i was [] h e = e
opened_none c i was (Saw place ask answer ∷ rs) h e = opened_none c i was rs h e
opened_none c i was (Did place call reply ∷ rs) h e =
    let calls = map call_of (dids c rs) in
    let none = step_no_work c place call reply (All-head (λ x. is_work x ≡ false) (event_by c call) calls h) in
    none.opens i was (opened_none c i (open_by i was (Did place call reply)) rs (All-tail (λ x. is_work x ≡ false) (event_by c call) calls h) e)

pub quiet : (answers : Answers) (d : Desk) (ps : List Pass) (history : List Event) (kept : List Kept) (graph : State) → All MadeNoWork ps → RanOut answers d ps history kept graph → IsQuiet graph
quiet answers d ps history kept graph made o =
    is_quiet graph (lowest_ready-none graph o.none) (λ i. false_from_ne_true (is_claimed (stage_at graph i)) (λ c. by_claim i c (claim_at graph i) refl))
  where
    by_claim : (i : ℕ) → is_claimed (stage_at graph i) ≡ true → (x : Option ℕ) → claim_at graph i ≡ x → ⊥
    by_claim i c None e =
        claimed_open d.setting.plan history i (ap (λ (s : State). is_claimed (stage_at s i)) (sym o.ran.graph_is) ∙ c) (ap (λ (s : State). claim_at s i) (sym o.ran.graph_is) ∙ e)
    by_claim i c (Some who) e =
        let was = o.claims i who e in
        let no = opened_none was.by.known.caller i false was.by.records (All-contains MadeNoWork ps was.by made was.there) was.unfinished in cc
