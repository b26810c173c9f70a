-- What a caller's two calls in a row add, and what an account of a closed desk says.
use Rattle.std.specs.Prelude.{◌≡◌, ℕ, ◌<◌, [], ◌∷◌, ◌++◌, map}
use Rattle.cf_forms.specs.Plans.{Planned}
use Rattle.cf_model.specs.declared.calls.Call.{Call}
use Rattle.cf_model.specs.declared.events.Reply.{Reply}
use Rattle.cf_desk.specs.declared.calls.Closed.{Closed}
use Rattle.cf_desk.specs.declared.calls.Rec.TheVariants.{Did}
use Rattle.cf_desk.specs.Keepings.{caller_kept}
use Rattle.cf_desk.specs.Views.{Pass}
use Rattle.cf_history.specs.declared.history.History.{History}
use Rattle.cf_history.specs.Laws.{CheckTells}

-- two records are added, of these calls with these replies, the second one's place behind the first one's
abbrev pub AddsTwo : Pass → Call → Call → Reply × Reply → Pass → Type 0
AddsTwo before one other replies after =
    (p q : ℕ) × (p < q) × (after.records ≡ before.records ++ Did p one replies.0 ∷ Did q other replies.1 ∷ [])

-- an account says what the closed desk of this plan hands out
abbrev pub SaysWhatIsKept : Planned → Closed → History → Type 0
SaysWhatIsKept plan closed account =
    CheckTells plan account.functions closed.history.items (map caller_kept closed.passes.items) account
