-- The order of the log beside the order in time.
use Rattle.std.specs.Prelude.{◌≡◌, ℕ, ◌+◌, List, [], ◌∷◌, ◌++◌, length, slice_index, slice_set}
use mathlib.Core.Option.{some}
use lib.ListN.{get_elem?}
use Rattle.cf_model.specs.declared.events.Event.{Event}
use Rattle.cf_model.specs.declared.events.Reply.{Reply}
use Rattle.cf_model.specs.declared.calls.Call.{Call}
use Rattle.cf_model.specs.Calls.{who_of}
use Rattle.cf_desk.specs.declared.calls.Rec.TheVariants.{Did}
use Rattle.cf_desk.specs.declared.row.LogConfig.{LogConfig}
use Rattle.cf_desk.specs.declared.row.CallerView.{CallerView}
use Rattle.cf_desk.specs.Rule.{RowKept, saw}
use Rattle.cf_desk.specs.Rows.{Begins}
use Rattle.cf_desk.specs.Results.{DeskAnswers}
use Rattle.cf_desk.specs.Views.{Desk, Pass, own_event, seen_by}

-- what is written into an empty word leaves the log as it was, or goes on behind it
abbrev pub LogsOnlyGrow : Type 0
LogsOnlyGrow =
    (t : LogConfig) (words : List ℕ) (before now : List (List CallerView)) (i n : ℕ) (h : RowKept t words before) (g : RowKept t (slice_set words i n) now) →
    slice_index words i ≡ 0 → Begins h.log g.log

-- where a pass adds its own event by such a write, it had seen all of the log by then
abbrev pub CallsComeLast : Type 0
CallsComeLast =
    (t : LogConfig) (words : List ℕ) (views : List (List CallerView)) (id i n : ℕ) (k : CallerView) (e : Event) (h : RowKept t words views) →
    RowKept t (slice_set words i n) (slice_set views id (saw k e ∷ [])) → get_elem? views id ≡ some (k ∷ []) → who_of e ≡ k.caller → slice_index words i ≡ 0 → h.log ≡ k.seen

-- a call's event stands behind these, and its record has its place
pub record StandsBehind (seen : List Event) (p : Pass) (call : Call) (reply : Reply) (q : Pass) : Type 0 where
  pub between : List Event
  pub events : seen_by q ≡ seen ++ between ++ own_event p call ∷ []
  pub records : q.records ≡ p.records ++ Did (length seen + length between + 1) call reply ∷ []

-- a call stands behind all that begins what its pass has seen, as the events of a notice that it heeded do
abbrev pub CallsComeAfterWhatWasSeen : Type 0
CallsComeAfterWhatWasSeen =
    (d : Desk) (p q : Pass) (call : Call) (reply : Reply) (seen : List Event) → Begins seen (seen_by p) → DeskAnswers d p call reply q → StandsBehind seen p call reply q
