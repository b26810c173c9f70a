-- What the rule of the row says of its words and seats.
use Rattle.std.specs.Prelude.{◌≡◌, ◌≢◌, ℕ, ◌<◌, ◌≤◌, Some, List, [], ◌∷◌, ◌++◌, length, map, slice_get, slice_set}
use Rattle.std.specs.List.{All, Contains}
use mathlib.Core.Option.{some}
use lib.ListN.{get_elem?}
use Rattle.cf_model.specs.declared.events.Event.{Event}
use Rattle.cf_model.specs.Calls.{who_of}
use Rattle.cf_desk.specs.declared.row.LogConfig.{LogConfig}
use Rattle.cf_desk.specs.declared.row.CallerView.{CallerView}
use Rattle.cf_event.specs.Events.{own}
use Rattle.cf_desk.specs.Rule.{IsRow, RowKept, longest}

-- the callers for which a seat stands
abbrev pub callers_of : List CallerView → List ℕ
callers_of v = map (λ (k : CallerView). k.caller) v

-- one list begins another
abbrev pub Begins : List Event → List Event → Type 0
Begins xs log = (rest : List Event) × (log ≡ xs ++ rest)

-- the second seat's list is the first's and then events of callers that aren't the first's
abbrev pub RowGoesOn : List CallerView → List CallerView → Type 0
RowGoesOn v w = (more : List Event) × (longest w ≡ longest v ++ more) × All (λ c. own c more ≡ []) (callers_of v)

-- the same, where all looks were made before so many words were filled
abbrev pub older : ℕ → CallerView → CallerView
older n k = record k { filled = n; before = k.looks }

-- All looks of a pass may have been made before the log was as long. Where the rule holds with one look more then, the pass has seen all
-- of the log, and the look is at its end.
pub record LooksAtEnd (t : LogConfig) (words : List ℕ) (views : List (List CallerView)) (log : List Event) : Type 0 where
  pub may_be : (id : ℕ) (k : CallerView) → get_elem? views id ≡ some (k ∷ []) → RowKept t words (slice_set views id (older (length log) k ∷ []))
  pub end : (id : ℕ) (k : CallerView) (n : ℕ) (now : List ℕ) → get_elem? views id ≡ some (k ∷ []) → RowKept t now (slice_set views id (record (older (length log) k) { looks = k.looks ++ n ∷ [] } ∷ [])) → (log ≡ k.seen) × (n ≡ length log)

-- The filled words are a front of the row, each the word of an event of one of the callers, on stages of the plan as the words
-- before it leave it. What a seat has seen begins them. No two seats share a caller of the desk. A filled place with an event of a seat's
-- caller is one that this seat has seen. Of two parts of one seat the list of the one that has seen less begins the other's, which
-- goes on with events of others. A look is added only while the log ends behind what the pass has seen.
pub record RowHolds (t : LogConfig) (words : List ℕ) (views : List (List CallerView)) : Type 0 where
  pub log : List Event
  pub filled : IsRow t log words
  pub seen : (id : ℕ) (v : List CallerView) → get_elem? views id ≡ some v → Begins (longest v) log
  pub apart : (i j : ℕ) (v w : List CallerView) (c : ℕ) → c < t.setting.callers → i ≢ j → get_elem? views i ≡ some v → get_elem? views j ≡ some w → Contains (callers_of v) c → ¬ Contains (callers_of w) c
  pub own_seen : (id : ℕ) (v : List CallerView) (p : ℕ) (e : Event) → get_elem? views id ≡ some v → slice_get log p ≡ Some e → Contains (callers_of v) (who_of e) → p < length (longest v)
  pub parts : (id : ℕ) (v w : List CallerView) → get_elem? views id ≡ some (v ++ w) → (length (longest v) ≤ length (longest w) → RowGoesOn v w) × (length (longest w) ≤ length (longest v) → RowGoesOn w v)
  pub looks : LooksAtEnd t words views log

-- whatever the rule holds of holds this
abbrev pub RowsHold : Type 0
RowsHold = (t : LogConfig) (words : List ℕ) (views : List (List CallerView)) → RowKept t words views → RowHolds t words views
