-- When a process has something to do next, without an answer or a call.
use Rattle.std.specs.Prelude.{ℕ, ◌||◌, Bool, cond, leb, min, Option, Some, None, List, [], ◌∷◌, is_some}
use Rattle.cf_part.specs.Parts.{Part}
use Rattle.cf_turn.specs.Timers.{first_timer, never}
use Rattle.cf_turn.specs.Works.{Work}
use Rattle.cf_host.specs.declared.request.Request.{Request}
use Rattle.cf_host.specs.declared.ticket.Asked.{Asked}
use Rattle.cf_host.specs.declared.ticket.Asked.TheVariants.{Beats, News, Open, Row, Call, Act}
use Rattle.cf_host.specs.declared.ticket.Ticket.{Ticket}
use Rattle.cf_host.specs.Pulses.{later_by}

-- the least of what these come to
abbrev pub least : {A : Type 0} → (A → ℕ) → List A → ℕ
least of [] = never
least of (x ∷ xs) = min (of x) (least of xs)

-- ---- timers

abbrev pub moment_of : ℕ → Option Work → ℕ
moment_of clock None = never
moment_of clock (Some w) = first_timer clock w.part

-- the first of all
abbrev pub first_moment : ℕ → List Request → ℕ
first_moment clock requests = least (λ (r : Request). moment_of clock r.work) requests

-- ---- requests

-- where nothing is open, and it goes on: when it is asked again
abbrev pub wake_in : ℕ → Part → ℕ
wake_in now p = cond (is_some p.asked || is_some p.fault || leb p.retry now) never p.retry

abbrev pub wake_by : ℕ → Option Work → Bool → ℕ → ℕ
wake_by now None is_done retry = cond is_done never retry
wake_by now (Some w) is_done retry = wake_in now w.part

abbrev pub wake_of : ℕ → Request → ℕ
wake_of now r = wake_by now r.work (r.is_asked || r.is_dropped) r.retry

abbrev pub first_wake : ℕ → List Request → ℕ
first_wake now requests = least (wake_of now) requests

-- ---- users

-- when a user has waited long enough
abbrev pub patience_by : Asked → ℕ → ℕ
patience_by Beats asked = never
patience_by News asked = never
patience_by (Open request) asked = never
patience_by (Row request) asked = never
patience_by (Call request stage) asked = never
patience_by (Act request) asked = later_by 60000 asked

abbrev pub patience_of : Ticket → ℕ
patience_of t = patience_by t.of t.asked

abbrev pub first_patience : List Ticket → ℕ
first_patience waiting = least patience_of waiting
