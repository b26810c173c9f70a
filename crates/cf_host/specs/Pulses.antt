-- When a process beats.
use Rattle.std.specs.Prelude.{ℕ, ◌+◌, ◌/◌, Bool, true, false, Option, Some, None, max, min}
use Rattle.cf_host.specs.declared.clock.Reading.{Reading}
use Rattle.cf_host.specs.declared.pulse.Pulse.{Pulse}
use Rattle.cf_host.specs.Clocks.{due_at}

-- so much later, or never
abbrev pub later_by : ℕ → ℕ → ℕ
later_by span now = min (now + span) 18446744073709551615

-- what the store's clock has come to at least
abbrev pub clock_of : Option Reading → ℕ
clock_of None = 0
clock_of (Some r) = r.shown

-- when to look at the store's clock for a moment: once it surely shows that, and not right behind a look
abbrev pub looks_at : Reading → ℕ → ℕ
looks_at r moment = max (min (due_at r moment) 18446744073709551615) (later_by 20 r.now)

-- when the next question is due, if this is the first moment of a timer that hasn't come
abbrev pub beats_at_by : Option Reading → ℕ → ℕ → ℕ
beats_at_by None next timer = next
beats_at_by (Some r) next timer = min next (looks_at r timer)

abbrev pub beats_at : Pulse → ℕ → ℕ
beats_at p timer = beats_at_by p.reading p.next timer

abbrev pub beats_asked : ℕ → ℕ → Pulse → Pulse
beats_asked now lease p = record p { is_asked = true; next = later_by (lease / 5) now }

abbrev pub beats_answered : Reading → Pulse → Pulse
beats_answered r p = record p { is_asked = false; reading = Some r }

abbrev pub beats_silent : ℕ → Pulse → Pulse
beats_silent now p = record p { is_asked = false; next = later_by 20 now }
