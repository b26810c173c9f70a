use Rattle.std.proofs.Common.{◌≡◌, ℕ, ◌-◌, drop}
use Rattle.cf_host.specs.Busy.{AreBusy}
use Rattle.cf_host.proofs.busy.free_threads.Given as goal

-- behind what the rest takes, all take the same
abbrev pub invariant-loop-request : goal.invariant-loop-request
invariant-loop-request l =
    (rest : ℕ) → AreBusy (drop l.request-index l.requests) rest → (all : ℕ) × AreBusy l.requests all × (l.free - rest ≡ l.threads - all)
