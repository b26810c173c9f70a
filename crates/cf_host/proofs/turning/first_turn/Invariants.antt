use Rattle.std.proofs.Common.{◌≡◌, ℕ, ◌≤◌, length}
use Rattle.std.specs.Prelude.{slice_get}
use Rattle.cf_turn.specs.Turns.{moment_of}
use Rattle.cf_host.specs.Hosts.{RestTo}
use Rattle.cf_host.proofs.turning.first_turn.Given as goal

-- those so far rest, and the others are as they were
abbrev pub invariant-loop-place : goal.invariant-loop-place
invariant-loop-place l = record {
  count : length l.requests ≡ length l.initial.requests;
  rest : RestTo (moment_of l.now l.watch l.clock l.may_claim) l.place l.initial.requests l.requests;
  others : (k : ℕ) → l.place ≤ k → slice_get l.requests k ≡ slice_get l.initial.requests k;
}
