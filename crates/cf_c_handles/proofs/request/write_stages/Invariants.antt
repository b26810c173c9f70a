use Rattle.std.proofs.Common.{◌≡◌, ℕ, ◌<◌, ◌≤◌, length, slice_get}
use Rattle.std.specs.Option.{option_map}
use Rattle.cf_ledger.specs.Ledgers.{state_of}
use Rattle.cf_c_handles.specs.Requests.{told_in}
use Rattle.cf_c_handles.proofs.request.write_stages.Given as goal

abbrev pub invariant-each : goal.invariant-each
invariant-each l = record {
  reach : length l.row ≡ length l.initial.row;
  given : (k : ℕ) → k < l.k → slice_get l.row k ≡ option_map (told_in (state_of l.ledger)) (slice_get l.stages k);
  kept : (k : ℕ) → l.k ≤ k → slice_get l.row k ≡ slice_get l.initial.row k;
}
