use Rattle.std.proofs.Common.{◌≡◌, ℕ, ◌<◌, ◌≤◌, length, slice_get}
use Rattle.std.specs.Option.{option_map}
use Rattle.cf_ledger.specs.Ledgers.{state_of}
use Rattle.cf_c_handles.specs.Ledgers.{news_in}
use Rattle.cf_c_handles.proofs.ledger.telling.write_stages.Given as goal

abbrev pub invariant-each : goal.invariant-each
invariant-each l = record {
  reach : length l.news ≡ length l.initial.news;
  given : (k : ℕ) → k < l.k → slice_get l.news k ≡ option_map (news_in (state_of l.ledger)) (slice_get l.stages k);
  kept : (k : ℕ) → l.k ≤ k → slice_get l.news k ≡ slice_get l.initial.news k;
}
