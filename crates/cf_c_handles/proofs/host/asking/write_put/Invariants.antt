use Rattle.std.proofs.Common.{◌≡◌, ℕ, ◌<◌, ◌≤◌, length, min, slice_get}
use Rattle.cf_c_handles.specs.HostViews.{want_with}
use Rattle.cf_c_handles.proofs.host.asking.write_put.Given as goal

-- those so far are written
abbrev pub invariant-each : goal.invariant-each
invariant-each l = record {
  count : l.count ≡ min (length l.put) (length l.wants);
  reach : length l.rows ≡ length l.initial.rows;
  given : (k : ℕ) → k < l.k → slice_get l.rows k ≡ want_with (slice_get l.put k) (slice_get l.wants k);
  kept : (k : ℕ) → l.k ≤ k → slice_get l.rows k ≡ slice_get l.initial.rows k;
}
