use Rattle.std.proofs.Common.{◌≡◌, ◌≤◌, ◌++◌, drop, vec_len, vec_capacity}
use Rattle.cf_event.specs.Decoding.{decoded}
use Rattle.cf_desk.proofs.desk.closing.decode_row.Given as goal

abbrev pub invariant-loop-place : goal.invariant-loop-place
invariant-loop-place l = record {
  so_far : decoded l.row.words.items ≡ l.history.items ++ decoded (drop l.place l.row.words.items);
  count : vec_len l.history ≡ l.place;
  room : l.words ≤ vec_capacity l.history;
}
