use Rattle.std.proofs.Common.{◌≡◌, ◌+◌, ◌≤◌, length, take, vec_capacity}
use Rattle.cf_row.specs.Puts.{stamped}
use Rattle.cf_row.proofs.row.stamp.Given as goal

-- the words so far stand there with their tokens
abbrev pub invariant-loop-word : goal.invariant-loop-word
invariant-loop-word l = record {
  written : l.put.items ≡ stamped l.first (take l.word-index l.words);
  count : length l.put.items ≡ l.word-index;
  room : length l.words ≤ vec_capacity l.put;
  kept : vec_capacity l.put ≡ vec_capacity l.initial.put;
  token : l.token ≡ l.first + l.word-index;
}
