use Rattle.std.proofs.Common.{◌≡◌, ◌+◌, ◌++◌, ◌≤◌, length, replicate, vec_capacity}
use Rattle.cf_part.proofs.growing.add_more.Given as goal

-- so many values stand behind those that were there
abbrev pub invariant-loop-place : goal.invariant-loop-place
invariant-loop-place g l = record {
  written : l.items.items ≡ l.initial.items.items ++ replicate l._place l.value;
  room : length l.initial.items.items + l.more ≤ vec_capacity l.initial.items;
  kept : vec_capacity l.items ≡ vec_capacity l.initial.items;
}
