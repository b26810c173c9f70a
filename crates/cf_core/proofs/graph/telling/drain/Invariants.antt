use Rattle.std.proofs.Common.{◌≡◌, ◌+◌, ◌≤◌, length}
use Rattle.std.specs.Prelude.{count_by, vec_capacity}
use Rattle.cf_core.proofs.Keeping.Flags.{Taken}
use Rattle.cf_core.proofs.graph.telling.drain.Given as goal

-- what is written are the numbers whose flags were taken down, and there is room for those that are left
abbrev pub invariant-loop-i : goal.invariant-loop-i
invariant-loop-i l = record {
  taken : Taken l.initial.flags l.flags l.initial.news.items l.news.items;
  room : vec_capacity l.news ≡ vec_capacity l.initial.news;
  fits : length l.news.items + count_by (λ b. b) l.flags ≤ vec_capacity l.news;
  flags : length l.flags ≡ length l.initial.flags;
}

abbrev pub decreases-loop-i : goal.decreases-loop-i
decreases-loop-i l = count_by (λ b. b) l.flags
