use Rattle.std.proofs.Common.{◌≡◌, ◌+◌, drop}
use Rattle.std.specs.Prelude.{nat_le}
use Rattle.std.specs.List.{prefix_len}
use Rattle.cf_forms.specs.declared.limits.Limit.{Limit}
use Rattle.cf_reference.proofs.graph.limits.due_count.Given as goal

-- those so far, and those that follow, are all of them
abbrev pub invariant-loop-limit : goal.invariant-loop-limit
invariant-loop-limit l = record {
  all : l.count + prefix_len (λ (limit : Limit). nat_le limit.at l.now) (drop l.limit-index l.limits) ≡ prefix_len (λ (limit : Limit). nat_le limit.at l.now) l.limits;
  counted : l.count ≡ l.limit-index;
}
