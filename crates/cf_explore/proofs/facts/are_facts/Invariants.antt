use Rattle.std.proofs.Common.{◌≡◌, drop}
use Rattle.std.specs.List.{list_all}
use Rattle.cf_explore.specs.Conditions.{is_fact}
use Rattle.cf_explore.proofs.facts.are_facts.Given as goal

-- what is left decides
abbrev pub invariant-loop-fact : goal.invariant-loop-fact
invariant-loop-fact l = list_all (is_fact l.s) (drop l.fact-index l.facts) ≡ list_all (is_fact l.s) l.facts
