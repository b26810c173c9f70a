use Rattle.std.proofs.Common.{◌+◌, ◌≤◌, List, drop, length}
use Rattle.std.specs.Prelude.{vec_capacity}
use Rattle.cf_host.specs.Requests.{HearsAll}
use Rattle.cf_host.specs.declared.request.Request.{Request}
use Rattle.cf_host.proofs.requests.hear_all.Given as goal

-- what the rest leads to from here, all lead to from the start; and there are places for the rest
abbrev pub invariant-loop-told : goal.invariant-loop-told
invariant-loop-told l = record {
  hears : (end : List Request) → HearsAll l.takes_all (drop l.told-index l.lengths) l.requests.items end → HearsAll l.takes_all l.lengths l.initial.requests.items end;
  places : length l.requests.items + length (drop l.told-index l.lengths) ≤ vec_capacity l.requests;
}
