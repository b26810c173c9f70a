use Rattle.std.proofs.Common.{◌≡◌, ◌≤◌, ◌+◌, ◌++◌, ℕ, List, length, vec_len, vec_capacity}
use Rattle.std.specs.List.{AllZip}
use Rattle.std.specs.Vec.Iter.{into_iter_items, into_iter_len}
use Rattle.crossbeam_utils.specs.Seq.{cell_view}
use Rattle.cf_threads.specs.Teams.{IsLeft, turns_of}
use Rattle.cf_threads.specs.Turns.{weigh}
use Rattle.cf_threads.specs.declared.team.Ended.{Ended}
use Rattle.cf_threads.specs.declared.turn.Turn.{Turn}
use Rattle.cf_threads.proofs.team.take_all_back.Given as goal

abbrev pub invariant-next : goal.invariant-next
invariant-next g l = record {
  done : List (Ended g.row.F.Denot);
  parts : l.fn.ended.items ≡ done ++ into_iter_items l.rest;
  left : vec_len l.back + into_iter_len l.rest ≤ vec_capacity l.back;
  table : l.all.table_id ≡ l.initial.all.table_id;
  keeps : (cell_view l.all).keeps ≡ (cell_view l.initial.all).keeps;
  knows : (cell_view l.all).all ≡ (cell_view l.initial.all).all;
  shares : (cell_view l.all).parts ≡ (cell_view l.initial.all).parts + length done;
  weighs : (weight : Turn → ℕ) → weigh weight (cell_view l.all).mine ≡ weigh (λ w. weigh weight (turns_of w)) l.back.items;
  workers : AllZip IsLeft done l.back.items;
}

abbrev pub decreases-next : goal.decreases-next
decreases-next g l = into_iter_len l.rest
