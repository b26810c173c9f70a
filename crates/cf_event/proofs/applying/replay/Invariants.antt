use Rattle.std.proofs.Common.{◌≤◌, drop}
use Rattle.cf_model.specs.Graphs.{Graph}
use Rattle.cf_model.specs.Ranges.{EventsFit}
use Rattle.cf_event.specs.Replays.{Replays}
use Rattle.cf_event.proofs.applying.replay.Given as goal

-- whatever the rest leads to from here, the whole leads to from the start; the rest fits, and turns are only added
abbrev pub invariant-loop-i : goal.invariant-loop-i
invariant-loop-i l = record {
  rest : (end : Graph) → Replays (drop l.i l.nudges) (drop l.i l.events) l.g end → Replays l.nudges l.events l.fn.g end;
  fits : EventsFit l.g.state (drop l.i l.events);
  counted : l.fn.g.turns ≤ l.g.turns;
}
