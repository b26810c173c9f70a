use Rattle.std.proofs.Common.{Some, ap, arith}
use Rattle.cf_example.specs.Hosting.{Now}
use Rattle.cf_example.proofs.Hosts.{last_turn, more_turns, refused_turn, same_lanes}
use Rattle.cf_example.proofs.hosting.run_lane.Goals as goal

pub turn-requires : goal.turn-requires
turn-requires g c =
    let start : Now g.row.F.Denot g.row.W.Denot = record { machine = c.args.machine.now; functions = c.args.functions.now; waiters = c.args.waiters.now; held = c.args.held } in
    let before : Now g.row.F.Denot g.row.W.Denot = record { machine = c.turns.machine; functions = c.turns.functions; waiters = c.turns.waiters; held = c.turns.holds } in
    let same = same_lanes c.calls_add_behind.ensures g.F.Functions.calls g.W.Waiters.wakes c.args.who c.args.lane c.turns.invariant.0 start before c.turns.invariant.1 in
    omega (arith, same, c.requires)

pub turns-preserved : goal.turns-preserved
turns-preserved g c =
    let start : Now g.row.F.Denot g.row.W.Denot = record { machine = c.args.machine.now; functions = c.args.functions.now; waiters = c.args.waiters.now; held = c.args.held } in
    let before : Now g.row.F.Denot g.row.W.Denot = record { machine = c.turns.machine; functions = c.turns.functions; waiters = c.turns.waiters; held = c.turns.holds } in
    more_turns g.F.Functions.calls g.W.Waiters.wakes c.args.who c.args.lane start before c.turn.new.machine c.turn.new.functions c.turn.new.waiters c.in-Ok-Some.field-0 _ c.in-Ok-Some.next c.turns.invariant.0 c.turns.invariant.1 c.in-Ok-Some.field-0-is
    (ap (λ h. Some h) c.in-Ok-Some.next-is) c.in-Ok-Some.ensures.turns

pub returns-in-Ok-None-clause-runs : goal.returns-in-Ok-None-clause-runs
returns-in-Ok-None-clause-runs g c =
    let start : Now g.row.F.Denot g.row.W.Denot = record { machine = c.args.machine.now; functions = c.args.functions.now; waiters = c.args.waiters.now; held = c.args.held } in
    let before : Now g.row.F.Denot g.row.W.Denot = record { machine = c.turns.machine; functions = c.turns.functions; waiters = c.turns.waiters; held = c.turns.holds } in
    last_turn c.each_stage_is_run_once.ensures c.calls_add_behind.ensures g.F.Functions.calls g.W.Waiters.wakes c.args.who c.args.lane start before c.turn.new.machine c.turn.new.functions c.turn.new.waiters c.in-Ok-None.field-0 c.turns.invariant.0
    c.turns.invariant.1 c.in-Ok-None.field-0-is c.in-Ok-None.ensures.turns c.in-Ok-None.ensures.none c.in-Ok-None.ensures.handed_out

pub returns-in-Err-clause-stopped : goal.returns-in-Err-clause-stopped
returns-in-Err-clause-stopped g c =
    let start : Now g.row.F.Denot g.row.W.Denot = record { machine = c.args.machine.now; functions = c.args.functions.now; waiters = c.args.waiters.now; held = c.args.held } in
    let before : Now g.row.F.Denot g.row.W.Denot = record { machine = c.turns.machine; functions = c.turns.functions; waiters = c.turns.waiters; held = c.turns.holds } in
    refused_turn c.each_stage_is_run_once.ensures c.calls_add_behind.ensures g.F.Functions.calls g.W.Waiters.wakes c.args.who c.args.lane start before c.turn.new.machine c.turn.new.functions c.turn.new.waiters c.in-Err.fault c.turns.invariant.0
    c.turns.invariant.1 c.in-Err.ensures.refused c.in-Err.ensures.functions c.in-Err.ensures.waiters c.in-Err.ensures.why
