use Rattle.std.proofs.Common.{arith, get_or}
use Rattle.std.specs.Prelude.{slice_get, unwrap_or}
use Rattle.cf_event.specs.Replays.{EventAnswers, Nudges, Replays}
use Rattle.cf_event.proofs.Replays.{replays-all, replays-state, rest_after, rest_fits}
use Rattle.cf_event.proofs.applying.replay.Goals as goal

pub loop-i-preserved : goal.loop-i-preserved
loop-i-preserved c =
    let before = c.loop-i.g in
    let nudged = c.nudge.new.self in
    let done = c.answer.new.self in
    let n : Nudges (unwrap_or (slice_get c.args.nudges.now c.loop-i.i) 0) before nudged =
    record { state = c.nudge.ensures.unchanged; counted = (let rise = c.nudge.ensures.counted in omega arith); few = (let rise = c.nudge.ensures.counted in let most = c.nudge.ensures.at_most in let asked = c.nudge_at.ensures in omega arith); all = λ l. c.nudge.ensures.all (let rise = c.nudge.ensures.counted in let asked = c.nudge_at.ensures in omega (arith, l, rise, asked)) } in
    let a : EventAnswers (get_or c.args.events.now c.loop-i.i _) nudged done = record { reply = c.answer.result; told = c.answer.ensures.told; counted = c.answer.ensures.counted.counted; rests = c.answer.ensures.rests } in
    record {
      rest = λ end r. c.loop-i.invariant.rest end (rest_after c.args.nudges.now c.args.events.now c.loop-i.i _ before nudged done end (omega arith) n a r);
      fits = rest_fits c.args.events.now c.loop-i.i _ _ before nudged done (omega arith) c.loop-i.invariant.fits n a;
      counted = (let first = c.loop-i.invariant.counted in let second = n.counted in let third = c.answer.ensures.counted.counted in omega arith);
    }

pub returns : goal.returns
returns c =
    let all : Replays c.args.nudges.now c.args.events.now c.args.g.now c.loop-i.g = c.loop-i.invariant.rest c.loop-i.g (replays-all _ c.args.events.now c.loop-i.i c.loop-i.g c.loop-i-test.false) in
    record {
      replayed = all;
      state = replays-state c.args.nudges.now c.args.events.now c.args.g.now c.loop-i.g all;
      counted = c.loop-i.invariant.counted;
    }
