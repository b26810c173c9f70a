use Rattle.std.proofs.Common.{◌+◌, ℕ, arith, drop, subst}
use Rattle.cf_ledger.specs.Ledgers.{stages_of}
use Rattle.cf_request.specs.Attaching.{TellsAttaches}
use Rattle.cf_request.specs.Gathering.{joins}
use Rattle.cf_request.proofs.Gathered.{joins_then, pair_there}
use Rattle.cf_request.proofs.gathering.join.Goals as goal

pub loop-source-init : goal.loop-source-init
loop-source-init c = record {
  onward = λ end h. h;
  root = c.requires.before;
  there = omega arith;
  room = (let room = c.requires.room in omega (arith, room));
  memory = (let memory = c.requires.memory in omega (arith, memory));
}

pub attach-root-requires-clause-there : goal.attach-root-requires-clause-there
attach-root-requires-clause-there c =
    let root = c.loop-source.invariant.root in
    let there = c.loop-source.invariant.there in
    let at = c.requires.there c.loop-source.source-index 0 (omega arith) in
    pair_there _ _ _ (omega (arith, root)) (omega (arith, at, there))

pub attach-root-requires-clause-room : goal.attach-root-requires-clause-room
attach-root-requires-clause-room c = let room = c.loop-source.invariant.room in omega (arith, room)

pub attach-root-requires-clause-memory : goal.attach-root-requires-clause-memory
attach-root-requires-clause-memory c = let memory = c.loop-source.invariant.memory in omega (arith, memory)

pub loop-source-preserved : goal.loop-source-preserved
loop-source-preserved c =
    let l = c.loop-source in
    let root = l.invariant.root in
    let there = l.invariant.there in
    let room = l.invariant.room in
    let memory = l.invariant.memory in
    let next = c.attach-root.ensures.next in
    let left = c.attach-root.ensures.room in
    let free = c.attach-root.ensures.memory in
    let at = c.attach-root.ensures.at in
    let here = stages_of l.teller.ledger in
    record {
      onward = λ end h. l.invariant.onward end
          (joins_then c.args.who c.args.how here l.root c.args.sources.now l.source-index l.teller c.attach-root.new.teller end (omega arith) c.attach-root.ensures.tells
          (subst (λ (n : ℕ). TellsAttaches 0 (joins c.args.who c.args.how (here + 1) n (drop (l.source-index + 1) c.args.sources.now)) c.attach-root.new.teller end) at
          (subst (λ (n : ℕ). TellsAttaches 0 (joins c.args.who c.args.how n c.attach-root.result (drop (l.source-index + 1) c.args.sources.now)) c.attach-root.new.teller end) (omega (arith, next, at)) h)));
      root = omega (arith, next);
      there = omega (arith, there, next, at);
      room = omega (arith, room, left);
      memory = omega (arith, memory, free);
    }
