use Rattle.std.proofs.Common.{ℕ, List, ap, arith, length, subst, sym}
use Rattle.cf_ledger.specs.Ledgers.{state_of}
use Rattle.cf_request.specs.Ready.{Lanes}
use Rattle.cf_request.specs.Refusals.{HasLane, IsEnded}
use Rattle.cf_request.specs.Relays.{IsRelayOr}
use Rattle.cf_request.proofs.Memory.{spends_settle, stage_waits, stages_fewer}
use Rattle.cf_request.proofs.Behind.{looked_none, looked_settle}
use Rattle.cf_request.proofs.Turns.{dues_more, dues_none, follows_kept, keeps_settle}
use Rattle.cf_request.proofs.refusals.end_all.Goals as goal

pub loop-due-init : goal.loop-due-init
loop-due-init c = record {
  settles = dues_none (IsRelayOr c.args.relays.now.follows.items (IsEnded c.args.teller.now.lanes.of c.args.ending)) c.args.who c.args.teller.now;
  relays = c.requires.relays;
  seen = looked_none _ c.args.teller.now.told c.args.relays.now.follows.items (state_of c.args.teller.now.ledger).stages (ap (λ (l : List ℕ). length l) c.told.ensures.told) c.requires.none_behind;
  lane = c.requires.lane;
  memory = c.requires.memory;
}

pub settle-requires-clause-memory : goal.settle-requires-clause-memory
settle-requires-clause-memory c =
    let some = stage_waits (state_of c.loop-due.teller.ledger) c.in-Some.due.stage c.in-Some.ensures.is_open in
    let enough = c.loop-due.invariant.memory in
    omega (arith, some, enough)

pub loop-due-smaller : goal.loop-due-smaller
loop-due-smaller c = stages_fewer c.args.who c.in-Some.due c.loop-due.teller c.settle.new.teller c.in-Some.ensures.is_open c.settle.ensures

pub loop-due-preserved : goal.loop-due-preserved
loop-due-preserved c =
    let a = c.args.teller.now in
    let b = c.loop-due.teller in
    let e = c.settle.new.teller in
    let d = c.in-Some.due in
    let due = subst (λ (l : Lanes). IsRelayOr c.args.relays.now.follows.items (IsEnded l.of c.args.ending) b d) c.loop-due.invariant.settles.lanes c.in-Some.ensures.due in
    let keeps = keeps_settle c.args.who d b e c.settle.ensures in
    let fewer = stages_fewer c.args.who d b e c.in-Some.ensures.is_open c.settle.ensures in
    let one = spends_settle c.args.who d b e c.settle.ensures in
    let enough = c.loop-due.invariant.memory in
    record {
      settles = dues_more (IsRelayOr c.args.relays.now.follows.items (IsEnded a.lanes.of c.args.ending)) c.args.who a b e d c.loop-due.invariant.settles c.in-Some.ensures.is_open due c.settle.ensures;
      relays = follows_kept b e c.args.relays.now.follows.items keeps c.loop-due.invariant.relays;
      seen = looked_settle c.next_ended.new.seen c.args.relays.now.follows.items c.args.who d b e c.settle.ensures c.next_ended.ensures.seen;
      lane = subst (λ (l : Lanes). HasLane l.count c.args.ending) (sym keeps.lanes) c.loop-due.invariant.lane;
      memory = omega (arith, fewer, one, enough);
    }
