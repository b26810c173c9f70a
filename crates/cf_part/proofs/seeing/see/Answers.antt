use Rattle.std.proofs.Common.{subst}
use Rattle.cf_row.specs.Rows.{Replica}
use Rattle.cf_part.proofs.Seen.{AreNamed, memory_next, named_next, sees_next}
use Rattle.cf_part.proofs.seeing.see.Goals as goal

pub loop-place-preserved : goal.loop-place-preserved
loop-place-preserved c =
    let before = subst (λ (r : Replica). AreNamed r.seen) c.replica.ensures c.ledger.ensures.named in
    let l = c.loop-place in
    record {
      sees = sees_next c.args.row.now l.row c.see_one.new.row c.args.notes.now l.notes c.see_one.new.notes c.args.entries.now c.args.said.now l.place _ _ c.loop-place-test.true c.requires.each before
          l.invariant.named l.invariant.sees c.in-Ok.ensures.seen;
      named = named_next c.args.entries.now l.place _ l.row c.see_one.new.row l.notes c.see_one.new.notes _ c.loop-place-test.true l.invariant.named c.in-Ok.ensures.seen;
      memory = memory_next c.args.entries.now l.place l.row c.see_one.new.row l.notes c.see_one.new.notes _ _ l.invariant.memory c.in-Ok.ensures.seen;
      stages = c.in-Ok.ensures.stages;
    }
