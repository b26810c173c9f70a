use Rattle.std.proofs.Common.{subst}
use Rattle.cf_row.specs.Rows.{Replica}
use Rattle.cf_row.proofs.Landing.{never_misfits}
use Rattle.cf_part.proofs.Seen.{AreNamed}
use Rattle.cf_part.proofs.seeing.see_own.Goals as goal

pub unreachable-requires : goal.unreachable-requires
unreachable-requires c =
    never_misfits c.args.row.now.replica c.see.new.row.replica c.args.put.now c.in_default.field-0.place c.in_default.field-0.why
    (subst (λ (r : Replica). AreNamed r.seen) c.replica.ensures c.ledger.ensures.named) c.requires.own c.requires.memory
    c.in_default.ensures.front.replays c.in_default.ensures.why
