use Rattle.std.proofs.Common.{◌≡◌, map, subst}
use Rattle.cf_event.specs.Words.{word_of}
use Rattle.cf_row.specs.Rows.{Replica, history_of, words_in}
use Rattle.cf_row.proofs.Landing.{never_misfits}
use Rattle.cf_row.proofs.replica.Replica.replay_own.Goals as goal

pub unreachable-requires : goal.unreachable-requires
unreachable-requires c =
    never_misfits c.args.self.now c.replay.new.self c.args.put.now c.in_default.field-0.place c.in_default.field-0.why (subst (λ (r : Replica). words_in r.seen ≡ map word_of (history_of r.seen)) c.self.view_is c.self.invariant.kept.named) c.requires.own c.requires.memory
    c.in_default.ensures.front c.in_default.ensures.why
