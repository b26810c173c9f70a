use Rattle.std.proofs.Common.{◌≡◌, ap, length, subst, sym, ◌∙◌}
use Rattle.std.specs.Prelude.{Some}
use Rattle.cf_event.specs.Decoding.{event_of}
use Rattle.cf_ledger.specs.Ledgers.{AreTaken}
use Rattle.cf_model.specs.States.{start}
use Rattle.cf_row.specs.Rows.{Replica, history_of}
use Rattle.cf_part.proofs.Seen.{AreNamed, room_left, sees_one, stages_then}
use Rattle.cf_part.proofs.seeing.see_one.Goals as goal

pub take-requires : goal.take-requires
take-requires c =
    let named = subst (λ (r : Replica). AreNamed r.seen) c.replica.ensures c.ledger.ensures.named in
    let taken = subst (λ (r : Replica). AreTaken (start r.plan) (history_of r.seen)) c.replica-replica.ensures c.ledger-2.ensures.taken in
    let read : event_of c.args.entry.word ≡ Some c.in-Some.event = sym c.decode.ensures.value ∙ c.in-Some.is in
    room_left c.args.row.now.replica c.saw.new.self.replica c.args.entry c.in-Some.event c.in_ok-reply.reply c.args.notes.now named read c.in_ok-reply.ensures.done taken c.requires.stages

pub returns-clause-seen : goal.returns-clause-seen
returns-clause-seen c =
    let named = subst (λ (r : Replica). AreNamed r.seen) c.replica.ensures c.ledger.ensures.named in
    let taken = subst (λ (r : Replica). AreTaken (start r.plan) (history_of r.seen)) c.replica-replica.ensures c.ledger-2.ensures.taken in
    let read : event_of c.args.entry.word ≡ Some c.in-Some.event = sym c.decode.ensures.value ∙ c.in-Some.is in
    let left = room_left c.args.row.now.replica c.saw.new.self.replica c.args.entry c.in-Some.event c.in_ok-reply.reply c.args.notes.now named read c.in_ok-reply.ensures.done taken c.requires.stages in
    let at : length c.seen.result.now ≡ length c.saw.new.self.replica.seen = ap length (c.seen.ensures ∙ ap (λ (r : Replica). r.seen) c.replica-replica.ensures) in
    sees_one c.args.row.now c.saw.new.self c.args.notes.now c.take.new.self c.args.entry c.args.note c.in-Some.event c.in_ok-reply.reply _ read c.in-Some.ensures.found.1 c.in_ok-reply.ensures.done
    c.saw.ensures.put c.saw.ensures.tokens at left c.take.ensures.stages c.take.ensures.count c.take.ensures.room

pub returns-clause-stages : goal.returns-clause-stages
returns-clause-stages c =
    let named = subst (λ (r : Replica). AreNamed r.seen) c.replica.ensures c.ledger.ensures.named in
    let taken = subst (λ (r : Replica). AreTaken (start r.plan) (history_of r.seen)) c.replica-replica.ensures c.ledger-2.ensures.taken in
    let read : event_of c.args.entry.word ≡ Some c.in-Some.event = sym c.decode.ensures.value ∙ c.in-Some.is in
    let left = room_left c.args.row.now.replica c.saw.new.self.replica c.args.entry c.in-Some.event c.in_ok-reply.reply c.args.notes.now named read c.in_ok-reply.ensures.done taken c.requires.stages in
    stages_then c.args.row.now.replica c.saw.new.self.replica c.args.entry c.in-Some.event c.in_ok-reply.reply c.args.notes.now c.take.new.self named read c.in_ok-reply.ensures.done c.requires.stages
    left c.take.ensures.count c.take.ensures.room
