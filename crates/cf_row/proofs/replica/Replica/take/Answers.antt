use Rattle.std.proofs.Common.{◌≡◌, ◌+◌, ◌-◌, [], ◌∷◌, ◌++◌, eqb, length, length-append, ap, ◌∙◌, arith, rules}
use Rattle.cf_event.specs.declared.record.Record.TheVariants.{Did}
use Rattle.cf_row.specs.Rows.{Replica, session_of}
use Rattle.cf_row.specs.Grants.{granted_by}
use Rattle.cf_row.proofs.Attaching.{grown_take, place_take}
use Rattle.cf_row.proofs.Granted.{claim_count, granted_take}
use Rattle.cf_row.proofs.Memory.{note_count, spends}
use Rattle.cf_row.proofs.Own.{kept_take}
use Rattle.cf_row.proofs.replica.Replica.take.Goals as goal

pub invariant_of-self-2 : goal.invariant_of-self-2
invariant_of-self-2 c =
    let r = c.self.inside in
    let seen : c.push_reserved.new.self.items ≡ r.seen.items ++ c.args.entry ∷ [] = cc in
    let is_own : c.is_of-is_own.result ≡ eqb (session_of c.args.entry.token) r.session = cc in
    let one = spends c.args.entry.word r.ledger c.apply.new.self c.in_ok-reply.reply c.in_ok-reply.ensures.done in
    let memory = c.self.invariant.memory in
    let some = c.requires.memory in
    let free : r.free ≡ c.args.self.now.free = ap (λ (v : Replica). v.free) c.self.view_is in
    let size = ap length seen ∙ length-append r.seen.items (c.args.entry ∷ []) in
    let count = note_count c.is_of-is_own.result r.records.items c.note.new.records.items (Did (c.len-place.result + 1) c.in-Some.event c.in_ok-reply.reply) c.note.ensures.items in
    let claims = claim_count (granted_by c.in-Some.event c.in_ok-reply.reply) r.claims.items c.note_claim.new.claims.items c.session.result c.note_claim.ensures.items in
    record {
      kept = kept_take r.ledger c.apply.new.self r.session r.seen.items c.push_reserved.new.self.items r.records.items c.note.new.records.items c.args.entry c.in-Some.event c.in_ok-reply.reply c.is_of-is_own.result (c.len-place.result + 1)
          c.self.invariant.kept (search rules) c.in_ok-reply.ensures.done seen (search rules) is_own (search rules);
      memory = record {
        same = one ∙ ap (λ n. n - 1) memory.same;
        few = omega (arith, memory.few);
        of_seen = omega (arith, size, c.push_reserved.ensures.capacity, memory.of_seen, some, free);
        of_records = omega (arith, count, c.note.ensures.kept, memory.of_records, some, free);
      };
      claims = record {
        are = granted_take r.ledger c.apply.new.self r.seen.items c.push_reserved.new.self.items r.claims.items c.note_claim.new.claims.items c.args.entry c.in-Some.event c.in_ok-reply.reply c.session.result
            c.self.invariant.kept.named c.self.invariant.kept.events (search rules) c.in_ok-reply.ensures.done seen c.self.invariant.claims.are c.note_claim.ensures.items c.session.ensures;
        places = omega (arith, claims, c.note_claim.ensures.kept, c.self.invariant.claims.places, some, free);
      };
      grown = grown_take c.args.entry.word r.room r.opening r.ledger c.apply.new.self r.grown c.follow.new.plan c.in-Some.event c.in_ok-reply.reply (search rules) c.in_ok-reply.ensures.done c.self.invariant.grown c.follow.ensures;
    }

pub follow-requires : goal.follow-requires
follow-requires c =
    let r = c.self.inside in
    place_take c.args.entry.word r.ledger c.apply.new.self r.grown c.in-Some.event c.in_ok-reply.reply (search rules) c.in_ok-reply.ensures.done c.self.invariant.grown.is
