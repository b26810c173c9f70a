use Rattle.std.proofs.Common.{◌≡◌, ◌<◌, ◌++◌, ◌∷◌, [], length, refl, sym, ap, ◌∙◌, subst, arith, rules}
use Rattle.std.proofs.lemmas.List.{length_push}
use Rattle.cf_event.specs.declared.record.Record.TheVariants.{Saw}
use Rattle.cf_model.specs.declared.asks.Ask.TheVariants.{Outcome as AsksOutcome}
use Rattle.cf_model.specs.declared.asks.Told.TheVariants.{Outcome as ToldOutcome}
use Rattle.cf_row.specs.Rows.{Replica, stages_of}
use Rattle.cf_row.proofs.Own.{kept_ask}
use Rattle.cf_row.proofs.replica.Replica.outcome.Goals as goal

pub invariant_of-self-2 : goal.invariant_of-self-2
invariant_of-self-2 c =
    let r = c.self.inside in
    let memory = c.self.invariant.memory in
    let told : c.push_reserved.new.self.items ≡ r.records.items ++ Saw c.len.result (AsksOutcome c.args.stage) (ToldOutcome c.outcome-outcome.result) ∷ [] = search rules in
    let size = ap length told ∙ length_push r.records.items (Saw c.len.result (AsksOutcome c.args.stage) (ToldOutcome c.outcome-outcome.result)) in
    let before = ap length c.make_room.ensures.same in
    record {
      kept = kept_ask r.ledger r.ledger r.session r.seen.items r.records.items c.push_reserved.new.self.items c.args.stage c.outcome-outcome.result c.len.result
          c.self.invariant.kept refl told (search rules) c.outcome-outcome.ensures
          (subst (λ (v : Replica). c.args.stage < stages_of v) (sym c.self.view_is) c.requires.there);
      memory = record {
        same = memory.same;
        few = memory.few;
        of_seen = memory.of_seen;
        of_records = omega (arith, size, before, c.in_ok-make_room.ensures.room, c.push_reserved.ensures.capacity);
      };
      claims = c.self.invariant.claims;
      grown = c.self.invariant.grown;
    }
