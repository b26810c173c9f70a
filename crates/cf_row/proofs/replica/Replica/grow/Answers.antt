use Rattle.std.proofs.Common.{◌≡◌, ◌∙◌, List, sym, subst, rules}
use Rattle.cf_model.specs.declared.events.Event.{Event}
use Rattle.cf_model.specs.States.{start}
use Rattle.cf_ledger.specs.Ledgers.{AreTaken}
use Rattle.cf_row.proofs.Attaching.{grown_more, taken_room}
use Rattle.cf_row.proofs.Granted.{granted_grow}
use Rattle.cf_row.proofs.Rooms.{free_grow, kept_grow}
use Rattle.cf_row.proofs.replica.Replica.grow.Goals as goal

pub grown-requires-clause-taken : goal.grown-requires-clause-taken
grown-requires-clause-taken c =
    let r = c.self.inside in
    let kept = c.self.invariant.kept in
    taken_room r.opening r.room c.args.more r.ledger c.words.result.now c.self.invariant.grown.opened (subst (λ (es : List Event). AreTaken (start r.ledger.plan) es) (sym kept.events) kept.taken) c.words.ensures.read

pub invariant_of-self-2 : goal.invariant_of-self-2
invariant_of-self-2 c =
    let r = c.self.inside in
    let memory = c.self.invariant.memory in
    let made : c.replace.new.dest ≡ c.in_ok-grown.grown = search rules in
    record {
      kept = kept_grow c.grow.result r.ledger c.grow.new.self r.session r.seen.items r.records.items c.args.more c.grow.ensures.grown c.grow.ensures.unchanged c.self.invariant.kept;
      memory = record {
        same = free_grow c.grow.result r.ledger c.grow.new.self c.args.more c.grow.ensures.grown c.grow.ensures.unchanged ∙ memory.same;
        few = memory.few;
        of_seen = memory.of_seen;
        of_records = memory.of_records;
      };
      claims = record {
        are = granted_grow c.grow.result r.ledger c.grow.new.self r.seen.items r.claims.items c.args.more c.grow.ensures.grown c.grow.ensures.unchanged c.self.invariant.kept.taken c.self.invariant.claims.are;
        places = c.self.invariant.claims.places;
      };
      grown = grown_more r.opening r.room c.args.more r.ledger c.grow.new.self c.replace.new.dest c.words.result.now c.self.invariant.grown.opened c.in_ok-grow.ensures.grown c.words.ensures.read (made ∙ c.in_ok-grown.ensures);
    }
