use Rattle.std.proofs.Common.{ℕ, sym, subst, arith}
use Rattle.cf_row.specs.Puts.{HasTokens}
use Rattle.cf_row.proofs.Roomier.{free_grow, put_grow, session_grow}
use Rattle.cf_row.proofs.row.Row.grow.Goals as goal

pub invariant_of-self : goal.invariant_of-self
invariant_of-self c =
    let r = c.self.inside in
    let i = c.self.invariant in
    let g = c.grow.ensures in
    let free = free_grow c.grow.result r.replica c.grow.new.self c.args.more g.grown g.unchanged in
    let memory = i.memory in
    let places = i.places in
    record {
      tokens = subst (λ (s : ℕ). HasTokens s r.put.items r.next) (sym (session_grow c.grow.result r.replica c.grow.new.self c.args.more g.grown g.unchanged)) i.tokens;
      planned = put_grow c.grow.result r.replica c.grow.new.self r.put.items c.args.more g.grown g.unchanged i.planned;
      memory = omega (arith, free, memory);
      places = omega (arith, free, places);
    }
