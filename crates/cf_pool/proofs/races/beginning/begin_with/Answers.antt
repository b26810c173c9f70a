use Rattle.std.proofs.Common.{◌∷◌, sym, ◌∙◌, ap, arith, subst, ℕ}
use Rattle.std.specs.List.{All}
use Rattle.cf_desk.specs.Views.{Pass}
use Rattle.cf_pool.specs.Beginnings.{IsApart, IsIdle}
use Rattle.cf_pool.proofs.races.beginning.begin_with.Goals as goal

pub meet_others-requires-clause-others : goal.meet_others-requires-clause-others
meet_others-requires-clause-others c = subst (λ (n : ℕ). All (IsIdle c.args.desk.now n) c.args.others.items) (sym c.take_steps.ensures.calls) c.requires.others

pub returns-clause-count : goal.returns-clause-count
returns-clause-count c = let a = c.in_ok-insert.ensures.len in let b = c.in_ok-passes.ensures.count in omega (arith, a, b)

pub returns-clause-begun : goal.returns-clause-begun
returns-clause-begun c =
    let first = c.take_steps.new.pass in
    let others = c.in_ok-passes.passes.items in
    record {
      first = first;
      others = others;
      are = c.in_ok-insert.ensures.items ∙ ap (λ (h : Pass). h ∷ others) c.meet_others.ensures.first;
      took = c.take_steps.ensures.took;
      room = c.take_steps.ensures.calls;
      apart = subst (λ (n : ℕ). All (IsApart c.args.desk.now n first.known.seen) others) c.take_steps.ensures.calls c.in_ok-passes.ensures.apart;
    }
