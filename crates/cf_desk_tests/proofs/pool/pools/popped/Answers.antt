use Rattle.std.proofs.Common.{sym, subst}
use Rattle.std.specs.List.{All}
use Rattle.std.proofs.lemmas.List.Elements.{All-take}
use Rattle.cf_desk.specs.Views.{IsOf}
use Rattle.cf_desk_tests.proofs.pool.pools.popped.Goals as goal

pub returns-in-Some-clause-rest : goal.returns-in-Some-clause-rest
returns-in-Some-clause-rest c =
    subst (All (IsOf c.args.desk.now)) (sym c.pop.ensures.rest)
    (All-take (IsOf c.args.desk.now) _ _ c.requires)
