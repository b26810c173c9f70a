use Rattle.std.proofs.Common.{◌≡◌, sym, subst}
use Rattle.std.specs.List.{All}
use Rattle.std.proofs.lemmas.List.Elements.{All-take}
use Rattle.cf_desk.specs.Views.{Pass}
use Rattle.cf_desk_tests.proofs.desk.desks.popped.Goals as goal

pub returns-in-Some-clause-rest : goal.returns-in-Some-clause-rest
returns-in-Some-clause-rest c =
    subst (All (λ (p : Pass). p.table ≡ c.args.desk.now.table)) (sym c.pop.ensures.rest)
    (All-take (λ (p : Pass). p.table ≡ c.args.desk.now.table) _ _ c.requires)
