use Rattle.std.proofs.Common.{◌≡◌, All, sym, ◌∙◌, subst, arith}
use Rattle.std.proofs.lemmas.List.Elements.{All-push}
use Rattle.cf_desk.specs.Views.{Pass}
use Rattle.cf_desk_tests.proofs.desk.bounds.fill_by_last.Goals as goal

pub returns-clause-table : goal.returns-clause-table
returns-clause-table g c =
    subst (All (λ (p : Pass). p.table ≡ c.args.desk.now.table)) (sym c.put_back.ensures.items)
    (All-push (λ (p : Pass). p.table ≡ c.args.desk.now.table) _ _ c.last_of-pass.ensures.rest (c.fill-fault.ensures ∙ c.last_of-pass.ensures.pass))
