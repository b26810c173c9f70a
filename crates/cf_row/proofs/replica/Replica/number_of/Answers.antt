use Rattle.std.proofs.Common.{List, Contains, ap, ◌∙◌, subst}
use Rattle.std.specs.Prelude.{IfSome}
use Rattle.cf_row.specs.declared.entry.Entry.{Entry}
use Rattle.cf_row.specs.Puts.{pairs_of}
use Rattle.cf_row.specs.Rows.{Replica}
use Rattle.cf_row.proofs.replica.Replica.number_of.Goals as goal

pub returns-clause-there : goal.returns-clause-there
returns-clause-there c =
    subst (λ (l : List Entry). IfSome c.number_of.result (λ who. Contains (pairs_of l) (c.args.session, who)))
    (c.deref.ensures.value ∙ ap (λ (v : Replica). v.seen) c.self.view_is) c.number_of.ensures.there
