use Rattle.std.proofs.Common.{Option, sym, subst}
use Rattle.std.specs.Prelude.{IfErr}
use Rattle.cf_notes.specs.declared.wants.Want.{Want}
use Rattle.cf_row.specs.declared.faults.PutFault.{PutFault}
use Rattle.cf_row.specs.Puts.{IsNoPut}
use Rattle.cf_part.specs.Parts.{words_wanted}
use Rattle.cf_turn.specs.Turns.{wants_with}
use Rattle.cf_turn.specs.Works.{Work}
use Rattle.cf_turn.proofs.work.Work.plan.Goals as goal

pub returns-in-Some-clause-why : goal.returns-in-Some-clause-why
returns-in-Some-clause-why c =
    let p = c.args.putting in
    subst (λ (w : Work). IfErr c.plan.result (λ (fault : PutFault). IsNoPut w.part.row.replica w.part.row.next (words_wanted (wants_with p.first p.second)) fault)) c.self.view_is
    (subst (λ (o : Option Want). IfErr c.plan.result (λ (fault : PutFault). IsNoPut c.self.inside.part.row.replica c.self.inside.part.row.next (words_wanted (wants_with p.first o)) fault))
    (sym c.in-Some.is) c.plan.ensures.why)
