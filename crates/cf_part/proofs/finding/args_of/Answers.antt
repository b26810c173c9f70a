use Rattle.std.proofs.Common.{◌≡◌, All, List, None, subst, sym, ◌∙◌}
use Rattle.std.proofs.lemmas.List.{take_all}
use Rattle.std.proofs.lemmas.List.Elements.{All-more}
use Rattle.cf_event.specs.declared.record.Record.{Record}
use Rattle.cf_part.specs.Steps.{grant_of}
use Rattle.cf_part.proofs.finding.args_of.Goals as goal

pub loop-record-preserved : goal.loop-record-preserved
loop-record-preserved c =
    let P : Record → Type 0 = λ (r : Record). grant_of c.args.stage r ≡ None in
    All-more P c.args.records.now c.loop-record.record-index _ c.loop-record-test.true c.loop-record.invariant (sym c.grant_of.ensures ∙ c.in-None.is)

pub returns-clause-none : goal.returns-clause-none
returns-clause-none c =
    let P : Record → Type 0 = λ (r : Record). grant_of c.args.stage r ≡ None in
    subst (λ (l : List Record). All P l) (take_all c.loop-record.record-index c.args.records.now c.loop-record-test.false) c.loop-record.invariant
