use Rattle.std.proofs.Common.{ap, ◌∙◌}
use Rattle.cf_desk.specs.declared.row.DeskConfig.{DeskConfig}
use Rattle.cf_desk.proofs.Closing.{opened_all, opened_of, opened_there}
use Rattle.cf_desk.proofs.desk.Desk.open_of.Goals as goal

pub returns-clause-passes : goal.returns-clause-passes
returns-clause-passes c =
    let e = c.in_ok-open_with.ensures.opened in (
      opened_of c.in_ok-open_with.field-0.0 c.args.sizes.calls c.in_ok-open_with.field-0.1.items e.2,
      c.in_ok-open_with.field-0.1.ok.0 ∙ opened_all c.in_ok-open_with.field-0.0 c.args.sizes.calls c.args.sizes.callers c.in_ok-open_with.field-0.1.items e.2 (ap (λ (s : DeskConfig). s.callers) e.0),
    )

pub returns-clause-table : goal.returns-clause-table
returns-clause-table c = (opened_there c.in_ok-open_with.field-0.0 c.args.sizes.calls c.in_ok-open_with.field-0.1.items c.in_ok-open_with.ensures.opened.2, c.in_ok-open_with.ensures.words)
