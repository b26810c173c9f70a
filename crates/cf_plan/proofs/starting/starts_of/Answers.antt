use Rattle.std.proofs.Common.{sym, ◌∙◌}
use Rattle.cf_plan.proofs.StartLemmas.{row_starts, row_waits, starts_end}
use Rattle.cf_plan.proofs.starting.starts_of.Goals.{then-starts+in_ok-push, else-starts}
use Rattle.cf_plan.proofs.starting.starts_of.Goals as goal

pub rows-preserved : goal.rows-preserved
rows-preserved c =
    let found = c.rows.found.items in
    let sources = c.args.sources.now in
    let rows = c.args.rows.now in
    elim c.if-starts.branch [
      | then-starts+in_ok-push w ↦ rw (w.found-is, w.in_ok-push.ensures.items)
          (row_starts found sources rows c.rows.k _ c.rows-test.true (sym c.starts.ensures ∙ w.if-starts.true) c.rows.invariant)
      | else-starts w ↦ rw w.found-is
          (row_waits found sources rows c.rows.k _ c.rows-test.true (sym c.starts.ensures ∙ w.if-starts.false) c.rows.invariant)
    ]

pub returns : goal.returns
returns c = starts_end c.rows.found.items c.args.sources.now c.args.rows.now c.rows.k c.rows-test.false c.rows.invariant
