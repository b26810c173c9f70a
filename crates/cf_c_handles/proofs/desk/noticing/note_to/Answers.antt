use Rattle.std.proofs.Common.{◌∙◌, ap, sym}
use Rattle.std.specs.Prelude.{Some}
use Rattle.cf_c_handles.proofs.Callers.{notes_to}
use Rattle.cf_c_handles.proofs.desk.noticing.note_to.Goals as goal

pub returns-in-Ok-clause-notes : goal.returns-in-Ok-clause-notes
returns-in-Ok-clause-notes c =
    notes_to c.args.caller.now c.args.to.now.inner.held c.put.new.self.inner.held (sym c.is_full.ensures ∙ c.if-is_full.false)
    (record { notice = c.in_ok-noted.noted; is = c.put.ensures ∙ ap Some c.in-Ok.ensures; of = c.in_ok-noted.ensures.notice })
