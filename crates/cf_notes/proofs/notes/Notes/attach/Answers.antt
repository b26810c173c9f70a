-- The stage that comes names only stages that are there.
use Rattle.std.proofs.Common.{rules}
use Rattle.cf_notes.proofs.NamedStages.{names_noted_as, table_push}
use Rattle.cf_notes.proofs.notes.Notes.attach.Goals as goal

pub invariant_of-self : goal.invariant_of-self
invariant_of-self c =
    let old = c.self.inside.stages in
    table_push old c.push_reserved.new.self c.self.inside.room c.noted_as-new.result c.self.invariant
    (rw (c.noted_as-new.ensures, c.deref.ensures.value) (names_noted_as old.items c.args.form c.args.function c.args.note))
    c.push_reserved.ensures.items (search rules) (search rules)
