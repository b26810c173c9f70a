-- Whatever the note says, the table names only stages that are there.
use Rattle.std.proofs.Common.{rules}
use Rattle.std.proofs.lemmas.List.{places}
use Rattle.cf_notes.proofs.NamedStages.{keeps_failed, keeps_finished, keeps_timed, table_over}
use Rattle.cf_notes.proofs.notes.Notes.take.Goals as goal

pub invariant_of-self : goal.invariant_of-self
invariant_of-self c =
    let old = c.self.inside.stages in
    table_over old c.self.inside.room c.finish.new.stages c.self.invariant (search (rules, places))
    (rw (c.finish.ensures, c.as_mut_slice.ensures.value) (keeps_finished old.items c.args.reply.now c.in-Finish.stage c.in-Finish.answer c.args.note c.self.invariant.names))

pub invariant_of-self-in-Fail : goal.invariant_of-self-in-Fail
invariant_of-self-in-Fail c =
    let old = c.self-in-Fail.inside.stages in
    table_over old c.self-in-Fail.inside.room c.fail.new.stages c.self-in-Fail.invariant (search (rules, places))
    (rw (c.fail.ensures, c.as_mut_slice-in-Fail.ensures.value) (keeps_failed old.items c.args.reply.now c.in-Fail.stage c.in-Fail.code c.args.note c.self-in-Fail.invariant.names))

pub invariant_of-self-in-Tick : goal.invariant_of-self-in-Tick
invariant_of-self-in-Tick c =
    let old = c.self-in-Tick.inside.stages in
    table_over old c.self-in-Tick.inside.room c.time.new.stages c.self-in-Tick.invariant (search (rules, places))
    (rw (c.time.ensures, c.as_mut_slice-in-Tick.ensures.value) (keeps_timed old.items c.args.place c.args.note c.self-in-Tick.invariant.names))
