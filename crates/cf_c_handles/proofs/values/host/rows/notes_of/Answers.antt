use Rattle.std.proofs.Common.{inl, refl}
use Rattle.cf_c_handles.proofs.HostRows.{none_there}
use Rattle.cf_c_handles.proofs.values.host.rows.notes_of.Goals as goal

pub returns-in-None-clause-none : goal.returns-in-None-clause-none
returns-in-None-clause-none c = inl (refl, none_there c.args.numbers.now c.each.k _ c.each-test.true c.in-None.ensures)
