use Rattle.std.proofs.Common.{drop}
use Rattle.cf_c_handles.proofs.Histories.{AreRead}
use Rattle.cf_c_handles.proofs.history.texts_of.Given as goal

-- the texts up to here are read
abbrev pub invariant-each : goal.invariant-each
invariant-each l = AreRead l.text l.ends l.from (drop l.k l.ends) l.texts.items
