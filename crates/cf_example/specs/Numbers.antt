-- The numbers of the sessions of a row.
use Rattle.std.specs.Prelude.{List, []}
use Rattle.cf_forms.specs.Plans.{Planned}
use Rattle.cf_row.specs.declared.entry.Entry.{Entry}
use Rattle.cf_row.specs.Engines.{Group, Runs}
use Rattle.cf_row.specs.Laws.{RuledNumbers}
use Rattle.cf_row.specs.Puts.{pairs_of}

abbrev pub RowsHaveRuledNumbers : Type 0
RowsHaveRuledNumbers = (plan : Planned) (asked : List Group) (row : List Entry) → Runs plan [] asked row → RuledNumbers (pairs_of row)
