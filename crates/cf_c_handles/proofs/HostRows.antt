-- One of the notes that are read stands for none.
use Rattle.std.proofs.Common.{ℕ, ◌<◌, List, None, get_or, length, map, subst, sym}
use Rattle.std.proofs.lemmas.List.{get_or-map, length-map}
use Rattle.std.proofs.lemmas.List.Elements.{Contains-get_or}
use Rattle.cf_c_handles.specs.HostValues.{IsNoteOf, OneIsNone, note_in}
use Rattle.cf_c_handles.specs.declared.values.host.rows.CfNote.{CfNote}
use Rattle.cf_c_handles.specs.declared.values.host.rows.CfNoted.{CfNoted}

pub none_there : (numbers : List CfNote) (k : ℕ) (d : CfNote) → k < length numbers → IsNoteOf (get_or numbers k d) None → OneIsNone numbers
none_there numbers k d there none = record { one = get_or numbers k d; there = Contains-get_or numbers k d there; none = none }

-- the same of rows
pub none_in : (rows : List CfNoted) (k : ℕ) (d : CfNoted) → k < length rows → IsNoteOf (note_in (get_or rows k d)) None → OneIsNone (map note_in rows)
none_in rows k d there none =
    let within = subst (λ n. k < n) (sym (length-map rows note_in)) there in
    let is = get_or-map note_in rows k d (note_in d) there in
    none_there (map note_in rows) k (note_in d) within (subst (λ n. IsNoteOf n None) (sym is) none)
