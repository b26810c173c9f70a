-- What is told of a put that met other entries.
use Rattle.std.proofs.Common.{◌≡◌, ℕ, ◌<◌, Bool, false, Some, None, List, [], ◌∷◌, Result, Ok, Err, get_or, is_err, length, refl, ap, subst, ◌∙◌, arith}
use Rattle.std.specs.Result.{OnOk}
use Rattle.std.specs.Prelude.{slice_get}
use Rattle.cf_row.specs.declared.entry.Entry.{Entry}
use Rattle.cf_row.specs.Rows.{Replica, with_memory}
use Rattle.cf_notes.specs.declared.note.Note.{Note}
use Rattle.cf_notes.specs.Tables.{Table}
use Rattle.cf_notes.specs.declared.wants.Want.{Want}
use Rattle.cf_part.specs.Parts.{Part}
use Rattle.cf_row.specs.Puts.{Row, TellsOf}
use Rattle.cf_part.specs.Answers.{Meets, Sees, TellsBy}

first_is : (entries : List Entry) (d first : Entry) → 0 < length entries → slice_get entries 0 ≡ Some first → get_or entries 0 d ≡ first
first_is [] d first some there = absurd (omega (arith, some))
first_is (x ∷ entries) d first some there = cc

tells_free : (r : Replica) (n : ℕ) (put : List Entry) (first : Entry) (landed : Bool) → TellsOf (with_memory r n) put first landed → TellsOf r put first landed
tells_free r n put first landed h = record { stands = h.stands; lost = h.lost }

pub tells_met : (old now : Row) (n : ℕ) (entries : List Entry) (x d : Entry) (landed : Bool) → now ≡ (record old { replica = with_memory old.replica n }) → x ≡ get_or entries 0 d → 0 < length entries → TellsOf now.replica now.put x landed →
    TellsBy old entries landed
tells_met old now n entries x d landed is at some h first there =
    tells_free old.replica n old.put first landed
    (subst (λ (e : Entry). TellsOf (with_memory old.replica n) old.put e landed) (at ∙ first_is entries d first some there)
    (subst (λ (r : Row). TellsOf r.replica r.put x landed) is h))

pub ok_by : {E : Type 0} (r : Result (Unit {0}) E) (b : Bool) (P : Type 0) → b ≡ is_err r → b ≡ false → OnOk r P → P
ok_by (Ok u) b P is off h = h
ok_by (Err e) b P is off h = (let bad : ⊥ = cc in absurd bad)

sees_free : (old from new : Row) (table noted : Table) (n : ℕ) (entries : List Entry) (said : List Note) → from ≡ (record old { replica = with_memory old.replica n; put = [] }) → Sees from table entries said new noted →
    Sees old table entries said new noted
sees_free old from new table noted n entries said is h = by_old (subst (λ (r : Row). Sees r table entries said new noted) is h)
  where
    by_old : Sees (record old { replica = with_memory old.replica n; put = [] }) table entries said new noted → Sees old table entries said new noted
    by_old s =
        let free = s.replays.free in
        record {
          replays = record {
            plan = s.replays.plan;
            session = s.replays.session;
            seen = s.replays.seen;
            more = s.replays.more;
            records = s.replays.records;
            calls = s.replays.calls;
            free = omega (arith, free);
          };
          notes = record { stages = s.notes.stages; places = s.notes.places };
          freed = record { put = s.freed.put; next = s.freed.next };
        }

pub meets_by : (old : Part) (r1 r2 r3 : Row) (notes : Table) (wants : List Want) (n : ℕ) (entries : List Entry) (said : List Note) (d : Entry) (landed : Bool) → r1 ≡ (record old.row { replica = with_memory old.row.replica n }) →
    0 < length entries → TellsOf r1.replica r1.put (get_or entries 0 d) landed → r2 ≡ (record r1 { put = [] }) → Sees r2 old.notes entries said r3 notes → wants ≡ [] →
    Meets old entries said landed (record old { row = r3; notes = notes; wants = wants; asked = None })
meets_by old r1 r2 r3 notes wants n entries said d landed found some told freed sees none = record {
  tells = tells_met old.row r1 n entries (get_or entries 0 d) d landed found refl some told;
  sees = sees_free old.row r2 r3 old.notes notes n entries said (freed ∙ ap (λ (r : Row). let q : Row = record r { put = [] } in q) found) sees;
  rest = ap (λ (w : List Want). let p : Part = record old { row = r3; notes = notes; wants = w; asked = None } in p) none;
}
