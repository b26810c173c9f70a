-- What a step on the row needs of a pass and its desk, and what it does to a pass where it meets another caller's event.
use Rattle.std.proofs.Common.{◌≡◌, ℕ, ◌+◌, ◌<◌, List, Option, Some, None, length, refl, sym, ap, ◌∙◌, arith}
use Rattle.std.specs.Prelude.{IfSome}
use Rattle.atomic_table.specs.Seated.{TableId}
use Rattle.atomic_table.specs.declared.shared.Seat.{Seat}
use Rattle.cf_core.specs.declared.graph.Graph.{Graph}
use Rattle.cf_model.specs.declared.events.Event.{Event}
use Rattle.cf_model.specs.Events.{answered}
use Rattle.cf_desk.specs.declared.pass.Pass.TheInside.{Inside as InPass}
use Rattle.cf_desk.specs.declared.desk.Desk.TheInside.{Inside as InDesk}
use Rattle.cf_desk.specs.declared.row.CallerView.{CallerView}
use Rattle.cf_desk.specs.Rule.{SeesOther}
use Rattle.cf_desk.specs.Views.{Pass, Desk, AddedByOther, known_of}
use Rattle.cf_desk.specs.Desks.{PassKept, DeskKept}
use Rattle.cf_desk.proofs.Passes.{one_known, short_more, agrees_other}

-- what contracts see of a pass and of a desk
abbrev pub pass_of : InPass → Pass
pass_of p = record { table = p.seat.table_id; known = known_of p.seat.me.0; records = p.records.items; calls = p.calls }

abbrev pub desk_of : InDesk → Desk
desk_of d = record { table = d.table.shared.table_id; setting = d.terms.setting; words = d.terms.words }

-- the pass is of the desk, whose row has a word behind what the pass has seen
pub record HasNext (p : InPass) (d : InDesk) : Type 0 where
  pub table : p.seat.table_id ≡ d.table.shared.table_id
  pub place : p.count < d.table.shared.table_id.words
  pub key : p.count < d.table.shared.key.words
  pub left : p.count < p.seat.table_id.words
  pub few : p.count + 1 < 65536

pub has_next : (p : InPass) (d : InDesk) (v : Pass) (w : Desk) → PassKept p → DeskKept d → pass_of p ≡ v → desk_of d ≡ w → v.table ≡ w.table → length v.known.seen < w.words → HasNext p d
has_next p d v w i j is at same room =
    let a = i.agrees in
    let seen = ap (λ (h : Pass). length h.known.seen) is in
    let words = ap (λ (h : Desk). h.words) at in
    let z : p.seat.table_id ≡ d.table.shared.table_id = ap (λ (h : Pass). h.table) is ∙ same ∙ sym (ap (λ (h : Desk). h.table) at) in
    let as_many = ap (λ (t : TableId). t.words) z in
    record { table = z; place = omega arith; key = rw j.key (omega arith); left = omega arith; few = omega arith }

-- a pass that has seen another caller's event is still one
pub kept_other : (p : InPass) (seat : Seat ℕ (List CallerView)) (replica : Graph) (found : Event) → PassKept p → p.count < p.seat.table_id.words → seat.table_id ≡ p.seat.table_id → seat.me.1 ≡ p.seat.me.1 → SeesOther (known_of p.seat.me.0) found seat.me.0
    → replica.state ≡ (answered p.replica.state found).1 → PassKept (record p { seat = seat; count = p.count + 1; replica = replica })
kept_other p seat replica found i left table held sees now = record {
  one = one_known _ _ sees.0 (held ∙ ap (λ m. m.1) i.one);
  agrees = agrees_other _ _ _ _ _ _ _ _ found (ap known_of sees.0) sees.1 sees.2 now i.agrees;
  room = i.room;
  within = i.within;
  short = short_more _ _ _ table left;
}

-- and that event is all that it has seen more
pub added_by_other : (p : InPass) (seat : Seat ℕ (List CallerView)) (found : Event) → seat.table_id ≡ p.seat.table_id → SeesOther (known_of p.seat.me.0) found seat.me.0 → AddedByOther (pass_of p) (record (pass_of p) { table = seat.table_id; known = known_of seat.me.0 })
added_by_other p seat found table sees = record {
  found = found;
  is = λ i. record (pass_of p) { table = table i; known = known_of (sees.0 i) };
  event = sees.1;
  other = sees.2;
}

-- what holds of the event that was found, if one was, holds of it
pub if_some : (x : Option Event) (P : Event → Type 0) → ((e : Event) → x ≡ Some e → P e) → IfSome x P
if_some None P f = tt
if_some (Some e) P f = f e refl
