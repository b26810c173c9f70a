use Rattle.std.proofs.Common.{◌≡◌, None, sym, ap, ◌∙◌, arith, subst}
use Rattle.cf_desk.specs.Rule.{LooksNext, SeesOther}
use Rattle.cf_event.specs.Decoding.{event_of}
use Rattle.cf_model.specs.Graphs.{Graph}
use Rattle.cf_desk.specs.Desks.{PassKept}
use Rattle.cf_desk.specs.Views.{HasRedone, IsRedone, known_of}
use Rattle.cf_desk.proofs.Passes.{looks_at, one_known, short_same, agrees_looked, on_plan}
use Rattle.cf_desk.proofs.Steps.{HasNext, has_next, if_some, kept_other, added_by_other}
use Rattle.cf_desk.proofs.desk.Desk.look.Goals as goal
use Rattle.cf_desk.proofs.desk.Desk.look.Goals.{After-load-word, Else-is_redone, Then-is_redone}

pub load-word-requires : goal.load-word-requires
load-word-requires c =
    let n = has_next _ _ _ _ c.p.invariant c.self.invariant c.p.view_is c.self.view_is c.requires.table c.requires.room in
    (n.table, n.place, looks_at _ _ _ _ _ c.p.inside.count c.p.invariant.one c.p.invariant.agrees.count)

told : (c : After-load-word) → LooksNext (known_of c.p.inside.seat.me.0) c.load-word.result c.load-word.new.seat.me.0
told c = c.load-word.ensures.2.1 (known_of c.p.inside.seat.me.0) (ap (λ m. m.0) c.p.invariant.one)

next : (c : After-load-word) → HasNext c.p.inside c.self.inside
next c = has_next _ _ _ _ c.p.invariant c.self.invariant c.p.view_is c.self.view_is c.requires.table c.requires.room

redone : (c : Then-is_redone) → HasRedone c.load-word.result c.p.inside.replica c.is_redone.new.replica
redone c = subst (λ b. IsRedone c.load-word.result c.p.inside.replica b c.is_redone.new.replica) c.if-is_redone.true c.is_redone.ensures

taken : (c : Then-is_redone) → SeesOther (known_of c.p.inside.seat.me.0) (redone c).event c.load-word.new.seat.me.0
taken c = (told (goal.at.Then-is_redone c).After-load-word).taken (redone c).event (redone c).read

idle : (c : Else-is_redone) → (event_of c.load-word.result ≡ None) × (c.is_redone.new.replica ≡ c.p.inside.replica)
idle c = subst (λ b. IsRedone c.load-word.result c.p.inside.replica b c.is_redone.new.replica) c.if-is_redone.false c.is_redone.ensures

pub overflow_add-p : goal.overflow_add-p
overflow_add-p c = omega (arith, (next (goal.at.overflow_add-p c).After-load-word).few)

pub is_redone-requires : goal.is_redone-requires
is_redone-requires c =
    let t = told (goal.at.is_redone-requires c).After-load-word in
    if_some (event_of c.load-word.result) _ (λ e is. on_plan (known_of c.p.inside.seat.me.0) _ _ c.p.invariant.agrees.state (t.taken e is).1)

pub invariant_of-p : goal.invariant_of-p
invariant_of-p c =
    let at = goal.at.invariant_of-p c in
    let r = redone at.Then-is_redone in
    kept_other _ _ _ r.event c.p.invariant (next at.After-load-word).left c.load-word.ensures.0 c.load-word.ensures.2.0 (taken at.Then-is_redone) r.done

pub returns-then-is_redone : goal.returns-then-is_redone
returns-then-is_redone c =
    let at = (goal.at.returns-then-is_redone c).Then-is_redone in
    rw (← c.p.view_is) (added_by_other c.p.inside c.load-word.new.seat (redone at).event c.load-word.ensures.0 (taken at))

pub invariant_of-p-else-is_redone : goal.invariant_of-p-else-is_redone
invariant_of-p-else-is_redone c =
    let at = goal.at.invariant_of-p-else-is_redone c in
    let i = c.p.invariant in
    let none = idle at.Else-is_redone in
    let is = (told at.After-load-word).empty none.0 in
    let kept : PassKept (record c.p.inside { seat = c.load-word.new.seat }) = record {
      one = one_known _ _ is (c.load-word.ensures.2.0 ∙ ap (λ m. m.1) i.one);
      agrees = agrees_looked _ _ _ _ _ _ _ (ap known_of is) i.agrees;
      room = i.room;
      within = i.within;
      short = short_same _ _ _ c.load-word.ensures.0 i.short;
    } in
    subst (λ (g : Graph). PassKept (record c.p.inside { seat = c.load-word.new.seat; replica = g })) (sym none.1) kept

pub returns-else-is_redone : goal.returns-else-is_redone
returns-else-is_redone c =
    let at = goal.at.returns-else-is_redone c in
    let is = (told at.After-load-word).empty (idle at.Else-is_redone).0 in
    rw (← c.p.view_is) (λ i. record { table = c.load-word.ensures.0 i; known = known_of (is i); records = c.p.inside.records.items; calls = c.p.inside.calls })
