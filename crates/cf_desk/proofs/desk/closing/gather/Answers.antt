use Rattle.std.proofs.Common.{map, append-nil, ◌≡◌, ◌++◌, ◌∷◌, [], length, sym, ap, ◌∙◌, subst, append_assoc, arith}
use Rattle.std.proofs.lemmas.List.{nil_from_length}
use Rattle.std.proofs.lemmas.List.Elements.{All-nil, All-push}
use Rattle.std.specs.List.{All}
use Rattle.std.specs.Vec.Iter.{into_iter_items}
use Rattle.cf_desk.specs.Views.{Pass}
use Rattle.cf_desk.specs.Keepings.{IsCallers, IsFit, pass_did, pass_kept}
use Rattle.cf_desk.proofs.Meets.{sits_down}
use Rattle.cf_desk.proofs.Gathers.{all_at, joined_one, kept_one, latest_first, latest_next, latest_of_all}
use Rattle.cf_desk.proofs.desk.closing.gather.Goals as goal
use Rattle.cf_desk.proofs.desk.closing.gather.Goals.{In-Some, In-Some-next, After-drop-rest}

pub load_new_seat-requires : goal.load_new_seat-requires
load_new_seat-requires c = (c.requires.table.0, sits_down _ _ _)

-- the first pass, and the others
start : (c : In-Some) → c.args.passes.items ≡ c.in-Some.first ∷ into_iter_items c.next-2.new.self
start c = sym c.into_iter-rest.ensures.rest ∙ c.in-Some.ensures.cases.0

pub take_apart-latest-requires-clause-table : goal.take_apart-latest-requires-clause-table
take_apart-latest-requires-clause-table c =
    let there = all_at (λ (p : Pass). p.table ≡ c.args.row.now.shared.table_id) [] c.in-Some.first (into_iter_items c.next-2.new.self)
    (subst (All (λ (p : Pass). p.table ≡ c.args.row.now.shared.table_id)) (start (goal.at.take_apart-latest-requires-clause-table c).In-Some) c.requires.table.1) in
    (there, c.load_new_seat.ensures.0)

pub next-init : goal.next-init
next-init c =
    let first = c.in-Some.first in
    let t = c.take_apart-latest.ensures in
    let sat = c.load_new_seat.ensures.2 in record {
      done = first ∷ [];
      parts = start (goal.at.next-init c).In-Some;
      left = (let l = c.into_iter-rest.ensures.len in let r = c.requires.kept.1 in let e = ap length c.requires.kept.0 in let o = c.args.kept.ok.0 in let one = c.in-Some.ensures.cases.1 in omega (arith, t.room.0, t.room.1));
      table = t.table ∙ c.load_new_seat.ensures.0;
      seat = t.seat ∙ (λ i. ((sat i).0 ++ first.known ∷ [], (sat i).1));
      kept = t.kept ∙ ap (λ l. map pass_kept l ++ pass_did first ∷ []) c.requires.kept.0;
      replica = latest_first _ first _ t.replica.1 t.replica.0;
      callers = All-push IsCallers [] first (All-nil IsCallers) t.caller;
      fit = All-push IsFit [] first (All-nil IsFit) t.fit;
    }

parts : (c : In-Some-next) → c.args.passes.items ≡ c.next.invariant.done ++ c.in-Some-next.pass ∷ into_iter_items c.next-in-next.new.self
parts c = c.next.invariant.parts ∙ ap (λ l. c.next.invariant.done ++ l) c.in-Some-next.ensures.cases.0

pub take_apart-replica-requires-clause-table : goal.take_apart-replica-requires-clause-table
take_apart-replica-requires-clause-table c =
    let i = c.next.invariant in
    let there = all_at (λ (p : Pass). p.table ≡ c.args.row.now.shared.table_id) i.done c.in-Some-next.pass (into_iter_items c.next-in-next.new.self)
    (subst (All (λ (p : Pass). p.table ≡ c.args.row.now.shared.table_id)) (parts (goal.at.take_apart-replica-requires-clause-table c).In-Some-next) c.requires.table.1) in
    (there, i.table)

pub next-preserved : goal.next-preserved
next-preserved c =
    let i = c.next.invariant in
    let pass = c.in-Some-next.pass in
    let t = c.take_apart-replica.ensures in record {
      done = i.done ++ pass ∷ [];
      parts = parts (goal.at.next-preserved c).In-Some-next ∙ sym (append_assoc i.done (pass ∷ []) (into_iter_items c.next-in-next.new.self));
      left = (let l = i.left in let r = c.in-Some-next.ensures.cases.1 in omega (arith, t.room.0, t.room.1));
      table = t.table ∙ i.table;
      seat = joined_one i.done pass _ _ i.seat t.seat;
      kept = kept_one _ _ i.done pass i.kept t.kept;
      replica = latest_next _ _ _ _ _ i.done pass _ c.max-most.ensures c.keep_later.ensures.newer c.keep_later.ensures.older t.replica.1 t.replica.0 i.replica;
      callers = All-push IsCallers i.done pass i.callers t.caller;
      fit = All-push IsFit i.done pass i.fit t.fit;
    }

-- at the end all are done
all_done : (c : After-drop-rest) → c.next.invariant.done ≡ c.args.passes.items
all_done c =
    let i = c.next.invariant in
    let none = c.in_default-next.ensures.cases.0 in
    let ok = c.next.rest.rest.ok.0 in
    let empty : into_iter_items c.next.rest ≡ [] = nil_from_length (into_iter_items c.next.rest) (omega arith) in
    sym (i.parts ∙ ap (λ l. i.done ++ l) empty ∙ append-nil i.done)

pub returns-clause-replica : goal.returns-clause-replica
returns-clause-replica c = latest_of_all _ _ _ _ (all_done (goal.at.returns-clause-replica c).After-drop-rest) c.next.invariant.replica

pub returns-clause-callers : goal.returns-clause-callers
returns-clause-callers c = subst (All IsCallers) (all_done (goal.at.returns-clause-callers c).After-drop-rest) c.next.invariant.callers

pub returns-clause-fit : goal.returns-clause-fit
returns-clause-fit c = subst (All IsFit) (all_done (goal.at.returns-clause-fit c).After-drop-rest) c.next.invariant.fit
