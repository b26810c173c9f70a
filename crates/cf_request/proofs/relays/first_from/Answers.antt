use Rattle.std.proofs.Common.{suc, List, arith, drop, get_or, subst, sym, take}
use Rattle.std.proofs.Math.Seq.{split_at}
use Rattle.std.proofs.lemmas.List.{length-take-le, take_all}
use Rattle.std.proofs.lemmas.List.Elements.{All-more}
use Rattle.cf_ledger.specs.Ledgers.{state_of}
use Rattle.cf_request.specs.Joins.{IsDueBy}
use Rattle.cf_request.specs.Relays.{IsNotBehind, NoneBehind}
use Rattle.cf_request.specs.Telling.{order_in}
use Rattle.cf_request.specs.declared.joins.Join.{Join}
use Rattle.cf_request.proofs.relays.first_from.Goals as goal

pub loop-place-preserved : goal.loop-place-preserved
loop-place-preserved c =
    let P : Join → Type 0 = IsNotBehind (state_of c.args.teller.now.ledger).stages in
    All-more P c.args.relays.now.follows.items c.loop-place.place c.index.result.now (omega arith) c.loop-place.invariant (subst P c.index.ensures c.in_default.ensures.none)

pub returns-clause-none : goal.returns-clause-none
returns-clause-none c = subst (λ (l : List Join). NoneBehind l (state_of c.args.teller.now.ledger).stages) (take_all c.loop-place.place c.args.relays.now.follows.items (omega arith)) c.loop-place.invariant

pub returns-in-Some-clause-behind : goal.returns-in-Some-clause-behind
returns-in-Some-clause-behind c =
    let t = c.args.teller.now in
    let row = c.args.relays.now.follows.items in
    let k = c.loop-place.place in
    let x = c.index.result.now in
    record {
      due = record {
        join = get_or row k x;
        front = take k row;
        back = drop (suc k) row;
        is = split_at row k x (omega arith);
        first = c.loop-place.invariant;
        due = subst (λ (j : Join). IsDueBy (state_of t.ledger).stages (order_in t) j c.in-Some.due) c.index.ensures c.in-Some.ensures.due;
      };
      place = sym (length-take-le k row (omega arith));
    }
