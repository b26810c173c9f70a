use Rattle.std.proofs.Common.{◌<◌, ◌++◌, ◌∷◌, [], length, length-append, ap, sym, ◌∙◌, append_assoc, arith}
use Rattle.std.specs.Vec.Iter.{into_iter_items}
use Rattle.cf_c_handles.proofs.Seats.{one_more, put_push}
use Rattle.cf_c_handles.proofs.desk.opening.put_all.Goals as goal
use Rattle.cf_c_handles.proofs.desk.opening.put_all.Goals.{in-Some, in_default}

below : (c : goal.Joined-next) → c.next.i < length c.next.handles
below c = let t = c.next-test.true in let s = c.next.auto.handles in omega arith

pub next-preserved : goal.next-preserved
next-preserved c = elim c.match-next.branch [
  | in-Some w ↦
      (let i = c.next.invariant in
      let more = one_more c.next.handles i.front i.back c.next.i w.put.new.self i.handles i.place (below c) in record {
        done = i.done ++ w.in-Some.held ∷ [];
        front = i.front ++ w.put.new.self ∷ [];
        back = more.rest;
        parts = i.parts ∙ ap (λ l. i.done ++ l) w.in-Some.ensures.cases.0 ∙ sym (append_assoc i.done (w.in-Some.held ∷ []) (into_iter_items c.next-in-next.new.self));
        handles = w.handles-is ∙ more.is;
        place = (let n = length-append i.front (w.put.new.self ∷ []) in let p = i.place in omega arith);
        left = (let l = i.left in let m = more.left in let r = w.in-Some.ensures.cases.1 in omega arith);
        put = put_push i.done i.front w.in-Some.held w.put.new.self i.put w.put.ensures;
      })
  | in_default w ↦ absurd
      (let i = c.next.invariant in
      let n = w.in_default.ensures.cases in
      let l = i.left in
      let h = ap length i.handles in
      let a = length-append i.front i.back in
      let p = i.place in
      let t = c.next-test.true in
      let s = c.next.auto.handles in omega arith)
]
