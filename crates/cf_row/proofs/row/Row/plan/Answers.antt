use Rattle.std.proofs.Common.{◌≡◌, length, ap, sym, ◌∙◌, subst, arith}
use Rattle.cf_row.specs.Rows.{with_memory}
use Rattle.cf_row.specs.Puts.{IsNoPut, Row}
use Rattle.cf_row.proofs.Puts.{put_planned}
use Rattle.cf_row.proofs.row.Row.plan.Goals as goal

pub invariant_of-self : goal.invariant_of-self
invariant_of-self c =
    let old : Row = record { replica = c.self.inside.replica; put = c.self.inside.put.items; next = c.self.inside.next } in
    let now : Row = record { replica = c.self-2.inside.replica; put = c.self-2.inside.put.items; next = c.self-2.inside.next } in
    let same : now ≡ (record old { replica = with_memory old.replica (length c.args.words.now) }) =
    c.self-2.view_is ∙ c.in_ok-reserve.ensures.found ∙ sym (ap (λ (v : Row). let w : Row = record v { replica = with_memory v.replica (length c.args.words.now) } in w) c.self.view_is) in
    let p = put_planned old now c.stamp.new.put.items c.args.words.now same c.in-Ok.ensures.may c.self.invariant.tokens c.stamp.ensures.items in
    record { tokens = p.0; planned = p.1; memory = p.2; places = omega (arith, c.stamp.ensures.kept, c.self-2.invariant.places) }

pub returns-in-Err-clause-why : goal.returns-in-Err-clause-why
returns-in-Err-clause-why c = subst (λ (r : Row). IsNoPut r.replica r.next c.args.words.now c.in-Err.fault) c.self.view_is c.in-Err.ensures.why
