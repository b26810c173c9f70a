use Rattle.std.proofs.Common.{◌≤◌, ℕ, ap, sym, subst}
use Rattle.cf_request.specs.Machines.{Machine}
use Rattle.cf_example.proofs.OverCalls.{memory_alone, next_settled}
use Rattle.cf_example.proofs.keeping.settle_next.Goals as goal

pub returns-in-Ok-clause-settled : goal.returns-in-Ok-clause-settled
returns-in-Ok-clause-settled c = next_settled c.args.machine.now c.next_deadline.new.self c.pass.new.self c.in-Some.next c.in-Some.ensures.next c.next_deadline.ensures.forgets c.in-Ok.ensures.passes

pub returns-in-Err-clause-why : goal.returns-in-Err-clause-why
returns-in-Err-clause-why c =
    let same = ap (λ (m : Machine). m.moment) c.next_deadline.ensures.rest in
    memory_alone c.in-Some.next.moment c.next_deadline.new.self c.in-Err.fault (subst (λ (n : ℕ). n ≤ c.in-Some.next.moment) (sym same) c.in-Some.ensures.onward) c.in-Err.ensures.why
