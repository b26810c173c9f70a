use Rattle.std.proofs.Common.{refl}
use Rattle.cf_request.specs.Rows.{job_of, nothing}
use Rattle.cf_request.specs.Rows.IsCall.{applies, cancels_all, forgets, goes_on, grows, passes, refuses, reserves, sets_deadline, sets_join, took}
use Rattle.cf_example.proofs.AnyRow.{either_call, either_done, either_kept, one_call, set_told}
use Rattle.cf_example.proofs.calls.make.Goals as goal

pub returns-in-Reserve-clause-row : goal.returns-in-Reserve-clause-row
returns-in-Reserve-clause-row c =
    let old = c.args.machine.now in
    let new = c.reserve.new.self in
    either_kept old new c.reserve.result _ c.reserve.ensures.found c.reserve.ensures.refused (λ h. one_call old new nothing (reserves c.in-Reserve.words refl h))

pub returns-then-lane-lanes-clause-row : goal.returns-then-lane-lanes-clause-row
returns-then-lane-lanes-clause-row c =
    let old = c.args.machine.now in
    let new = c.apply.new.self in
    either_call old new c.apply.result _ c.apply.ensures.done c.apply.ensures.refused (λ reply h. one_call old new nothing (applies c.in-Apply.word c.in-Apply.lane reply refl h))

pub returns-then-lane-lanes-2-clause-row : goal.returns-then-lane-lanes-2-clause-row
returns-then-lane-lanes-2-clause-row c =
    let old = c.args.machine.now in
    let new = c.next.new.self in
    either_call old new c.next.result _ c.next.ensures.done c.next.ensures.refused (λ next h. one_call old new (job_of c.in-Next.who next.taken) (goes_on c.in-Next.who c.in-Next.lane c.in-Next.held next refl h))

pub returns-in-Follow-clause-row : goal.returns-in-Follow-clause-row
returns-in-Follow-clause-row c =
    let old = c.args.machine.now in
    let new = c.follow.new.self in
    either_done old new c.follow.result _ c.follow.ensures.set c.follow.ensures.refused (λ h. one_call old new nothing (sets_join h.join refl h.sets))

pub returns-in-SetDeadline-clause-row : goal.returns-in-SetDeadline-clause-row
returns-in-SetDeadline-clause-row c =
    let old = c.args.machine.now in
    let new = c.deadline.new.self in
    either_kept old new c.deadline.result _ c.deadline.ensures.set c.deadline.ensures.refused (λ h. one_call old new nothing (sets_deadline c.in-SetDeadline.deadline refl h))

pub returns-in-SetDeadline-clause-set : goal.returns-in-SetDeadline-clause-set
returns-in-SetDeadline-clause-set c =
    set_told c.is_ok-in-SetDeadline.result c.deadline.result c.in-SetDeadline.deadline c.args.call c.args.machine.now c.deadline.new.self c.is_ok-in-SetDeadline.ensures.value c.in-SetDeadline.is c.deadline.ensures.set

pub returns-in-NextDeadline-clause-row : goal.returns-in-NextDeadline-clause-row
returns-in-NextDeadline-clause-row c = one_call c.args.machine.now c.next_deadline.new.self nothing (forgets refl c.next_deadline.ensures.forgets c.next_deadline.ensures.rest)

pub returns-in-Pass-clause-row : goal.returns-in-Pass-clause-row
returns-in-Pass-clause-row c =
    let old = c.args.machine.now in
    let new = c.pass.new.self in
    either_done old new c.pass.result _ c.pass.ensures.passes c.pass.ensures.refused (λ h. one_call old new nothing (passes c.in-Pass.moment refl h))

pub returns-then-lane-lanes-3-clause-row : goal.returns-then-lane-lanes-3-clause-row
returns-then-lane-lanes-3-clause-row c =
    let old = c.args.machine.now in
    let new = c.refuse.new.self in
    either_done old new c.refuse.result _ c.refuse.ensures.refuses c.refuse.ensures.refused (λ h. one_call old new nothing (refuses c.in-Refuse.lane c.in-Refuse.code refl h))

pub returns-in-CancelAll-clause-row : goal.returns-in-CancelAll-clause-row
returns-in-CancelAll-clause-row c =
    let old = c.args.machine.now in
    let new = c.cancel_all.new.self in
    either_done old new c.cancel_all.result _ c.cancel_all.ensures.cancels c.cancel_all.ensures.refused (λ h. one_call old new nothing (cancels_all c.in-CancelAll.who refl h))

pub returns-in-Took-clause-row : goal.returns-in-Took-clause-row
returns-in-Took-clause-row c =
    one_call c.args.machine.now c.took.new.self _ (took c.in-Took.count refl
    (record { ledger = c.took.ensures.ledger; taken = c.took.ensures.taken; told = c.took.ensures.told; lanes = c.took.ensures.lanes; rest = c.took.ensures.rest }))

pub returns-in-Grow-clause-row : goal.returns-in-Grow-clause-row
returns-in-Grow-clause-row c =
    let old = c.args.machine.now in
    let new = c.grow.new.self in
    either_kept old new c.grow.result _ c.grow.ensures.grows c.grow.ensures.refused (λ h. one_call old new nothing (grows refl h))
