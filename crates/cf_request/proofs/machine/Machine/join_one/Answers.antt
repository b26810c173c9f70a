use Rattle.cf_request.proofs.machine.Machine.join_one.Goals as goal

pub returns-in-Ok-clause-set : goal.returns-in-Ok-clause-set
returns-in-Ok-clause-set c = record { join = c.join_of-join.result; is = c.join_of-join.ensures; sets = c.in-Ok.ensures.set }
