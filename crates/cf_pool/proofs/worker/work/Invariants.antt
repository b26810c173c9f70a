use Rattle.std.proofs.Common.{◌≡◌, ◌+◌, ◌-◌, length}
use Rattle.cf_pool.proofs.Jobs.{Turned}
use Rattle.cf_pool.proofs.Calling.{CallsIn}
use Rattle.cf_pool.proofs.worker.work.Given as goal

abbrev pub invariant-jobs : goal.invariant-jobs
invariant-jobs g l = record {
  turned : Turned (g.W.Worker.answers l.initial.worker) l.initial.pass l.pass l.done;
  called : CallsIn g.W.Worker.tells g.W.Functions.calls l.initial.pass l.pass l.initial.worker l.worker;
  keeps : g.W.Worker.answers l.worker ≡ g.W.Worker.answers l.initial.worker;
  room : l.room + length l.initial.pass.records ≡ l.initial.pass.calls;
}

abbrev pub decreases-jobs : goal.decreases-jobs
decreases-jobs g l = l.pass.calls - length l.pass.records
