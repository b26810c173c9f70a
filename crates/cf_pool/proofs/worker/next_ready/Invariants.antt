use Rattle.std.proofs.Common.{◌≡◌, ◌<◌, None, length}
use Rattle.cf_model.specs.States.{lowest_ready_of}
use Rattle.cf_desk.specs.Views.{Follows, state_of}
use Rattle.cf_pool.specs.Waits.{Idles}
use Rattle.cf_pool.proofs.worker.next_ready.Given as goal

abbrev pub invariant-looks : goal.invariant-looks
invariant-looks l = record {
  seen : Follows l.initial.pass l.pass;
  idles : Idles l.desk l.counter (length l.initial.pass.known.seen) l.initial.pass.known.looks l.pass;
  none : 0 < l.counter → lowest_ready_of (state_of l.pass.known) ≡ None;
}
