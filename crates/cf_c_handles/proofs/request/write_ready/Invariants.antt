use Rattle.std.proofs.Common.{◌≡◌, ℕ, ◌<◌, ◌≤◌, Some, length, slice_get}
use Rattle.cf_c_handles.specs.Todos.{is_wanted_below, wanted_in}
use Rattle.cf_c_handles.proofs.request.write_ready.Given as goal

abbrev pub invariant-each : goal.invariant-each
invariant-each l = record {
  reach : length l.todo.ready ≡ length l.initial.todo.ready;
  there : (k : ℕ) → k < l.lane → slice_get l.todo.ready k ≡ Some (wanted_in l.machine l.initial.todo.jobs k);
  others : (k : ℕ) → l.lane ≤ k → slice_get l.todo.ready k ≡ slice_get l.initial.todo.ready k;
  wanted : l.wanted ≡ is_wanted_below l.machine l.initial.todo.jobs l.lane;
  rest : l.todo ≡ record l.initial.todo { ready = l.todo.ready };
}
