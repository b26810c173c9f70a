use Rattle.std.proofs.Common.{◌≡◌, ℕ, ◌+◌, length}
use Rattle.cf_forms.specs.Meanings.{Meanings}
use Rattle.cf_explore.specs.Programs.{Programmed, Situated}
use Rattle.cf_explore.specs.Layers.{LeadsTo}
use Rattle.cf_explore.proofs.Tracing.{ReadUpTo}
use Rattle.cf_explore.proofs.found.Found.order.Given as goal

-- the order is read so far
abbrev pub invariant-loop-step : goal.invariant-loop-step
invariant-loop-step l = record {
  read : (left : ℕ) → left + l.step ≡ l.fn.witness.moves → (m : Meanings) (p : Programmed) (s : Situated) → LeadsTo m p l.self.trail.items l.fn.witness.moves l.fn.witness.number s → ReadUpTo m p l.self.trail.items s left l.number l.order.items;
  so_many : length l.order.items ≡ l.step;
}
