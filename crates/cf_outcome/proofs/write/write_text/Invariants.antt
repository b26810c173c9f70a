use Rattle.std.proofs.Common.{◌≡◌, ℕ, List, ◌++◌, length}
use Rattle.std.specs.Io.KnownBytes.{Appends}
use Rattle.cf_outcome.proofs.write.write_text.Given as goal

abbrev pub invariant-rest : goal.invariant-rest
invariant-rest g l = (done : List ℕ) × (l.text ≡ done ++ l.rest) × Appends (g.W.Write.contents l.initial.w) (g.W.Write.contents l.w) done

abbrev pub decreases-rest : goal.decreases-rest
decreases-rest g l = length l.rest
