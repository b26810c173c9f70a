use Rattle.std.proofs.Common.{flat_map}
use Rattle.cf_telling.specs.Texts.{Adds}
use Rattle.cf_telling.proofs.Texts.{piece}
use Rattle.cf_telling.proofs.text.Text.add_inside.Given as goal

-- the characters so far are written
abbrev pub invariant-loop-c : goal.invariant-loop-c
invariant-loop-c l = Adds (flat_map (piece l.initial.self.within) l.yielded) l.initial.self l.self
