-- Orders: lists of moves, one after another.
use Rattle.std.specs.Prelude.{◌≡◌, ℕ, List, [], ◌∷◌, ◌++◌, Contains, flat_map, length, map}
use Rattle.std.proofs.Common.{zero, suc}
use Rattle.std.specs.List.{filter}
use Rattle.cf_explore.specs.declared.step.Move.{Move}
use Rattle.cf_forms.specs.Meanings.{Meanings}
use Rattle.cf_explore.specs.Programs.{Programmed, Situated, start_of}
use Rattle.cf_explore.specs.Moves.{is_end, moved, moves}

-- the situations after one more move, one for each
abbrev pub next : Meanings → Programmed → Situated → List Situated
next m p s = map (moved m p s) (moves p s)

-- the situations in which all orders of k moves end, each as often as there are such orders
abbrev pub after : Meanings → Programmed → ℕ → List Situated
after m p zero = start_of p ∷ []
after m p (suc k) = flat_map (next m p) (after m p k)

-- the ends of all orders of fewer than k moves, each as often as there are such orders
abbrev pub ends_before : Meanings → Programmed → ℕ → List Situated
ends_before m p zero = []
ends_before m p (suc k) = ends_before m p k ++ filter (is_end p) (after m p k)

-- these moves can be made one after another from a situation, and where they lead
abbrev pub AreMoves : Meanings → Programmed → Situated → List Move → Type 0
AreMoves m p s [] = Unit {0}
AreMoves m p s (by ∷ order) = Contains (moves p s) by × AreMoves m p (moved m p s by) order

abbrev pub led : Meanings → Programmed → Situated → List Move → Situated
led m p s [] = s
led m p s (by ∷ order) = led m p (moved m p s by) order

-- an order of k moves leads from the start to a situation
pub record IsOrder (m : Meanings) (p : Programmed) (k : ℕ) (order : List Move) (s : Situated) : Type 0 where
  pub can_be : AreMoves m p (start_of p) order
  pub leads : led m p (start_of p) order ≡ s
  pub size : length order ≡ k
