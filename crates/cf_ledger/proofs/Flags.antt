-- Flags of which none is set.
use Rattle.std.proofs.Common.{◌≡◌, ℕ, false, None, replicate, arith}
use Rattle.std.specs.Prelude.{position}
use Rattle.cf_bits.proofs.Positions.{position_is_none}
use Rattle.std.proofs.lemmas.List.{get_or-replicate, length-replicate}

pub none_set : (n : ℕ) → position (λ b. b) (replicate n false) ≡ None
none_set n = position_is_none (λ b. b) (replicate n false) false (λ j l. get_or-replicate n j false false (let all = length-replicate n false in omega (arith, l, all)))
