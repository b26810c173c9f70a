use Rattle.std.proofs.Common.{ℕ, Contains, ◌<◌}
use Rattle.cf_row.specs.Numbers.{numbers_in}
use Rattle.cf_row.specs.Puts.{pairs_of}
use Rattle.cf_row.proofs.numbers.new_number.Given as goal

-- all lower ones are taken
abbrev pub invariant-loop-who : goal.invariant-loop-who
invariant-loop-who l = (k : ℕ) → k < l.who → Contains (numbers_in (pairs_of l.seen)) k
