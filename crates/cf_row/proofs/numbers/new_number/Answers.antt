use Rattle.std.proofs.Common.{◌%◌, ◌<◌, ℕ, Contains, below_more, refl, arith}
use Rattle.cf_row.specs.Numbers.{numbers_in}
use Rattle.cf_row.specs.Puts.{pairs_of}
use Rattle.cf_row.proofs.Puts.{late_rule, new_rule}
use Rattle.cf_row.proofs.numbers.new_number.Goals as goal

pub loop-who-preserved : goal.loop-who-preserved
loop-who-preserved c = below_more (λ (k : ℕ). Contains (numbers_in (pairs_of c.args.seen.now)) k) _ c.loop-who.invariant c.if-is_free.ensures.taken

pub returns-then-is_free : goal.returns-then-is_free
returns-then-is_free c = new_rule c.args.session c.loop-who.who c.args.seen.now (omega arith) c.requires c.if-is_free.ensures.free c.loop-who.invariant

pub returns : goal.returns
returns c = late_rule c.args.session (c.args.session % 64) c.args.seen.now c.requires (λ k l. c.loop-who.invariant k (omega (arith, l))) refl
