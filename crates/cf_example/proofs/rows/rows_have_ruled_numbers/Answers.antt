use Rattle.cf_row.specs.Puts.{pairs_of}
use Rattle.cf_example.proofs.rows.rows_have_ruled_numbers.Goals as goal

pub returns : goal.returns
returns c = λ plan asked row run. c.numbers_are_ruled.ensures (pairs_of row) (c.all_follow_the_rule.ensures plan asked row run)
