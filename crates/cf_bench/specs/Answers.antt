-- What the function of all stages answers.
use Rattle.std.specs.Prelude.{ℤ, pos}
use Rattle.std.specs.Int.{w32, int_wrapping_add}
use Rattle.cf_outcome.specs.declared.outcome.Value.{Value}
use Rattle.cf_outcome.specs.declared.outcome.Value.TheVariants.{Nil, Int}
use Rattle.cf_forms.specs.declared.forms.Args.{Args}
use Rattle.cf_forms.specs.declared.forms.Args.TheVariants.{One, Two}
use Rattle.cf_forms.specs.declared.forms.Answer.{Answer}
use Rattle.cf_forms.specs.declared.forms.Answer.TheVariants.{Give}

-- the number of a value
abbrev pub number_of : Value → ℤ
number_of Nil = pos 0
number_of (Int z) = z

-- the sum of the arguments
abbrev pub sum_of : Args → ℤ
sum_of (One v) = number_of v
sum_of (Two v w) = int_wrapping_add w32 (number_of v) (number_of w)
sum_of args = pos 0

-- one more than the sum of the arguments
abbrev pub one_more : Args → Answer
one_more args = Give (Int (int_wrapping_add w32 (sum_of args) (pos 1)))
