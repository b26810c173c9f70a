-- What the functions of a script answer.
use Rattle.std.specs.Prelude.{ℤ, pos, if◌then◌else◌}
use Rattle.std.specs.Int.{w32, int_wrapping_add, int_wrapping_mul, int_wrapping_div, int_wrapping_neg}
use Rattle.std.specs.Ordering.{int_eq}
use Rattle.cf_outcome.specs.declared.outcome.Value.{Value}
use Rattle.cf_outcome.specs.declared.outcome.Value.TheVariants.{Nil, Int}
use Rattle.cf_outcome.specs.declared.outcome.Cause.{Cause}
use Rattle.cf_outcome.specs.declared.outcome.Cause.TheVariants.{Thrown}
use Rattle.cf_outcome.specs.declared.outcome.Outcome.TheVariants.{Value as Gives, Fault}
use Rattle.cf_forms.specs.declared.forms.Args.{Args}
use Rattle.cf_forms.specs.declared.forms.Args.TheVariants.{One, Two, Got}
use Rattle.cf_forms.specs.declared.forms.Answer.{Answer}
use Rattle.cf_forms.specs.declared.forms.Answer.TheVariants.{Give, Throw, Link}
use Rattle.cf_script_reading.specs.declared.func.Func.{Func}
use Rattle.cf_script_reading.specs.declared.func.Func.TheVariants as funcs

-- the number of a value
abbrev pub number_of : Value → ℤ
number_of Nil = pos 0
number_of (Int z) = z

-- the first argument, nil where there is none
abbrev pub first_argument : Args → Value
first_argument (One v) = v
first_argument (Two v w) = v
first_argument (Got (Gives v)) = v
first_argument args = Nil

-- the number that a function works on
abbrev pub operand : Args → ℤ
operand args = number_of (first_argument args)

-- the sum of two arguments, or the operand
abbrev pub sum_of : Args → ℤ
sum_of (Two v w) = int_wrapping_add w32 (number_of v) (number_of w)
sum_of args = operand args

-- the operand over k, towards zero; over 0 the code 0 is thrown
abbrev pub quotient : Args → ℤ → Answer
quotient args k = if int_eq k (pos 0) then Throw 0 else Give (Int (int_wrapping_div w32 (operand args) k))

-- what a function that works on a number answers to a fault: a code that was thrown is thrown again
abbrev pub thrown_again : Cause → Answer
thrown_again (Thrown code) = Throw code
thrown_again cause = Throw 0

-- What each function answers. Sums, products, quotients and negation are those of 32 bits, which wrap.
abbrev pub func_answer : Func → Args → Answer
func_answer (funcs.Const v) args = Give v
func_answer (funcs.Throw code) args = Throw code
func_answer (funcs.Goto j) args = Link j
func_answer (funcs.Rescue v) (Got (Fault cause wrapped)) = Give v
func_answer (funcs.Rescue v) args = Give (first_argument args)
func_answer f (Got (Fault cause wrapped)) = thrown_again cause
func_answer (funcs.Add k) args = Give (Int (int_wrapping_add w32 (operand args) k))
func_answer (funcs.Mul k) args = Give (Int (int_wrapping_mul w32 (operand args) k))
func_answer (funcs.Div k) args = quotient args k
func_answer funcs.Neg args = Give (Int (int_wrapping_neg w32 (operand args)))
func_answer funcs.Sum args = Give (Int (sum_of args))
func_answer (funcs.Select i j) args = if int_eq (operand args) (pos 0) then Link i else Link j
