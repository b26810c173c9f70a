-- The functions of stages, as a script writes them.
use Rattle.std.specs.Prelude.{ℕ, List, Option, Some, None, option_map, codes, if◌then◌else◌}
use Rattle.std.specs.Option.{option_or}
use Rattle.std.specs.Str.{bytes_eq}
use Rattle.serde_json.specs.Data.{Data, string}
use Rattle.cf_script_reading.specs.declared.func.Func.{Func}
use Rattle.cf_script_reading.specs.declared.func.Func.TheVariants.{Add, Mul, Div, Neg, Sum, Const, Throw, Goto, Select, Rescue}
use Rattle.cf_script_reading.specs.Parts.{◌>>=◌, up_to, int_of, value_of, exactly, number_at, only_member}

-- a function that is one word
unfoldable pub word_func : List ℕ → Option Func
word_func word =
    if bytes_eq word (codes "neg") then Some Neg
    else (if bytes_eq word (codes "sum") then Some Sum
    else None)

-- two stages, of which the operand selects one
unfoldable pub select_of : Data → Option Func
select_of d = do
  here ← exactly 2 d
  i ← number_at 65535 0 d
  j ← number_at 65535 1 d
  Some (Select i j)

-- a function that works on a number, and what it works with
unfoldable pub number_func : List ℕ → Data → Option Func
number_func name d =
    if bytes_eq name (codes "add") then option_map Add (int_of d)
    else (if bytes_eq name (codes "mul") then option_map Mul (int_of d)
    else (if bytes_eq name (codes "div") then option_map Div (int_of d)
    else None))

-- a function that answers what it is given, and that
unfoldable pub given_func : List ℕ → Data → Option Func
given_func name d =
    if bytes_eq name (codes "const") then option_map Const (value_of d)
    else (if bytes_eq name (codes "throw") then option_map Throw (up_to 4294967295 d)
    else (if bytes_eq name (codes "goto") then option_map Goto (up_to 65535 d)
    else (if bytes_eq name (codes "select") then select_of d
    else (if bytes_eq name (codes "rescue") then option_map Rescue (value_of d)
    else None))))

-- an object of one member
unfoldable pub member_func : Data → Option Func
member_func d = do
  named ← only_member d
  option_or (number_func named.0 named.1) (given_func named.0 named.1)

-- a function
unfoldable pub func_of : Data → Option Func
func_of (string word) = word_func word
func_of d = member_func d

-- the function of a stage: none, where nothing is said of one
abbrev pub function_said : Option Data → Option (Option Func)
function_said None = Some None
function_said (Some d) = option_map Some (func_of d)
