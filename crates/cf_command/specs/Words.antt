-- What the words of the command line say.
use Rattle.std.specs.Prelude.{◌+◌, ◌-◌, ◌*◌, ◌<◌, ◌≤◌, ◌&&◌, ℕ, List, [], ◌∷◌, codes, Option, Some, None, option_map, Bool, true, nat_le, if◌then◌else◌}
use Rattle.std.specs.Str.{bytes_eq}
use Rattle.clap.specs.Walk.{is_empty}
use Rattle.clap.specs.Words.{App, Row, Rule, Text, new_app, new_rule, with_rule, with_subcommand, subcommand_of, first_of, fault_of}
use Rattle.cf_command.specs.declared.command.Command.{Command}
use Rattle.cf_command.specs.declared.command.Command.TheVariants.{Run, Race}

-- ---- the command line, as `clap` sees it

abbrev pub workers_option : Rule
workers_option = record (new_rule (codes "workers")) { long = Some (codes "workers") }

abbrev pub run_words : App
run_words = new_app (codes "run")

abbrev pub race_words : App
race_words = with_rule (new_app (codes "race")) workers_option

-- a subcommand is required, and the program's name isn't among the words
abbrev pub cf_top : App
cf_top = let a = new_app (codes "cf") in record a { top = record a.top { no_binary_name = true; subcommand_required = true } }

abbrev pub cf_words : App
cf_words = with_subcommand (with_subcommand cf_top run_words.top) race_words.top

-- ---- what is made of them

abbrev pub is_digit : ℕ → Bool
is_digit d = nat_le 48 d && nat_le d 57

abbrev pub up_to_32 : ℕ → Option ℕ
up_to_32 n = if nat_le n 32 then Some n else None

-- 1 to 32 in decimal, with no sign and no leading zero
unfoldable pub workers_of : List ℕ → Option ℕ
workers_of (d ∷ []) = if is_digit d && nat_le 49 d then Some (d - 48) else None
workers_of (d ∷ e ∷ []) = if is_digit d && nat_le 49 d && is_digit e then up_to_32 (10 * (d - 48) + (e - 48)) else None
workers_of _ = None

abbrev pub race_said : Option Text → Option Command
race_said None = Some (Race 4)
race_said (Some text) = option_map Race (workers_of text)

abbrev pub command_named : Text → List Row → Option Command
command_named name rows = if bytes_eq name (codes "run") then Some Run else (if bytes_eq name (codes "race") then race_said (first_of (codes "workers") rows) else None)

abbrev pub command_said : Option (Text × List Row) → Option Command
command_said None = None
command_said (Some p) = command_named p.0 p.1

-- `clap` finds no fault in the words, and the number of workers is one
unfoldable pub command_of : List Text → Option Command
command_of words = if is_empty (fault_of cf_words words) then command_said (subcommand_of cf_words words) else None

-- a race has 1 to 32 workers
abbrev pub HasWorkers : Command → Type 0
HasWorkers Run = Unit {0}
HasWorkers (Race workers) = (0 < workers) × (workers ≤ 32)
