-- The records of an account's callers, as JSON. Numbers are decimal.
use Rattle.std.specs.Prelude.{ℕ, List, ◌∷◌, ◌++◌, codes}
use Rattle.std.specs.Fmt.{decimal, signed_decimal}
use Rattle.cf_outcome.specs.declared.outcome.Value.{Value}
use Rattle.cf_outcome.specs.declared.outcome.Value.TheVariants as values
use Rattle.cf_model.specs.declared.asks.Ask.{Ask}
use Rattle.cf_model.specs.declared.asks.Ask.TheVariants as asks
use Rattle.cf_model.specs.declared.asks.Told.{Told}
use Rattle.cf_model.specs.declared.events.Reply.{Reply}
use Rattle.cf_text.specs.Texts.{reply_text, told_text}

-- an event at a place, its word, and what it was answered
abbrev pub did_text : ℕ → ℕ → Reply → List ℕ
did_text place word reply = codes "[\"did\"," ++ decimal place ++ codes ",\"" ++ decimal word ++ codes "\",\"" ++ reply_text reply ++ codes "\"]"

-- the value that is told of a stage that has none
abbrev pub absent_text : Value → List ℕ
absent_text values.Nil = codes "null"
absent_text (values.Int n) = signed_decimal n

-- a question behind so many events, up to what it was told; 44 is a comma
abbrev pub asked_text : ℕ → Ask → List ℕ
asked_text place (asks.Now i absent) = codes "[\"now\"," ++ decimal place ++ codes "," ++ decimal i ++ codes "," ++ absent_text absent ++ codes ",\""
asked_text place (asks.Outcome i) = codes "[\"outcome\"," ++ decimal place ++ 44 ∷ (decimal i ++ codes ",\"")

-- all of it
abbrev pub saw_text : ℕ → Ask → Told → List ℕ
saw_text place ask told = asked_text place ask ++ told_text told ++ codes "\"]"
