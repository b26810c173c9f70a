-- The texts of what a graph replies and tells. Numbers are decimal, and there is one blank between words.
use Rattle.std.specs.Prelude.{ℕ, List, [], ◌∷◌, ◌++◌, codes, Bool, true, false, Option, Some, None}
use Rattle.std.specs.Fmt.{decimal}
use Rattle.cf_outcome.specs.declared.outcome.Outcome.{Outcome}
use Rattle.cf_outcome.specs.Texts.{value_text, outcome_text, now_text}
use Rattle.cf_forms.specs.declared.forms.Args.{Args}
use Rattle.cf_forms.specs.declared.forms.Args.TheVariants as args
use Rattle.cf_model.specs.declared.replies.Claimed.{Claimed}
use Rattle.cf_model.specs.declared.replies.Claimed.TheVariants as claims
use Rattle.cf_model.specs.declared.replies.Finished.{Finished}
use Rattle.cf_model.specs.declared.replies.Finished.TheVariants as finishes
use Rattle.cf_model.specs.declared.replies.Ticked.{Ticked}
use Rattle.cf_model.specs.declared.replies.Ticked.TheVariants as ticks
use Rattle.cf_model.specs.declared.replies.Attached.{Attached}
use Rattle.cf_model.specs.declared.replies.Attached.TheVariants as attaches
use Rattle.cf_model.specs.declared.events.Reply.{Reply}
use Rattle.cf_model.specs.declared.events.Reply.TheVariants as replies
use Rattle.cf_model.specs.declared.asks.Told.{Told}
use Rattle.cf_model.specs.declared.asks.Told.TheVariants as tells

-- a text and its line feed
abbrev pub line : List ℕ → List ℕ
line text = text ++ 10 ∷ []

abbrev pub flag_text : Bool → List ℕ
flag_text true = codes "true"
flag_text false = codes "false"

-- what a claim hands out
abbrev pub args_text : Args → List ℕ
args_text args.None = codes "none"
args_text (args.One v) = codes "one " ++ value_text v
args_text (args.Two v w) = codes "two " ++ value_text v ++ codes " " ++ value_text w
args_text (args.Got o) = codes "got " ++ outcome_text o

abbrev pub claimed_text : Claimed → List ℕ
claimed_text (claims.Granted args) = codes "granted " ++ args_text args
claimed_text claims.Settled = codes "settled"
claimed_text claims.Taken = codes "taken"
claimed_text claims.NotReady = codes "notready"

abbrev pub finished_text : Finished → List ℕ
finished_text finishes.Won = codes "won"
finished_text finishes.Late = codes "late"
finished_text finishes.NotYours = codes "notyours"

abbrev pub ticked_text : Ticked → List ℕ
ticked_text (ticks.Fired n) = codes "fired " ++ decimal n
ticked_text ticks.Past = codes "past"

abbrev pub attached_text : Attached → List ℕ
attached_text (attaches.At n) = codes "attached " ++ decimal n
attached_text attaches.StagesFull = codes "stagesfull"

-- what an event is answered
abbrev pub reply_text : Reply → List ℕ
reply_text (replies.Flag b) = flag_text b
reply_text (replies.Claim c) = claimed_text c
reply_text (replies.Finish f) = finished_text f
reply_text (replies.Tick t) = ticked_text t
reply_text (replies.Attach a) = attached_text a

-- an outcome, or that there is none yet
abbrev pub settled_text : Option Outcome → List ℕ
settled_text (Some o) = outcome_text o
settled_text None = codes "pending"

-- what a question is told
abbrev pub told_text : Told → List ℕ
told_text (tells.Now n) = now_text n
told_text (tells.Outcome o) = settled_text o
