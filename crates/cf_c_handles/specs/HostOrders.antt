-- What a host of a store has to do next, as C has it.
use Rattle.std.specs.Prelude.{ℕ, true, false, None, Some}
use Rattle.cf_due.specs.declared.acts.NoAct.{NoAct}
use Rattle.cf_due.specs.declared.acts.NoAct.TheVariants.{NoStage, NoRoom, NoTry, Settled, Runs}
use Rattle.cf_forms.specs.declared.forms.Args.TheVariants.{None as NoArgs}
use Rattle.cf_host.specs.declared.news.Look.{Look}
use Rattle.cf_host.specs.declared.news.Look.TheVariants.{Whole, Since}
use Rattle.cf_host.specs.declared.order.Order.{Order}
use Rattle.cf_host.specs.declared.order.Order.TheVariants.{Beats, News, Open, Row, Call, Stop, Show, Tell, Sleep}
use Rattle.cf_part.specs.declared.question.Fault.{Fault}
use Rattle.cf_part.specs.declared.question.Fault.TheVariants.{Broken, Dropped, Payload}
use Rattle.cf_part.specs.declared.question.Question.{Question}
use Rattle.cf_part.specs.declared.question.Question.TheVariants.{Read, Put, Close}
use Rattle.cf_part.specs.declared.step.Shown.{Shown}
use Rattle.cf_part.specs.declared.step.Shown.TheVariants.{Outcome as ShowsOutcome, Fault as ShowsFault}
use Rattle.cf_turn.specs.declared.wish.Told.{Told}
use Rattle.cf_turn.specs.declared.wish.Told.TheVariants.{Stands, Not, Refused, Unknown, Closed, Ended}
use Rattle.cf_c_handles.specs.Values.{as_args, as_outcome}
use Rattle.cf_c_handles.specs.declared.values.host.order.CfHostOrder.{CfHostOrder}

-- the number of the reason for which nothing goes on in a request
abbrev pub fault_number : Fault → ℕ
fault_number Broken = 10
fault_number Dropped = 11
fault_number Payload = 12

-- the number of the reason for which nothing is put
abbrev pub no_act_number : NoAct → ℕ
no_act_number NoStage = 4
no_act_number NoRoom = 5
no_act_number NoTry = 6
no_act_number (Settled false) = 7
no_act_number (Settled true) = 8
no_act_number Runs = 9

-- an order of this kind with nothing else
abbrev pub ordering : ℕ → ℕ → ℕ → CfHostOrder
ordering kind ticket request = record {
  kind = kind;
  told = 0;
  ticket = ticket;
  request = request;
  stage = 0;
  function = 0;
  place = 0;
  moment = 0;
  args = as_args NoArgs;
  outcome = as_outcome None;
}

-- the order to look at what is new
abbrev pub with_look : Look → ℕ → CfHostOrder
with_look Whole ticket = ordering 2 ticket 0
with_look (Since mark) ticket = record (ordering 3 ticket 0) { moment = mark }

-- the order to ask this of a request's row
abbrev pub with_question : Question → ℕ → ℕ → CfHostOrder
with_question (Read place) ticket request = record (ordering 5 ticket request) { place = place }
with_question (Put place) ticket request = record (ordering 6 ticket request) { place = place }
with_question (Close place) ticket request = record (ordering 7 ticket request) { place = place }

-- the order to show a stage so
abbrev pub with_shown : Shown → ℕ → CfHostOrder → CfHostOrder
with_shown (ShowsOutcome outcome) stage order = record order { stage = stage; outcome = as_outcome (Some outcome) }
with_shown (ShowsFault fault) stage order = record order { stage = stage; told = fault_number fault }

-- the order to tell a user this
abbrev pub told_as : Told → CfHostOrder → CfHostOrder
told_as (Stands stage) order = record order { told = 0; stage = stage }
told_as Closed order = record order { told = 1; stage = 0 }
told_as Refused order = record order { told = 2; stage = 0 }
told_as Unknown order = record order { told = 3; stage = 0 }
told_as (Not why) order = record order { told = no_act_number why; stage = 0 }
told_as (Ended fault) order = record order { told = fault_number fault; stage = 0 }

-- an order for C: what it doesn't have is 0
abbrev pub as_order : Order → CfHostOrder
as_order (Sleep moment) = record (ordering 0 0 0) { moment = moment }
as_order (Beats ticket) = ordering 1 ticket 0
as_order (News ticket look) = with_look look ticket
as_order (Open ticket request) = ordering 4 ticket request
as_order (Row ticket request question) = with_question question ticket request
as_order (Call ticket request stage function args) =
    record (ordering 8 ticket request) { stage = stage; function = function; args = as_args args }
as_order (Stop ticket) = ordering 9 ticket 0
as_order (Show request stage shown) = with_shown shown stage (ordering 10 0 request)
as_order (Tell ticket told) = told_as told (ordering 11 ticket 0)
