-- Records of a closed desk as C has them.
use Rattle.std.specs.Prelude.{◌≡◌, ℕ, Option, Some, None, List, eqb, length, nat_lt, option_map, slice_get, if◌then◌else◌}
use Rattle.std.specs.List.{All, find}
use Rattle.cf_outcome.specs.declared.outcome.Value.TheVariants.{Nil}
use Rattle.cf_forms.specs.declared.forms.Args.TheVariants.{None as NoArgs}
use Rattle.cf_model.specs.declared.asks.Ask.{Ask}
use Rattle.cf_model.specs.declared.asks.Ask.TheVariants.{Now as AsksNow, Outcome as AsksOutcome}
use Rattle.cf_model.specs.declared.asks.Told.{Told}
use Rattle.cf_model.specs.declared.asks.Told.TheVariants.{Now as ToldNow, Outcome as ToldOutcome}
use Rattle.cf_model.specs.declared.events.Event.{Event}
use Rattle.cf_event.specs.Decoding.{event_of}
use Rattle.cf_event.specs.Words.{word_of}
use Rattle.cf_desk.specs.declared.calls.Kept.{Kept as KeptPass}
use Rattle.cf_desk.specs.declared.calls.Rec.{Rec}
use Rattle.cf_desk.specs.declared.calls.Rec.TheVariants.{Did, Saw}
use Rattle.cf_model.specs.Calls.{event_by}
use Rattle.cf_desk.specs.Records.{dids}
use Rattle.cf_c_handles.specs.Replies.{as_reply, reply_with}
use Rattle.cf_c_handles.specs.Values.{as_now, as_outcome, as_value}
use Rattle.cf_c_handles.specs.declared.close.closed.CfRecord.{CfRecord}
use Rattle.cf_c_handles.specs.declared.values.CfNow.{CfNow}

-- nothing that is told at present
abbrev pub no_now : CfNow
no_now = record { kind = 0; outcome = as_outcome None }

-- a record of this kind and place, with nothing else
abbrev pub bare : ℕ → ℕ → CfRecord
bare kind place = record {
  kind = kind;
  place = place;
  word = 0;
  reply = reply_with 0 0 NoArgs;
  asked = 0;
  stage = 0;
  absent = as_value Nil;
  outcome = as_outcome None;
  now = no_now;
}

-- what was asked, and what was told
abbrev pub with_ask : Ask → CfRecord → CfRecord
with_ask (AsksOutcome stage) r = record r { asked = 0; stage = stage }
with_ask (AsksNow stage absent) r = record r { asked = 1; stage = stage; absent = as_value absent }

abbrev pub with_told : Told → CfRecord → CfRecord
with_told (ToldOutcome outcome) r = record r { outcome = as_outcome outcome }
with_told (ToldNow now) r = record r { now = as_now now }

-- a record of this caller: a changing call as the word of its event, with its reply, or a look
abbrev pub as_record : ℕ → Rec → CfRecord
as_record caller (Did place call reply) = record (bare 0 place) { word = word_of (event_by caller call); reply = as_reply reply }
as_record caller (Saw place ask answer) = with_told answer (with_ask ask (bare 1 place))

-- an event has a word, and is that word's event
abbrev pub HasWord : Event → Type 0
HasWord e = event_of (word_of e) ≡ Some e

-- the changing call of a record, if it is one, has a word
abbrev pub CallHasWord : ℕ → Rec → Type 0
CallHasWord caller (Did place call reply) = HasWord (event_by caller call)
CallHasWord caller (Saw place ask answer) = Unit {0}

-- those of a pass do
pub record CallsHaveWords (k : KeptPass) : Type 0 where
  pub calls : All (λ (d : ℕ × Event). HasWord d.1) (dids k.caller k.records.items)

-- what the first of these passes that is this caller's has kept
abbrev pub kept_of : List KeptPass → ℕ → Option KeptPass
kept_of passes caller = find (λ (k : KeptPass). eqb k.caller caller) passes

-- how many records it has, 65,535 at most
abbrev pub count_told : KeptPass → ℕ
count_told k = if nat_lt (length k.records.items) 65535 then length k.records.items else 65535

-- its record at a place
abbrev pub record_of : ℕ → KeptPass → Option CfRecord
record_of at k = option_map (as_record k.caller) (slice_get k.records.items at)
