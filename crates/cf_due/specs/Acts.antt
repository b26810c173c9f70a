-- What a user asks of a request.
use Rattle.std.specs.Prelude.{◌≡◌, ◌≢◌, ℕ, ◌+◌, ◌<◌, ◌≤◌, ◌&&◌, Bool, true, false, Option, Some, None, List, [], ◌∷◌, if◌then◌else◌, is_some, length, option_and_then, slice_get, unwrap_or}
use Rattle.std.specs.Int.{w32, cast_signed}
use Rattle.cf_outcome.specs.declared.outcome.Cause.TheVariants.{Thrown, Cancelled}
use Rattle.cf_outcome.specs.declared.outcome.Outcome.{Outcome}
use Rattle.cf_outcome.specs.declared.outcome.Outcome.TheVariants.{Value as Gives, Fault}
use Rattle.cf_outcome.specs.declared.outcome.Value.TheVariants.{Int}
use Rattle.cf_outcome.specs.Outcomes.{is_cancelled}
use Rattle.cf_forms.specs.declared.forms.Form.{Form}
use Rattle.cf_forms.specs.declared.forms.Form.TheVariants.{Source, Exceptionally}
use Rattle.cf_forms.specs.declared.forms.Of.{Of}
use Rattle.cf_forms.specs.declared.forms.Of.TheVariants.{None as NoSource, One}
use Rattle.cf_forms.specs.Forms.{composes}
use Rattle.cf_forms.specs.Plans.{AreBelow, fits_form, sources_of}
use Rattle.cf_model.specs.declared.events.Event.TheVariants.{Tick as Ticks, Attach as AttachesAs}
use Rattle.cf_model.specs.States.{claim_at, outcome_at}
use Rattle.cf_event.specs.Words.{word_of}
use Rattle.cf_row.specs.Rows.{Replica, stages_of, state_of}
use Rattle.cf_row.specs.Numbers.{FollowsRule}
use Rattle.cf_row.specs.Puts.{AreWordsBehind, pairs_of}
use Rattle.cf_notes.specs.declared.note.Note.{Note}
use Rattle.cf_notes.specs.declared.note.Note.TheVariants.{Nothing, Calls, Tries, Composes as NotesCompose, Timer as NotesTimer}
use Rattle.cf_notes.specs.declared.noted.Noted.{Noted}
use Rattle.cf_notes.specs.declared.wants.Source.{Source as Payload}
use Rattle.cf_notes.specs.declared.wants.Source.TheVariants.{Nothing as NoPayload, Given}
use Rattle.cf_notes.specs.declared.wants.Want.{Want}
use Rattle.cf_due.specs.declared.acts.Act.{Act}
use Rattle.cf_due.specs.declared.acts.Act.TheVariants.{Complete, Fail, Cancel, Limit, Attach, Again}
use Rattle.cf_due.specs.declared.acts.Acting.{Acting}
use Rattle.cf_due.specs.declared.acts.NoAct.{NoAct}
use Rattle.cf_due.specs.declared.acts.NoAct.TheVariants.{NoStage, NoRoom, NoTry, Settled, Runs}
use Rattle.cf_notes.specs.Noting.{function_of, promise_of}
use Rattle.cf_due.specs.Settling.{IsOpen, SettlesAs, place_of}

-- ---- what is asked for

-- an attached stage fits its form
abbrev pub IsFitting : Act → Type 0
IsFitting (Attach form of function) = fits_form form (length (sources_of of)) (is_some function) ≡ true
IsFitting act = Unit {0}

-- the stage that a further try of stage i tries again: where that is a try itself, the first one
abbrev pub tried_by : List Noted → ℕ → ℕ
tried_by notes i = unwrap_or (option_and_then (λ (n : Noted). n.tries) (slice_get notes i)) i

-- it has a function, and doesn't compose
pub record HasTryOf (notes : List Noted) (tried : ℕ) : Type 0 where
  pub function : is_some (function_of notes tried) ≡ true
  pub composes : promise_of notes tried ≡ None

abbrev pub HasTry : List Noted → ℕ → Type 0
HasTry notes i = HasTryOf notes (tried_by notes i)

-- ---- what is put

-- one word that settles an open stage so, with this payload beside it
pub record SettlesAlone (r : Replica) (i : ℕ) (o : Outcome) (payload : Payload) (a : Acting) : Type 0 where
  pub is_open : IsOpen r i
  pub word : SettlesAs r i o a.first.word
  pub note : a.first.note ≡ Nothing
  pub source : a.first.source ≡ payload
  pub alone : a.second ≡ None

-- a word that the graph takes behind all that was seen, and beside which a note may stand: a tick at no moment
pub record TicksBehind (r : Replica) (word : ℕ) : Type 0 where
  pub who : ℕ
  pub rule : FollowsRule (pairs_of r.seen) (r.session, who)
  pub is : word ≡ word_of (Ticks who 0)
  pub fits : AreWordsBehind r who (word ∷ [])

-- that word with this note, and with a payload or none: an open stage has a timer then
pub record TimesAlone (r : Replica) (i moment : ℕ) (gives : Bool) (a : Acting) : Type 0 where
  pub is_open : IsOpen r i
  pub tick : TicksBehind r a.first.word
  pub note : a.first.note ≡ NotesTimer i moment gives
  pub source : a.first.source ≡ (if gives then Given else NoPayload)
  pub alone : a.second ≡ None

-- one word that attaches a stage, with this note: the graph has the stage's number for its function
pub record AttachesAlone (r : Replica) (form : Form) (of : Of) (function : Option ℕ) (beside : Note) (a : Acting) : Type 0 where
  pub who : ℕ
  pub rule : FollowsRule (pairs_of r.seen) (r.session, who)
  pub is : a.first.word ≡ word_of (AttachesAs who form of function)
  pub fits : AreWordsBehind r who (a.first.word ∷ [])
  pub note : a.first.note ≡ beside
  pub source : a.first.source ≡ NoPayload
  pub alone : a.second ≡ None

-- two words, which attach a promise, and then the stage that composes it
pub record AttachesBoth (r : Replica) (form : Form) (of : Of) (function : ℕ) (a : Acting) : Type 0 where
  pub who : ℕ
  pub rule : FollowsRule (pairs_of r.seen) (r.session, who)
  pub promise : a.first ≡ record { word = word_of (AttachesAs who Source NoSource None); note = Nothing; source = NoPayload }
  pub behind : Want
  pub second : a.second ≡ Some behind
  pub is : behind.word ≡ word_of (AttachesAs who form of (Some (stages_of r + 1)))
  pub note : behind.note ≡ NotesCompose function (stages_of r)
  pub source : behind.source ≡ NoPayload
  pub fits : AreWordsBehind r who (a.first.word ∷ behind.word ∷ [])

-- a stage of this form is attached, with its promise where it composes
abbrev pub IsAttaching : Replica → Bool → Form → Of → Option ℕ → Acting → Type 0
IsAttaching r composes form of None a = AttachesAlone r form of None Nothing a
IsAttaching r false form of (Some function) a = AttachesAlone r form of (Some (stages_of r)) (Calls function) a
IsAttaching r true form of (Some function) a = AttachesBoth r form of function a

-- a further try is attached
pub record TriesAgain (r : Replica) (notes : List Noted) (i : ℕ) (a : Acting) : Type 0 where
  pub can : HasTry notes i
  pub attaches : AttachesAlone r Exceptionally (One i) (Some (stages_of r)) (Tries (tried_by notes i)) a

-- a stage is cancelled, and where only one that doesn't run was to be, it doesn't
pub record CancelsAlone (r : Replica) (i : ℕ) (only_idle : Bool) (a : Acting) : Type 0 where
  pub settles : SettlesAlone r i (Fault Cancelled false) NoPayload a
  pub idle : only_idle ≡ true → claim_at (state_of r) i ≡ None

-- WHAT AN ACT PUTS: the graph takes these words behind all that was seen, and they do what was asked
abbrev pub IsActing : Replica → List Noted → Act → Acting → Type 0
IsActing r notes (Complete i) a = SettlesAlone r i (Gives (Int (cast_signed w32 (place_of r)))) Given a
IsActing r notes (Fail i) a = SettlesAlone r i (Fault (Thrown (place_of r)) false) Given a
IsActing r notes (Cancel i only_idle) a = CancelsAlone r i only_idle a
IsActing r notes (Limit i moment gives) a = TimesAlone r i moment gives a
IsActing r notes (Attach form of function) a = IsAttaching r (composes form) form of function a
IsActing r notes (Again i) a = TriesAgain r notes i a

-- ---- why nothing is put

-- a stage isn't open: it isn't there, or it is settled. That is what was asked only where it was to be cancelled, and is.
abbrev pub IsNotOpen : Replica → ℕ → Bool → NoAct → Type 0
IsNotOpen r i cancels NoStage = stages_of r ≤ i
IsNotOpen r i cancels (Settled is_as_asked) = (o : Outcome) × (outcome_at (state_of r) i ≡ Some o) × (is_as_asked ≡ (cancels && is_cancelled o))
IsNotOpen r i cancels NoRoom = ⊥
IsNotOpen r i cancels NoTry = ⊥
IsNotOpen r i cancels Runs = ⊥

-- or it is open, but its function runs
abbrev pub IsNoCancel : Replica → ℕ → Bool → NoAct → Type 0
IsNoCancel r i only_idle Runs = IsOpen r i × (only_idle ≡ true) × (claim_at (state_of r) i ≢ None)
IsNoCancel r i only_idle NoStage = IsNotOpen r i true NoStage
IsNoCancel r i only_idle (Settled is_as_asked) = IsNotOpen r i true (Settled is_as_asked)
IsNoCancel r i only_idle NoRoom = ⊥
IsNoCancel r i only_idle NoTry = ⊥

-- a source isn't there, or there is no room for so many stages more
abbrev pub IsNoPlace : Replica → Of → ℕ → NoAct → Type 0
IsNoPlace r of more NoStage = ¬ AreBelow (stages_of r) of
IsNoPlace r of more NoRoom = AreBelow (stages_of r) of × ((state_of r).plan.room < more)
IsNoPlace r of more NoTry = ⊥
IsNoPlace r of more (Settled is_as_asked) = ⊥
IsNoPlace r of more Runs = ⊥

-- or the stage has no further try
abbrev pub IsNoTry : Replica → List Noted → ℕ → NoAct → Type 0
IsNoTry r notes i NoTry = (i < stages_of r) × ¬ HasTry notes i
IsNoTry r notes i NoStage = IsNoPlace r (One i) 1 NoStage
IsNoTry r notes i NoRoom = IsNoPlace r (One i) 1 NoRoom
IsNoTry r notes i (Settled is_as_asked) = ⊥
IsNoTry r notes i Runs = ⊥

-- how many stages an attach needs room for
abbrev pub needed_by : Form → ℕ
needed_by form = if composes form then 2 else 1

abbrev pub IsNoAct : Replica → List Noted → Act → NoAct → Type 0
IsNoAct r notes (Complete i) why = IsNotOpen r i false why
IsNoAct r notes (Fail i) why = IsNotOpen r i false why
IsNoAct r notes (Cancel i only_idle) why = IsNoCancel r i only_idle why
IsNoAct r notes (Limit i moment gives) why = IsNotOpen r i false why
IsNoAct r notes (Attach form of function) why = IsNoPlace r of (needed_by form) why
IsNoAct r notes (Again i) why = IsNoTry r notes i why
