-- What a process does next in a request.
use Rattle.std.specs.Prelude.{◌≡◌, ◌⊎◌, ℕ, ◌&&◌, Bool, true, false, Option, Some, None, List, [], ◌∷◌, nat_lt, slice_get, unwrap_or}
use Rattle.std.specs.List.{remove}
use Rattle.cf_row.specs.declared.faults.PutFault.{PutFault}
use Rattle.cf_row.specs.Puts.{IsNoPut}
use Rattle.cf_notes.specs.Noting.{function_of}
use Rattle.cf_notes.specs.declared.noted.Noted.{Noted}
use Rattle.cf_notes.specs.declared.wants.Want.{Want}
use Rattle.cf_watch.specs.Watches.{Watch}
use Rattle.cf_due.specs.declared.acts.Acting.{Acting}
use Rattle.cf_due.specs.declared.acts.NoAct.{NoAct}
use Rattle.cf_due.specs.declared.due.Due.{Due}
use Rattle.cf_due.specs.declared.due.Due.TheVariants.{Finish as FinishIsDue, Abandon as AbandonIsDue, Link as LinkIsDue, Cancel as CancelIsDue, Timer as TimerIsDue, Claim as ClaimIsDue}
use Rattle.cf_due.specs.Acts.{IsActing, IsNoAct}
use Rattle.cf_due.specs.Due.{FitBehind, IsDue, Known, NothingIsDue, known_of, words_of}
use Rattle.cf_part.specs.declared.question.PutOf.{PutOf}
use Rattle.cf_part.specs.declared.question.PutOf.TheVariants.{Act as OfAct, Finish as OfFinish, Rest as OfRest}
use Rattle.cf_part.specs.declared.question.Question.{Question}
use Rattle.cf_part.specs.declared.question.Question.TheVariants.{Close, Put}
use Rattle.cf_part.specs.declared.step.Step.{Step}
use Rattle.cf_part.specs.declared.step.Step.TheVariants.{Show as StepShow, Stop as StepStop, Call as StepCall}
use Rattle.cf_part.specs.Parts.{MayPlan, Part, question_of, seen_by, words_wanted}
use Rattle.cf_part.specs.Steps.{ComesFirst, NothingToTell, Tells}
use Rattle.cf_part.specs.Answers.{PlansWords, Waits}
use Rattle.cf_turn.specs.declared.planning.Putting.{Putting}
use Rattle.cf_turn.specs.declared.turn.Turn.{Turn}
use Rattle.cf_turn.specs.declared.turn.Turn.TheVariants.{Tell, Show, Stop, Call, Ask}
use Rattle.cf_turn.specs.declared.wish.Told.{Told}
use Rattle.cf_turn.specs.declared.wish.Told.TheVariants.{Not}
use Rattle.cf_turn.specs.declared.wish.Wish.{Wish}
use Rattle.cf_turn.specs.Works.{IsEndTold, IsTold, NobodyIsTold, Work, is_closed_in}
use Rattle.cf_turn.specs.Closing.{IsOver}

-- a moment of the process's clock, which sessions are gone then, how far the store's clock has come, and whether a stage may be claimed
pub record Moment : Type 0 where
  pub now : ℕ
  pub watch : Watch
  pub clock : ℕ
  pub may_claim : Bool

abbrev pub moment_of : ℕ → Watch → ℕ → Bool → Moment
moment_of now watch clock may_claim = record { now = now; watch = watch; clock = clock; may_claim = may_claim }

-- what is known of the request then
abbrev pub known_at : Part → Moment → Known
known_at p at = known_of p.row.replica p.notes.stages p.owed at.watch at.clock at.may_claim

-- ---- users

-- the first user of an act is told, who is to be told something by now; or else the first who ends the request
abbrev pub TellsWish : Work → ℕ → ℕ → Told → Work → Type 0
TellsWish old now number told new =
    (place : ℕ) × IsTold old.part.fault now old.wishes place number told
    × (new ≡ record old { wishes = remove old.wishes place; is_acting = old.is_acting && nat_lt 0 place })

abbrev pub TellsEnd : Work → ℕ → ℕ → Told → Work → Type 0
TellsEnd old now number told new =
    (place : ℕ) × IsEndTold old.part.fault (is_closed_in old) now old.ends place number told × (new ≡ record old { ends = remove old.ends place })

abbrev pub TellsTo : Work → ℕ → ℕ → Told → Work → Type 0
TellsTo old now number told new = TellsWish old now number told new ⊎ TellsEnd old now number told new

-- ---- the part

-- the number of a stage's function by the notes, 0 where they tell none
abbrev pub function_in : List Noted → ℕ → ℕ
function_in notes i = unwrap_or (function_of notes i) 0

-- what the part tells is done
pub record TakesStep (old : Work) (now : ℕ) (step : Step) (new : Work) : Type 0 where
  pub part : Tells old.part now step new.part
  pub first : ComesFirst old.part now step
  pub rest : new ≡ record old { part = new.part }

abbrev pub Steps : Work → ℕ → Turn → Work → Type 0
Steps old now (Show i shown) new = TakesStep old now (StepShow i shown) new
Steps old now (Stop i) new = TakesStep old now (StepStop i) new
Steps old now (Call i function args) new = TakesStep old now (StepCall i args) new × (function ≡ function_in new.part.notes.stages i)
Steps old now (Tell number told) new = ⊥
Steps old now (Ask q) new = ⊥

-- ---- what is put

abbrev pub wants_with : Want → Option Want → List Want
wants_with first None = first ∷ []
wants_with first (Some second) = first ∷ second ∷ []

abbrev pub wants_of : Putting → List Want
wants_of p = wants_with p.first p.second

-- the put of what is due, and that of an act
abbrev pub putting_of : Due → Putting
putting_of (FinishIsDue f) = record { first = f.finish; second = f.claim; of = OfFinish f.stage }
putting_of (AbandonIsDue want) = record { first = want; second = None; of = OfRest }
putting_of (LinkIsDue want) = record { first = want; second = None; of = OfRest }
putting_of (CancelIsDue want) = record { first = want; second = None; of = OfRest }
putting_of (TimerIsDue want) = record { first = want; second = None; of = OfRest }
putting_of (ClaimIsDue want) = record { first = want; second = None; of = OfRest }

abbrev pub putting_for : Acting → Putting
putting_for a = record { first = a.first; second = a.second; of = OfAct }

abbrev pub is_of_act : PutOf → Bool
is_of_act OfAct = true
is_of_act (OfFinish i) = false
is_of_act OfRest = false

-- it is planned, and asked for behind all that was seen
pub record Puts (old : Work) (p : Putting) (q : Question) (new : Work) : Type 0 where
  pub planned : Part
  pub plans : PlansWords old.part (wants_of p) p.of planned
  pub asks : q ≡ Put (seen_by old.part)
  pub rest : new ≡ record old { part = record planned { asked = Some q }; is_acting = is_of_act p.of; is_doubtful = false }

-- it is refused for want of tokens or of memory, and waits
pub record IsPutOff (old : Work) (now : ℕ) (p : Putting) (new : Work) : Type 0 where
  pub fault : PutFault
  pub why : IsNoPut old.part.row.replica old.part.row.next (words_wanted (wants_of p)) fault
  pub waits : Waits old.part now new.part
  pub rest : new ≡ record old { part = new.part }

-- ---- an act

-- these words do what a user asked for
abbrev pub DoesAct : Part → Wish → Acting → Type 0
DoesAct p wish a = IsActing p.row.replica p.notes.stages wish.act a

-- the user of the first act is told why nothing is put
pub record Declines (old : Work) (wish : Wish) (number : ℕ) (told : Told) (new : Work) : Type 0 where
  pub why : NoAct
  pub is : IsNoAct old.part.row.replica old.part.notes.stages wish.act why
  pub named : wish.number ≡ number
  pub tells : told ≡ Not why
  pub rest : new ≡ record old { wishes = remove old.wishes 0 }

-- or it is put, or waits
abbrev pub ActsOn : Work → Wish → Turn → Work → Type 0
ActsOn old wish (Tell number told) new = Declines old wish number told new
ActsOn old wish (Ask q) new = (a : Acting) × DoesAct old.part wish a × Puts old (putting_for a) q new
ActsOn old wish (Show i shown) new = ⊥
ActsOn old wish (Stop i) new = ⊥
ActsOn old wish (Call i function args) new = ⊥

abbrev pub ActIsPutOff : Work → ℕ → Wish → Work → Type 0
ActIsPutOff old now wish new = (a : Acting) × DoesAct old.part wish a × IsPutOff old now (putting_for a) new

-- ---- what is due

-- it is due, and its words fit behind all that was seen
pub record IsDueAt (p : Part) (at : Moment) (due : Due) : Type 0 where
  pub is : IsDue (known_at p at) due
  pub fits : FitBehind p.row.replica (words_of due)

-- nothing is due, and the request is to be closed
pub record AsksClose (old : Work) (at : Moment) (q : Question) (new : Work) : Type 0 where
  pub none : NothingIsDue (known_at old.part at)
  pub over : IsOver old at.watch
  pub asks : q ≡ Close (seen_by old.part)
  pub rest : new ≡ record old { part = record old.part { asked = Some q } }

abbrev pub DoesDue : Work → Moment → Turn → Work → Type 0
DoesDue old at (Ask q) new = ((due : Due) × IsDueAt old.part at due × Puts old (putting_of due) q new) ⊎ AsksClose old at q new
DoesDue old at (Tell number told) new = ⊥
DoesDue old at (Show i shown) new = ⊥
DoesDue old at (Stop i) new = ⊥
DoesDue old at (Call i function args) new = ⊥

-- what is due waits; or nothing is due, and the request isn't over
abbrev pub DueIsPutOff : Work → Moment → Work → Type 0
DueIsPutOff old at new = (due : Due) × IsDueAt old.part at due × IsPutOff old at.now (putting_of due) new

pub record IsIdle (w : Work) (at : Moment) : Type 0 where
  pub none : NothingIsDue (known_at w.part at)
  pub unfinished : ¬ IsOver w at.watch

abbrev pub RestsDue : Work → Moment → Work → Type 0
RestsDue old at new = DueIsPutOff old at new ⊎ (IsIdle old at × (new ≡ old))

-- ---- a turn

-- Where the part may plan: the first act, or what is due, or the close.
abbrev pub Decides : Option Wish → Work → Moment → Turn → Work → Type 0
Decides (Some wish) old at t new = ActsOn old wish t new
Decides None old at t new = DoesDue old at t new

-- where it may not, the question that is due is asked
abbrev pub AsksStill : Work → ℕ → Turn → Work → Type 0
AsksStill old now (Ask q) new = (question_of old.part now ≡ Some q) × (new ≡ record old { part = record old.part { asked = Some q } })
AsksStill old now (Tell number told) new = ⊥
AsksStill old now (Show i shown) new = ⊥
AsksStill old now (Stop i) new = ⊥
AsksStill old now (Call i function args) new = ⊥

abbrev pub Goes : Work → Moment → Turn → Work → Type 0
Goes old at t new =
    (MayPlan old.part at.now × Decides (slice_get old.wishes 0) old at t new) ⊎ ((¬ MayPlan old.part at.now) × AsksStill old at.now t new)

-- WHAT A PROCESS DOES NEXT. A user is told; or else the part's step is done; or else it goes on.
pub record GoesOn (old : Work) (at : Moment) (t : Turn) (new : Work) : Type 0 where
  pub told : NobodyIsTold old at.now
  pub steps : NothingToTell old.part at.now
  pub goes : Goes old at t new

abbrev pub Turns : Work → Moment → Turn → Work → Type 0
Turns old at (Tell number told) new = TellsTo old at.now number told new ⊎ GoesOn old at (Tell number told) new
Turns old at (Show i shown) new = NobodyIsTold old at.now × Steps old at.now (Show i shown) new
Turns old at (Stop i) new = NobodyIsTold old at.now × Steps old at.now (Stop i) new
Turns old at (Call i function args) new = NobodyIsTold old at.now × Steps old at.now (Call i function args) new
Turns old at (Ask q) new = GoesOn old at (Ask q) new

-- NOTHING IS TO BE DONE BY NOW: nobody is to be told anything, the part has no step, and no question is due; where the part may plan, no act
-- waits, nothing is due, and the request isn't over. Or what is to be put is refused for want of tokens or memory, and waits.
abbrev pub RestsWith : Option Wish → Work → Moment → Work → Type 0
RestsWith (Some wish) old at new = ActIsPutOff old at.now wish new
RestsWith None old at new = RestsDue old at new

abbrev pub RestsBy : Work → Moment → Work → Type 0
RestsBy old at new =
    (MayPlan old.part at.now × RestsWith (slice_get old.wishes 0) old at new)
    ⊎ ((¬ MayPlan old.part at.now) × (question_of old.part at.now ≡ None) × (new ≡ old))

pub record Rests (old : Work) (at : Moment) (new : Work) : Type 0 where
  pub told : NobodyIsTold old at.now
  pub steps : NothingToTell old.part at.now
  pub rests : RestsBy old at new
