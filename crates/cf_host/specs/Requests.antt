-- The requests of a process.
use Rattle.std.specs.Prelude.{◌≡◌, ◌≢◌, ℕ, ◌<◌, ◌||◌, Bool, true, false, cond, eqb, max, not, Option, Some, None, List, [], ◌∷◌, ◌++◌, length, map, slice_get, slice_set, ◌+◌}
use Rattle.cf_forms.specs.Plans.{has_place}
use Rattle.cf_part.specs.declared.question.Question.{Question}
use Rattle.cf_part.specs.Parts.{Part, is_waited}
use Rattle.cf_part.specs.Answers.{IsRunning}
use Rattle.cf_turn.specs.Works.{Work}
use Rattle.cf_host.specs.declared.request.Request.{Request}
use Rattle.cf_host.specs.declared.requests.Length.{Length}

-- one that isn't opened yet
abbrev pub fresh : ℕ → ℕ → Request
fresh number words = record { number = number; words = words; is_asked = false; is_dropped = false; retry = 0; work = None }

-- this is the session's part in it
abbrev pub IsPartOf : Request → Part → Type 0
IsPartOf r part = (w : Work) × (r.work ≡ Some w) × (w.part ≡ part)

-- the question about its row that is open
abbrev pub asked_in : Option Work → Option Question
asked_in None = None
asked_in (Some w) = w.part.asked

-- it is opened, and has a place for a stage; or the function of the stage was called and hasn't ended
abbrev pub HasPlace : Option Work → ℕ → Type 0
HasPlace None stage = ⊥
HasPlace (Some w) stage = stage < length w.part.wanted

-- and its plan has place for so many stages more
abbrev pub HasPlaces : Option Work → ℕ → Type 0
HasPlaces None more = ⊥
HasPlaces (Some w) more = has_place w.part.row.replica.plan.stages (w.part.row.replica.plan.room + more) ≡ true

abbrev pub IsCalledIn : Option Work → ℕ → Type 0
IsCalledIn None stage = ⊥
IsCalledIn (Some w) stage = IsRunning w.part stage

-- one call of its work, and nothing else
pub record OnWork (call : Work → Work → Type 0) (old new : Request) : Type 0 where
  pub before : Work
  pub after : Work
  pub is : old.work ≡ Some before
  pub calls : call before after
  pub rest : new ≡ record old { work = Some after }

-- ---- words

abbrev pub told_length : ℕ → Work → Work
told_length words w = record w { part = record w.part { words = max w.part.words words } }

abbrev pub hears_in : ℕ → Option Work → Option Work
hears_in words None = None
hears_in words (Some w) = Some (told_length words w)

-- the store told of so many words
abbrev pub hears : ℕ → Request → Request
hears words r = record r { words = max r.words words; work = hears_in words r.work }

-- the row is to be read
abbrev pub read_again : Work → Work
read_again w = record w { part = record w.part { is_stale = true } }

-- an answer tells of this number
abbrev pub is_told : List Length → ℕ → Bool
is_told [] number = false
is_told (told ∷ lengths) number = eqb told.request number || is_told lengths number

-- A look at all doesn't tell of a request that is closed, or isn't there any more. So the row of one of which it doesn't tell is read, but only
-- while somebody waits for a stage of it. Where nobody waits it rests, however many looks come: whatever is put there later is answered.
abbrev pub missed_in : List Length → ℕ → Option Work → Option Work
missed_in lengths number None = None
missed_in lengths number (Some w) = Some (cond (is_told lengths number || not (is_waited w.part.wanted)) w (read_again w))

abbrev pub missed : List Length → Request → Request
missed lengths r = record r { work = missed_in lengths r.number r.work }

-- a look at all was answered, or one at what changed
abbrev pub looked_for : Bool → List Length → List Request → List Request
looked_for true lengths requests = map (missed lengths) requests
looked_for false lengths requests = requests

-- it is opened: this is to be done in it
abbrev pub Begins : Work → Request → Request → Type 0
Begins w old new = new ≡ record old { is_asked = false; work = Some (told_length old.words w) }

-- ---- the list

-- none of the first so many has this number
abbrev pub NoneAt : ℕ → ℕ → List Request → Type 0
NoneAt number to requests = (k : ℕ) (r : Request) → k < to → slice_get requests k ≡ Some r → r.number ≢ number

-- the first that has this number stands at this place
pub record IsAt (number place : ℕ) (requests : List Request) : Type 0 where
  pub request : Request
  pub is : slice_get requests place ≡ Some request
  pub named : request.number ≡ number
  pub first : NoneAt number place requests

-- the request at this place is opened, or isn't
abbrev pub IsOpenAt : ℕ → List Request → Type 0
IsOpenAt place requests = (r : Request) × (slice_get requests place ≡ Some r) × (r.work ≢ None)

abbrev pub IsShutAt : ℕ → List Request → Type 0
IsShutAt place requests = (r : Request) × (slice_get requests place ≡ Some r) × (r.work ≡ None)

-- the request of this number is there, and opened
pub record IsOpenIn (number : ℕ) (requests : List Request) : Type 0 where
  pub place : ℕ
  pub at : IsAt number place requests
  pub opened : IsOpenAt place requests

-- it is, but has no place for a stage
pub record LacksStage (number stage : ℕ) (requests : List Request) : Type 0 where
  pub place : ℕ
  pub at : IsAt number place requests
  pub opened : IsOpenAt place requests
  pub lacks : ¬ HasPlace at.request.work stage

-- its plan has place for so many stages more, or hasn't
pub record HasPlacesIn (number more : ℕ) (requests : List Request) : Type 0 where
  pub place : ℕ
  pub at : IsAt number place requests
  pub has : HasPlaces at.request.work more

pub record LacksPlaces (number more : ℕ) (requests : List Request) : Type 0 where
  pub place : ℕ
  pub at : IsAt number place requests
  pub opened : IsOpenAt place requests
  pub lacks : ¬ HasPlaces at.request.work more

-- a request is taken up, unless it is there
pub data Follows (number : ℕ) (old new : List Request) : Type 0 where
  known : (place : ℕ) → IsAt number place old → new ≡ old → Follows number old new
  added : NoneAt number (length old) old → new ≡ old ++ fresh number 0 ∷ [] → Follows number old new

-- the store told of one: who takes all takes up one that isn't there
pub data Hears (takes_all : Bool) (told : Length) (old new : List Request) : Type 0 where
  known : (place : ℕ) (at : IsAt told.request place old) → new ≡ slice_set old place (hears told.words at.request) → Hears takes_all told old new
  added : takes_all ≡ true → NoneAt told.request (length old) old → new ≡ old ++ fresh told.request told.words ∷ [] → Hears takes_all told old new
  passed : takes_all ≡ false → NoneAt told.request (length old) old → new ≡ old → Hears takes_all told old new

-- it told of these, one after another
abbrev pub HearsAll : Bool → List Length → List Request → List Request → Type 0
HearsAll takes_all [] old new = new ≡ old
HearsAll takes_all (told ∷ lengths) old new =
    (between : List Request) × Hears takes_all told old between × HearsAll takes_all lengths between new
