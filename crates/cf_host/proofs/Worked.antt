-- What a row of calls of a process does to each request's work.
use Rattle.std.proofs.Common.{◌≡◌, ℕ, Bool, Option, Some, None, List, sym, ◌∙◌, subst, length}
use Rattle.std.specs.Prelude.{slice_get}
use Rattle.std.proofs.lemmas.Option.{slice_get_within}
use Rattle.cf_forms.specs.Plans.{Planned}
use Rattle.cf_notes.specs.declared.note.Note.{Note}
use Rattle.cf_part.specs.Parts.{opened}
use Rattle.cf_turn.specs.Works.{Work, new_work}
use Rattle.cf_host.specs.declared.request.Request.{Request}
use Rattle.cf_host.specs.Requests.{NoneAt, told_length}

-- a work as this session begins it
pub record Begun (session : ℕ) (w : Work) : Type 0 where
  pub plan : Planned
  pub notes : List Note
  pub room : ℕ
  pub is_flow : Bool
  pub words : ℕ
  pub is : w ≡ told_length words (new_work (opened plan notes room session 0 is_flow))

-- What a call does to a request's work: it stays, or is begun, where this may be said of the request; or the call does this to it.
pub data Moves (session : ℕ) (still : Type 0) (does : Work → Work → Type 0) (before after : Option Work) : Type 0 where
  stays : after ≡ before → still → Moves session still does before after
  begins : (w : Work) → before ≡ None → after ≡ Some w → Begun session w → still → Moves session still does before after
  goes : (w v : Work) → before ≡ Some w → after ≡ Some v → does w v → Moves session still does before after

-- ---- all requests

-- no two have one number
abbrev pub AreApart : List Request → Type 0
AreApart requests = (i j : ℕ) (r s : Request) → slice_get requests i ≡ Some r → slice_get requests j ≡ Some s → r.number ≡ s.number → i ≡ j

-- this holds of each number and the work that its request has, and this of each number that no request has
pub record Kept (holds : ℕ → Option Work → Type 0) (absent : ℕ → Type 0) (requests : List Request) : Type 0 where
  pub apart : AreApart requests
  pub each : (place : ℕ) (r : Request) → slice_get requests place ≡ Some r → holds r.number r.work
  pub none : (n : ℕ) → NoneAt n (length requests) requests → absent n

-- a request behind a call stood there before it, or is the new one
pub data Comes (session : ℕ) (still : ℕ → Type 0) (does : ℕ → Work → Work → Type 0) (old : List Request) (place : ℕ) (r : Request) : Type 0 where
  from : (before : Request) → slice_get old place ≡ Some before → r.number ≡ before.number →
      Moves session (still before.number) (does before.number) before.work r.work → Comes session still does old place r
  taken : place ≡ length old → r.work ≡ None → NoneAt r.number (length old) old → Comes session still does old place r

pub record Effect (session : ℕ) (still : ℕ → Type 0) (does : ℕ → Work → Work → Type 0) (old new : List Request) : Type 0 where
  pub comes : (place : ℕ) (r : Request) → slice_get new place ≡ Some r → Comes session still does old place r
  pub keeps : (n : ℕ) → NoneAt n (length new) new → NoneAt n (length old) old
  pub absent : (n : ℕ) → NoneAt n (length old) old → still n

-- what holds of a request holds again behind such a call
pub record Carries (session : ℕ) (still : ℕ → Type 0) (does : ℕ → Work → Work → Type 0) (holds : ℕ → Option Work → Type 0) (absent : ℕ → Type 0) (holds' : ℕ → Option Work → Type 0) (absent' : ℕ → Type 0) : Type 0 where
  pub moves : (n : ℕ) (before after : Option Work) → holds n before → Moves session (still n) (does n) before after → holds' n after
  pub begun : (n : ℕ) → absent n → still n → holds' n None
  pub missing : (n : ℕ) → absent n → still n → absent' n

apart_more : {session : ℕ} {still : ℕ → Type 0} {does : ℕ → Work → Work → Type 0} → (old : List Request) → AreApart old → (i j : ℕ) (r s : Request) → Comes session still does old i r → Comes session still does old j s → r.number ≡ s.number → i ≡ j
apart_more old apart i j r s (from b at named moves) (from c bt same moves') e = apart i j b c at bt (sym named ∙ e ∙ same)
apart_more old apart i j r s (from b at named moves) (taken place work none) e = absurd (none i b (slice_get_within old i b at) at (sym named ∙ e))
apart_more old apart i j r s (taken place work none) (from c bt same moves') e = absurd (none j c (slice_get_within old j c bt) bt (sym same ∙ sym e))
apart_more old apart i j r s (taken place work none) (taken place' work' none') e = place ∙ sym place'

each_more : {session : ℕ} {still : ℕ → Type 0} {does : ℕ → Work → Work → Type 0} {holds : ℕ → Option Work → Type 0} {absent : ℕ → Type 0} {holds' : ℕ → Option Work → Type 0} {absent' : ℕ → Type 0} →
    (old : List Request) (place : ℕ) (r : Request) → Kept holds absent old → Carries session still does holds absent holds' absent' → ((n : ℕ) → NoneAt n (length old) old → still n) → Comes session still does old place r →
    holds' r.number r.work
each_more {holds'} old place r k c absent (from b at named moves) =
    subst (λ (n : ℕ). holds' n r.work) (sym named) (c.moves b.number b.work r.work (k.each place b at) moves)
each_more {holds'} old place r k c absent (taken there work none) =
    subst (holds' r.number) (sym work) (c.begun r.number (k.none r.number none) (absent r.number none))

pub kept_more : {session : ℕ} {still : ℕ → Type 0} {does : ℕ → Work → Work → Type 0} {holds : ℕ → Option Work → Type 0} {absent : ℕ → Type 0} {holds' : ℕ → Option Work → Type 0} {absent' : ℕ → Type 0} →
    (old new : List Request) → Carries session still does holds absent holds' absent' → Kept holds absent old → Effect session still does old new → Kept holds' absent' new
kept_more old new c k e =
    record {
      apart = λ i j r s at bt. apart_more old k.apart i j r s (e.comes i r at) (e.comes j s bt);
      each = λ place r at. each_more old place r k c e.absent (e.comes place r at);
      none = λ n none. c.missing n (k.none n (e.keeps n none)) (e.absent n (e.keeps n none));
    }
