-- Ledgers with more events behind those of before, and what their events leave.
use Rattle.std.proofs.Common.{◌≡◌, ◌≢◌, ℕ, zero, suc, ◌+◌, ◌<◌, ◌≤◌, Bool, true, false, Option, Some, List, [], ◌∷◌, ◌++◌, All, length, map, take, slice_get, refl, ap, sym, ◌∙◌, arith, subst, append_assoc, append-nil}
use Rattle.std.proofs.lemmas.List.Elements.{All-append, All-cons, All-head, All-nil, All-tail}
use Rattle.cf_forms.specs.declared.forms.Args.{Args}
use Rattle.cf_forms.specs.Plans.{Planned, function_at}
use Rattle.cf_forms.proofs.ListLemmas.{slice_get-seam}
use Rattle.cf_model.specs.declared.events.Event.{Event}
use Rattle.cf_model.specs.declared.events.Event.TheVariants.{Claim as Claims}
use Rattle.cf_model.specs.declared.events.Reply.{Reply}
use Rattle.cf_model.specs.declared.events.Reply.TheVariants.{Claim as ToldClaim}
use Rattle.cf_model.specs.declared.replies.Claimed.TheVariants.{Granted}
use Rattle.cf_model.specs.Claims.{claimable_count, is_claimable}
use Rattle.cf_model.specs.Events.{answered, claiming, state_after}
use Rattle.cf_model.specs.Graphs.{stage_in}
use Rattle.cf_model.specs.States.{State, is_ready, stage_at, start}
use Rattle.cf_model.proofs.Claimable.{answered-claimable, claiming-claimable, state_after-not_claimable}
use Rattle.cf_model.proofs.Histories.{claiming-not_claimable, ready-claimable, ready-not_pending, state_after-append}
use Rattle.cf_model.proofs.Shape.{answered-frame}
use Rattle.cf_event.specs.Decoding.{decoded, decoded_with, event_of}
use Rattle.cf_event.specs.Words.{word_of}
use Rattle.cf_ledger.specs.Ledgers.{AreTaken, Does, IsFirstMisfit, IsFirstRefused, IsTaken, Ledger, LedgerRefuses, roomier, state_at, state_of, with_more}
use Rattle.cf_ledger.proofs.Growth.{answered_more, state_more, taken_more}
use Rattle.cf_ledger.specs.declared.faults.LedgerFault.{LedgerFault}
use Rattle.cf_ledger.specs.declared.faults.LedgerFault.TheVariants.{NoMemory, NoEvent, NoStage, NoRoom}
use Rattle.cf_request.specs.Rows.{HasWord, IsByWords, IsLater, Job, WasGranted, unclaimed}

-- ---- more room

-- no more is the same
more_none : (l : Ledger) → with_more l 0 ≡ l
more_none l = ap (λ (n : ℕ). let x : Ledger = record l { plan = record l.plan { room = n } } in x) (let none : l.plan.room + 0 ≡ l.plan.room = omega arith in none)

roomier_none : (s : State) → roomier 0 s ≡ s
roomier_none s = ap (λ (n : ℕ). let x : State = record s { plan = record s.plan { room = n } } in x) (let none : s.plan.room + 0 ≡ s.plan.room = omega arith in none)

roomier_both : (m n : ℕ) (s : State) → roomier n (roomier m s) ≡ roomier (m + n) s
roomier_both m n s = ap (λ (k : ℕ). let x : State = record s { plan = record s.plan { room = k } } in x) (let both : s.plan.room + m + n ≡ s.plan.room + (m + n) = omega arith in both)

taken_take : (n : ℕ) (s : State) (es : List Event) → AreTaken s es → AreTaken s (take n es)
taken_take zero s es h = tt
taken_take (suc n) s [] h = tt
taken_take (suc n) s (e ∷ es) h = (h.0, taken_take n ((answered s e).1) es h.1)

-- the first so many of a longer list
take_seen : (n : ℕ) (xs ys : List Event) → take (length (take n xs)) (xs ++ ys) ≡ take n xs
take_seen zero [] [] = refl
take_seen zero [] (y ∷ ys) = refl
take_seen zero (x ∷ xs) ys = refl
take_seen (suc n) [] [] = refl
take_seen (suc n) [] (y ∷ ys) = refl
take_seen (suc n) (x ∷ xs) ys = ap (λ (l : List Event). x ∷ l) (take_seen n xs ys)

take_all : (xs : List Event) → take (length xs) xs ≡ xs
take_all [] = refl
take_all (x ∷ xs) = ap (λ (l : List Event). x ∷ l) (take_all xs)

state_all : (l : Ledger) → state_at l (length l.events) ≡ state_of l
state_all l = ap (state_after (start l.plan)) (take_all l.events)

-- ---- later ledgers

taken_append : (s : State) (xs ys : List Event) → AreTaken s xs → AreTaken (state_after s xs) ys → AreTaken s (xs ++ ys)
taken_append s [] ys h k = k
taken_append s (x ∷ xs) ys h k = (h.0, taken_append ((answered s x).1) xs ys h.1 k)

-- the state that the events behind leave
pub state_later : (old new : Ledger) → (h : IsLater old new) → state_of new ≡ state_after (roomier h.grown (state_of old)) h.more
state_later old new h =
    let roomy = with_more old h.grown in
    ap (λ (p : Planned). state_after (start p) new.events) h.plan ∙ ap (state_after (start roomy.plan)) h.events ∙ state_after-append (start roomy.plan) old.events h.more
    ∙ ap (λ (s : State). state_after s h.more) (sym (state_all roomy) ∙ h.states (length old.events) ∙ ap (roomier h.grown) (state_all old))

-- there is no more room
later_by : (old new : Ledger) (more : List Event) → new.plan ≡ old.plan → new.events ≡ old.events ++ more → AreTaken (state_of old) more → All HasWord more → IsLater old new
later_by old new more plan events taken words = record {
  grown = 0;
  plan = plan ∙ sym (ap (λ (l : Ledger). l.plan) (more_none old));
  states = λ place. ap (λ (l : Ledger). state_at l place) (more_none old) ∙ sym (roomier_none (state_at old place));
  more = more;
  events = events;
  taken = subst (λ (s : State). AreTaken s more) (sym (roomier_none (state_of old))) taken;
  words = words;
}

pub later_free : (old new : Ledger) → new.plan ≡ old.plan → new.events ≡ old.events → IsLater old new
later_free old new plan events = later_by old new [] plan (events ∙ sym (append-nil old.events)) tt (All-nil HasWord)

pub later_word : (old new : Ledger) (word : ℕ) (reply : Reply) → Does word old reply new → IsLater old new
later_word old new word reply does =
    later_by old new (does.event ∷ []) (ap (λ (l : Ledger). l.plan) does.written) (ap (λ (l : Ledger). l.events) does.written) (does.taken, tt)
    (All-cons HasWord does.event [] (ap event_of does.named ∙ does.read) (All-nil HasWord))

-- there is more
pub later_grown : (l : Ledger) (more : ℕ) → AreTaken (start l.plan) l.events → IsLater l (with_more l more)
later_grown l more taken = record {
  grown = more;
  plan = refl;
  states = λ place. state_more more (start l.plan) (take place l.events) (taken_take place (start l.plan) l.events taken);
  more = [];
  events = sym (append-nil l.events);
  taken = tt;
  words = All-nil HasWord;
}

-- the plan of what is later than later
plan_then : (a b c : Ledger) → (h : IsLater a b) → (k : IsLater b c) → (with_more b k.grown).plan ≡ (with_more a (h.grown + k.grown)).plan
plan_then a b c h k =
    ap (λ (p : Planned). let x : Planned = record p { room = p.room + k.grown } in x) h.plan
    ∙ ap (λ (n : ℕ). let x : Planned = record a.plan { room = n } in x) (let both : a.plan.room + h.grown + k.grown ≡ a.plan.room + (h.grown + k.grown) = omega arith in both)

states_then : (a b c : Ledger) → (h : IsLater a b) → (k : IsLater b c) → (place : ℕ) → state_at (with_more a (h.grown + k.grown)) place ≡ roomier (h.grown + k.grown) (state_at a place)
states_then a b c h k place =
    let seen = take place a.events in
    let same : take (length seen) b.events ≡ seen = ap (take (length seen)) h.events ∙ take_seen place a.events h.more in
    let before : state_at b (length seen) ≡ roomier h.grown (state_at a place) = ap (λ (l : List Event). state_after (start b.plan) l) same ∙ ap (λ (p : Planned). state_after (start p) seen) h.plan ∙ h.states place in
    ap (λ (p : Planned). state_after (start p) seen) (sym (plan_then a b c h k))
    ∙ ap (state_after (start (with_more b k.grown).plan)) (sym same)
    ∙ k.states (length seen)
    ∙ ap (roomier k.grown) before
    ∙ roomier_both h.grown k.grown (state_at a place)

pub later_then : (a b c : Ledger) → IsLater a b → IsLater b c → IsLater a c
later_then a b c h k =
    let s = roomier h.grown (state_of a) in
    let next : roomier k.grown (state_of b) ≡ state_after (roomier k.grown s) h.more = ap (roomier k.grown) (state_later a b h) ∙ sym (state_more k.grown s h.more h.taken) in
    record {
      grown = h.grown + k.grown;
      plan = k.plan ∙ plan_then a b c h k;
      states = states_then a b c h k;
      more = h.more ++ k.more;
      events = k.events ∙ ap (λ (l : List Event). l ++ k.more) h.events ∙ append_assoc a.events h.more k.more;
      taken = subst (λ (r : State). AreTaken r (h.more ++ k.more)) (roomier_both h.grown k.grown (state_of a))
          (taken_append (roomier k.grown s) h.more k.more (taken_more k.grown s h.more h.taken) (subst (λ (r : State). AreTaken r k.more) next k.taken));
      words = All-append HasWord h.more k.more h.words k.words;
    }

-- ---- words that are done again

read_all : (es : List Event) → All HasWord es → decoded (map word_of es) ≡ es
read_all [] h = refl
read_all (e ∷ es) h =
    ap (λ (o : Option Event). decoded_with o (decoded (map word_of es))) (All-head HasWord e es h) ∙ ap (λ (l : List Event). e ∷ l) (read_all es (All-tail HasWord e es h))

refused_none : (s : State) (w : ℕ) (e : Event) (why : LedgerFault) → event_of w ≡ Some e → IsTaken s e → why ≢ NoMemory → LedgerRefuses s w why → ⊥
refused_none s w e NoMemory is h other r = other refl
refused_none s w e NoEvent is h other r = cc
refused_none s w e NoStage is h other (d, read, not) = not (let same : e ≡ d = cc in subst (λ (x : Event). (IsTaken s x)) same h).fits
refused_none s w e NoRoom is h other (d, read, fits, not) = not (let same : e ≡ d = cc in subst (λ (x : Event). (IsTaken s x)) same h).room

none_refused : (es : List Event) (s : State) (k : ℕ) (why : LedgerFault) → All HasWord es → AreTaken s es → why ≢ NoMemory → IsFirstRefused s k (map word_of es) why → ⊥
none_refused [] s k why words h other r = r
none_refused (e ∷ es) s zero why words h other r = refused_none s (word_of e) e why (All-head HasWord e es words) h.0 other r
none_refused (e ∷ es) s (suc k) why words h other (d, is, fits, rest) =
    let read = All-head HasWord e es words in
    let same : d ≡ e = cc in
    none_refused es ((answered s e).1) k why (All-tail HasWord e es words) h.1 other (subst (λ (x : Event). IsFirstRefused ((answered s x).1) k (map word_of es) why) same rest)

misfit_none : (plan : Planned) (es : List Event) (k : ℕ) (why : LedgerFault) → All HasWord es → AreTaken (start plan) es → IsFirstMisfit plan k (map word_of es) why → why ≡ NoMemory
misfit_none plan es k NoMemory words h r = refl
misfit_none plan es k NoEvent words h r = absurd (let no : NoEvent ≢ NoMemory = λ e. cc in none_refused es (start plan) k NoEvent words h no (r no))
misfit_none plan es k NoStage words h r = absurd (let no : NoStage ≢ NoMemory = λ e. cc in none_refused es (start plan) k NoStage words h no (r no))
misfit_none plan es k NoRoom words h r = absurd (let no : NoRoom ≢ NoMemory = λ e. cc in none_refused es (start plan) k NoRoom words h no (r no))

pub by_words : (old new : Ledger) → old.events ≡ [] → IsLater old new → IsByWords new
by_words old new none h =
    let all : new.events ≡ h.more = h.events ∙ ap (λ (l : List Event). l ++ h.more) none in
    let words = subst (All HasWord) (sym all) h.words in
    let first : roomier h.grown (state_of old) ≡ start new.plan = ap (λ (es : List Event). roomier h.grown (state_after (start old.plan) es)) none ∙ ap start (sym h.plan) in
    let taken = subst (AreTaken (start new.plan)) (sym all) (subst (λ (s : State). AreTaken s h.more) first h.taken) in
    record { read = read_all new.events words; done = λ k why. misfit_none new.plan new.events k why words taken }

-- ---- how many stages may still be claimed

unclaimed_after : (s : State) (es : List Event) → unclaimed (state_after s es) ≤ unclaimed s
unclaimed_after s [] = omega arith
unclaimed_after s (e ∷ es) =
    let rest = unclaimed_after ((answered s e).1) es in
    let one = answered-claimable s e in
    omega (arith, rest, one)

-- as many, and as many more as there is more room
pub unclaimed_later : (old new : Ledger) → IsLater old new → unclaimed (state_of new) + old.plan.room ≤ unclaimed (state_of old) + new.plan.room
unclaimed_later old new h =
    let s = state_of old in
    let now = ap unclaimed (state_later old new h) in
    let less = unclaimed_after (roomier h.grown s) h.more in
    let before : unclaimed (roomier h.grown s) ≡ unclaimed s + h.grown = (let is : unclaimed (roomier h.grown s) ≡ claimable_count s + (s.plan.room + h.grown) = refl in omega (arith, is)) in
    let room = ap (λ (p : Planned). p.room) h.plan in
    omega (arith, now, less, before, room)

pub granted_fewer : (s : State) (who i : ℕ) (args : Args) → (answered s (Claims who i)).0 ≡ ToldClaim (Granted args) → unclaimed ((answered s (Claims who i)).1) < unclaimed s
granted_fewer s who i args told =
    let granted : (claiming s who i).0 ≡ Granted args = cc in
    let fewer = claiming-claimable s who i args granted in
    let room = ap (λ (p : Planned). p.room) (answered-frame s (Claims who i) refl).plan in
    omega (arith, fewer, room)

-- ---- what can't be claimed any more

pub closed_later : (old new : Ledger) (i : ℕ) → IsLater old new → is_claimable (stage_at (state_of old) i) ≡ false → is_claimable (stage_at (state_of new) i) ≡ false
closed_later old new i h closed = ap (λ (s : State). is_claimable (stage_at s i)) (state_later old new h) ∙ state_after-not_claimable (roomier h.grown (state_of old)) h.more i closed

open_by : (b : Bool) → (b ≡ false → ⊥) → b ≡ true
open_by true h = refl
open_by false h = absurd (h refl)

-- what may be claimed might have been before
pub open_before : (old new : Ledger) (i : ℕ) → IsLater old new → is_claimable (stage_at (state_of new) i) ≡ true → is_claimable (stage_at (state_of old) i) ≡ true
open_before old new i h is = open_by (is_claimable (stage_at (state_of old) i)) (λ not. let now = closed_later old new i h not in cc)

pub ready_open : (s : State) (i : ℕ) → is_ready (stage_in s.stages i) ≡ true → is_claimable (stage_at s i) ≡ true
ready_open s i ready = ready-claimable (stage_at s i) ready

pub claimed_closed : (s : State) (who i : ℕ) → is_ready (stage_in s.stages i) ≡ true → is_claimable (stage_at ((answered s (Claims who i)).1) i) ≡ false
claimed_closed s who i ready = claiming-not_claimable s who i (ready-not_pending (stage_at s i) ready)

-- ---- claims that were granted

get_front : (xs ys : List Event) (p : ℕ) (e : Event) → slice_get xs p ≡ Some e → slice_get (xs ++ ys) p ≡ Some e
get_front [] ys p e h = cc
get_front (x ∷ xs) ys zero e h = h
get_front (x ∷ xs) ys (suc p) e h = get_front xs ys p e h

take_front : (xs ys : List Event) (p : ℕ) (e : Event) → slice_get xs p ≡ Some e → take p (xs ++ ys) ≡ take p xs
take_front [] ys p e h = cc
take_front (x ∷ xs) ys zero e h = refl
take_front (x ∷ xs) ys (suc p) e h = ap (λ (l : List Event). x ∷ l) (take_front xs ys p e h)

pub granted_later : (old new : Ledger) (job : Job) → IsLater old new → WasGranted old job → WasGranted new job
granted_later old new job h g =
    let roomy = with_more old h.grown in
    let same : state_at new g.place ≡ roomier h.grown (state_at old g.place) =
    ap (λ (p : Planned). state_after (start p) (take g.place new.events)) h.plan
    ∙ ap (λ (l : List Event). state_after (start roomy.plan) (take g.place l)) h.events
    ∙ ap (state_after (start roomy.plan)) (take_front old.events h.more g.place (Claims job.who job.taken.stage) g.stands)
    ∙ h.states g.place in
    record {
      place = g.place;
      stands = ap (λ (l : List Event). slice_get l g.place) h.events ∙ get_front old.events h.more g.place (Claims job.who job.taken.stage) g.stands;
      granted = ap (λ (s : State). (answered s (Claims job.who job.taken.stage)).0) same ∙ ap (λ p. p.0) (answered_more h.grown (state_at old g.place) (Claims job.who job.taken.stage) tt) ∙ g.granted;
      function = g.function ∙ ap (λ (s : State). function_at s.plan.stages job.taken.stage) (sym same);
    }

take_seam : (xs ys : List Event) → take (length xs) (xs ++ ys) ≡ xs
take_seam [] [] = refl
take_seam [] (y ∷ ys) = refl
take_seam (x ∷ xs) ys = ap (λ (l : List Event). x ∷ l) (take_seam xs ys)

-- one that was granted just now
pub granted_now : (old new : Ledger) (job : Job) → new.plan ≡ old.plan → new.events ≡ old.events ++ Claims job.who job.taken.stage ∷ [] → (answered (state_of old) (Claims job.who job.taken.stage)).0 ≡ ToldClaim (Granted job.taken.args) →
    job.taken.function ≡ function_at (state_of old).plan.stages job.taken.stage → WasGranted new job
granted_now old new job plan events granted function =
    let e = Claims job.who job.taken.stage in
    let place = length old.events in
    let same : state_at new place ≡ state_of old =
    ap (λ (p : Planned). state_after (start p) (take place new.events)) plan
    ∙ ap (λ (l : List Event). state_after (start old.plan) (take place l)) events
    ∙ ap (state_after (start old.plan)) (take_seam old.events (e ∷ [])) in
    record {
      place = place;
      stands = ap (λ (l : List Event). slice_get l place) events ∙ slice_get-seam old.events e [];
      granted = ap (λ (s : State). (answered s e).0) same ∙ granted;
      function = function ∙ ap (λ (s : State). function_at s.plan.stages job.taken.stage) (sym same);
    }
