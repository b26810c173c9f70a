-- Words as events, and events as the graph takes them.
use Rattle.std.proofs.Common.{◌≡◌, ℕ, zero, suc, ◌+◌, ◌<◌, ◌≤◌, List, [], ◌∷◌, ◌++◌, length, drop, get_or, refl, ap, sym, ◌∙◌, arith, subst}
use Rattle.std.specs.Prelude.{Option, Some, None}
use Rattle.std.proofs.lemmas.List.{append_assoc, append-nil, drop_more, drop_all}
use Rattle.cf_model.specs.declared.events.Event.{Event}
use Rattle.cf_model.specs.States.{State}
use Rattle.cf_model.specs.Events.{answered, state_after}
use Rattle.std.specs.List.{All}
use Rattle.std.proofs.lemmas.List.Elements.{All-nil, All-cons}
use Rattle.cf_event.specs.Words.{IsEvent}
use Rattle.cf_event.proofs.WordLemmas.{event_of_is}
use Rattle.cf_event.specs.Decoding.{decoded, decoded_with, event_of}
use Rattle.cf_history.specs.declared.verdict.Unfit.{Unfit}
use Rattle.cf_history.specs.declared.verdict.Unfit.TheVariants.{NoEvent, NoCaller, NoStage, NoFunction}
use Rattle.cf_event.specs.Events.{AreEventsOf, IsEventOf}
use Rattle.cf_history.specs.Histories.{AreWordsOf}
use Rattle.cf_history.specs.Verdicts.{IsFirstUnfit, IsUnfit, IsUnfitWord}

-- the decoded words from one on
pub decoded_stop : (ws : List ℕ) (i : ℕ) → i < length ws → event_of (get_or ws i 0) ≡ None → decoded (drop i ws) ≡ []
decoded_stop ws i l none = ap decoded (drop_more ws i 0 l) ∙ ap (λ (o : Option Event). decoded_with o (decoded (drop (i + 1) ws))) none

pub decoded_more : (ws : List ℕ) (i : ℕ) (e : Event) → i < length ws → event_of (get_or ws i 0) ≡ Some e → decoded (drop i ws) ≡ e ∷ decoded (drop (i + 1) ws)
decoded_more ws i e l is = ap decoded (drop_more ws i 0 l) ∙ ap (λ (o : Option Event). decoded_with o (decoded (drop (i + 1) ws))) is

pub decoded_all : (ws : List ℕ) (i : ℕ) → length ws ≤ i → decoded (drop i ws) ≡ []
decoded_all ws i l = ap decoded (drop_all i ws l)

-- the events that were read, with what is still to come
pub read_more : (ws : List ℕ) (i : ℕ) (es more : List Event) (e : Event) → i < length ws → event_of (get_or ws i 0) ≡ Some e → more ≡ es ++ e ∷ [] → decoded ws ≡ es ++ decoded (drop i ws) →
    decoded ws ≡ more ++ decoded (drop (i + 1) ws)
read_more ws i es more e l is pushed all =
    let rest = decoded (drop (i + 1) ws) in
    all ∙ ap (λ (ds : List Event). es ++ ds) (decoded_more ws i e l is) ∙ sym (append_assoc es (e ∷ []) rest) ∙ ap (λ (ds : List Event). ds ++ rest) (sym pushed)

pub read_up_to : (ws : List ℕ) (i : ℕ) (es : List Event) → decoded (drop i ws) ≡ [] → decoded ws ≡ es ++ decoded (drop i ws) → es ≡ decoded ws
read_up_to ws i es none all = sym (all ∙ ap (λ (ds : List Event). es ++ ds) none ∙ append-nil es)

-- there are no more events than words
few_with : (o : Option Event) (es : List Event) (n : ℕ) → length es ≤ n → length (decoded_with o es) ≤ suc n
few_with None es n l = omega arith
few_with (Some e) es n l = omega arith

pub decoded_few : (ws : List ℕ) → length (decoded ws) ≤ length ws
decoded_few [] = omega arith
decoded_few (w ∷ ws) = few_with (event_of w) (decoded ws) (length ws) (decoded_few ws)

-- each of them has a word
events_with : (o : Option Event) (w : ℕ) (es : List Event) → event_of w ≡ o → All IsEvent es → All IsEvent (decoded_with o es)
events_with None w es is h = All-nil IsEvent
events_with (Some e) w es is h = All-cons IsEvent e es (event_of_is w e is).0 h

pub decoded_events : (ws : List ℕ) → All IsEvent (decoded ws)
decoded_events [] = All-nil IsEvent
decoded_events (w ∷ ws) = events_with (event_of w) w (decoded ws) refl (decoded_events ws)

-- an event that can't stand there is none that can
pub not_event : (callers functions : ℕ) (s : State) (e : Event) (why : Unfit) → IsUnfit callers functions s e why → IsEventOf callers functions s e → ⊥
not_event callers functions s e NoEvent u is = u
not_event callers functions s e NoCaller u is = let l = is.caller in omega arith
not_event callers functions s e NoStage u is = u.1 is.fits
not_event callers functions s e NoFunction u is = u.2 is.function

pub not_events : (callers functions : ℕ) (s : State) (k : ℕ) (events : List Event) (why : Unfit) → IsFirstUnfit callers functions s k events why → AreEventsOf callers functions s events → ⊥
not_events callers functions s k [] why u are = u
not_events callers functions s zero (e ∷ events) why u are = not_event callers functions s e why u are.0
not_events callers functions s (suc k) (e ∷ events) why u are = not_events callers functions ((answered s e).1) k events why u.1 are.1

-- none of the events is unfit for being none
no_first_event : (callers functions : ℕ) (s : State) (k : ℕ) (events : List Event) → IsFirstUnfit callers functions s k events NoEvent → ⊥
no_first_event callers functions s k [] u = u
no_first_event callers functions s zero (e ∷ events) u = u
no_first_event callers functions s (suc k) (e ∷ events) u = no_first_event callers functions ((answered s e).1) k events u.1

pub unfit_word : (callers functions : ℕ) (s : State) (words : List ℕ) (k : ℕ) (why : Unfit) → IsFirstUnfit callers functions s k (decoded words) why → IsUnfitWord callers functions s words k why
unfit_word callers functions s words k NoEvent u = absurd (no_first_event callers functions s k (decoded words) u)
unfit_word callers functions s words k NoCaller u = u
unfit_word callers functions s words k NoStage u = u
unfit_word callers functions s words k NoFunction u = u

pub not_words : (callers functions : ℕ) (s : State) (words : List ℕ) (events : List Event) (k : ℕ) (why : Unfit) → IsUnfitWord callers functions s words k why → AreWordsOf callers functions s words events → ⊥
not_words callers functions s words events k NoEvent u are = let all = are.all in let read = ap length are.read in let is = u.0 in let few = u.1 in omega arith
not_words callers functions s words events k NoCaller u are = not_events callers functions s k (decoded words) NoCaller u (subst (AreEventsOf callers functions s) are.read are.taken)
not_words callers functions s words events k NoStage u are = not_events callers functions s k (decoded words) NoStage u (subst (AreEventsOf callers functions s) are.read are.taken)
not_words callers functions s words events k NoFunction u are = not_events callers functions s k (decoded words) NoFunction u (subst (AreEventsOf callers functions s) are.read are.taken)

-- How far a list of events was looked at: what holds of the rest, from the state that those before left, holds of the whole.
pub record Looked (callers functions : ℕ) (s : State) (events : List Event) (i : ℕ) (now : State) : Type 0 where
  pub all : AreEventsOf callers functions now (drop i events) → AreEventsOf callers functions s events
  pub unfit : (j : ℕ) (why : Unfit) → IsFirstUnfit callers functions now j (drop i events) why → IsFirstUnfit callers functions s (i + j) events why
  pub state : state_after now (drop i events) ≡ state_after s events

pub looked_none : (callers functions : ℕ) (s : State) (events : List Event) → Looked callers functions s events 0 s
looked_none callers functions s events = record { all = λ h. h; unfit = λ j why u. subst (λ (n : ℕ). IsFirstUnfit callers functions s n events why) (let p : j ≡ 0 + j = omega arith in p) u; state = refl }

pub looked_more : (callers functions : ℕ) (s : State) (events : List Event) (i : ℕ) (d : Event) (now next : State) → i < length events →
    IsEventOf callers functions now (get_or events i d) → next ≡ (answered now (get_or events i d)).1 →
    Looked callers functions s events i now → Looked callers functions s events (i + 1) next
looked_more callers functions s events i d now next l is after k =
    let e = get_or events i d in
    let split : drop i events ≡ e ∷ drop (i + 1) events = drop_more events i d l in
    record {
      all = λ h. k.all (subst (AreEventsOf callers functions now) (sym split) (is, subst (λ (x : State). AreEventsOf callers functions x (drop (i + 1) events)) after h));
      unfit = λ j why u. subst (λ (n : ℕ). IsFirstUnfit callers functions s n events why) (let p : i + suc j ≡ i + 1 + j = omega arith in p)
          (k.unfit (suc j) why (subst (λ (es : List Event). IsFirstUnfit callers functions now (suc j) es why) (sym split) (is, subst (λ (x : State). IsFirstUnfit callers functions x j (drop (i + 1) events) why) after u)));
      state = ap (λ (x : State). state_after x (drop (i + 1) events)) after ∙ sym (ap (state_after now) split) ∙ k.state;
    }

pub looked_unfit : (callers functions : ℕ) (s : State) (events : List Event) (i : ℕ) (d : Event) (now : State) (why : Unfit) → i < length events →
    IsUnfit callers functions now (get_or events i d) why → Looked callers functions s events i now → IsFirstUnfit callers functions s i events why
looked_unfit callers functions s events i d now why l u k =
    let split : drop i events ≡ get_or events i d ∷ drop (i + 1) events = drop_more events i d l in
    subst (λ (n : ℕ). IsFirstUnfit callers functions s n events why) (let p : i + 0 ≡ i = omega arith in p)
    (k.unfit 0 why (subst (λ (es : List Event). IsFirstUnfit callers functions now 0 es why) (sym split) u))

pub looked_all : (callers functions : ℕ) (s : State) (events : List Event) (i : ℕ) (now : State) → length events ≤ i →
    Looked callers functions s events i now → AreEventsOf callers functions s events × (now ≡ state_after s events)
looked_all callers functions s events i now l k =
    let none : drop i events ≡ [] = drop_all i events l in
    (k.all (subst (AreEventsOf callers functions now) (sym none) tt), sym (ap (state_after now) none) ∙ k.state)
