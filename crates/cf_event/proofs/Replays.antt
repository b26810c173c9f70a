-- Events done one after another.
use Rattle.std.proofs.Common.{◌≡◌, ℕ, ◌+◌, ◌<◌, ◌≤◌, ◌∷◌, [], List, drop, length, get_or, ap, ◌∙◌, add-one, drop-cons, subst, suc, sym, zero, refl}
use Rattle.std.specs.Prelude.{slice_get, unwrap_or}
use Rattle.std.proofs.lemmas.List.{drop_all}
use Rattle.cf_model.specs.declared.events.Event.{Event}
use Rattle.cf_model.specs.States.{State}
use Rattle.cf_model.specs.Graphs.{Graph}
use Rattle.cf_model.specs.Events.{answered, state_after}
use Rattle.cf_model.specs.Ranges.{EventFits, EventsFit}
use Rattle.cf_event.specs.Replays.{EventAnswers, Nudges, Replays}

first_of_rest : (nudges : List ℕ) (i : ℕ) → slice_get (drop i nudges) 0 ≡ slice_get nudges i
first_of_rest nudges zero = refl
first_of_rest [] (suc i) = refl
first_of_rest (k ∷ nudges) (suc i) = first_of_rest nudges i

drop_next : (nudges : List ℕ) (i : ℕ) → drop 1 (drop i nudges) ≡ drop (suc i) nudges
drop_next nudges zero = refl
drop_next [] (suc i) = refl
drop_next (k ∷ nudges) (suc i) = drop_next nudges i

drop_more : (nudges : List ℕ) (i : ℕ) → drop 1 (drop i nudges) ≡ drop (i + 1) nudges
drop_more nudges i = rw add-one (drop_next nudges i)

-- once the next event is done, the rest leads to what the whole does
pub rest_after : (nudges : List ℕ) (events : List Event) (i : ℕ) (d : Event) (g nudged done end : Graph) → i < length events →
    Nudges (unwrap_or (slice_get nudges i) 0) g nudged → EventAnswers (get_or events i d) nudged done →
    Replays (drop (i + 1) nudges) (drop (i + 1) events) done end → Replays (drop i nudges) (drop i events) g end
rest_after nudges events i d g nudged done end l n a rest =
    let split : drop i events ≡ get_or events i d ∷ drop (i + 1) events = rw (add-one, drop-cons events i d) refl in
    let first : slice_get (drop i nudges) 0 ≡ slice_get nudges i = first_of_rest nudges i in
    let others : drop 1 (drop i nudges) ≡ drop (i + 1) nudges = drop_more nudges i in
    rw split (nudged, done, rw first n, a, rw others rest)

-- the next event fits, and once it is done the rest does
next_fits : (s : State) (events : List Event) (i : ℕ) (d : Event) → i < length events → EventsFit s (drop i events) →
    EventFits (length s.plan.stages) (get_or events i d) × EventsFit ((answered s (get_or events i d)).1) (drop (i + 1) events)
next_fits s events i d l fits =
    let split : drop i events ≡ get_or events i d ∷ drop (i + 1) events = rw (add-one, drop-cons events i d) refl in
    subst (λ (left : List Event). EventsFit s left) split fits

-- a graph that takes turns, and then does an event, is in the state after it
answered_here : {k : ℕ} (e : Event) (g nudged done : Graph) → Nudges k g nudged → EventAnswers e nudged done → done.state ≡ (answered g.state e).1
answered_here e g nudged done n a = ap (λ p. p.1) a.told ∙ ap (λ (s : State). (answered s e).1) n.state

-- so the rest fits it
pub rest_fits : (events : List Event) (i : ℕ) (d : Event) (k : ℕ) (g nudged done : Graph) → i < length events → EventsFit g.state (drop i events) →
    Nudges k g nudged → EventAnswers (get_or events i d) nudged done → EventsFit done.state (drop (i + 1) events)
rest_fits events i d k g nudged done l fits n a =
    subst (λ (s : State). EventsFit s (drop (i + 1) events)) (sym (answered_here (get_or events i d) g nudged done n a)) (next_fits g.state events i d l fits).1

-- events that are done lead to the state after them
pub replays-state : (nudges : List ℕ) (events : List Event) (old new : Graph) → Replays nudges events old new → new.state ≡ state_after old.state events
replays-state nudges [] old new e = ap (λ (g : Graph). g.state) e
replays-state nudges (e ∷ events) old new r =
    replays-state (drop 1 nudges) events r.1 new r.4 ∙ ap (λ (s : State). state_after s events) (answered_here e old r.0 r.1 r.2 r.3)

-- where no event is left, nothing happens
pub replays-all : (nudges : List ℕ) (events : List Event) (i : ℕ) (g : Graph) → length events ≤ i → Replays (drop i nudges) (drop i events) g g
replays-all nudges events i g l = let none : drop i events ≡ [] = drop_all i events l in rw none refl
