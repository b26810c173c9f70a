-- A caller's records, read one after another along a history.
use Rattle.std.proofs.Common.{◌≡◌, ℕ, zero, suc, ◌+◌, ◌-◌, ◌<◌, ◌≤◌, List, [], ◌∷◌, ◌++◌, ◌≢◌, length, take, drop, get_or, refl, ap, sym, ◌∙◌, ne_eqb, arith, subst, length-drop}
use Rattle.std.specs.Prelude.{Some, false, cond, eqb, slice_get}
use Rattle.std.proofs.lemmas.List.{drop_more, drop_all, drop-drop}
use Rattle.std.proofs.lemmas.List.Elements.{filter_more}
use Rattle.std.proofs.lemmas.Option.{slice_get_within, slice_get-get_or}
use Rattle.cf_model.specs.declared.asks.Ask.{Ask}
use Rattle.cf_model.specs.declared.asks.Told.{Told}
use Rattle.cf_model.specs.declared.events.Event.{Event}
use Rattle.cf_model.specs.declared.events.Reply.{Reply}
use Rattle.cf_model.specs.States.{State}
use Rattle.cf_model.specs.Events.{answered, told}
use Rattle.cf_model.specs.Ranges.{AskFits, EventFits, EventsFit}
use Rattle.cf_model.specs.Calls.{who_of}
use Rattle.cf_event.specs.Words.{IsEvent}
use Rattle.cf_event.specs.declared.record.Record.{Record}
use Rattle.cf_event.specs.declared.record.Record.TheVariants.{Did, Saw}
use Rattle.cf_history.specs.declared.verdict.Misfit.{Misfit}
use Rattle.cf_history.specs.declared.verdict.Misfit.TheVariants.{Before, Behind, Skips, Other, Reply as Replies, NoStage, Told as Tells}
use Rattle.cf_event.specs.Events.{own}
use Rattle.cf_event.specs.Histories.{place_of}
use Rattle.cf_history.specs.Records.{AreRight, RecordGoesOn, IsRight, state_in}
use Rattle.cf_history.specs.Verdicts.{IsFirstMisfit, IsMisfit, IsNext, IsReached, IsSkipped, LeavesOut}
use Rattle.cf_history.proofs.Owns.{own_there, not_skipped}

-- what doesn't fit isn't right
pub not_right : (c : ℕ) (s : State) (rest : List Event) (at : ℕ) (r : Record) (why : Misfit) → IsMisfit c s rest at r why → IsRight c s rest at r → ⊥
not_right c s rest at (Did place e reply) Before m ok = let l = ok.behind in omega arith
not_right c s rest at (Did place e reply) Behind m ok = let l = slice_get_within rest (place - at - 1) e ok.there in let b = ok.behind in omega arith
not_right c s rest at (Did place e reply) (Skips p) m ok = not_skipped c at (place - at - 1) p rest m.1 ok.next
not_right c s rest at (Did place e reply) Other m ok = m.1 (ok.there, ok.mine, ok.event)
not_right c s rest at (Did place e reply) (Replies given) m ok = m.3 (m.2 ∙ sym ok.replied)
not_right c s rest at (Did place e reply) NoStage m ok = m
not_right c s rest at (Did place e reply) (Tells given) m ok = m
not_right c s rest at (Saw place ask answer) Before m ok = let l = ok.not_before in omega arith
not_right c s rest at (Saw place ask answer) Behind m ok = let l = ok.within in omega arith
not_right c s rest at (Saw place ask answer) (Skips p) m ok = not_skipped c at (place - at) p rest m.1 ok.none
not_right c s rest at (Saw place ask answer) Other m ok = m
not_right c s rest at (Saw place ask answer) (Replies given) m ok = m
not_right c s rest at (Saw place ask answer) NoStage m ok = m.1 ok.asks
not_right c s rest at (Saw place ask answer) (Tells given) m ok = m.3 (m.2 ∙ sym ok.told_so)

-- where one doesn't fit, or an event is left out, not all is right
pub not_all_right : (c : ℕ) (s : State) (rest : List Event) (at k : ℕ) (records : List Record) (why : Misfit) →
    IsFirstMisfit c s rest at k records why → AreRight c s rest at records → ⊥
not_all_right c s rest at k [] why m ok = m
not_all_right c s rest at zero (r ∷ records) why m ok = not_right c s rest at r why m ok.0
not_all_right c s rest at (suc k) (r ∷ records) why m ok =
    not_all_right c (state_in s rest (place_of r - at)) (drop (place_of r - at) rest) (place_of r) k records why m.1 ok.1

pub none_left_out : (c : ℕ) (s : State) (rest : List Event) (at : ℕ) (records : List Record) (place : ℕ) →
    LeavesOut c s rest at records place → AreRight c s rest at records → ⊥
none_left_out c s rest at [] place m ok = own_there c m.before rest m.next.event m.next.there m.next.mine ok
none_left_out c s rest at (r ∷ records) place m ok =
    none_left_out c (state_in s rest (place_of r - at)) (drop (place_of r - at) rest) (place_of r) records place m.1 ok.1

-- the state one event further
state_in_suc : (s : State) (rest : List Event) (i : ℕ) (d : Event) → i < length rest → state_in s rest (suc i) ≡ (answered (state_in s rest i) (get_or rest i d)).1
state_in_suc s [] i d l = absurd (omega arith)
state_in_suc s (e ∷ rest) zero d l = refl
state_in_suc s (e ∷ rest) (suc i) d l = state_in_suc ((answered s e).1) rest i d (omega arith)

pub state_in_more : (s : State) (rest : List Event) (i : ℕ) (d : Event) → i < length rest → state_in s rest (i + 1) ≡ (answered (state_in s rest i) (get_or rest i d)).1
state_in_more s rest i d l = ap (state_in s rest) (let p : i + 1 ≡ suc i = omega arith in p) ∙ state_in_suc s rest i d l

-- what is left fits the state that is reached
pub fits_in : (s : State) (rest : List Event) (n : ℕ) → EventsFit s rest → EventsFit (state_in s rest n) (drop n rest)
fits_in s rest zero h = h
fits_in s [] (suc n) h = tt
fits_in s (e ∷ rest) (suc n) h = fits_in ((answered s e).1) rest n h.1

-- How far a caller's records were read: k of them, the last at place `at`, by which the graph is in state `now`. What holds of the
-- rest from there on holds of the whole.
pub record Walked (c : ℕ) (s : State) (history : List Event) (records : List Record) (k at : ℕ) (now : State) : Type 0 where
  pub right : AreRight c now (drop at history) at (drop k records) → AreRight c s history 0 records
  pub misfit : (j : ℕ) (why : Misfit) → IsFirstMisfit c now (drop at history) at j (drop k records) why → IsFirstMisfit c s history 0 (k + j) records why
  pub left : (p : ℕ) → LeavesOut c now (drop at history) at (drop k records) p → LeavesOut c s history 0 records p
  pub within : at ≤ length history
  pub fits : EventsFit now (drop at history)

pub walk_none : (c : ℕ) (s : State) (history : List Event) (records : List Record) → EventsFit s history → Walked c s history records 0 0 s
walk_none c s history records h = record { right = λ r. r; misfit = λ j why m. subst (λ (n : ℕ). IsFirstMisfit c s history 0 n records why) (let p : j ≡ 0 + j = omega arith in p) m; left = λ p m. m; within = omega arith; fits = h }

-- the next event among those to come
pub event_fits : (now : State) (rest : List Event) (i : ℕ) (d : Event) → i < length rest → EventsFit now (drop i rest) → EventFits (length now.plan.stages) (get_or rest i d)
event_fits now rest i d l h = let split : drop i rest ≡ get_or rest i d ∷ drop (i + 1) rest = drop_more rest i d l in (subst (EventsFit now) split h).0

pub next_here : (c : ℕ) (rest : List Event) (i : ℕ) (d : Event) → i < length rest → who_of (get_or rest i d) ≡ c → own c (take i rest) ≡ [] → IsNext c rest i
next_here c rest i d l mine none = record { none = none; event = get_or rest i d; there = slice_get-get_or rest i d l; mine = mine }

pub skipped_here : (c at most n : ℕ) (rest : List Event) → n < most → IsNext c rest n → IsSkipped c rest at most (at + n + 1)
skipped_here c at most n rest l next = record { before = n; below = l; place_is = refl; next = next }

-- events of others were passed by
pub record PassedBy (c : ℕ) (s : State) (rest : List Event) (i : ℕ) (now : State) : Type 0 where
  pub others : own c (take i rest) ≡ []
  pub state : now ≡ state_in s rest i
  pub fits : EventsFit now (drop i rest)

pub passed_none : (c : ℕ) (s : State) (rest : List Event) → EventsFit s rest → PassedBy c s rest 0 s
passed_none c s rest h = record { others = refl; state = refl; fits = h }

pub passed_more : (c : ℕ) (s : State) (rest : List Event) (i : ℕ) (d : Event) (now next : State) → i < length rest → who_of (get_or rest i d) ≢ c →
    next ≡ (answered now (get_or rest i d)).1 → PassedBy c s rest i now → PassedBy c s rest (i + 1) next
passed_more c s rest i d now next l other after p =
    let e = get_or rest i d in
    let split : drop i rest ≡ e ∷ drop (i + 1) rest = drop_more rest i d l in
    let no : eqb (who_of e) c ≡ false = ne_eqb (who_of e) c other in
    record {
      others = filter_more (λ x. eqb (who_of x) c) rest i d l ∙ ap (λ b. own c (take i rest) ++ cond b (e ∷ []) []) no ∙ ap (λ es. es ++ []) p.others;
      state = after ∙ ap (λ (x : State). (answered x e).1) p.state ∙ sym (state_in_more s rest i d l);
      fits = subst (λ (x : State). EventsFit x (drop (i + 1) rest)) (sym after) (subst (EventsFit now) split p.fits).1;
    }

pub walk_on : (c : ℕ) (s : State) (history : List Event) (records : List Record) (k at : ℕ) (d : Record) (now next : State) → k < length records →
    RecordGoesOn c now (drop at history) at (get_or records k d) next → Walked c s history records k at now →
    Walked c s history records (k + 1) (place_of (get_or records k d)) next
walk_on c s history records k at d now next l g w =
    let r = get_or records k d in
    let split : drop k records ≡ r ∷ drop (k + 1) records = drop_more records k d l in
    let far : at + (place_of r - at) ≡ place_of r = (let b = g.not_before in omega arith) in
    let rest : drop (place_of r - at) (drop at history) ≡ drop (place_of r) history = drop-drop (place_of r - at) at history ∙ ap (λ (n : ℕ). drop n history) far in
    let right_there : (es : List Event) → es ≡ drop (place_of r) history → AreRight c next (drop (place_of r) history) (place_of r) (drop (k + 1) records) → AreRight c (state_in now (drop at history) (place_of r - at)) es (place_of r) (drop (k + 1) records)
    = λ es e h. subst (λ (x : State). AreRight c x es (place_of r) (drop (k + 1) records)) g.state (subst (λ (x : List Event). AreRight c next x (place_of r) (drop (k + 1) records)) (sym e) h) in
    record {
      right = λ h. w.right (subst (AreRight c now (drop at history) at) (sym split) (g.right, right_there (drop (place_of r - at) (drop at history)) rest h));
      misfit = λ j why m. subst (λ (n : ℕ). IsFirstMisfit c s history 0 n records why) (let p : k + suc j ≡ k + 1 + j = omega arith in p)
          (w.misfit (suc j) why (subst (λ (rs : List Record). IsFirstMisfit c now (drop at history) at (suc j) rs why) (sym split) (
            g.right,
            subst (λ (x : State). IsFirstMisfit c x (drop (place_of r - at) (drop at history)) (place_of r) j (drop (k + 1) records) why) g.state
                (subst (λ (x : List Event). IsFirstMisfit c next x (place_of r) j (drop (k + 1) records) why) (sym rest) m),
          )));
      left = λ p m. w.left p (subst (λ (rs : List Record). LeavesOut c now (drop at history) at rs p) (sym split) (
        g.right,
        subst (λ (x : State). LeavesOut c x (drop (place_of r - at) (drop at history)) (place_of r) (drop (k + 1) records) p) g.state
            (subst (λ (x : List Event). LeavesOut c next x (place_of r) (drop (k + 1) records) p) (sym rest) m),
      ));
      within = (let n = g.within in let b = g.not_before in let a = w.within in let e = length-drop at history in omega arith);
      fits = subst (λ (x : List Event). EventsFit next x) rest (subst (λ (x : State). EventsFit x (drop (place_of r - at) (drop at history))) (sym g.state) (fits_in now (drop at history) (place_of r - at) w.fits));
    }

pub walk_misfit : (c : ℕ) (s : State) (history : List Event) (records : List Record) (k at : ℕ) (d : Record) (now : State) (why : Misfit) → k < length records →
    IsMisfit c now (drop at history) at (get_or records k d) why → Walked c s history records k at now → IsFirstMisfit c s history 0 k records why
walk_misfit c s history records k at d now why l m w =
    let split : drop k records ≡ get_or records k d ∷ drop (k + 1) records = drop_more records k d l in
    subst (λ (n : ℕ). IsFirstMisfit c s history 0 n records why) (let p : k + 0 ≡ k = omega arith in p)
    (w.misfit 0 why (subst (λ (rs : List Record). IsFirstMisfit c now (drop at history) at 0 rs why) (sym split) m))

pub walk_right : (c : ℕ) (s : State) (history : List Event) (records : List Record) (k at : ℕ) (now : State) → length records ≤ k →
    own c (drop at history) ≡ [] → Walked c s history records k at now → AreRight c s history 0 records
walk_right c s history records k at now l none w =
    w.right (subst (AreRight c now (drop at history) at) (sym (drop_all k records l)) none)

pub walk_left : (c : ℕ) (s : State) (history : List Event) (records : List Record) (k at place : ℕ) (now : State) → length records ≤ k →
    IsSkipped c (drop at history) at (length (drop at history)) place → Walked c s history records k at now → LeavesOut c s history 0 records place
walk_left c s history records k at place now l m w =
    w.left place (subst (λ (rs : List Record). LeavesOut c now (drop at history) at rs place) (sym (drop_all k records l)) m)

pub some_same : (d e : Event) → Some d ≡ Some e → d ≡ e
some_same d e both = cc

-- a question fits that was told so
pub told_on : (c : ℕ) (s : State) (rest : List Event) (at place passed : ℕ) (ask : Ask) (answer given : Told) (now next : State) → at ≤ place → place - at ≤ length rest →
    passed ≡ place - at → own c (take passed rest) ≡ [] → now ≡ state_in s rest passed → AskFits (length now.plan.stages) ask → given ≡ told now ask → given ≡ answer →
    next ≡ now → RecordGoesOn c s rest at (Saw place ask answer) next
told_on c s rest at place passed ask answer given now next le within is none now_is fits given_is same next_is =
    let there : now ≡ state_in s rest (place - at) = now_is ∙ ap (state_in s rest) is in
    record {
      right = record {
        not_before = le;
        within = within;
        none = subst (λ (n : ℕ). own c (take n rest) ≡ []) is none;
        asks = subst (λ (x : State). AskFits (length x.plan.stages) ask) there fits;
        told_so = sym same ∙ given_is ∙ ap (λ (x : State). told x ask) there;
      };
      not_before = le;
      within = within;
      state = next_is ∙ there;
    }

-- a call fits that was answered so
pub called_on : (c : ℕ) (s : State) (rest : List Event) (at place passed : ℕ) (e : Event) (reply given : Reply) (now next : State) → at < place → place - at - 1 < length rest →
    passed ≡ place - at - 1 → own c (take passed rest) ≡ [] → now ≡ state_in s rest passed → slice_get rest (place - at - 1) ≡ Some e → who_of e ≡ c → IsEvent e → (given, next) ≡ answered now e → given ≡ reply →
    RecordGoesOn c s rest at (Did place e reply) next
called_on c s rest at place passed e reply given now next lt within is none now_is at_there mine word answer_is same =
    let there : now ≡ state_in s rest (place - at - 1) = now_is ∙ ap (state_in s rest) is in
    let found : get_or rest (place - at - 1) e ≡ e = some_same (get_or rest (place - at - 1) e) e (sym (slice_get-get_or rest (place - at - 1) e within) ∙ at_there) in
    let all : state_in s rest (place - at) ≡ (answered (state_in s rest (place - at - 1)) e).1 =
    ap (state_in s rest) (let p : place - at ≡ place - at - 1 + 1 = omega arith in p) ∙ state_in_more s rest (place - at - 1) e within ∙ ap (λ (x : Event). (answered (state_in s rest (place - at - 1)) x).1) found in
    record {
      right = record {
        behind = lt;
        next = subst (λ (n : ℕ). own c (take n rest) ≡ []) is none;
        there = at_there;
        event = word;
        mine = mine;
        replied = sym same ∙ ap (λ p. p.0) answer_is ∙ ap (λ (x : State). (answered x e).0) there;
      };
      not_before = omega arith;
      within = omega arith;
      state = ap (λ p. p.1) answer_is ∙ ap (λ (x : State). (answered x e).1) there ∙ sym all;
    }

-- a call's place that was come to by events of others
pub reached_call : (c : ℕ) (rest : List Event) (at place passed : ℕ) (e : Event) (reply : Reply) → at < place → place - at - 1 < length rest → passed ≡ place - at - 1 →
    own c (take passed rest) ≡ [] → IsReached c rest at (Did place e reply)
reached_call c rest at place passed e reply lt within is none = (lt, omega arith, subst (λ (n : ℕ). own c (take n rest) ≡ []) is none)

-- an event that stands there fits
pub there_fits : (now : State) (rest : List Event) (passed n : ℕ) (e : Event) → passed ≡ n → n < length rest → EventsFit now (drop passed rest) → slice_get rest n ≡ Some e → EventFits (length now.plan.stages) e
there_fits now rest passed n e is l fits at_there =
    let found : get_or rest n e ≡ e = some_same (get_or rest n e) e (sym (slice_get-get_or rest n e l) ∙ at_there) in
    subst (EventFits (length now.plan.stages)) found (event_fits now rest n e l (subst (λ (x : ℕ). EventsFit now (drop x rest)) is fits))
