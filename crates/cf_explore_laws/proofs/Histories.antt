-- A history is an order, and a whole search tells its outcomes.
use Rattle.std.proofs.Common.{◌≡◌, ℕ, suc, Bool, false, ◌+◌, ◌<◌, ◌≤◌, Some, List, [], ◌∷◌, ◌++◌, length, get_or, ap, arith, refl, sym, ◌∙◌, subst, append_assoc, append-nil, ◌-◌, inl, inr}
use Rattle.std.specs.Prelude.{Contains, if◌then◌else◌, map, slice_get, replicate, ◌⊎◌}
use Rattle.std.specs.List.{All}
use Rattle.std.proofs.lemmas.Bool.{cases_lt}
use Rattle.std.proofs.lemmas.List.{get_or-replicate, length-replicate}
use Rattle.std.proofs.lemmas.List.Elements.{All-contains, All-head}
use Rattle.std.proofs.lemmas.Option.{slice_get-get_or, unwrap_or-slice_get}
use Rattle.cf_forms.specs.Meanings.{Meanings}
use Rattle.cf_forms.specs.Plans.{Planned}
use Rattle.cf_model.specs.declared.events.Event.{Event}
use Rattle.cf_model.specs.Calls.{who_of}
use Rattle.cf_model.proofs.Histories.{state_after-append}
use Rattle.cf_model.specs.Ranges.{EventFits}
use Rattle.cf_model.specs.States.{State, lowest_ready_of, outcome_of, start}
use Rattle.cf_model.specs.Events.{answered, state_after}
use Rattle.cf_event.specs.declared.record.Record.{Record}
use Rattle.cf_event.specs.declared.record.Record.TheVariants.{Did, Saw}
use Rattle.cf_event.specs.Events.{AreEventsOf}
use Rattle.cf_event.specs.Histories.{AreRecordsOf, AreRecordsOfOne, IsAnswered, IsOneHistory, dids}
use Rattle.cf_explore.specs.declared.step.Hand.{Hand}
use Rattle.cf_explore.specs.declared.step.Hand.TheVariants as hands
use Rattle.cf_explore.specs.declared.step.Move.{Move}
use Rattle.cf_explore.specs.declared.step.Place.{Place}
use Rattle.cf_explore.specs.declared.step.Step.{Step}
use Rattle.cf_explore.specs.Programs.{Programmed, hand_at, place_at, start_of}
use Rattle.cf_explore.specs.Orders.{AreMoves, IsOrder, led}
use Rattle.cf_explore_laws.specs.Tellings.{AreToldSteps, AreWork, IsProgramOf, TellsEach, but_vain, is_vain, step_for}
use Rattle.cf_explore_laws.specs.Laws.{HasOrder, HistoriesAreOrders, SearchesCoverHistories, SearchesJudgeHistories}
use Rattle.cf_explore_laws.proofs.Callers.{IsPast, caller-took, no-step, none-goes_on}
use Rattle.cf_explore_laws.proofs.Ends.{end-told, order-undecided}
use Rattle.cf_explore_laws.proofs.Numbers.{once}
use Rattle.cf_explore_laws.proofs.Orders.{moves-front}
use Rattle.cf_explore_laws.proofs.Walks.{Asked, Comes, Each, HasStand, Walk, Working, asked, one-event}
use Rattle.cf_explore_laws.proofs.Workers.{no-work, one-work}

-- where each caller stands at the start
start-at : (w : Walk) (functions : ℕ) → IsOneHistory w.program.plan functions w.history w.callers → (d : ℕ) (steps : List Step) → d < length w.program.callers →
    slice_get w.program.callers d ≡ Some steps → AreToldSteps w.callers d steps → HasStand w 0 0 w.history [] d (place_at (start_of w.program) d)
start-at w functions one d steps l there told =
    let records = told.0 in
    let fits : AreRecordsOf w.program.plan d w.history records = All-contains (AreRecordsOfOne w.program.plan w.history) w.callers (d, records) one.each told.1 in
    let none : Place = record { at = 0; looks = 0 } in
    let place : place_at (start_of w.program) d ≡ none =
    unwrap_or-slice_get (replicate (length w.program.callers) none) d none ∙ get_or-replicate (length w.program.callers) d none none l in (
      records,
      record {
        so_far = [];
        owner = told.1;
        steps = there ∙ ap (λ (x : List Step). Some x) told.2;
        at = ap (λ (q : Place). q.at) place;
        answers = fits.answers;
        in_order = fits.order;
        changes = fits.did;
        past = λ less. absurd (omega arith);
        tells = λ j r e. absurd (let impossible : ⊥ = cc in impossible);
      },
    )

starts : (w : Walk) (functions : ℕ) → IsOneHistory w.program.plan functions w.history w.callers → IsProgramOf w.meanings w.program.plan w.history w.callers w.program → Each w 0 0 w.history [] (start_of w.program)
starts w functions one is = λ d l.
    let steps = get_or w.program.callers d [] in
    let there = slice_get-get_or w.program.callers d [] l in
    start-at w functions one d steps l there (is.each d steps there)

-- and each worker
begins-work : (w : Walk) (functions : ℕ) → IsOneHistory w.program.plan functions w.history w.callers → IsProgramOf w.meanings w.program.plan w.history w.callers w.program → Working w 0 w.history (start_of w.program)
begins-work w functions one is = λ v l.
    let told = is.workers v l in
    let c = length w.program.callers + v in
    let records = told.0 in
    let fits : AreRecordsOf w.program.plan c w.history records = All-contains (AreRecordsOfOne w.program.plan w.history) w.callers (c, records) one.each told.1 in
    let idle : hand_at (start_of w.program) v ≡ hands.Idle =
    unwrap_or-slice_get (replicate w.program.workers hands.Idle) v hands.Idle ∙ get_or-replicate w.program.workers v hands.Idle hands.Idle l in
    (records, fits.did, subst (λ (x : Hand). AreWork w.meanings w.program.plan w.history x records) (sym idle) told.2, fits.answers)

-- each number below the list's length is one of them
everyone_by : (w : Walk) → IsProgramOf w.meanings w.program.plan w.history w.callers w.program → (d : ℕ) → d < length w.program.callers + w.program.workers →
    (d < length w.program.callers) ⊎ (length w.program.callers ≤ d) → (records : List Record) × Contains w.callers (d, records)
everyone_by w is d all (inl l) =
    let told = is.each d (get_or w.program.callers d []) (slice_get-get_or w.program.callers d [] l) in
    (told.0, told.1)
everyone_by w is d all (inr l) =
    let v : ℕ = d - length w.program.callers in
    let told = is.workers v (omega arith) in
    (told.0, subst (λ (x : ℕ). Contains w.callers (x, told.0)) (let same : length w.program.callers + v ≡ d = omega arith in same) told.1)

everyone : (w : Walk) → IsProgramOf w.meanings w.program.plan w.history w.callers w.program → (d : ℕ) → d < length w.callers → (records : List Record) × Contains w.callers (d, records)
everyone w is d l = everyone_by w is d (let all = is.all in omega arith) (cases_lt d (length w.program.callers))

begins : (w : Walk) → Comes w 0 [] [] (start_of w.program)
begins w = record {
  can_be = tt;
  leads = refl;
  events = refl;
  so_many = refl;
  state = refl;
  places = length-replicate (length w.program.callers) _;
  hands = length-replicate w.program.workers _;
}

-- one event more, a caller's or a worker's
one-more : (w : Walk) (k : ℕ) (done : List Event) (e : Event) (rest : List Event) → done ++ e ∷ rest ≡ w.history → who_of e < length w.program.callers + w.program.workers →
    EventFits (length (state_after (start w.program.plan) done).plan.stages) e → Asked w k (length w.program.callers) done (e ∷ rest) →
    (who_of e < length w.program.callers) ⊎ (length w.program.callers ≤ who_of e) → Asked w (suc k) 0 (done ++ e ∷ []) rest
one-more w k done e rest whole all fits h (inl l) = one-event w k done e rest whole l fits h
one-more w k done e rest whole all fits h (inr l) =
    let v : ℕ = who_of e - length w.program.callers in
    one-work w k done e rest v whole (omega arith) (omega arith) fits h

walked : (w : Walk) (callers functions k : ℕ) (done rest : List Event) → done ++ rest ≡ w.history → callers ≡ length w.program.callers + w.program.workers →
    AreEventsOf callers functions (state_after (start w.program.plan) done) rest → Asked w k 0 done rest → Asked w (length w.history) (length w.program.callers) w.history []
walked w callers functions k done [] whole all events h =
    let n = length w.program.callers in
    let last = asked w k done [] whole h.order h.s h.comes h.each h.working n (omega arith) in
    let is : done ≡ w.history = sym (append-nil done) ∙ whole in
    let so_many : k ≡ length w.history = sym h.comes.so_many ∙ ap length is in
    subst (λ (x : ℕ). Asked w x n w.history []) so_many (subst (λ (x : List Event). Asked w k n x []) is last)
walked w callers functions k done (e ∷ rest) whole all events h =
    let n = length w.program.callers in
    let ready = asked w k done (e ∷ rest) whole h.order h.s h.comes h.each h.working n (omega arith) in
    let next = one-more w k done e rest whole (omega (arith, events.0.caller)) events.0.fits ready (cases_lt (who_of e) n) in
    let after_it : AreEventsOf callers functions (state_after (start w.program.plan) (done ++ e ∷ [])) rest =
    subst (λ (x : State). AreEventsOf callers functions x rest) (sym (state_after-append (start w.program.plan) done (e ∷ []))) events.1 in
    walked w callers functions (suc k) (done ++ e ∷ []) rest (append_assoc done (e ∷ []) rest ∙ whole) all after_it next

-- behind the last event nothing is left
none-left : (plan : Planned) (history : List Event) (c : ℕ) (left : List Record) → All (IsAnswered plan history) left → dids left ≡ [] → IsPast (length history) left → left ≡ []
none-left plan history c [] answers changes past = refl
none-left plan history c (Did place event reply ∷ left) answers changes past = absurd (let impossible : ⊥ = cc in impossible)
none-left plan history c (Saw place ask answer ∷ left) answers changes past =
    absurd (let within = (All-head (IsAnswered plan history) (Saw place ask answer) left answers).0 in omega arith)

-- so each caller was told all
record AllTold (w : Walk) (order : List Move) (c : ℕ) (place : Place) : Type 0 where
  records : List Record
  owner : Contains w.callers (c, records)
  steps : slice_get w.program.callers c ≡ Some (map step_for records)
  at : place.at ≡ length records
  tells : TellsEach w.meanings w.program w.history order c records

all-told : (w : Walk) (order : List Move) (c : ℕ) (place : Place) → c < length w.program.callers → HasStand w (length w.history) (length w.program.callers) [] order c place → AllTold w order c place
all-told w order c place l (left, h) =
    let none : left ≡ [] = none-left w.program.plan w.history c left h.answers h.changes (h.past l) in
    let whole : h.so_far ++ left ≡ h.so_far = ap (λ (x : List Record). h.so_far ++ x) none ∙ append-nil h.so_far in
    record {
      records = h.so_far;
      owner = subst (λ (x : List Record). Contains w.callers (c, x)) whole h.owner;
      steps = h.steps ∙ ap (λ (x : List Record). Some (map step_for x)) whole;
      at = h.at;
      tells = h.tells;
    }

-- without workers nothing is in vain
none-vain : (callers functions n : ℕ) (s : State) (events : List Event) → AreEventsOf callers functions s events → callers ≤ n → but_vain n s events ≡ events
none-vain callers functions n s [] h le = refl
none-vain callers functions n s (e ∷ events) h le =
    let took : is_vain n e (answered s e).0 ≡ false = caller-took n e (answered s e).0 (let l = h.0.caller in omega arith) in
    ap (λ (b : Bool). if b then but_vain n ((answered s e).1) events else e ∷ but_vain n ((answered s e).1) events) took
    ∙ ap (λ (l : List Event). e ∷ l) (none-vain callers functions n ((answered s e).1) events h.1 le)

orders-of : (m : Meanings) (functions : ℕ) (history : List Event) (callers : List (ℕ × List Record)) (p : Programmed) →
    IsOneHistory p.plan functions history callers → IsProgramOf m p.plan history callers p → HasOrder m p history callers
orders-of m functions history callers p one is =
    let w : Walk = record { meanings = m; history = history; callers = callers; program = p } in
    let first : Asked w 0 0 [] history = record { order = []; s = start_of p; comes = begins w; each = starts w functions one is; working = begins-work w functions one is } in
    let last = walked w (length callers) functions 0 [] history refl (sym is.all) one.taken first in
    let s = last.s in
    let told : (c : ℕ) (l : c < length p.callers) → AllTold w last.order c (place_at s c) = λ c l. all-told w last.order c (place_at s c) l (last.each c l) in
    let workers = no-work w (length history) s last.working (λ v l. ap lowest_ready_of last.comes.state ∙ (is.workers v l).3) p.workers (omega arith) in (
      last.order,
      s,
      record {
        can_come = record { can_be = last.comes.can_be; leads = last.comes.leads; size = refl };
        events = last.comes.events;
        all_events = λ none. last.comes.events ∙ none-vain (length callers) functions (length p.callers) (start p.plan) history one.taken (let all = is.all in omega arith);
        state = last.comes.state;
        end = none-goes_on p s workers (λ c l. (let one = told c l in no-step p s c one.records one.steps one.at));
        tells = λ c records l there. (let one = told c l in
            subst (λ (x : List Record). TellsEach m p history last.order c x) (once callers (everyone w is) c one.records records one.owner there) one.tells);
      },
    )

pub histories_are_orders : HistoriesAreOrders
histories_are_orders m plan functions history callers p one is =
    orders-of m functions history callers p
    (subst (λ (x : Planned). IsOneHistory x functions history callers) (sym is.same_plan) one)
    (subst (λ (x : Planned). IsProgramOf m x history callers p) (sym is.same_plan) is)

pub searches_cover_histories : SearchesCoverHistories
searches_cover_histories m plan functions history callers p conditions found one is h whole =
    let all = histories_are_orders m plan functions history callers p one is in
    let order = all.0 in
    let s = all.1 in
    let of = all.2 in
    let e = end-told m p conditions found (length order) order s h whole of.can_come of.end in
    let state : s.state ≡ state_after (start plan) history = of.state ∙ ap (λ (x : Planned). state_after (start x) history) is.same_plan in
    (e.0, e.1, e.2 ∙ ap (λ (x : State). map outcome_of x.stages) state, e.3)

pub searches_judge_histories : SearchesJudgeHistories
searches_judge_histories m plan functions history callers p conditions found condition one is h whole none =
    let all = histories_are_orders m plan functions history callers p one is in
    let order = all.0 in
    let of = all.2 in (
      order,
      all.1,
      of,
      λ before later e.
          let front = moves-front m p (start_of p) before later (subst (λ (o : List Move). AreMoves m p (start_of p) o) e of.can_come.can_be) in
          let first : IsOrder m p (length before) before (led m p (start_of p) before) = record { can_be = front; leads = refl; size = refl } in
          order-undecided m p conditions found condition (length before) before (led m p (start_of p) before) h whole none first,
    )
