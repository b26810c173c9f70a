-- A run of plain work ends plainly.
use Rattle.std.proofs.Common.{◌≡◌, ◌≢◌, ℕ, suc, ◌<◌, ◌≤◌, ◌⊎◌, inl, inr, Bool, true, false, cond, eqb, eq-eqb, Option, Some, None, List, [], ◌∷◌, ◌++◌, length, map, sym, refl, ap, ◌∙◌, subst, arith}
use Rattle.std.specs.List.{All, AllZip}
use Rattle.std.specs.Option.{option_map_or}
use Rattle.std.proofs.lemmas.Bool.{cases_lt, eqb-true, false_from_ne_true}
use Rattle.std.proofs.lemmas.List.Elements.{All-cons, All-head, All-nil, All-tail, All-weaker}
use Rattle.cf_forms.specs.declared.forms.Args.{Args}
use Rattle.cf_forms.specs.declared.forms.Form.TheVariants.{Source}
use Rattle.cf_forms.specs.declared.limits.Limit.{Limit}
use Rattle.cf_forms.specs.Meanings.{Meanings, stage_answer}
use Rattle.cf_forms.specs.Plans.{Planned, PlannedStage, form_at}
use Rattle.cf_forms.proofs.ListLemmas.{slice_get-front}
use Rattle.cf_model.specs.declared.events.Event.{Event}
use Rattle.cf_model.specs.declared.events.Event.TheVariants.{Complete as Completes, Fail as Fails, FailAs as FailsAs, Cancel as Cancels, Claim as Claims, Finish as Finishes, Tick as Ticks, Attach as Attaches}
use Rattle.cf_model.specs.declared.events.Reply.{Reply}
use Rattle.cf_model.specs.Calls.{as_call, event_by, who_of}
use Rattle.cf_model.specs.Events.{answered, state_after}
use Rattle.cf_model.specs.Growth.{Grows}
use Rattle.cf_model.specs.Ranges.{EventFits, EventsFit}
use Rattle.cf_model.specs.States.{State, start}
use Rattle.cf_model.proofs.Shape.{answered-grows, grows-then, state_after-grows}
use Rattle.cf_expr.specs.Histories.{Grants, IsPlain, IsPlainEvent, IsQuiet, IsSource, granted_with, is_work, nothing_granted, without_work}
use Rattle.cf_expr.proofs.Parts.{without_work-append, work_keeps_expressions}
use Rattle.cf_event.specs.Events.{AreEventsOf, own}
use Rattle.cf_desk.specs.declared.calls.Rec.{Rec}
use Rattle.cf_desk.specs.declared.calls.Rec.TheVariants.{Did, Saw}
use Rattle.cf_desk.specs.declared.row.DeskConfig.{DeskConfig}
use Rattle.cf_desk.specs.Keepings.{IsKeptFit, caller_kept, pass_did}
use Rattle.cf_desk.specs.Laws.{Shows, call_of}
use Rattle.cf_desk.specs.Log.{Catches, state_from}
use Rattle.cf_desk.specs.Records.{Fits, dids}
use Rattle.cf_desk.specs.Rule.{count_in}
use Rattle.cf_desk.specs.Views.{Pass, knowns, state_of}
use Rattle.cf_desk.proofs.Histories.{calls_of, one_history_shows}
use Rattle.cf_event.proofs.Events.{events_each}
use Rattle.cf_pool.specs.Answering.{as_meant}
use Rattle.cf_pool.specs.PlainRuns.{IsPlainStep, MadeNone, MadePlainSteps, RunsEndPlainly, made_by}
use Rattle.cf_pool.specs.Records.{recorded}
use Rattle.cf_pool.specs.Works.{AreWork, IsNext, Owed, Works, owed_by}
use Rattle.cf_pool.proofs.Quiet.{IsNoWork, MadeNoWork, quiet, step_no_work}
use Rattle.cf_pool.proofs.Racing.Counts.{ByCaller}
use Rattle.cf_pool.proofs.Racing.Ending.{all_own, weigh_zero}
use Rattle.cf_pool.proofs.Racing.Joining.{WorksIn, absent_records, each_pass, grows_in, zip_both}
use Rattle.cf_pool.proofs.Racing.Owing.{WasGranted, by_next, owing_with, rec_of, still_granted}
use Rattle.cf_pool.proofs.Racing.Recorded.{fits_recorded, only_append, only_dids, only_work}
use Rattle.cf_pool.proofs.Working.{by_record, function_stays, more_stages, work_grown}

-- ---- what a step is

-- a source stays one as the plan grows
source_stays : (r s : State) (i : ℕ) → Grows r s → IsSource r.plan.stages i → IsSource s.plan.stages i
source_stays r s i g is = (
  (let more = more_stages r s g in let l = is.0 in omega (arith, more, l)),
  ap (λ (l : List PlannedStage). form_at l i) g.stages ∙ ap (λ (x : Option PlannedStage). option_map_or (λ (p : PlannedStage). p.form) x Source) (slice_get-front r.plan.stages g.more i is.0) ∙ is.1,
)

plain_grown : (meanings : Meanings) (before granted : Grants) (r s : State) (e : Event) → Grows r s → is_work e ≡ false → IsPlainEvent meanings before r e → IsPlainEvent meanings granted s e
plain_grown meanings before granted r s (Completes who i v) g h plain = source_stays r s i g plain
plain_grown meanings before granted r s (Fails who i code) g h plain = source_stays r s i g plain
plain_grown meanings before granted r s (FailsAs who i failure) g h plain = source_stays r s i g plain
plain_grown meanings before granted r s (Cancels who i) g h plain = source_stays r s i g plain
plain_grown meanings before granted r s (Claims who i) g h plain = tt
plain_grown meanings before granted r s (Finishes who i answer) g h plain = cc
plain_grown meanings before granted r s (Ticks who now) g h plain = subst (All (λ (l : Limit). now < l.at)) (sym g.limits) plain
plain_grown meanings before granted r s (Attaches who form of function) g h plain = tt

own_event : (e : Event) → event_by (who_of e) (as_call e) ≡ e
own_event (Completes who i v) = refl
own_event (Fails who i code) = refl
own_event (FailsAs who i failure) = refl
own_event (Cancels who i) = refl
own_event (Claims who i) = refl
own_event (Finishes who i answer) = refl
own_event (Ticks who now) = refl
own_event (Attaches who form of function) = refl

-- ---- a caller's records are steps, and then work

-- a record is of a plain step of this caller, or the next where this is owed
abbrev IsStepOrNext : Meanings → Planned → Planned → ℕ → Owed → Rec → Type 0
IsStepOrNext meanings plan last c owed r = (IsNoWork r × All (IsPlainStep meanings plan) (map call_of (dids c (r ∷ [])))) ⊎ IsNext (as_meant meanings) last owed r

abbrev AreStepsOrWork : Meanings → Planned → Planned → ℕ → Owed → List Rec → Type 0
AreStepsOrWork meanings plan last c owed [] = Unit {0}
AreStepsOrWork meanings plan last c owed (r ∷ rs) = IsStepOrNext meanings plan last c owed r × AreStepsOrWork meanings plan last c (owed_by r) rs

work_alone : (meanings : Meanings) (plan last : Planned) (c : ℕ) (owed : Owed) (rs : List Rec) → AreWork (as_meant meanings) last owed rs → AreStepsOrWork meanings plan last c owed rs
work_alone meanings plan last c owed [] h = tt
work_alone meanings plan last c owed (r ∷ rs) h = (inr h.0, work_alone meanings plan last c (owed_by r) rs h.1)

steps_then_work : (meanings : Meanings) (plan last : Planned) (c : ℕ) (rs more : List Rec) → All (IsPlainStep meanings plan) (map call_of (dids c rs)) → AreWork (as_meant meanings) last None more
    → AreStepsOrWork meanings plan last c None (only_dids rs ++ more)
steps_then_work meanings plan last c [] more steps work = work_alone meanings plan last c None more work
steps_then_work meanings plan last c (Saw place ask answer ∷ rs) more steps work = steps_then_work meanings plan last c rs more steps work
steps_then_work meanings plan last c (Did place call reply ∷ rs) more steps work =
    let step = All-head (IsPlainStep meanings plan) (event_by c call) (map call_of (dids c rs)) steps in
    let none = step_no_work c place call reply step.0 in (
      inl (none, All-cons (IsPlainStep meanings plan) (event_by c call) [] step (All-nil (IsPlainStep meanings plan))),
      subst (λ (o : Owed). AreStepsOrWork meanings plan last c o (only_dids rs ++ more)) (sym none.owes)
          (steps_then_work meanings plan last c rs more (All-tail (IsPlainStep meanings plan) (event_by c call) (map call_of (dids c rs)) steps) work),
    )

-- so it is with each caller's records of the history
abbrev Share : Meanings → Planned → List Event → ℕ → Type 0
Share meanings plan history c = AreStepsOrWork meanings plan ((state_from plan history).plan) c None (recorded c 0 (start plan) history)

abbrev HasBegun : Meanings → DeskConfig → Pass → Type 0
HasBegun meanings setting p = (p.known.setting ≡ setting) × MadePlainSteps meanings setting.plan p

-- a pass has added work to its steps
added : (meanings : Meanings) (plan : Planned) (history : List Event) (p q : Pass) (w : Works (as_meant meanings) p q) → Fits plan q.known.caller history q.records → only_dids p.records ++ w.more ≡ recorded p.known.caller 0 (start plan) history
added meanings plan history p q w fit =
    ap (λ l. only_dids p.records ++ l) (sym (only_work (as_meant meanings) (state_of q.known).plan None w.more w.work))
    ∙ sym (ap only_dids w.records ∙ only_append p.records w.more)
    ∙ fits_recorded plan p.known.caller history q.records (subst (λ (c : ℕ). Fits plan c history q.records) w.same.2 fit)

share : (meanings : Meanings) (setting : DeskConfig) (history : List Event) (p q : Pass) → WorksIn (as_meant meanings) history p q → HasBegun meanings setting p → Fits setting.plan q.known.caller history q.records → Share meanings setting.plan history p.known.caller
share meanings setting history p q both begun fit =
    let w = both.0 in
    let last = state_from setting.plan history in
    subst (AreStepsOrWork meanings setting.plan last.plan p.known.caller None) (added meanings setting.plan history p q w fit)
    (steps_then_work meanings setting.plan last.plan p.known.caller p.records w.more begun.1
    (work_grown (as_meant meanings) (state_of q.known) last w.more (grows_in (as_meant meanings) setting history p q both begun.0) w.work))

-- ---- so the history is plain

abbrev AllShare : Meanings → Planned → Planned → (ℕ → Owed) → ℕ → State → List Event → Type 0
AllShare meanings plan last owes n s events = (c : ℕ) → AreStepsOrWork meanings plan last c (owes c) (recorded c n s events)

next_share : (meanings : Meanings) (plan last : Planned) (c : ℕ) (o : Owed) (b : Bool) (r : Rec) (rs : List Rec) → b ≡ true → AreStepsOrWork meanings plan last c o (cond b (r ∷ rs) rs) → IsStepOrNext meanings plan last c o r
next_share meanings plan last c o true r rs e h = h.0
next_share meanings plan last c o false r rs e h = cc

rest_share : (meanings : Meanings) (plan last : Planned) (c : ℕ) (o : Owed) (b : Bool) (r : Rec) (rs : List Rec) → AreStepsOrWork meanings plan last c o (cond b (r ∷ rs) rs) → AreStepsOrWork meanings plan last c (cond b (owed_by r) o) rs
rest_share meanings plan last c o true r rs h = h.1
rest_share meanings plan last c o false r rs h = h

-- an event that is a step, or the next where this is owed and was granted
plain_event : (meanings : Meanings) (plan : Planned) (granted : Grants) (n : ℕ) (s last : State) (o : Owed) (e : Event) (reply : Reply) → Grows (start plan) s → Grows s last → EventFits (length s.plan.stages) e
    → ((i : ℕ) (args : Args) → o ≡ Some (i, args) → granted (who_of e) i ≡ Some args) → IsStepOrNext meanings plan last.plan (who_of e) o (rec_of n e reply) → IsPlainEvent meanings granted s e
plain_event meanings plan granted n s last o e reply before after fits was (inl step) =
    let plain = subst (IsPlainStep meanings plan) (own_event e) (All-head (IsPlainStep meanings plan) (event_by (who_of e) (as_call e)) [] step.1) in
    plain_grown meanings nothing_granted granted (start plan) s e before plain.0 plain.1
plain_event meanings plan granted n s last o e reply before after fits was (inr next) =
    by_next (as_meant meanings) last.plan (λ o e. EventFits (length s.plan.stages) e → ((i : ℕ) (args : Args) → o ≡ Some (i, args) → granted (who_of e) i ≡ Some args) → IsPlainEvent meanings granted s e)
    (λ who i l fits was. tt)
    (λ who i args answer means fits was won given there.
    let both : Some args ≡ Some given = sym (was i args refl) ∙ there in
    let same : args ≡ given = cc in
    means ∙ sym (ap (λ (n : ℕ). meanings n args) (function_stays s last i after fits)) ∙ ap (stage_answer meanings s.plan.stages i) same)
    o n e reply next fits was

plain_along : (meanings : Meanings) (plan : Planned) (last : State) (owes : ℕ → Owed) (granted : Grants) (n : ℕ) (s : State) (events : List Event) → state_after s events ≡ last → Grows (start plan) s → EventsFit s events → WasGranted owes granted
    → AllShare meanings plan last.plan owes n s events → IsPlain meanings granted s events
plain_along meanings plan last owes granted n s [] is before fits was h = tt
plain_along meanings plan last owes granted n s (e ∷ events) is before fits was h =
    let reply = answered s e in
    let c = who_of e in
    let next = next_share meanings plan last.plan c (owes c) (eqb c c) (rec_of n e reply.0) (recorded c (suc n) reply.1 events) (eq-eqb c c refl) (h c) in (
      plain_event meanings plan granted n s last (owes c) e reply.0 before (subst (Grows s) is (state_after-grows s (e ∷ events))) fits.0 (was c) next,
      plain_along meanings plan last (owing_with owes n e reply.0) (granted_with granted e reply.0) (suc n) reply.1 events is (grows-then (start plan) s reply.1 before (answered-grows s e)) fits.1
          (still_granted owes granted n e reply.0 was)
          (λ k. rest_share meanings plan last.plan k (owes k) (eqb c k) (rec_of n e reply.0) (recorded k (suc n) reply.1 events) (h k)),
    )

logged_fit : (callers functions : ℕ) (s : State) (events : List Event) → AreEventsOf callers functions s events → EventsFit s events
logged_fit callers functions s [] h = tt
logged_fit callers functions s (e ∷ events) h = (h.0.fits, logged_fit callers functions ((answered s e).1) events h.1)

-- ---- where one caller alone made steps, they are all that isn't work

-- a list without its work, and one caller's events of it
swap : (w b : Bool) (c : ℕ) (e : Event) (rest owns : List Event) → is_work e ≡ w → eqb (who_of e) c ≡ b → own c rest ≡ without_work owns → own c (cond w rest (e ∷ rest)) ≡ without_work (cond b (e ∷ owns) owns)
swap true true c e rest owns work mine h = h ∙ sym (ap (λ (x : Bool). cond x (without_work owns) (e ∷ without_work owns)) work)
swap true false c e rest owns work mine h = h
swap false true c e rest owns work mine h =
    ap (λ (x : Bool). cond x (e ∷ own c rest) (own c rest)) mine ∙ ap (λ l. e ∷ l) h ∙ sym (ap (λ (x : Bool). cond x (without_work owns) (e ∷ without_work owns)) work)
swap false false c e rest owns work mine h = ap (λ (x : Bool). cond x (e ∷ own c rest) (own c rest)) mine ∙ h

own_without : (c : ℕ) (events : List Event) → own c (without_work events) ≡ without_work (own c events)
own_without c [] = refl
own_without c (e ∷ events) = swap (is_work e) (eqb (who_of e) c) c e (without_work events) (own c events) refl refl (own_without c events)

-- the records of work are of work
abbrev IsOfWork : ℕ → Rec → Type 0
IsOfWork c (Did place call reply) = is_work (event_by c call) ≡ true
IsOfWork c (Saw place ask answer) = ⊥

next_of_work : (meanings : Meanings) (plan : Planned) (c : ℕ) (o : Owed) (r : Rec) → IsNext (as_meant meanings) plan o r → IsOfWork c r
next_of_work meanings plan c = by_record (as_meant meanings) plan (λ o r. IsOfWork c r) (λ place i reply l. refl) (λ place i args answer reply is. refl)

all_of_work : (meanings : Meanings) (plan : Planned) (c : ℕ) (o : Owed) (rs : List Rec) → AreWork (as_meant meanings) plan o rs → All (λ e. is_work e ≡ true) (map call_of (dids c rs))
all_of_work meanings plan c o [] h = All-nil (λ e. is_work e ≡ true)
all_of_work meanings plan c o (Saw place ask answer ∷ rs) h = absurd (next_of_work meanings plan c o (Saw place ask answer) h.0)
all_of_work meanings plan c o (Did place call reply ∷ rs) h =
    All-cons (λ e. is_work e ≡ true) (event_by c call) (map call_of (dids c rs)) (next_of_work meanings plan c o (Did place call reply) h.0)
    (all_of_work meanings plan c (owed_by (Did place call reply)) rs h.1)

calls-append : (c : ℕ) (xs ys : List Rec) → map call_of (dids c (xs ++ ys)) ≡ map call_of (dids c xs) ++ map call_of (dids c ys)
calls-append c [] ys = refl
calls-append c (Did place call reply ∷ xs) ys = ap (λ l. event_by c call ∷ l) (calls-append c xs ys)
calls-append c (Saw place ask answer ∷ xs) ys = calls-append c xs ys

-- a caller's events that are no work are those that it made before
own_steps : (meanings : Meanings) (plan : Planned) (history : List Event) (p q : Pass) → Works (as_meant meanings) p q → Fits plan q.known.caller history q.records → without_work (own p.known.caller history) ≡ without_work (made_by p)
own_steps meanings plan history p q w fit =
    let c = p.known.caller in
    let fits : Fits plan c history q.records = subst (λ (k : ℕ). Fits plan k history q.records) w.same.2 fit in
    let own_is : own c history ≡ made_by p ++ map call_of (dids c w.more) =
    sym (calls_of c 0 history) ∙ sym (ap (map call_of) fits.did) ∙ ap (λ l. map call_of (dids c l)) w.records ∙ calls-append c p.records w.more in
    ap without_work own_is ∙ without_work-append (made_by p) (map call_of (dids c w.more)) (all_of_work meanings (state_of q.known).plan c None w.more w.work)

kept_without : (w : Bool) (P : Event → Type 0) (e : Event) (rest : List Event) → P e → All P rest → All P (cond w rest (e ∷ rest))
kept_without true P e rest h all = all
kept_without false P e rest h all = All-cons P e rest h all

all_without : (P : Event → Type 0) (events : List Event) → All P events → All P (without_work events)
all_without P [] h = h
all_without P (e ∷ events) h = kept_without (is_work e) P e (without_work events) (All-head P e events h) (all_without P events (All-tail P e events h))

steps_alone : (meanings : Meanings) (plan : Planned) (callers : ℕ) (history : List Event) (first : Pass) (others qs : List Pass) → AllZip (Works (as_meant meanings)) (first ∷ others) qs → All (IsKeptFit plan history) (map pass_did qs)
    → ((c : ℕ) → c < callers → count_in c (knowns qs) ≡ 1) → All (ByCaller callers) history → All MadeNone others → without_work history ≡ without_work (made_by first)
steps_alone meanings plan callers history first others [] zip fits each by none = absurd zip
steps_alone meanings plan callers history first others (q ∷ qs) zip fits each by none =
    sym (all_own callers c (without_work history) (all_without (ByCaller callers) history by) alone)
    ∙ own_without c history
    ∙ own_steps meanings plan history first q zip.0 (All-head (IsKeptFit plan history) (pass_did q) (map pass_did qs) fits)
  where
    c : ℕ
    c = first.known.caller

    alone : (k : ℕ) → k ≢ c → k < callers → own k (without_work history) ≡ []
    alone k other less =
        own_without k history
        ∙ each_pass plan history (Works (as_meant meanings)) MadeNone (λ n. without_work (own n history) ≡ []) (λ p q w. w.same.2)
        (λ p q w made fit. own_steps meanings plan history p q w fit ∙ ap without_work made) k others qs zip.1 none (All-tail (IsKeptFit plan history) (pass_did q) (map pass_did qs) fits)
        (weigh_zero (eqb q.known.caller k) (count_in k (knowns qs)) (false_from_ne_true (eqb q.known.caller k) (λ e. other (sym (eqb-true q.known.caller k e) ∙ zip.0.same.2))) (each k less))

-- ---- the whole

pub runs_end_plainly : RunsEndPlainly
runs_end_plainly meanings d ps history kept graph of steps o = record {
  quiet = quiet_then;
  plain = plain;
  expressed = λ built plain_plan i l. shown.expressed built plain_plan quiet_then meanings plain i l;
  by_steps = λ first others are none i.
      work_keeps_expressions graph.plan history (made_by first) meanings i
      (steps_alone meanings plan callers history first others o.ran.qs (subst (λ (l : List Pass). AllZip (Works (as_meant meanings)) l o.ran.qs) are o.ran.works) fits o.ran.closes.each by none);
}
  where
    plan : Planned
    plan = d.setting.plan

    callers : ℕ
    callers = d.setting.callers

    quiet_then : IsQuiet graph
    quiet_then = quiet (as_meant meanings) d ps history kept graph (All-weaker (MadePlainSteps meanings plan) MadeNoWork (λ p made. All-weaker (IsPlainStep meanings plan) (λ e. is_work e ≡ false) (λ e step. step.0) (made_by p) made) ps steps) o

    shown : Shows plan history (map caller_kept kept) graph
    shown = one_history_shows plan d.setting.functions history (map caller_kept kept) graph o.ran.one o.ran.graph_is

    fits : All (IsKeptFit plan history) (map pass_did o.ran.qs)
    fits = subst (All (IsKeptFit plan history)) o.ran.kept_are o.ran.fit.each

    by : All (ByCaller callers) history
    by = events_each (ByCaller callers) callers d.setting.functions (λ s e h. h.caller) (start plan) history o.ran.closes.events

    both : AllZip (WorksIn (as_meant meanings) history) ps o.ran.qs
    both = zip_both (Works (as_meant meanings)) (λ (p : Pass). Catches p.known.caller p.known.seen history) ps o.ran.qs o.ran.works o.ran.closes.begins

    begun : All (HasBegun meanings d.setting) ps
    begun = λ i p l. ((of i p l).1, steps i p l)

    shares : AllShare meanings plan ((state_from plan history).plan) (λ c. None) 0 (start plan) history
    shares c = split (cases_lt c callers)
      where
        split : (c < callers) ⊎ (callers ≤ c) → Share meanings plan history c
        split (inl l) =
            each_pass plan history (WorksIn (as_meant meanings) history) (HasBegun meanings d.setting) (Share meanings plan history) (λ p q w. w.0.same.2) (share meanings d.setting history) c ps o.ran.qs both begun fits
            (let one = o.ran.closes.each c l in omega (arith, one))
        split (inr l) = subst (AreStepsOrWork meanings plan ((state_from plan history).plan) c None) (sym (absent_records callers c 0 (start plan) history l by)) tt

    plain : IsPlain meanings nothing_granted (start plan) history
    plain =
        plain_along meanings plan (state_from plan history) (λ c. None) nothing_granted 0 (start plan) history refl (state_after-grows (start plan) [])
        (logged_fit callers d.setting.functions (start plan) history o.ran.closes.events) (λ c i args owed. (let nothing : ⊥ = cc in absurd nothing)) shares
