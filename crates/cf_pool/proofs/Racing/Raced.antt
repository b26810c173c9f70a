-- A run that begins as a race ends as one, and its log and its passes are never full.
use Rattle.std.proofs.Common.{◌≡◌, true, false, ℕ, suc, ◌+◌, ◌*◌, ◌<◌, ◌≤◌, ◌⊎◌, inl, inr, eqb, None, List, [], ◌∷◌, ◌++◌, length, map, take, replicate, refl, sym, ap, ◌∙◌, subst, arith, length-append, append_assoc}
use Rattle.std.specs.List.{All, AllZip}
use native.Mathlib.Nat.{mul-suc}
use Rattle.std.proofs.lemmas.Bool.{eqb-true, false_from_ne_true}
use Rattle.std.proofs.lemmas.List.{length-take-le, length-replicate}
use Rattle.std.proofs.lemmas.List.Sums.{count_by-le-length}
use Rattle.std.proofs.Math.Seq.{take-length}
use Rattle.std.proofs.lemmas.List.Elements.{All-cons, All-head, All-tail, All-weaker, All-contains}
use Rattle.cf_forms.specs.Plans.{Planned, PlannedStage, IsBuilt, IsGrowing, edges_of, plan_of, with_room}
use Rattle.cf_forms.proofs.PlanLemmas.{IsBuilt-as}
use Rattle.cf_model.specs.declared.events.Event.{Event}
use Rattle.cf_model.specs.declared.events.Event.TheVariants.{Complete as Completes, Fail as Fails, FailAs as FailsAs, Cancel as Cancels, Claim as Claims, Finish as Finishes, Tick as Ticks, Attach as Attaches}
use Rattle.cf_model.specs.declared.stage.Stage.TheVariants.{Pending}
use Rattle.cf_model.specs.States.{State, start}
use Rattle.cf_model.specs.Claims.{is_claimable}
use Rattle.cf_model.specs.Events.{state_after}
use Rattle.cf_model.specs.Calls.{is_from_outside}
use Rattle.cf_model.proofs.Histories.{state_after-append}
use Rattle.cf_model.proofs.Growing.{grown_growing}
use Rattle.cf_model.proofs.Shape.{length-new_states, state_after-grows}
use Rattle.cf_pool.specs.Answering.{Answers}
use Rattle.cf_expr.specs.Histories.{grants_after, is_work, nothing_granted}
use Rattle.cf_desk.specs.declared.calls.Kept.{Kept}
use Rattle.cf_desk.specs.declared.faults.DeskFault.{DeskFault}
use Rattle.cf_desk.specs.declared.faults.DeskFault.TheVariants.{BadAttach, LogFull, NoStage, PassFull}
use Rattle.cf_desk.specs.declared.row.DeskConfig.{DeskConfig}
use Rattle.cf_desk.specs.Keepings.{IsKeptFit, pass_did}
use Rattle.cf_desk.specs.Laws.{call_of}
use Rattle.cf_event.specs.Events.{own}
use Rattle.cf_desk.specs.Log.{Catches, state_from}
use Rattle.cf_desk.specs.Rule.{count_in}
use Rattle.cf_desk.specs.Views.{Closes, Pass, Desk, knowns}
use Rattle.cf_desk.proofs.Histories.{calls_of}
use Rattle.cf_desk.proofs.Lists.{all_front}
use Rattle.cf_event.proofs.Events.{events_each}
use Rattle.cf_model.specs.Calling.{CallsOf}
use Rattle.cf_pool.specs.Calling.{TellsOf}
use Rattle.cf_pool.specs.declared.faults.PoolFault.{PoolFault}
use Rattle.cf_pool.specs.declared.faults.PoolFault.TheVariants.{Desk as ToldDesk, NoMemory, NoThread}
use Rattle.cf_pool.specs.Closings.{IsDueToTell, IsForRoom, RunRefuses, Ran, RanOut}
use Rattle.cf_pool.specs.Works.{Owed, Works}
use Rattle.cf_pool.specs.Records.{recorded}
use Rattle.cf_pool.specs.Races.{AreSteps, IsByWorker, IsRaced, IsStep, IsWorkHistory, log_words, plan_after, race_functions}
use Rattle.cf_pool.specs.Beginnings.{HaveBegun, IsApart, IsHeldUp, HasDoneSteps}
use Rattle.cf_pool.proofs.Quiet.{MadeNoWork, quiet}
use Rattle.cf_pool.proofs.Racing.Counts.{ByCaller, claims_left, grants_leave, history_at_most}
use Rattle.cf_pool.proofs.Racing.Begun.{held_up_by_log}
use Rattle.cf_pool.proofs.Racing.Ending.{Whole, all_share, back_all, own_all, first_begun, others_begun, own_none, seen_is, weigh_zero}
use Rattle.cf_pool.proofs.Racing.Joining.{HadBegun, Shares, WorksIn, all_room, each_pass, has_room, last_plan, shares, shares_few, zip_both}
use Rattle.cf_pool.proofs.Racing.Owing.{AllWork, is_work_then, work_leaves_plan}

-- a run that began with the steps
pub record Ended (answers : Answers) (d : Desk) (steps : List Event) (calls : ℕ) (ps qs : List Pass) (history : List Event) : Type 0 where
  pub seen : List Event
  pub work : List Event
  pub whole : Whole answers d.setting history seen work
  pub begun : All (HadBegun d.setting seen (length steps) calls) ps
  pub steps_are : seen ≡ steps
  pub short : length history < d.words
  pub room : All (λ (q : Pass). length q.records < q.calls) qs

-- ---- how long it is

-- how many stages there may be in all
abbrev pub most_stages : Planned → ℕ
most_stages plan = length plan.stages + plan.room

start_few : (plan : Planned) (events : List Event) → claims_left (state_from plan events) ≤ most_stages plan
start_few plan events =
    let left = grants_leave 0 (start plan) events in
    let a = count_by-le-length is_claimable (start plan).stages in
    let b : length (start plan).stages ≡ length plan.stages = length-new_states [] plan.stages (replicate (length plan.stages) Pending) ∙ length-replicate (length plan.stages) Pending in
    omega (arith, left, a, b)

-- and how many there are in the end
few_stages : (plan : Planned) (events : List Event) → length (state_from plan events).plan.stages ≤ most_stages plan
few_stages plan events =
    let grown = state_after-grows (start plan) events in
    let stages = ap (λ (l : List PlannedStage). length l) grown.stages ∙ length-append plan.stages grown.more in
    let room = grown.room in
    omega (arith, stages, room)

work_few : (answers : Answers) (setting : DeskConfig) (history seen work : List Event) → Whole answers setting history seen work → length work ≤ most_stages setting.plan * setting.callers + most_stages setting.plan
work_few answers setting history seen work w =
    history_at_most setting.callers (most_stages setting.plan) (length seen) (state_from setting.plan seen) work
    (back_all (ByCaller setting.callers) seen work w.by) (start_few setting.plan seen)
    (λ c l. (shares_few answers (last_plan setting (seen ++ work)) (most_stages setting.plan) (recorded c (length seen) (state_from setting.plan seen) work) (few_stages setting.plan (seen ++ work)) (w.shares_of c l)).0)

history_short : (answers : Answers) (d : Desk) (steps : ℕ) (workers : ℕ) (history seen work : List Event) → Whole answers d.setting history seen work → length seen ≤ steps
    → d.setting.callers ≡ workers + 1 → d.words ≡ log_words steps (most_stages d.setting.plan) workers → length history < d.words
history_short answers d steps workers history seen work w few callers words =
    let n = most_stages d.setting.plan in
    let a = work_few answers d.setting history seen work w in
    let b : length history ≡ length seen + length work = ap length w.history_is ∙ length-append seen work in
    let c : n * (workers + 2) ≡ n * d.setting.callers + n = ap (λ (k : ℕ). n * k) (let e : workers + 2 ≡ suc d.setting.callers = omega arith in e) ∙ mul-suc n d.setting.callers in
    omega (arith, a, b, c, few, words)

-- ---- the whole

apart_none : (d : Desk) (calls : ℕ) (answers : Answers) (history : List Event) (first q : Pass) (others qs : List Pass) → first.known.caller ≡ 0 → Works answers first q → AllZip (Works answers) others qs → All (IsApart d calls first.known.seen) others
    → All (IsKeptFit d.setting.plan history) (map pass_did qs) → (c : ℕ) → 0 < c → count_in c (knowns (q ∷ qs)) ≡ 1 → own c first.known.seen ≡ []
apart_none d calls answers history first q others qs zeroth w zip apart fit c more one =
    own_none d calls d.setting.plan history answers first.known.seen c others qs zip apart fit
    (weigh_zero (eqb q.known.caller c) (count_in c (knowns qs)) (false_from_ne_true (eqb q.known.caller c) (λ e. let same = eqb-true q.known.caller c e in let was : q.known.caller ≡ 0 = w.same.2 ∙ zeroth in let nothing : ⊥ = omega arith in nothing)) one)

-- a desk of a race of these steps, with room for their records and two for each stage there may be
pub record IsForSteps (d : Desk) (steps : List Event) (calls : ℕ) : Type 0 where
  pub functions : d.setting.functions ≡ race_functions
  pub are : AreSteps d.setting.plan steps
  pub enough : length steps + 2 * most_stages d.setting.plan < calls

all_taken : (d : Desk) (steps : List Event) (calls : ℕ) (first : Pass) (t : HasDoneSteps d steps first) (history : List Event) → IsForSteps d steps calls → first.calls ≡ calls → first.known.seen ≡ take t.taken steps → length first.known.seen ≤ length history → length history < d.words → first.known.seen ≡ steps
all_taken d steps calls first t history for room is begins short = split t.all
  where
    split : (t.taken ≡ length steps) ⊎ IsHeldUp d steps t.taken first → first.known.seen ≡ steps
    split (inl e) = is ∙ ap (λ (k : ℕ). take k steps) e ∙ take-length steps
    split (inr held) = absurd (let full = held_up_by_log d steps t.taken calls first t.done for.functions for.are is room (let enough = for.enough in omega arith) held in omega arith)

ended : (answers : Answers) (d : Desk) (steps : List Event) (calls workers : ℕ) (first q : Pass) (others qs : List Pass) (history : List Event) → HasDoneSteps d steps first → first.calls ≡ calls → All (IsApart d calls first.known.seen) others
    → AllZip (Works answers) (first ∷ others) (q ∷ qs) → Closes d (q ∷ qs) history → All (IsKeptFit d.setting.plan history) (map pass_did (q ∷ qs))
    → d.setting.callers ≡ workers + 1 → d.words ≡ log_words (length steps) (most_stages d.setting.plan) workers → IsForSteps d steps calls
    → Ended answers d steps calls (first ∷ others) (q ∷ qs) history
ended answers d steps calls workers first q others qs history t room apart zip closes fit callers words for =
    let setting = d.setting in
    let seen = first.known.seen in
    let w = zip.0 in
    let catch = All-head (λ (p : Pass). Catches p.known.caller p.known.seen history) q qs closes.begins in
    let work = w.seen ++ catch.others in
    let is : history ≡ seen ++ work = catch.joined ∙ ap (λ l. l ++ catch.others) w.goes_on ∙ append_assoc seen w.seen catch.others in
    let by : All (ByCaller setting.callers) (seen ++ work) = subst (All (ByCaller setting.callers)) is (events_each (ByCaller setting.callers) setting.callers setting.functions (λ s e h. h.caller) (start setting.plan) history closes.events) in
    let caught = subst (λ (h : List Event). All (λ (p : Pass). Catches p.known.caller p.known.seen h) (q ∷ qs)) is closes.begins in
    let both : AllZip (WorksIn answers (seen ++ work)) (first ∷ others) (q ∷ qs) = zip_both (Works answers) (λ (p : Pass). Catches p.known.caller p.known.seen (seen ++ work)) (first ∷ others) (q ∷ qs) zip caught in
    let fits : All (IsKeptFit setting.plan (seen ++ work)) (map pass_did (q ∷ qs)) = subst (λ (h : List Event). All (IsKeptFit setting.plan h) (map pass_did (q ∷ qs))) is fit in
    let begun = All-cons (HadBegun setting seen (length steps) calls) first others (first_begun d steps calls first t room)
    (others_begun d seen (length steps) calls others apart) in
    let whole : Whole answers setting history seen work = record {
      history_is = is;
      by = by;
      shares_of = λ c l. each_pass setting.plan (seen ++ work) (WorksIn answers (seen ++ work)) (HadBegun setting seen (length steps) calls) (λ k. Shares answers (last_plan setting (seen ++ work)) (recorded k (length seen) (state_from setting.plan seen) work))
          (λ a b v. v.0.same.2) (shares answers setting seen work (length steps) calls) c (first ∷ others) (q ∷ qs) both begun fits (let one = closes.each c l in omega (arith, one));
    } in
    let taken : seen ≡ take t.taken steps = seen_is d steps first setting.callers t (all_front (ByCaller setting.callers) seen work by)
    (λ c more less. apart_none d calls answers (seen ++ work) first q others qs t.done.caller w zip.1 apart (All-tail (IsKeptFit setting.plan (seen ++ work)) (pass_did q) (map pass_did qs) fits) c more (closes.each c less)) in
    let few : length seen ≤ length steps = (let a = ap length taken in let b = length-take-le t.taken steps t.few in let c = t.few in omega (arith, a, b, c)) in
    let short = history_short answers d (length steps) workers history seen work whole few callers words in
    record {
      seen = seen;
      work = work;
      whole = whole;
      begun = begun;
      steps_are = all_taken d steps calls first t history for room taken (let e : length history ≡ length seen + length work = ap length is ∙ length-append seen work in omega arith) short;
      short = short;
      room = all_room setting.plan (seen ++ work) (WorksIn answers (seen ++ work)) (HadBegun setting seen (length steps) calls)
          (has_room answers setting seen work (length steps) calls (most_stages setting.plan) for.enough (few_stages setting.plan (seen ++ work)))
          (first ∷ others) (q ∷ qs) both begun fits;
    }

ended_any : (answers : Answers) (d : Desk) (steps : List Event) (calls workers : ℕ) (first : Pass) (others qs : List Pass) (history : List Event) → HasDoneSteps d steps first → first.calls ≡ calls → All (IsApart d calls first.known.seen) others
    → AllZip (Works answers) (first ∷ others) qs → Closes d qs history → All (IsKeptFit d.setting.plan history) (map pass_did qs)
    → d.setting.callers ≡ workers + 1 → d.words ≡ log_words (length steps) (most_stages d.setting.plan) workers → IsForSteps d steps calls
    → Ended answers d steps calls (first ∷ others) qs history
ended_any answers d steps calls workers first others [] history t room apart zip closes fit callers words for = absurd zip
ended_any answers d steps calls workers first others (q ∷ qs) history t room apart zip closes fit callers words for =
    ended answers d steps calls workers first q others qs history t room apart zip closes fit callers words for

pub run_ended : (answers : Answers) (d : Desk) (steps : List Event) (calls workers : ℕ) (ps : List Pass) (history : List Event) (kept : List Kept) (graph : State) → HaveBegun d steps calls ps → (r : Ran answers d ps history kept graph)
    → d.setting.callers ≡ workers + 1 → d.words ≡ log_words (length steps) (most_stages d.setting.plan) workers → IsForSteps d steps calls
    → Ended answers d steps calls ps r.qs history
run_ended answers d steps calls workers ps history kept graph b r callers words for =
    subst (λ (l : List Pass). Ended answers d steps calls l r.qs history) (sym b.are)
    (ended_any answers d steps calls workers b.first b.others r.qs history b.took b.room b.apart (subst (λ (l : List Pass). AllZip (Works answers) l r.qs) b.are r.works)
    r.closes (subst (All (IsKeptFit d.setting.plan history)) r.kept_are r.fit.each) callers words for)

-- ---- the race

abbrev nobody : ℕ → Owed
nobody c = None

outside_no_work : (e : Event) → is_from_outside e ≡ true → is_work e ≡ false
outside_no_work (Completes who i v) h = refl
outside_no_work (Fails who i code) h = refl
outside_no_work (FailsAs who i failure) h = refl
outside_no_work (Cancels who i) h = refl
outside_no_work (Claims who i) h = cc
outside_no_work (Finishes who i answer) h = cc
outside_no_work (Ticks who now) h = refl
outside_no_work (Attaches who form of function) h = refl

-- what comes from outside alone is no work
begun_no_work : (setting : DeskConfig) (seen : List Event) (most calls : ℕ) (p : Pass) → All (λ e. is_from_outside e ≡ true) seen → HadBegun setting seen most calls p → MadeNoWork p
begun_no_work setting seen most calls p outside begun =
    subst (All (λ e. is_work e ≡ false)) (sym (ap (map call_of) begun.fits.did ∙ calls_of p.known.caller 0 seen))
    (own_all (λ e. is_work e ≡ false) p.known.caller seen (All-weaker (λ e. is_from_outside e ≡ true) (λ e. is_work e ≡ false) outside_no_work seen outside))

pub race_ended : (answers : Answers) (d : Desk) (steps : List Event) (calls workers : ℕ) (ps : List Pass) (history : List Event) (kept : List Kept) (graph : State) → d.setting.callers ≡ workers + 1 → IsGrowing d.setting.plan → AreSteps d.setting.plan steps
    → (o : RanOut answers d ps history kept graph) → Ended answers d steps calls ps o.ran.qs history → IsRaced answers d.setting.plan steps workers graph
race_ended answers d steps calls workers ps history kept graph callers growing are o e =
    let plan = d.setting.plan in
    let s = state_from plan e.seen in
    let is : history ≡ e.seen ++ e.work = e.whole.history_is in
    let last = last_plan d.setting (e.seen ++ e.work) in
    let works : AllWork answers last nobody (length e.seen) s e.work = λ c. (all_share answers d.setting history e.seen e.work e.whole c).work in
    let outside : All (λ x. is_from_outside x ≡ true) e.seen = subst (All (λ x. is_from_outside x ≡ true)) (sym e.steps_are) (All-weaker IsStep (λ x. is_from_outside x ≡ true) (λ x h. h.0) steps are.0) in
    let state : graph ≡ state_after (start plan) (steps ++ e.work) = o.ran.graph_is ∙ ap (state_from plan) (is ∙ ap (λ l. l ++ e.work) e.steps_are) in
    let whole : state_from plan (e.seen ++ e.work) ≡ state_after s e.work = state_after-append (start plan) e.seen e.work in
    let joined : state_after s e.work ≡ graph = sym whole ∙ sym (ap (state_from plan) is) ∙ sym o.ran.graph_is in
    let stays : (state_after s e.work).plan ≡ s.plan = work_leaves_plan answers last nobody (length e.seen) s e.work works in
    let of_plan : graph.plan ≡ plan_after plan steps = ap (λ (t : State). t.plan) (sym joined) ∙ stays ∙ ap (plan_after plan) e.steps_are in
    record {
      of_plan = of_plan;
      built = subst IsBuilt (sym of_plan) (grown_growing (start plan) steps growing are.1).built;
      work = e.work;
      done = subst (λ (l : List Event). IsWorkHistory answers (grants_after nothing_granted (start plan) l) (state_after (start plan) l) e.work) e.steps_are
          (is_work_then answers last nobody (grants_after nothing_granted (start plan) e.seen) (length e.seen) s e.work (sym stays ∙ ap (λ (t : State). t.plan) (sym whole)) (λ c i args owed. (let nothing : ⊥ = cc in absurd nothing)) works);
      by = All-weaker (ByCaller d.setting.callers) (IsByWorker workers) (λ x h. (omega arith)) e.work (back_all (ByCaller d.setting.callers) e.seen e.work e.whole.by);
      state = state;
      quiet = quiet answers d ps history kept graph (All-weaker (HadBegun d.setting e.seen (length steps) calls) MadeNoWork (λ p begun. begun_no_work d.setting e.seen (length steps) calls p outside begun) ps e.begun) o;
    }

-- ---- as the code has it

-- a plan that was built grows, where there is not too much room
pub growing-with_room : (plan : Planned) (room : ℕ) → IsBuilt plan → plan ≡ plan_of plan.stages plan.limits → length plan.stages + room ≤ 4096 → edges_of plan.stages + 2 * room ≤ 16384 → IsGrowing (with_room plan room)
growing-with_room plan room built whole stages edges = record {
  built = IsBuilt-as plan (with_room plan room) refl refl built;
  opened = (let opened : plan.opened ≡ length plan.stages = ap (λ (p : Planned). p.opened) whole in omega (arith, opened));
  few_stages = stages;
  few_edges = edges;
}

-- a desk of this plan with its room, for so many workers and steps
pub record IsSized (d : Desk) (plan : Planned) (steps : List Event) (workers calls : ℕ) : Type 0 where
  pub setting_is : d.setting ≡ record { plan = plan; callers = workers + 1; functions = race_functions }
  pub words_are : d.words ≡ log_words (length steps) (most_stages plan) workers
  pub calls_are : calls ≡ length steps + 2 * most_stages plan + 1
  pub are : AreSteps plan steps

sized_ended : (answers : Answers) (d : Desk) (plan : Planned) (steps : List Event) (calls workers : ℕ) (ps : List Pass) (history : List Event) (kept : List Kept) (graph : State) → IsSized d plan steps workers calls → HaveBegun d steps calls ps
    → (r : Ran answers d ps history kept graph) → Ended answers d steps calls ps r.qs history
sized_ended answers d plan steps calls workers ps history kept graph z b r =
    let same : d.setting.plan ≡ plan = ap (λ (s : DeskConfig). s.plan) z.setting_is in
    let n : most_stages d.setting.plan ≡ most_stages plan = ap most_stages same in
    let calls_are = z.calls_are in
    run_ended answers d steps calls workers ps history kept graph b r (ap (λ (s : DeskConfig). s.callers) z.setting_is)
    (z.words_are ∙ ap (λ (k : ℕ). log_words (length steps) k workers) (sym n))
    (record {
      functions = ap (λ (s : DeskConfig). s.functions) z.setting_is;
      are = subst (λ (p : Planned). AreSteps p steps) (sym same) z.are;
      enough = omega (arith, n, calls_are);
    })

-- what a run ends with is the race's state
pub raced : (answers : Answers) (d : Desk) (plan : Planned) (steps : List Event) (calls workers : ℕ) (ps : List Pass) (history : List Event) (kept : List Kept) (graph : State) → IsSized d plan steps workers calls → HaveBegun d steps calls ps
    → IsGrowing plan → RanOut answers d ps history kept graph → IsRaced answers plan steps workers graph
raced answers d plan steps calls workers ps history kept graph z b growing o =
    let same : d.setting.plan ≡ plan = ap (λ (s : DeskConfig). s.plan) z.setting_is in
    subst (λ (p : Planned). IsRaced answers p steps workers graph) same
    (race_ended answers d steps calls workers ps history kept graph (ap (λ (s : DeskConfig). s.callers) z.setting_is) (subst IsGrowing (sym same) growing) (subst (λ (p : Planned). AreSteps p steps) (sym same) z.are) o
    (sized_ended answers d plan steps calls workers ps history kept graph z b o.ran))

-- and it meets no fault of the desk
pub never_full : (answers : Answers) (d : Desk) (plan : Planned) (steps : List Event) (calls workers : ℕ) (ps : List Pass) (history : List Event) (kept : List Kept) (graph : State) → IsSized d plan steps workers calls → HaveBegun d steps calls ps
    → (fault : DeskFault) (r : Ran answers d ps history kept graph) → IsDueToTell d.words r.qs history fault → ⊥
never_full answers d plan steps calls workers ps history kept graph z b NoStage r due = due
never_full answers d plan steps calls workers ps history kept graph z b BadAttach r due = due
never_full answers d plan steps calls workers ps history kept graph z b LogFull r due =
    let short = (sized_ended answers d plan steps calls workers ps history kept graph z b r).short in
    omega (arith, short, due)
never_full answers d plan steps calls workers ps history kept graph z b PassFull r due =
    let room = All-contains (λ (q : Pass). length q.records < q.calls) r.qs due.0 (sized_ended answers d plan steps calls workers ps history kept graph z b r).room due.1 in
    let full = due.2 in
    omega (arith, room, full)

-- So the run of a race tells no desk's fault.
pub only_for_room : {M : Type 0} (answers : Answers) (d : Desk) (plan : Planned) (steps : List Event) (calls workers : ℕ) (ps : List Pass) (tells : TellsOf M) (has_called : CallsOf M) (ms : List M) → IsSized d plan steps workers calls → HaveBegun d steps calls ps
    → (fault : PoolFault M) → RunRefuses tells has_called answers d ps ms fault → IsForRoom fault
only_for_room answers d plan steps calls workers ps tells has_called ms z b (NoMemory unbegun) refused = tt
only_for_room answers d plan steps calls workers ps tells has_called ms z b (NoThread left) refused = tt
only_for_room answers d plan steps calls workers ps tells has_called ms z b (ToldDesk fault left) refused =
    never_full answers d plan steps calls workers ps left.closed.history.items left.closed.passes.items left.closed.graph.state z b fault refused.0.ran refused.0.due
