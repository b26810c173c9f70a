use Rattle.std.proofs.Common.{◌≡◌, ◌+◌, ◌≤◌, ◌∙◌, List, None, ℕ, ap, arith, length, length-append, refl, subst, sym}
use Rattle.cf_forms.specs.Plans.{PlannedStage}
use Rattle.cf_model.specs.declared.events.Event.{Event}
use Rattle.cf_model.specs.declared.events.Event.TheVariants.{Complete as Completes, Fail as Fails, FailAs as FailsAs, Cancel as Cancels, Claim as Claims, Finish as Finishes, Tick as Ticks, Attach as Attaches}
use Rattle.cf_model.specs.declared.events.Reply.{Reply}
use Rattle.cf_model.specs.declared.replies.Claimed.{Claimed}
use Rattle.cf_model.specs.declared.replies.Finished.{Finished}
use Rattle.cf_model.specs.declared.replies.Ticked.{Ticked}
use Rattle.cf_model.specs.Events.{answered}
use Rattle.cf_model.specs.States.{State}
use Rattle.cf_model.specs.Graphs.{Graph, MovesAlone, MovesOnly, MovesOwn, NoneLeftUpTo, WritesNews, moved_by, rank, stage_in}
use Rattle.cf_model.proofs.Shape.{answered-grows}
use Rattle.cf_core.specs.Keeping.Changes.{HaveMoved}
use Rattle.cf_core.proofs.Keeping.Changes.{all_in_view, kept_all, moved_changes, moved_none}
use Rattle.cf_core.proofs.Keeping.Flags.{drained_news}
use Rattle.cf_core.proofs.Keeping.Written.{written_few}
use Rattle.cf_core.proofs.graph.Graph.answer_telling.Goals as goal
use Rattle.cf_core.proofs.graph.Graph.answer_telling.Goals.{After-answer-reply, After-drain}

-- an event makes no more stages than there may ever be
all_after : (e : Event) (s t : State) → t ≡ (answered s e).1 → length t.plan.stages + t.plan.room ≡ length s.plan.stages + s.plan.room
all_after e s t next =
    let grows = answered-grows s e in
    let stages = ap (λ (x : State). length x.plan.stages) next ∙ ap (λ (l : List PlannedStage). length l) grows.stages ∙ length-append s.plan.stages grows.more in
    let room = ap (λ (x : State). x.plan.room) next in
    let more = grows.room in
    omega (arith, stages, room, more)

-- and there is a state for each
states_after : (e : Event) (s t : State) → t ≡ (answered s e).1 → length s.stages ≡ length s.plan.stages → length t.stages ≡ length t.plan.stages
states_after e s t next all =
    let grows = answered-grows s e in
    let stages = ap (λ (x : State). length x.plan.stages) next ∙ ap (λ (l : List PlannedStage). length l) grows.stages ∙ length-append s.plan.stages grows.more in
    let states = ap (λ (x : State). length x.stages) next ∙ grows.all_stages in
    omega (arith, all, stages, states)

abbrev HasAll : Graph → Type 0
HasAll g = length g.state.stages ≡ length g.state.plan.stages

abbrev IsWorkedOut : Graph → Type 0
IsWorkedOut g = g.left ≡ None → g.kept ≡ g.state.stages

-- ---- a claim

pub returns-in-Claim-clause-few : goal.returns-in-Claim-clause-few
returns-in-Claim-clause-few c =
    let s = c.args.self.now.state in
    let t = c.claim_telling-told in
    let next = ap (λ (p : Claimed × State). p.1) t.ensures.told ∙ ap (λ e. (answered s e).1) (sym c.in-Claim.is) in
    let all = all_after c.args.e.now s t.new.self.state next in
    let before : length s.stages ≡ length s.plan.stages = subst HasAll c.self.view_is (all_in_view c.self.inside.plan.stages c.self.inside.stages c.self.invariant.sound) in
    let after = states_after c.args.e.now s t.new.self.state next before in
    written_few s.stages t.new.self.state.stages c.args.news.now.items t.new.news.items (length c.args.flags.now)
    (omega (arith, c.requires.flags, before)) (omega (arith, c.requires.flags, all, after)) t.ensures.news

-- ---- a finish

pub returns-in-Finish-clause-few : goal.returns-in-Finish-clause-few
returns-in-Finish-clause-few c =
    let s = c.args.self.now.state in
    let t = c.finish_telling-told in
    let next = ap (λ (p : Finished × State). p.1) t.ensures.told ∙ ap (λ e. (answered s e).1) (sym c.in-Finish.is) in
    let all = all_after c.args.e.now s t.new.self.state next in
    let before : length s.stages ≡ length s.plan.stages = subst HasAll c.self.view_is (all_in_view c.self.inside.plan.stages c.self.inside.stages c.self.invariant.sound) in
    let after = states_after c.args.e.now s t.new.self.state next before in
    written_few s.stages t.new.self.state.stages c.args.news.now.items t.new.news.items (length c.args.flags.now)
    (omega (arith, c.requires.flags, before)) (omega (arith, c.requires.flags, all, after)) t.ensures.news

-- ---- a tick

pub tick_telling-told-requires-clause-kept : goal.tick_telling-told-requires-clause-kept
tick_telling-told-requires-clause-kept c = subst IsWorkedOut c.self.view_is (λ none. kept_all c.self.inside.plan.stages c.self.inside.stages c.self.invariant.sound none) c.requires.worked_out

next_tick : (c : After-drain) → c.tick_telling-told.new.self.state ≡ (answered c.args.self.now.state c.args.e.now).1
next_tick c = ap (λ (p : Ticked × State). p.1) c.tick_telling-told.ensures.told ∙ ap (λ e. (answered c.args.self.now.state e).1) (sym c.in-Tick.is)

all_after_tick : (c : After-drain) → length c.tick_telling-told.new.self.state.plan.stages + c.tick_telling-told.new.self.state.plan.room ≡ length c.args.flags.now
all_after_tick c =
    let s = c.args.self.now.state in
    all_after c.args.e.now s c.tick_telling-told.new.self.state (next_tick c) ∙ sym c.requires.flags

pub returns-in-Tick-clause-news : goal.returns-in-Tick-clause-news
returns-in-Tick-clause-news c =
    let at = (goal.at.returns-in-Tick-clause-news c).After-drain in
    let old = c.args.self.now in
    let new = c.tick_telling-told.new.self in
    let kept : old.kept ≡ old.state.stages = subst IsWorkedOut c.self.view_is (λ none. kept_all c.self.inside.plan.stages c.self.inside.stages c.self.invariant.sound none) c.requires.worked_out in
    let before : length old.state.stages ≡ length old.state.plan.stages = subst HasAll c.self.view_is (all_in_view c.self.inside.plan.stages c.self.inside.stages c.self.invariant.sound) in
    let after = states_after c.args.e.now old.state new.state (next_tick at) before in
    let set = c.tick_telling-told.new.changed in
    let t = c.tick_telling-told.ensures in
    let none = moved_none old.state.stages c.args.flags.now c.requires.unset in
    let start = subst (λ stages. HaveMoved old.state.stages stages c.args.flags.now) (sym (kept)) none in
    let changes = moved_changes old.state.stages new.state.stages set (subst (λ stages. HaveMoved old.state.stages stages set) t.kept (t.moved old.state.stages start)) in
    let few_old : length old.state.stages ≤ length set = omega (arith, t.flags, c.requires.flags, before) in
    let few_new : length new.state.stages ≤ length set = (let all = all_after_tick at in omega (arith, t.flags, all, after)) in
    drained_news old.state.stages new.state.stages set c.args.news.now.items c.drain.new.news.items few_old few_new changes c.drain.ensures.drained

pub returns-in-Tick-clause-few : goal.returns-in-Tick-clause-few
returns-in-Tick-clause-few c =
    let at = (goal.at.returns-in-Tick-clause-few c).After-drain in
    let old = c.args.self.now.state.stages in
    let new = c.tick_telling-told.new.self.state.stages in
    let before : length old ≡ length c.args.self.now.state.plan.stages = subst HasAll c.self.view_is (all_in_view c.self.inside.plan.stages c.self.inside.stages c.self.invariant.sound) in
    let after = states_after c.args.e.now c.args.self.now.state c.tick_telling-told.new.self.state (next_tick at) before in
    let few_old : length old ≤ length c.args.flags.now = omega (arith, c.requires.flags, before) in
    let few_new : length new ≤ length c.args.flags.now = (let all = all_after_tick at in omega (arith, all, after)) in
    written_few old new c.args.news.now.items c.drain.new.news.items (length c.args.flags.now) few_old few_new (returns-in-Tick-clause-news c)

-- ---- any other event

-- an event that is no tick moves its own stage
own : (e : Event) (old new : Graph) → ((now who : ℕ) → e ≡ Ticks who now → ⊥) → MovesOwn e old new → MovesOnly (moved_by (length old.state.plan.stages) e) old new
own (Completes who i v) old new other h = h
own (Fails who i code) old new other h = h
own (FailsAs who i failure) old new other h = h
own (Cancels who i) old new other h = h
own (Claims who i) old new other h = h
own (Finishes who i answer) old new other h = h
own (Ticks who now) old new other h = absurd (other now who refl)
own (Attaches who form of function) old new other h = h

all_after_event : (c : After-answer-reply) → length c.answer-reply.new.self.state.plan.stages + c.answer-reply.new.self.state.plan.room ≡ length c.args.flags.now
all_after_event c =
    let s = c.args.self.now.state in
    all_after c.args.e.now s c.answer-reply.new.self.state (ap (λ (p : Reply × State). p.1) c.answer-reply.ensures.told) ∙ sym c.requires.flags

alone : (c : After-answer-reply) → MovesAlone c.moved_by-d.result c.args.self.now.kept c.answer-reply.new.self.kept × NoneLeftUpTo c.moved_by-d.result c.answer-reply.new.self.left
alone c =
    let old = c.args.self.now in
    let new = c.answer-reply.new.self in
    subst (λ m. MovesAlone m old.kept new.kept × NoneLeftUpTo m new.left) (sym c.moved_by-d.ensures)
    (own c.args.e.now old new (λ now who e. c.in_default.not-Tick who now e) c.answer-reply.ensures.alone c.requires.worked_out)

pub write_moved-requires : goal.write_moved-requires
write_moved-requires c =
    let at = (goal.at.write_moved-requires c).After-answer-reply in
    let all = all_after_event at in
    record {
      above = (alone at).1;
      places = (let room = c.requires.places in omega (arith, room, all));
    }

pub returns-in_default : goal.returns-in_default
returns-in_default c =
    let at = (goal.at.returns-in_default c).After-answer-reply in
    let old = c.args.self.now in
    let new = c.write_moved.new.self in
    let w = c.write_moved.ensures in
    let kept : old.kept ≡ old.state.stages = subst IsWorkedOut c.self.view_is (λ none. kept_all c.self.inside.plan.stages c.self.inside.stages c.self.invariant.sound none) c.requires.worked_out in
    let before : length old.state.stages ≡ length old.state.plan.stages = subst HasAll c.self.view_is (all_in_view c.self.inside.plan.stages c.self.inside.stages c.self.invariant.sound) in
    let after = states_after c.args.e.now old.state new.state (ap (λ (p : Reply × State). p.1) (ap (λ (x : State). (c.answer-reply.result, x)) w.unchanged ∙ c.answer-reply.ensures.told)) before in
    let all = all_after_event at in
    let news : WritesNews old.state.stages new.state.stages c.args.news.now.items c.write_moved.new.news.items =
    subst (λ stages. WritesNews old.state.stages stages c.args.news.now.items c.write_moved.new.news.items) w.kept
    (w.told old.state.stages (subst (λ stages. MovesAlone c.moved_by-d.result stages c.answer-reply.new.self.kept) kept (alone at).0)
    (c.rank-before.ensures.rank ∙ ap (λ stages. rank (stage_in stages c.moved_by-d.result)) kept)) in
    let count = ap (λ (x : State). length x.plan.stages) w.unchanged in
    record {
      told = ap (λ (x : State). (c.answer-reply.result, x)) w.unchanged ∙ c.answer-reply.ensures.told;
      news = news;
      few = written_few old.state.stages new.state.stages c.args.news.now.items c.write_moved.new.news.items (length c.args.flags.now)
          (omega (arith, c.requires.flags, before)) (omega (arith, all, count, after)) news;
      places = w.places;
      unset = c.requires.unset;
      flags = refl;
      worked_out = w.worked_out;
      counted = record {
        counted = (let a = c.answer-reply.ensures.counted.counted in let b = w.counted.counted in omega (arith, a, b));
        few = w.counted.few;
      };
    }
