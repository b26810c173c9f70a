use Rattle.std.proofs.Common.{◌+◌, ◌*◌, ◌<◌, ◌∙◌, ap, length, map, subst, sym, ℕ}
use Rattle.cf_desk.specs.Keepings.{caller_kept}
use Rattle.cf_desk.specs.Log.{state_from}
use Rattle.cf_desk.specs.declared.row.DeskConfig.{DeskConfig}
use Rattle.cf_event.specs.Histories.{IsOneHistory}
use Rattle.cf_forms.proofs.PlanLemmas.{place_is}
use Rattle.cf_pool.specs.Races.{log_words, race_functions, race_plan}
use Rattle.cf_pool.proofs.EachOnce.{each_once}
use Rattle.cf_pool.proofs.Racing.Raced.{IsSized, growing-with_room, only_for_room, raced}
use Rattle.cf_pool.proofs.races.race.Given.{Over}
use Rattle.cf_pool.proofs.races.race.Goals as goal
use Rattle.cf_pool.proofs.races.race.Goals.{In_ok-desk}

sized : (g : Over) (c : In_ok-desk g) → IsSized c.in_ok-desk.desk (race_plan c.args.terms) c.args.terms.steps.now c.args.terms.workers c.in-Some.sizes.calls
sized g c =
    let terms = c.args.terms in
    let d = c.in_ok-desk.ensures.desk in
    let s = c.in-Some.ensures in
    let n = ap (λ (k : ℕ). k + terms.room) c.stages.ensures.count in
    record {
      setting_is = d.0 ∙ ap (λ (k : ℕ). record { plan = race_plan terms; callers = k; functions = race_functions }) s.0;
      words_are = d.1 ∙ s.1 ∙ ap (λ (k : ℕ). log_words (length terms.steps.now) k terms.workers) n;
      calls_are = s.2 ∙ ap (λ (k : ℕ). length terms.steps.now + 2 * k + 1) n;
      are = c.requires.steps;
    }

pub returns-in-Ok-clause-raced : goal.returns-in-Ok-clause-raced
returns-in-Ok-clause-raced g c =
    let place = place_is c.args.terms.plan.stages c.args.terms.room c.requires.room in
    raced _ _ (race_plan c.args.terms) c.args.terms.steps.now _ c.args.terms.workers _ _ _ _ (sized g (goal.at.returns-in-Ok-clause-raced g c).In_ok-desk) c.in_ok-desk.ensures.begun
    (growing-with_room c.args.terms.plan c.args.terms.room c.stages.ensures.built c.stages.ensures.whole place.0 place.1) c.in-Ok.ensures.ran

pub returns-in-Ok-clause-called : goal.returns-in-Ok-clause-called
returns-in-Ok-clause-called g c = record {
  desk = c.in_ok-desk.desk;
  room = c.in-Some.sizes.calls;
  passes = c.in_ok-desk.passes.items;
  begun = c.in_ok-desk.ensures.begun;
  ran = c.in-Ok.ensures.ran;
  called = c.in-Ok.ensures.called;
  threads = c.in-Ok.ensures.threads;
}

pub fault_of-requires : goal.fault_of-requires
fault_of-requires g c =
    only_for_room _ c.in_ok-desk.desk (race_plan c.args.terms) c.args.terms.steps.now c.in-Some.sizes.calls c.args.terms.workers c.in_ok-desk.passes.items _ _ _ (sized g (goal.at.fault_of-requires g c).In_ok-desk) c.in_ok-desk.ensures.begun c.in-Err.fault c.in-Err.ensures.refused

pub returns-in-Ok-clause-history : goal.returns-in-Ok-clause-history
returns-in-Ok-clause-history g c = (
  subst (λ (d : DeskConfig). IsOneHistory d.plan d.functions c.in-Ok.left.closed.history.items (map caller_kept c.in-Ok.left.closed.passes.items)) c.in_ok-desk.ensures.desk.0 c.in-Ok.ensures.ran.ran.one,
  c.in-Ok.ensures.ran.ran.graph_is ∙ ap (λ (d : DeskConfig). state_from d.plan c.in-Ok.left.closed.history.items) c.in_ok-desk.ensures.desk.0,
)

pub returns-in-Ok-clause-once : goal.returns-in-Ok-clause-once
returns-in-Ok-clause-once g c = c.in-Ok.ensures.ran.ran.once

pub returns-in-Ok-clause-each : goal.returns-in-Ok-clause-each
returns-in-Ok-clause-each g c =
    let ran = c.in-Ok.ensures.ran.ran in
    each_once (c.args.terms.workers + 1) c.in-Ok.left.closed.passes.items ran.qs ran.kept_are
    (λ w l. ran.closes.each w (subst (λ (d : DeskConfig). w < d.callers) (sym (sized g (goal.at.returns-in-Ok-clause-each g c).In_ok-desk).setting_is) l))
