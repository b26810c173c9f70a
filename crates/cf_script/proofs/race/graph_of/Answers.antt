use Rattle.std.proofs.Common.{arith, rules, ℕ, true, ◌≡◌, ◌+◌, ◌∙◌, ap, length, subst, sym, ◌≤◌, ◌<◌}
use Rattle.cf_model.specs.Graphs.{Graph}
use Rattle.cf_forms.specs.Meanings.{meanings_of}
use Rattle.cf_forms.specs.Plans.{Planned, has_place, with_room}
use Rattle.cf_pool.specs.Answering.{as_meant}
use Rattle.cf_pool.specs.Races.{AreSteps, IsRaced, log_words}
use Rattle.cf_script_reading.specs.Functions.{func_answer}
use Rattle.cf_script_reading.specs.Scripts.{opening}
use Rattle.cf_script.specs.Races.{IsRaceEnd, events_of}
use Rattle.cf_script.proofs.RaceLemmas.{ends_of, steps_taken, too_long}
use Rattle.cf_script.proofs.race.graph_of.Goals as goal

pub race-requires-clause-room : goal.race-requires-clause-room
race-requires-clause-room g c κs within =
    let s = c.args.script in
    let parts = c.into_parts-plan.ensures in
    let place = parts.said.place in
    subst (λ (n : ℕ). has_place c.into_parts-plan.result.0.stages n ≡ true) (sym parts.room) (subst (λ (p : Planned). has_place p.stages s.room ≡ true) (sym parts.plan) place)

pub race-requires-clause-steps : goal.race-requires-clause-steps
race-requires-clause-steps g c κs within =
    let s = c.args.script in
    let parts = c.into_parts-plan.ensures in
    let evs : c.deref-3.result.now ≡ events_of s.steps = c.deref-3.ensures.value ∙ c.in_ok-events.ensures ∙ ap events_of (c.deref.ensures.value ∙ parts.steps) in
    let said = steps_taken (length s.functions) (opening s) s.steps c.requires.steps parts.said.called parts.said.steps_fit in
    let all : AreSteps (opening s) c.deref-3.result.now = subst (λ es. AreSteps (opening s) es) (sym evs) said in
    search rules

pub returns-in-Ok-clause-ends : goal.returns-in-Ok-clause-ends
returns-in-Ok-clause-ends g c =
    let s = c.args.script in
    let parts = c.into_parts-plan.ensures in
    let end = c.in-Ok.left.closed.graph.state in
    let es = c.deref-3.result.now in
    let evs : es ≡ events_of s.steps = c.deref-3.ensures.value ∙ c.in_ok-events.ensures ∙ ap events_of (c.deref.ensures.value ∙ parts.steps) in
    let fns = c.deref-2.ensures.value ∙ parts.functions in
    let opened = ap (λ p. with_room p c.into_parts-plan.result.1) parts.plan ∙ ap (λ n. with_room s.plan n) parts.room in
    let means = c.in_ok-hands.ensures.means (omega arith) in
    let with_list = subst (λ ms. IsRaced ms (with_room c.into_parts-plan.result.0 c.into_parts-plan.result.1) es c.args.workers end) means c.in-Ok.ensures.raced in
    let raced : IsRaced (as_meant (meanings_of func_answer s.functions)) (opening s) es c.args.workers end =
    subst (λ fs. IsRaced (as_meant (meanings_of func_answer fs)) (opening s) es c.args.workers end) fns
    (subst (λ p. IsRaced (as_meant (meanings_of func_answer c.deref-2.result.now)) p es c.args.workers end) opened with_list) in
    let size : log_words (length es) (length s.plan.stages + s.room) c.args.workers ≤ 65535 = search rules in
    subst (λ (g : Graph). IsRaceEnd c.args.workers s g.state) (sym c.into_graph.ensures) (ends_of c.args.workers s es end evs c.requires.steps raced size)

pub returns-clause-refused : goal.returns-clause-refused
returns-clause-refused g c =
    let s = c.args.script in
    let parts = c.into_parts-plan.ensures in
    let evs : c.deref-3.result.now ≡ events_of s.steps = c.deref-3.ensures.value ∙ c.in_ok-events.ensures ∙ ap events_of (c.deref.ensures.value ∙ parts.steps) in
    let size : 65535 < log_words (length c.deref-3.result.now) (length s.plan.stages + s.room) c.args.workers = search rules in
    too_long c.args.workers s c.deref-3.result.now evs c.requires.steps size
