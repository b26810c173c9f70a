use Rattle.std.proofs.Common.{◌≡◌, true, arith, sym, ◌∙◌}
use Rattle.std.proofs.lemmas.Bool.{false≢true}
use Rattle.cf_forms.specs.Meanings.{meanings_of}
use Rattle.cf_explore.proofs.Searching.{asked}
use Rattle.cf_explore.proofs.program.Program.explore.Goals as goal
use Rattle.cf_explore.proofs.program.Program.explore.Goals.{else-loop-turn-test, then-loop-turn-test+then-not-search}

pub loop-turn-init : goal.loop-turn-init
loop-turn-init g c =
    let begun = c.in_ok-search.ensures in
    (begun.search (meanings_of g.F.StageFn.meaning c.args.functions.now), begun.over c.args.bound, begun.within c.args.bound, λ on. begun.begins)

pub loop-turn-preserved : goal.loop-turn-preserved
loop-turn-preserved g c =
    let before = c.loop-turn.invariant in
    let on : c.loop-turn.search.is_on ≡ true = c.if-not-search.false in
    let at = before.3 on in
    let more = c.in_ok-go_on.ensures.goes_on before.0 on (omega (arith, at)) in
    (c.in_ok-go_on.ensures.search before.0, c.in_ok-go_on.ensures.over before.1, c.in_ok-go_on.ensures.within before.2, λ still. omega (arith, at, more))

pub returns-clause-found : goal.returns-clause-found
returns-clause-found g c = c.loop-turn.invariant.0.found

pub returns-clause-asked : goal.returns-clause-asked
returns-clause-asked g c =
    let before = c.loop-turn.invariant in
    let search = c.loop-turn.search in
    asked (meanings_of g.F.StageFn.meaning c.args.functions.now) c.args.self.now c.args.conditions.now c.args.bound search before.0 before.1 before.2 (λ on.
    let at = before.3 on in
    elim c.loop-turn-test.branch [
      | else-loop-turn-test w ↦ omega (arith, at)
      | then-loop-turn-test+then-not-search w ↦ absurd (false≢true (sym w.if-not-search.true ∙ on))
    ])
