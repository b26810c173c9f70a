use Rattle.std.proofs.Common.{◌≡◌, ◌<◌, ◌∙◌, None, Some, ap, arith, get_or, inl, inr, length, rules, sym, subst}
use Rattle.std.specs.Prelude.{slice_get}
use Rattle.std.proofs.lemmas.Bool.Decides.{eqb_tells}
use Rattle.std.proofs.lemmas.Option.{slice_get-get_or}
use Rattle.cf_model.specs.States.{State, outcome_at}
use Rattle.cf_history.proofs.outcomes.first_other.Goals as goal

pub loop-i-preserved : goal.loop-i-preserved
loop-i-preserved c =
    let s0 = c.args.graph.now.state in
    let said = c.args.outcomes.now in
    let h = c.loop-i.invariant in
    let told : c.outcome-there.result ≡ outcome_at s0 c.loop-i.i = c.outcome-there.ensures.told ∙ ap (λ (s : State). outcome_at s c.loop-i.i) h.same in
    let no = c.if-ne.false in
    let is = c.ne.ensures in
    let within : c.loop-i.i < length said = (let l = c.loop-i-test.true in let count = c.stages-count.ensures.count in let all = c.requires in omega (arith, l, count, all)) in
    let same : c.outcome-there.result ≡ get_or said c.loop-i.i None = search rules in
    let here : slice_get said c.loop-i.i ≡ Some (outcome_at s0 c.loop-i.i) = slice_get-get_or said c.loop-i.i None within ∙ ap (λ o. Some o) (sym same ∙ told) in
    record {
      same = c.outcome-there.ensures.unchanged ∙ h.same;
      before = λ j l. elim (eqb_tells j c.loop-i.i) [
        | inl s ↦ (let e : c.loop-i.i ≡ j = sym s.1 in subst (λ n. slice_get said n ≡ Some (outcome_at s0 n)) e here)
        | inr s ↦ (let ne = s.1 in h.before j (omega (arith, l, ne)))
      ];
    }
