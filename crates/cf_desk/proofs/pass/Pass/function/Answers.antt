use Rattle.std.proofs.Common.{◌<◌, length, sym, ap, ◌∙◌, subst}
use Rattle.cf_forms.specs.Plans.{function_at}
use Rattle.cf_model.specs.States.{State}
use Rattle.cf_desk.specs.Views.{Pass, state_of}
use Rattle.cf_desk.proofs.pass.Pass.function.Goals as goal

pub function-requires : goal.function-requires
function-requires c =
    let same = ap (λ (s : State). length s.plan.stages) c.self.invariant.agrees.state ∙ ap (λ (h : Pass). length (state_of h.known).plan.stages) c.self.view_is in
    subst (λ n. c.args.i < n) (sym same) c.requires

pub returns : goal.returns
returns c =
    c.function.ensures ∙ ap (λ (s : State). function_at s.plan.stages c.args.i) c.self.invariant.agrees.state ∙ ap (λ (h : Pass). function_at (state_of h.known).plan.stages c.args.i) c.self.view_is
