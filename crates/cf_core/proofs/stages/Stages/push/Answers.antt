use Rattle.std.proofs.Common.{◌∙◌, ◌++◌, ◌∷◌, [], ap, false, set, sym, true}
use Rattle.cf_model.specs.States.{is_ready}
use Rattle.cf_core.proofs.Keeping.AttachSound.{set-push}
use Rattle.cf_core.proofs.stages.Stages.push.Goals as goal

pub returns-in-Ready-clause-ready : goal.returns-in-Ready-clause-ready
returns-in-Ready-clause-ready c =
    let ready = c.args.self.now.ready in
    c.insert.ensures ∙ ap (λ xs. set xs c.bound-d.result true) c.grow-2.ensures ∙ ap (λ d. set (ready ++ false ∷ []) d true) c.bound-d.ensures.bound
    ∙ set-push ready false true ∙ ap (λ b. ready ++ b ∷ []) (sym (ap is_ready c.in-Ready.is))
