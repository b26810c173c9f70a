use Rattle.std.proofs.Common.{◌∙◌, ap, set, sym}
use Rattle.cf_model.specs.declared.stage.Stage.TheVariants.{Linked}
use Rattle.cf_core.specs.declared.kept.KeptStage.{KeptStage}
use Rattle.cf_core.specs.Keeping.Cells.{KeptStages}
use Rattle.cf_core.specs.Keeping.Treatment.{became, linked_kept}
use Rattle.cf_core.specs.Keeping.Sound.{kept_at}
use Rattle.cf_core.proofs.Keeping.Places.{kept_put, same_put}
use Rattle.cf_core.proofs.treat.take_linked.Goals as goal

pub returns-clause-kept : goal.returns-clause-kept
returns-clause-kept c =
    let kept = c.args.kept.now.items in
    let step = (kept_at kept c.args.m).step in
    sym (ap (λ x. set kept c.args.m (linked_kept c.args.j step x)) (sym c.dated_if.ensures ∙ c.in_default.is)
    ∙ same_put kept c.args.m (record { stage = Linked c.args.j; step = step }) c.requires.stage (ap (λ stage. record { stage = stage; step = step }) c.requires.linked))

pub returns-clause-told : goal.returns-clause-told
returns-clause-told c = sym (ap became c.requires.linked)

pub returns-in-Some-clause-told : goal.returns-in-Some-clause-told
returns-in-Some-clause-told c =
    let kept = c.args.kept.now.items in
    sym (ap (λ (k : KeptStages). became ((kept_at k.items c.args.m).stage)) c.settle.ensures
    ∙ ap (λ (k : KeptStage). became k.stage) (kept_put kept c.args.m _ c.requires.stage))
