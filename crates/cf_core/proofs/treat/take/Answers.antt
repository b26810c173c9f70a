use Rattle.std.proofs.Common.{◌∙◌, ap, set, sym}
use Rattle.cf_model.specs.declared.stage.Stage.TheVariants.{Pending}
use Rattle.cf_core.specs.declared.kept.KeptStage.{KeptStage}
use Rattle.cf_core.specs.Keeping.Cells.{KeptStages}
use Rattle.cf_core.specs.Keeping.Treatment.{became, due_kept, ready_kept, settled_kept}
use Rattle.cf_core.specs.Keeping.Sound.{kept_at}
use Rattle.cf_core.proofs.Keeping.Places.{kept_put, same_put}
use Rattle.cf_core.proofs.treat.take.Goals as goal

pub returns-in-Waits-clause-kept : goal.returns-in-Waits-clause-kept
returns-in-Waits-clause-kept c =
    let kept = c.args.kept.now.items in
    let step = (kept_at kept c.args.m).step in
    sym (ap (λ due. set kept c.args.m (due_kept due c.args.at step)) c.in-Waits.is
    ∙ same_put kept c.args.m (record { stage = Pending; step = step }) c.requires.stage (ap (λ stage. record { stage = stage; step = step }) c.requires.pending))

pub returns-in-Waits-clause-told : goal.returns-in-Waits-clause-told
returns-in-Waits-clause-told c = sym (ap became c.requires.pending)

pub returns-in-Settles-clause-told : goal.returns-in-Settles-clause-told
returns-in-Settles-clause-told c =
    let kept = c.args.kept.now.items in
    sym (ap (λ (k : KeptStages). became ((kept_at k.items c.args.m).stage)) c.settle.ensures
    ∙ ap (λ (k : KeptStage). became k.stage) (kept_put kept c.args.m (settled_kept c.in-Settles.o c.args.at) c.requires.stage))

pub returns-in-Needs-clause-told : goal.returns-in-Needs-clause-told
returns-in-Needs-clause-told c =
    let kept = c.args.kept.now.items in
    sym (ap (λ (k : KeptStages). became ((kept_at k.items c.args.m).stage)) c.make_ready.ensures
    ∙ ap (λ (k : KeptStage). became k.stage) (kept_put kept c.args.m (ready_kept c.in-Needs.args (kept_at kept c.args.m).step) c.requires.stage))
