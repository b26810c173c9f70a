use Rattle.std.proofs.Common.{◌∙◌, ap, cond, refl, sym}
use Rattle.cf_forms.specs.Plans.{PlannedStage}
use Rattle.cf_core.specs.declared.kept.Treated.TheVariants.{Same}
use Rattle.cf_core.specs.Keeping.Taking.{made_of}
use Rattle.cf_core.specs.Keeping.Treatment.{became, treated}
use Rattle.cf_core.specs.Keeping.Sound.{is_waiting, kept_at}
use Rattle.cf_core.proofs.Keeping.Places.{idle_stage, same_put, treated_idle}
use Rattle.cf_core.proofs.treat.treat.Goals as goal

pub returns-in-Pending-clause-told : goal.returns-in-Pending-clause-told
returns-in-Pending-clause-told c =
    c.take_due.ensures.told
    ∙ sym (ap (λ was. made_of was ((kept_at c.take_due.new.kept.items c.args.m).stage)) (sym c.stage.ensures ∙ c.in-Pending.is))

pub returns-in-Linked-clause-told : goal.returns-in-Linked-clause-told
returns-in-Linked-clause-told c =
    c.take_linked.ensures.told
    ∙ sym (ap (λ was. made_of was ((kept_at c.take_linked.new.kept.items c.args.m).stage)) (sym c.stage.ensures ∙ c.in-Linked.is))

pub returns-in_default : goal.returns-in_default
returns-in_default c =
    let kept = c.args.kept.now.items in
    let k = kept_at kept c.args.m in
    let idle = ap is_waiting (sym c.stage.ensures) ∙ idle_stage c.stage.result c.in_default.not-Pending c.in_default.not-Linked in
    record {
      kept = λ function. let p : PlannedStage = record { form = c.args.form; sources = c.args.sources.now; function = function } in
          sym (same_put kept c.args.m (treated kept p k) c.requires.stage (sym (treated_idle kept p k idle)));
      told = sym (ap (λ b. cond b (became k.stage) Same) idle);
      room = refl;
    }
