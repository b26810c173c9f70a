use Rattle.std.proofs.Common.{◌≡◌, ℕ, ◌<◌, false}
use Rattle.cf_forms.specs.Forms.{composes}
use Rattle.cf_forms.specs.Plans.{form_at}
use Rattle.cf_core.proofs.stages.has_composing.Given as goal

-- none of the stages that were looked at composes
abbrev pub invariant-loop-i : goal.invariant-loop-i
invariant-loop-i l = record {
  none : (d : ℕ) → d < l.i → composes (form_at l.plan.stages d) ≡ false;
}
