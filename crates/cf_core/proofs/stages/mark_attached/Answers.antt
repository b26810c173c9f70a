use Rattle.std.proofs.Common.{◌≡◌, ◌∙◌, ◌+◌, ap, arith, drop, length}
use Rattle.std.specs.Prelude.{if◌then◌else◌, slice_set, true}
use Rattle.cf_forms.specs.Plans.{form_at, sources_at}
use Rattle.cf_forms.specs.Forms.{starts}
use Rattle.cf_core.specs.Keeping.Starts.{mark_starts}
use Rattle.cf_core.proofs.Keeping.StartSound.{mark_starts-step}
use Rattle.cf_core.proofs.Keeping.Marking.{length-mark_one}
use Rattle.cf_core.proofs.stages.mark_attached.Goals as goal

pub loop-i-preserved : goal.loop-i-preserved
loop-i-preserved c =
    let plan = c.args.plan.now.stages in
    let i = c.loop-i.i in
    let is : c.mark_start.new.marks ≡ (if starts (form_at plan i) (sources_at plan i) then slice_set c.loop-i.marks i true else c.loop-i.marks) =
    rw (← c.form.ensures, ← c.sources.ensures.sources) c.mark_start.ensures in
    record {
      marked = ap (mark_starts (i + 1) (drop (i + 1) plan)) is ∙ mark_starts-step plan i c.loop-i.marks (omega (arith, c.loop-i-test.true, c.stages-i-end.ensures.count)) ∙ c.loop-i.invariant.marked;
      all = ap length is ∙ length-mark_one (starts (form_at plan i) (sources_at plan i)) c.loop-i.marks i ∙ c.loop-i.invariant.all;
    }
