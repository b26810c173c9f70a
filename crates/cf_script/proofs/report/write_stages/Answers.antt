use Rattle.std.proofs.Common.{refl, rules}
use Rattle.cf_script.proofs.ReportLemmas.{stages_go_on, within}
use Rattle.cf_script.proofs.report.write_stages.Goals as goal

pub stages-preserved : goal.stages-preserved
stages-preserved c =
    let inside = within _ _ _ _ _ c.stages-test.true c.stages-i-end.ensures.count refl c.stages.invariant.unchanged in
    record {
      unchanged = search rules;
      lines = stages_go_on _ _ _ _ _ _ inside c.in_ok-write_stage.ensures.line c.write_stage.ensures.unchanged c.stages.invariant.lines;
    }
