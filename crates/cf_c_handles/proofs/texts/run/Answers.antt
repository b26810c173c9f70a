use Rattle.cf_c_handles.proofs.Runs.{run_is}
use Rattle.cf_c_handles.proofs.texts.run.Goals as goal

pub returns : goal.returns
returns c = let prints = c.run_script-ran.ensures.prints in
    run_is _ prints.0 _ _ c.run_script-ran.result c.code_of_run.result prints.1 c.requires c.code_of_run.ensures prints.2
