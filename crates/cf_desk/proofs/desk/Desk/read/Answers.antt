use Rattle.cf_desk.proofs.Passes.{still_asks_stage}
use Rattle.cf_desk.proofs.Results.{is_true}
use Rattle.cf_desk.proofs.desk.Desk.read.Goals as goal

pub tell-requires-clause-asked : goal.tell-requires-clause-asked
tell-requires-clause-asked c = still_asks_stage c.learn.new.p _ c.args.a c.catch_others.ensures.seen ((c.if-not-knows.ensures).0 is_true)
