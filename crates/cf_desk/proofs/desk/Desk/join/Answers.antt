use Rattle.cf_model.specs.declared.asks.Ask.TheVariants.{Outcome as AsksOutcome}
use Rattle.cf_desk.proofs.Passes.{still_asks_stage}
use Rattle.cf_desk.proofs.Results.{is_true}
use Rattle.cf_desk.proofs.desk.Desk.join.Goals as goal

pub tell_joined-requires-clause-stage : goal.tell_joined-requires-clause-stage
tell_joined-requires-clause-stage c = still_asks_stage c.learn.new.p _ (AsksOutcome c.args.stage) c.look_for.ensures.seen ((c.if-not-knows.ensures).0 is_true)
