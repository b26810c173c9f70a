use Rattle.cf_model.specs.declared.events.Reply.TheVariants.{Finish as Told}
use Rattle.cf_c_handles.proofs.request.words.finish.Goals as goal

pub returns-in-Ok-clause-done : goal.returns-in-Ok-clause-done
returns-in-Ok-clause-done c = record { reply = Told c.in-Ok.told; applies = c.in-Ok.ensures.done c.args.lane; replied = c.put_finish.ensures }
