use Rattle.cf_model.specs.declared.events.Reply.TheVariants.{Claim as Told}
use Rattle.cf_c_handles.proofs.request.words.claim.Goals as goal

pub returns-in-Ok-clause-done : goal.returns-in-Ok-clause-done
returns-in-Ok-clause-done c = record { reply = Told c.in-Ok.told; applies = c.in-Ok.ensures.done c.args.lane; replied = c.put_claim.ensures }
