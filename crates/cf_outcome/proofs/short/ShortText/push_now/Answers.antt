use Rattle.std.proofs.Common.{append_assoc}
use Rattle.std.specs.Prelude.{codes}
use Rattle.cf_outcome.specs.Texts.{cause_text}
use Rattle.cf_outcome.proofs.short.ShortText.push_now.Goals as goal

pub returns-in-Completion-clause-text : goal.returns-in-Completion-clause-text
returns-in-Completion-clause-text c =
    rw (c.in-Completion.is, c.push_cause.ensures.text, c.push-in-Completion.ensures) (append_assoc c.args.self.now (codes "completion ") (cause_text c.in-Completion.cause))

pub returns-in-Cancellation-clause-text : goal.returns-in-Cancellation-clause-text
returns-in-Cancellation-clause-text c = rw c.in-Cancellation.is c.push-in-Cancellation.ensures
