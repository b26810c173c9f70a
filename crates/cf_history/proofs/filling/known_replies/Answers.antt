use Rattle.std.proofs.Common.{All, ◌∙◌, sym, subst}
use Rattle.cf_event.specs.Words.{IsEvent}
use Rattle.cf_history.proofs.Words.{decoded_events}
use Rattle.cf_history.proofs.filling.known_replies.Goals as goal

pub replies_where_fit-requires-clause-words : goal.replies_where_fit-requires-clause-words
replies_where_fit-requires-clause-words c = subst (All IsEvent) (sym (c.deref.ensures.value ∙ c.in_ok-events.ensures)) (decoded_events c.args.words.now)
