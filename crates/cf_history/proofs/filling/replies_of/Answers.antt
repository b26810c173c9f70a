use Rattle.std.proofs.Common.{◌++◌, ◌+◌, ◌∙◌, ◌∷◌, [], List, ap, false, subst, sym}
use Rattle.cf_model.specs.declared.events.Reply.{Reply}
use Rattle.cf_model.specs.declared.events.Reply.TheVariants.{Flag}
use Rattle.cf_history.proofs.Replies.{Replied, next_fits, replied_all, replied_more, replied_none}
use Rattle.cf_history.proofs.filling.replies_of.Goals as goal

pub loop-event-init : goal.loop-event-init
loop-event-init c =
    replied_none c.args.graph.now.state c.args.events.now c.push.new.self.items
    (c.in_ok-push.ensures.items ∙ ap (λ (l : List Reply). l ++ Flag false ∷ []) c.new-replies.ensures.items) c.requires

pub answer-requires : goal.answer-requires
answer-requires c =
    next_fits c.args.graph.now.state c.args.events.now c.loop-event.event-index _ c.loop-event.graph.state c.loop-event.replies.items c.loop-event-test.true c.loop-event.invariant

pub loop-event-preserved : goal.loop-event-preserved
loop-event-preserved c =
    let told = c.answer.ensures.told in
    subst (Replied c.args.graph.now.state c.args.events.now (c.loop-event.event-index + 1) c.answer.new.self.state) (sym {A = List Reply} c.in_ok-push-2.ensures.items)
    (replied_more c.args.graph.now.state c.args.events.now c.loop-event.event-index _ c.loop-event.graph.state c.answer.new.self.state c.loop-event.replies.items c.answer.result
    c.loop-event-test.true (ap (λ p. p.0) told) (ap (λ p. p.1) told) c.loop-event.invariant)

pub returns : goal.returns
returns c =
    replied_all c.args.graph.now.state c.args.events.now c.loop-event.event-index c.loop-event.graph.state c.loop-event.replies.items c.loop-event-test.false c.loop-event.invariant
