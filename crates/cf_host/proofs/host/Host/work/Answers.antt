use Rattle.std.proofs.Common.{◌∙◌, refl}
use Rattle.std.proofs.lemmas.List.{with_items_is}
use Rattle.cf_host.proofs.Ordering.{works_first}
use Rattle.cf_host.proofs.host.Host.work.Goals as goal

pub returns-clause-orders : goal.returns-clause-orders
returns-clause-orders c =
    let turns = c.in_ok-turned.ensures.turns in
    works_first c.args.self.now _ _ c.args.now c.clock-clock.result c.in_ok-turned.turned.request c.order_of.result c.in_ok-turned.turned.turn c.may_claim-may_claim.result _ _ c.self.view_is
    c.requires.beats c.requires.news c.requires.opens c.may_claim-may_claim.ensures c.clock-clock.ensures c.deref_mut.ensures.value
    (with_items_is c.self.inside.requests c.first_turn.new.requests (turns.count ∙ c.deref_mut.ensures.len)) turns c.order_of.ensures c.beats_sooner-self-inside.ensures refl
