use Rattle.std.proofs.Common.{◌∙◌, arith}
use Rattle.cf_request.proofs.Composes.{leaves_claims}
use Rattle.cf_request.proofs.machine.Machine.link_found.Goals as goal

pub finish_claimed-requires-clause-there : goal.finish_claimed-requires-clause-there
finish_claimed-requires-clause-there c =
    let count = (leaves_claims c.args.composed.relay c.args.stage c.args.self.now c.follow.new.self c.in-Ok.ensures.set).count in
    let there = c.requires.may.there.1 in
    omega (arith, count, there)

pub finish_claimed-requires-clause-held : goal.finish_claimed-requires-clause-held
finish_claimed-requires-clause-held c =
    (leaves_claims c.args.composed.relay c.args.stage c.args.self.now c.follow.new.self c.in-Ok.ensures.set).claims c.args.composed.stage ∙ c.requires.may.held

pub finish_claimed-requires-clause-memory : goal.finish_claimed-requires-clause-memory
finish_claimed-requires-clause-memory c = (leaves_claims c.args.composed.relay c.args.stage c.args.self.now c.follow.new.self c.in-Ok.ensures.set).memory c.requires.memory
