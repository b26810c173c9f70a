use Rattle.std.proofs.Common.{ap, sym, ◌∙◌}
use Rattle.cf_model.specs.States.{lowest_ready_of}
use Rattle.cf_c_handles.proofs.Steps.{never_refused}
use Rattle.cf_c_handles.proofs.graph.stepping.take.Goals as goal

pub unreachable-requires : goal.unreachable-requires
unreachable-requires c =
    let ready = ap lowest_ready_of c.lowest_ready.ensures.unchanged ∙ sym c.lowest_ready.ensures.told ∙ c.in-Some.is in
    never_refused c.lowest_ready.new.self.state c.claim.new.self.state c.args.who c.in-Some.stage c.claim.result ready c.claim.ensures.told c.in_default-claim.not-Granted
