use Rattle.std.proofs.Common.{◌∙◌, ap}
use Rattle.cf_core.specs.Keeping.Landings.{landed_stages}
use Rattle.cf_core.specs.Keeping.SoundStages.{settled_view_of}
use Rattle.cf_core.proofs.Keeping.Serving.{kept_claimed, settles-claimed}
use Rattle.cf_core.proofs.graph.working.land_ready.Goals as goal

pub land-requires-clause-claimed : goal.land-requires-clause-claimed
land-requires-clause-claimed c =
    kept_claimed c.args.plan.now.stages c.args.stages.now c.claim.new.self c.treat_up_to.new.self c.args.d c.requires.sound c.requires.stage c.requires.treated
    c.claim.ensures.claimed c.treat_up_to.ensures.same c.treat_up_to.ensures.sound c.treat_up_to.ensures.treated

pub returns-in-Settles-clause-landed : goal.returns-in-Settles-clause-landed
returns-in-Settles-clause-landed c =
    let plan = c.args.plan.now.stages in
    settles-claimed plan (settled_view_of plan c.args.stages.now) (settled_view_of plan c.settle.new.self) c.args.d c.args.at c.in-Settles.o c.in-Settles.is c.settle.ensures.after

pub returns-in-Settles-clause-taken : goal.returns-in-Settles-clause-taken
returns-in-Settles-clause-taken c = λ i ne taken. c.settle.ensures.taken i taken

pub returns-in-Links-clause-landed : goal.returns-in-Links-clause-landed
returns-in-Links-clause-landed c =
    c.land.ensures.landed ∙ ap (λ xs. landed_stages c.args.plan.now.stages xs c.args.d c.args.at) (c.treat_up_to.ensures.same ∙ c.claim.ensures.claimed)

pub returns-in-Links-clause-taken : goal.returns-in-Links-clause-taken
returns-in-Links-clause-taken c = λ i ne taken. c.land.ensures.taken i ne (c.treat_up_to.ensures.taken i (c.claim.ensures.taken i taken))
