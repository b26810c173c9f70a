use Rattle.std.proofs.Common.{◌≡◌, ◌∙◌, ℕ, ap}
use Rattle.cf_ledger.specs.Ledgers.{stages_of}
use Rattle.cf_request.specs.Machines.{stages_in}
use Rattle.cf_request.specs.Telling.{Teller}
use Rattle.cf_request.proofs.Ends.{attaches_in, calls_attach_in, of_sets}
use Rattle.cf_request.proofs.machine.Machine.attach_in.Goals as goal

pub returns-clause-done : goal.returns-clause-done
returns-clause-done c =
    let count : c.stages-stage.result ≡ stages_in c.args.self.now = c.stages-stage.ensures.count ∙ ap (λ (t : Teller). stages_of t.ledger) c.teller.ensures.teller in
    attaches_in c.args.word c.args.lane c.args.scope c.stages-stage.result c.args.self.now c.find_place.new.self c.attach_found.new.self c.tie.new.self count c.in_ok-find_place.ensures.finds c.attach_found.ensures c.tie.ensures

pub returns-clause-calls : goal.returns-clause-calls
returns-clause-calls c =
    let count : c.stages-stage.result ≡ stages_in c.args.self.now = c.stages-stage.ensures.count ∙ ap (λ (t : Teller). stages_of t.ledger) c.teller.ensures.teller in
    calls_attach_in c.args.word c.args.lane c.args.scope c.args.self.now c.stages-stage.result c.tie.new.self
    (attaches_in c.args.word c.args.lane c.args.scope c.stages-stage.result c.args.self.now c.find_place.new.self c.attach_found.new.self c.tie.new.self count c.in_ok-find_place.ensures.finds c.attach_found.ensures c.tie.ensures)

pub returns-clause-is_of : goal.returns-clause-is_of
returns-clause-is_of c = of_sets c.args.scope c.stages-stage.result c.attach_found.new.self c.tie.new.self c.tie.ensures.sets
