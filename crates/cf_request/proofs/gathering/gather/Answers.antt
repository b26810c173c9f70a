use Rattle.std.proofs.Common.{◌<◌, All, subst, sym}
use Rattle.cf_forms.specs.declared.forms.Of.{Of}
use Rattle.cf_forms.specs.Plans.{sources_of}
use Rattle.cf_ledger.specs.Ledgers.{stages_of}
use Rattle.cf_request.proofs.Gathered.{two_there}
use Rattle.cf_request.proofs.gathering.gather.Goals as goal

pub attach-first-requires-clause-there : goal.attach-first-requires-clause-there
attach-first-requires-clause-there c =
    let n = stages_of c.args.teller.now.ledger in
    subst (λ (of : Of). All (λ i. i < n) (sources_of of)) (sym c.first_two.ensures) (two_there c.args.sources.now n c.requires.may.there)
