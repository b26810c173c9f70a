use Rattle.cf_forms.specs.Plans.{with_room}
use Rattle.cf_ledger.proofs.Words.{first_behind}
use Rattle.cf_ledger.proofs.ledger.Ledger.of_words.Goals as goal

pub returns-in-Err-clause-refused : goal.returns-in-Err-clause-refused
returns-in-Err-clause-refused c =
    let h = c.in-Err.ensures in
    λ other. first_behind (with_room c.args.plan.now c.args.room) c.in_ok-ledger.ledger c.apply_all.new.self c.in-Err.misfit.place c.args.words.now c.in-Err.misfit.why c.in_ok-ledger.ensures h.front h.there h.why
