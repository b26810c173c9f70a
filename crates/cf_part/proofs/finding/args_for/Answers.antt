use Rattle.std.proofs.Common.{All, List, None, ◌≡◌, subst}
use Rattle.cf_event.specs.declared.record.Record.{Record}
use Rattle.cf_part.specs.Steps.{grant_of}
use Rattle.cf_part.proofs.Recorded.{not_unrecorded}
use Rattle.cf_part.proofs.finding.args_for.Goals as goal

pub unreachable-requires : goal.unreachable-requires
unreachable-requires c =
    let none = c.in_default.ensures.none in
    not_unrecorded c.args.replica.now c.args.stage c.records.ensures.fit c.requires (subst (λ (l : List Record). All (λ (r : Record). grant_of c.args.stage r ≡ None) l) c.records.ensures.are none)
