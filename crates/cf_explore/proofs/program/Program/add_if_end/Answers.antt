use Rattle.std.proofs.Common.{◌≡◌, true, refl, sym, ◌∙◌}
use Rattle.cf_explore.specs.declared.found.Witness.{Witness}
use Rattle.cf_explore.specs.Moves.{is_end}
use Rattle.cf_explore.proofs.Ending.{ends-one}
use Rattle.cf_explore.proofs.program.Program.add_if_end.Goals as goal

pub returns-in_ok-_new : goal.returns-in_ok-_new
returns-in_ok-_new c =
    let w : Witness = record { moves = c.args.moves; number = c.args.entry.now.number } in
    let ends : is_end c.args.self.now c.args.entry.now.situation ≡ true = sym c.in_ok-is_end.ensures ∙ c.if-branch.true in
    ends-one c.args.self.now c.args.moves c.args.entry.now c.args.ends.now.items c.add_end.new.ends.items c.in_ok-outcomes.outcomes.items w c.in_ok-_new._new ends c.in_ok-outcomes.ensures refl refl c.in_ok-_new.ensures.ended c.in_ok-_new.ensures.apart
