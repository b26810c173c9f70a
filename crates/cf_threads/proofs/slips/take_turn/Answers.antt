use Rattle.std.proofs.Common.{◌++◌, ◌∷◌, [], subst, rules}
use Rattle.crossbeam_utils.specs.Seq.{cell_view}
use Rattle.cf_threads.specs.Slips.{IsFair}
use Rattle.cf_threads.specs.declared.turn.Turn.{Turn}
use Rattle.cf_threads.proofs.Tokens.{takes}
use Rattle.cf_threads.proofs.slips.take_turn.Goals as goal

pub load_as-requires : goal.load_as-requires
load_as-requires g c =
    let v = cell_view c.args.all.now in
    let fair = subst (λ (t : Turn). IsFair v.parts (v.mine ++ t ∷ [])) c.requires.turn c.requires.fair in
    (search rules, (search rules, (c.requires.own, takes _ v g.W.Which.turn c.requires.keeps.0 c.requires.keeps.1 fair)))
