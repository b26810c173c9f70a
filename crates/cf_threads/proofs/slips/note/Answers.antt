use Rattle.std.proofs.Common.{ap, ◌∙◌, rules}
use Rattle.crossbeam_utils.specs.Seq.{cell_view}
use Rattle.cf_threads.specs.declared.slips.View.{View}
use Rattle.cf_threads.proofs.Kept.{fair_cut, fair_noted}
use Rattle.cf_threads.proofs.Tokens.{cuts, joins}
use Rattle.cf_threads.proofs.slips.note.Goals as goal

pub join_pass-requires : goal.join_pass-requires
join_pass-requires g c = (search rules, (search rules, ((c.requires.own, c.requires.slip.0, c.requires.slip.1), joins _ _ _ _)))

pub take_turn-requires-clause-fair : goal.take_turn-requires-clause-fair
take_turn-requires-clause-fair g c = fair_noted (cell_view c.args.all.now) (cell_view c.args.mine) (cell_view c.join_pass.new.pass) c.args.turn.now c.requires.keeper c.requires.slip.2 c.join_pass.ensures.1 c.requires.holds

pub split_pass-requires : goal.split_pass-requires
split_pass-requires g c =
    let fair = fair_cut (cell_view c.args.all.now) (cell_view c.args.mine) (cell_view c.join_pass.new.pass) (cell_view c.take_turn.new.all) c.args.turn.now c.requires.keeper c.join_pass.ensures.1
    (ap (λ (v : View). v.mine) c.take_turn.ensures.taken) c.requires.holds in
    (search rules, (search rules, (c.take_turn.ensures.same.0 ∙ c.join_pass.ensures.0.0 ∙ c.requires.own, cuts _ _ (search rules) fair)))
