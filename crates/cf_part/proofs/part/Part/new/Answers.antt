use Rattle.std.proofs.Common.{rules}
use Rattle.cf_part.proofs.Kept.{opened_stages}
use Rattle.cf_part.proofs.part.Part.new.Goals as goal

pub invariant_of-result : goal.invariant_of-result
invariant_of-result c = record {
  sound = search rules;
  noted = opened_stages c.args.plan.now c.args.notes.now c.args.room c.in_ok-row.row.replica c.in_ok-notes.notes c.requires.each_stage (search rules) c.in_ok-notes.ensures;
  places = search rules;
}
