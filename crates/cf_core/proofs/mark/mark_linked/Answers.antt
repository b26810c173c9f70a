use Rattle.std.proofs.Common.{◌∙◌, ap, length}
use Rattle.cf_core.specs.Keeping.Links.{list_at}
use Rattle.cf_core.specs.Keeping.Sound.{is_waiting, kept_at, mark_all}
use Rattle.cf_core.proofs.Keeping.Marking.{length-mark_one}
use Rattle.cf_core.proofs.Keeping.MarkLemmas.{pop_empties, pop_marks, pop_within, first_within}
use Rattle.cf_core.proofs.mark.mark_linked.Goals as goal

pub loop-i-preserved : goal.loop-i-preserved
loop-i-preserved c =
    let kept = c.args.kept.now.items in
    let lists = c.loop-i.links in
    let marked = pop_marks kept lists c.pop.new.self c.args.target c.loop-i.marks c.in-Some.i c.in-Some.ensures.first c.pop.ensures.rest in
    record {
      marked = ap (λ marks. mark_all kept (list_at c.pop.new.self c.args.target) marks) c.mark.ensures ∙ marked ∙ c.loop-i.invariant.marked;
      emptied = pop_empties lists c.pop.new.self c.args.target c.pop.ensures.rest ∙ c.loop-i.invariant.emptied;
      all = ap length c.mark.ensures ∙ length-mark_one (is_waiting ((kept_at kept c.in-Some.i).stage)) c.loop-i.marks c.in-Some.i ∙ c.loop-i.invariant.all;
      linked = pop_within lists c.pop.new.self c.args.target (length kept) c.pop.ensures.rest c.loop-i.invariant.linked;
    }

pub mark-requires-clause-stage : goal.mark-requires-clause-stage
mark-requires-clause-stage c =
    first_within (list_at c.loop-i.links c.args.target) (length c.args.kept.now.items) c.in-Some.i c.in-Some.ensures.first c.loop-i.invariant.linked
