use Rattle.cf_forms.specs.Plans.{with_room}
use Rattle.cf_model.specs.States.{start}
use Rattle.std.proofs.Common.{sym, ◌∙◌}
use Rattle.cf_row.proofs.Attaching.{no_event, place_at, plan_at}
use Rattle.cf_row.proofs.plans.grown.Goals as goal

pub unreachable-requires : goal.unreachable-requires
unreachable-requires c = no_event c.args.words.now c.loop-word.word-index c.requires.named c.loop-word-test.true (sym c.decode.ensures.value ∙ c.in_default.is)

pub follow-requires : goal.follow-requires
follow-requires c =
    place_at (start (with_room c.args.opening.now c.args.room)) c.loop-word.plan c.args.words.now c.loop-word.word-index c.in-Some.event c.requires.named c.requires.taken c.loop-word.invariant c.loop-word-test.true
    (sym c.decode.ensures.value ∙ c.in-Some.is)

pub loop-word-preserved : goal.loop-word-preserved
loop-word-preserved c =
    plan_at (start (with_room c.args.opening.now c.args.room)) c.loop-word.plan c.follow.new.plan c.args.words.now c.loop-word.word-index c.in-Some.event c.requires.named c.requires.taken c.loop-word.invariant
    c.loop-word-test.true (sym c.decode.ensures.value ∙ c.in-Some.is) c.follow.ensures
