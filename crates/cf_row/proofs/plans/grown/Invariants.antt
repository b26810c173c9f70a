use Rattle.std.specs.Prelude.{◌≡◌, take}
use Rattle.cf_forms.specs.Plans.{with_room}
use Rattle.cf_model.specs.States.{start}
use Rattle.cf_model.specs.Events.{state_after}
use Rattle.cf_event.specs.Decoding.{decoded}
use Rattle.cf_row.proofs.plans.grown.Given as goal

-- the plan is as the words so far leave it
abbrev pub invariant-loop-word : goal.invariant-loop-word
invariant-loop-word l = l.plan ≡ (state_after (start (with_room l.opening l.room)) (take l.word-index (decoded l.words))).plan
