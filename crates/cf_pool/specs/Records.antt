-- What the pass of each caller records of a history.
use Rattle.std.specs.Prelude.{ℕ, suc, eqb, List, [], ◌∷◌, if◌then◌else◌}
use Rattle.cf_model.specs.declared.events.Event.{Event}
use Rattle.cf_model.specs.States.{State}
use Rattle.cf_model.specs.Events.{answered}
use Rattle.cf_model.specs.Calls.{as_call, who_of}
use Rattle.cf_desk.specs.declared.calls.Rec.{Rec}
use Rattle.cf_desk.specs.declared.calls.Rec.TheVariants.{Did}

-- what the pass of caller c records of these events, the first of which is at place n + 1, after this state
abbrev pub recorded : ℕ → ℕ → State → List Event → List Rec
recorded c n s [] = []
recorded c n s (e ∷ es) =
    let reply = answered s e in
    if eqb (who_of e) c then Did (suc n) (as_call e) reply.0 ∷ recorded c (suc n) reply.1 es else recorded c (suc n) reply.1 es
