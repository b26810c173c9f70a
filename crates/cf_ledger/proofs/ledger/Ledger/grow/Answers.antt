use Rattle.std.proofs.Common.{◌≡◌, ◌+◌, ◌∙◌, ℕ, List, ap}
use Rattle.cf_forms.specs.Plans.{with_room}
use Rattle.cf_model.specs.Events.{state_after}
use Rattle.cf_model.specs.States.{start}
use Rattle.cf_event.specs.Decoding.{decoded}
use Rattle.cf_ledger.specs.Ledgers.{Ledger, roomier, state_of}
use Rattle.cf_ledger.proofs.Growth.{only_memory, state_more, taken_more}
use Rattle.cf_ledger.proofs.ledger.Ledger.grow.Goals as goal

pub returns-in-Ok-clause-state : goal.returns-in-Ok-clause-state
returns-in-Ok-clause-state c =
    let l = c.self.inside.book in
    let h = c.self.invariant.kept in
    let roomy = with_room l.plan (l.room + c.args.more) in
    let made : state_of c.in-Ok.ledger ≡ state_after (start roomy) (decoded l.words.items) = ap state_of c.in-Ok.ensures.made ∙ ap (λ (ws : List ℕ). state_after (start roomy) (decoded ws)) c.deref.ensures.value in
    ap state_of c.replace.ensures.after ∙ made ∙ state_more c.args.more (start (with_room l.plan l.room)) (decoded l.words.items) h.taken ∙ ap (λ (x : Ledger). roomier c.args.more (state_of x)) c.self.view_is

pub returns-in-Err-clause-refused : goal.returns-in-Err-clause-refused
returns-in-Err-clause-refused c =
    let l = c.self.inside.book in
    let plan = with_room l.plan l.room in
    let h = c.self.invariant.kept in
    only_memory (start (with_room l.plan (l.room + c.args.more))) l.words.items c.in-Err.misfit.place c.in-Err.misfit.why h.written
    (taken_more c.args.more (start plan) (decoded l.words.items) h.taken)
    (rw (← c.deref.ensures.value) c.in-Err.ensures.refused)
