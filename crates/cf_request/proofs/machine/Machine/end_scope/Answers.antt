use Rattle.std.proofs.Common.{◌≡◌, ◌∙◌, ◌<◌, ℕ, false, Some, ap, arith, inr, refl, subst, sym}
use Rattle.std.specs.Prelude.{is_some}
use Rattle.cf_model.specs.declared.events.Event.TheVariants.{Cancel as Cancels}
use Rattle.cf_event.specs.Decoding.{event_of}
use Rattle.cf_event.specs.Words.{word_of}
use Rattle.cf_ledger.specs.Ledgers.{stages_of, state_of}
use Rattle.cf_request.specs.Machines.{AppliesWord, stages_in, state_in}
use Rattle.cf_request.specs.Rows.IsCall.{applies}
use Rattle.cf_request.specs.Telling.{Teller, is_settled_in}
use Rattle.cf_request.proofs.Ends.{ends_now}
use Rattle.cf_request.proofs.machine.Machine.end_scope.Goals as goal

pub returns-in-Ok-clause-ends : goal.returns-in-Ok-clause-ends
returns-in-Ok-clause-ends c =
    let old = c.args.self.now in
    let new = c.apply.new.self in
    let scope = c.args.scope in
    let e = Cancels c.args.who scope in
    let word : c.encode.result ≡ word_of e = c.encode.ensures.word in
    let read : event_of (word_of e) ≡ Some e = ap event_of (sym word) ∙ c.encode.ensures.back in
    let done = subst (λ (w : ℕ). AppliesWord w 0 old c.in-Ok.field-0 new) word c.in-Ok.ensures.done in
    let still : is_settled_in (state_in old).stages scope ≡ false =
    sym (ap (λ (t : Teller). is_settled_in (state_of t.ledger).stages scope) c.teller-2.ensures.teller) ∙ ap is_some (sym c.outcome.ensures) ∙ sym c.is_some.ensures ∙ c.if-is_some.false in
    let count : c.stages.result ≡ stages_in old = c.stages.ensures.count ∙ ap (λ (t : Teller). stages_of t.ledger) c.teller.ensures.teller in
    let there : scope < stages_in old = omega (arith, count, c.if-scope-stages.false) in
    let ended = ends_now c.args.who scope old new c.in-Ok.field-0 read there done in
    record { does = inr (c.in-Ok.field-0, still, done); ended = ended; none = c.teller-ended.ensures.scopes scope ended }

pub returns-in-Ok-clause-calls : goal.returns-in-Ok-clause-calls
returns-in-Ok-clause-calls c = (c.apply.new.self, applies c.encode.result 0 c.in-Ok.field-0 refl c.in-Ok.ensures.done, refl)
