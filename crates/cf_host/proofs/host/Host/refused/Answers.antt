use Rattle.std.proofs.Common.{refl, subst}
use Rattle.cf_host.specs.Answering.{Refusing}
use Rattle.cf_host.specs.declared.ticket.Asked.TheVariants.{Row as OfRow}
use Rattle.cf_host.specs.Requests.{OnWork, asked_in}
use Rattle.cf_host.proofs.Placed.{answers}
use Rattle.cf_part.specs.Parts.{IsPut}
use Rattle.std.specs.Prelude.{None, ◌≢◌}
use Rattle.cf_host.specs.Fitting.{AsksRow, UnfitOnlyIf, AsksPut}
use Rattle.cf_host.proofs.Unfit.{fewer, handed_on, not_such, only_if, opened_for_put}
use Rattle.cf_host.proofs.host.Host.refused.Goals as goal

pub returns-clause-ok : goal.returns-clause-ok
returns-clause-ok c =
    answers OfRow (OnWork (Refusing c.args.now)) c.args.ticket c.in_ok-place.place c.args.self.now _ _ c.index_mut.result.now c.refused.new.self c.self.view_is c.in_ok-place.ensures.is
    c.index_mut.ensures.value c.refused.ensures c.close.ensures refl

pub returns-in_err-place-clause-unfit : goal.returns-in_err-place-clause-unfit
returns-in_err-place-clause-unfit c =
    let h = c.args.self.now in
    let n = c.args.ticket in
    handed_on c.from_residual.result c.in_err-place.field-0.0 (UnfitOnlyIf (¬ AsksPut h n)) c.from_residual.ensures.1
    (only_if (¬ AsksRow h n) (¬ AsksPut h n) c.in_err-place.field-0.0 (fewer OfRow (λ r. r.work ≢ None) (λ r. IsPut (asked_in r.work)) h n opened_for_put) c.in_err-place.ensures.unfit)

pub returns-then-not-is_put-clause-unfit : goal.returns-then-not-is_put-clause-unfit
returns-then-not-is_put-clause-unfit c =
    not_such OfRow (λ n. refl) (λ r. IsPut (asked_in r.work)) c.args.self.now _ c.args.ticket c.in_ok-place.place c.index.result.now c.self.view_is c.in_ok-place.ensures.is c.index.ensures
    (subst (λ a. ¬ IsPut a) c.asked.ensures c.if-not-is_put.ensures.other)
