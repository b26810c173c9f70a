use Rattle.std.proofs.Common.{refl}
use Rattle.std.specs.Prelude.{◌≢◌, None}
use Rattle.cf_host.specs.Fitting.{AsksRow, FitsEntries, TakesEntries, UnfitOnlyIf}
use Rattle.cf_host.specs.declared.ticket.Asked.TheVariants.{Row as OfRow}
use Rattle.cf_host.proofs.Placed.{hears_entries}
use Rattle.cf_host.proofs.Unfit.{fewer, handed_on, not_such, only_if, opened_for_entries, whatever}
use Rattle.cf_host.proofs.host.Host.hear.Goals as goal

pub returns-clause-ok : goal.returns-clause-ok
returns-clause-ok c =
    hears_entries c.args.now c.args.entries.now c.args.notes.now c.args.ticket c.in_ok-place.place c.args.self.now _ _ c.index_mut.result.now c.hear.new.self c.index.result.now c.has_lost-lost.result c.self.view_is
    c.in_ok-place.ensures.is c.index_mut.ensures.value c.in_ok-hear.ensures.ok c.close.ensures refl c.index.ensures c.has_lost-lost.ensures.lost c.has_lost-lost.ensures.none

pub returns-in_err-place-clause-unfit : goal.returns-in_err-place-clause-unfit
returns-in_err-place-clause-unfit c =
    let h = c.args.self.now in
    let n = c.args.ticket in
    let entries = c.args.entries.now in
    let unfit = ¬ FitsEntries entries c.args.notes.now h n in
    let why = c.in_err-place.field-0.0 in
    handed_on c.from_residual.result why (UnfitOnlyIf unfit) c.from_residual.ensures.1
    (only_if (¬ AsksRow h n) unfit why (λ none fits. fewer OfRow (λ r. r.work ≢ None) (TakesEntries entries) h n (opened_for_entries entries) none fits.asks) c.in_err-place.ensures.unfit)

pub returns-in_err-hear-clause-unfit : goal.returns-in_err-hear-clause-unfit
returns-in_err-hear-clause-unfit c =
    let h = c.args.self.now in
    let n = c.args.ticket in
    let entries = c.args.entries.now in
    let unfit = ¬ FitsEntries entries c.args.notes.now h n in
    let why = c.in_err-hear.field-0.0 in
    handed_on c.from_residual-in_err-hear.result why (UnfitOnlyIf unfit) c.from_residual-in_err-hear.ensures.1
    (whatever unfit why (λ fits. not_such OfRow (λ k. refl) (TakesEntries entries) h _ n c.in_ok-place.place c.index_mut.result.now c.self.view_is c.in_ok-place.ensures.is
    c.index_mut.ensures.value c.in_err-hear.ensures.unfit fits.asks))
