use Rattle.std.proofs.Common.{◌≡◌, length, Bool, ℕ, true, sym, subst, ◌∙◌}
use Rattle.std.specs.Prelude.{is_some}
use Rattle.cf_forms.specs.Plans.{fits_form, sources_of}
use Rattle.cf_model.specs.declared.events.Event.{Event}
use Rattle.cf_model.specs.Ranges.{fits}
use Rattle.cf_model.proofs.Fitting.{attach-fits}
use Rattle.cf_model.proofs.events.Event.fits.Goals as goal

pub returns-then-fits_form-clause-told : goal.returns-then-fits_form-clause-told
returns-then-fits_form-clause-told c =
    let counted : fits_form c.in-Attach.form (length (sources_of c.in-Attach.of)) c.is_some.result ≡ true =
    subst (λ (k : ℕ). fits_form c.in-Attach.form k c.is_some.result ≡ true) c.count.ensures (sym c.fits_form.ensures ∙ c.if-fits_form.true) in
    let fitting : fits_form c.in-Attach.form (length (sources_of c.in-Attach.of)) (is_some c.in-Attach.function) ≡ true =
    subst (λ (b : Bool). fits_form c.in-Attach.form (length (sources_of c.in-Attach.of)) b ≡ true) c.is_some.ensures counted in
    subst (λ (e : Event). c.are_below.result ≡ fits c.args.stages e) (sym c.in-Attach.is)
    (attach-fits c.args.stages c.in-Attach.who c.in-Attach.form c.in-Attach.of c.in-Attach.function c.are_below.result fitting c.are_below.ensures)
