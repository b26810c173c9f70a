use Rattle.std.proofs.Common.{ℕ, ap, refl, sym, subst}
use Rattle.cf_notes.specs.declared.wants.Source.TheVariants.{Gone}
use Rattle.cf_row.specs.Abandoning.{Abandons}
use Rattle.cf_due.specs.Abandoning.{NoneToAbandon}
use Rattle.cf_due.specs.Settling.{place_of}
use Rattle.cf_due.proofs.Gone.{fails_that}
use Rattle.cf_due.proofs.abandoning.abandon_due.Goals as goal

pub returns-clause-abandon : goal.returns-clause-abandon
returns-clause-abandon c =
    let r = c.args.view.now in
    let w = c.args.watch.now in
    let i = c.in_ok-claim.claim.stage in
    let s = c.in_ok-claim.claim.session in
    let found = c.in_ok-claim.ensures in
    let fails : Abandons r s 0 (place_of r) c.in-Some.word = subst (λ (code : ℕ). Abandons r s 0 code c.in-Some.word) c.place_of.ensures c.in-Some.ensures.fails in
    let same = fails_that r w i s (place_of r) c.in-Some.word found.lowest found.gone found.held fails in
    record {
      session = s;
      is_gone = found.gone;
      fails = fails;
      lowest = subst (NoneToAbandon r w) (sym same) found.lowest;
      note = refl;
      source = ap Gone (sym same);
    }
