use Rattle.std.proofs.Common.{subst}
use Rattle.cf_desk.specs.Keepings.{IsFit}
use Rattle.cf_desk.proofs.laws.passes_fit_what_they_saw.Goals as goal

pub returns : goal.returns
returns c = subst IsFit c.p.view_is c.p.invariant.agrees.fits
