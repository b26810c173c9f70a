use Rattle.std.proofs.Common.{◌∷◌, take}
use Rattle.cf_request.proofs.Tallied.{AreMarkedSo}
use Rattle.cf_request.proofs.tallies.mark_sources.Given as goal

-- those so far are marked
abbrev pub invariant-loop-source : goal.invariant-loop-source
invariant-loop-source l = AreMarkedSo (l.join.source ∷ take l.source-index l.join.others.items) l.join.source l.is_alone l.fn.followed l.followed l.fn.spares.items l.spares.items
