-- Each caller of a closed desk stands once among its passes.
use Rattle.std.proofs.Common.{◌≡◌, ◌∙◌, ℕ, ◌+◌, ◌<◌, List, [], ◌∷◌, ap, eqb, map, refl}
use Rattle.cf_desk.specs.declared.calls.Kept.{Kept}
use Rattle.cf_desk.specs.Keepings.{AreKept, pass_did}
use Rattle.cf_desk.specs.Rule.{count_in, weight}
use Rattle.cf_desk.specs.Views.{Pass, knowns}
use Rattle.cf_pool.specs.Closings.{IsEachOnce, times_kept}

did_times : (c : ℕ) (qs : List Pass) → times_kept c (map pass_did qs) ≡ count_in c (knowns qs)
did_times c [] = refl
did_times c (q ∷ qs) = ap (λ n. weight (eqb q.known.caller c) + n) (did_times c qs)

pub each_once : (callers : ℕ) (kept : List Kept) (qs : List Pass) → AreKept kept qs → ((c : ℕ) → c < callers → count_in c (knowns qs) ≡ 1) → IsEachOnce callers kept
each_once callers kept qs are each = λ c l. ap (times_kept c) are ∙ did_times c qs ∙ each c l
