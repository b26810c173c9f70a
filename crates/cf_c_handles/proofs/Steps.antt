-- The stage that a step takes is there, and is granted.
use Rattle.std.proofs.Common.{◌≡◌, ℕ, ◌<◌, ◌≢◌, Some, length, ap, ◌∙◌}
use Rattle.cf_forms.specs.declared.forms.Args.{Args}
use Rattle.cf_model.specs.declared.replies.Claimed.{Claimed}
use Rattle.cf_model.specs.declared.replies.Claimed.TheVariants.{Granted}
use Rattle.cf_model.specs.Events.{claiming}
use Rattle.cf_model.specs.States.{State, lowest_ready_of}
use Rattle.cf_model.proofs.Claimable.{ready-granted}
use Rattle.cf_model.proofs.LowestReady.{lowest_ready-is_ready, lowest_ready-within}

pub ready_within : (s : State) (i : ℕ) → lowest_ready_of s ≡ Some i → i < length s.stages
ready_within s i e = lowest_ready-within s i e

-- a claim of the lowest ready stage is granted
pub never_refused : (s t : State) (who i : ℕ) (reply : Claimed) → lowest_ready_of s ≡ Some i → (reply, t) ≡ claiming s who i → ((args : Args) → reply ≢ Granted args) → ⊥
never_refused s t who i reply ready told none =
    let granted = ready-granted s who i (lowest_ready-is_ready s i ready) in
    none granted.0 (ap (λ (x : Claimed × State). x.0) told ∙ granted.1)
