-- Why a user's call is refused.
use Rattle.std.proofs.Common.{◌≡◌, ℕ, ◌∙◌, ap, get_or, subst}
use Rattle.cf_host.specs.declared.request.Request.{Request}
use Rattle.cf_host.specs.Asking.{IsFull, IsShort}
use Rattle.cf_host.specs.Asking.IsShort.{of_users}
use Rattle.cf_host.specs.Hosts.{Host}
use Rattle.cf_host.specs.Requests.{HasPlace, HasPlaces, HasPlacesIn, IsAt, IsOpenAt, LacksPlaces, LacksStage}
use Rattle.cf_host.proofs.Placed.{ready, same_at}

-- what an index gives has no place for a stage
pub lacks_stage : (request stage place : ℕ) (old view : Host) (x : Request) → view ≡ old → IsAt request place old.requests → IsOpenAt place old.requests →
    x ≡ get_or view.requests place x → ¬ HasPlace x.work stage → LacksStage request stage old.requests
lacks_stage request stage place old view x is at opened value lacks =
    let there : x ≡ get_or old.requests place x = value ∙ ap (λ (h : Host). get_or h.requests place x) is in
    record {
      place = place;
      at = at;
      opened = opened;
      lacks = subst (λ (r : Request). ¬ HasPlace r.work stage) (same_at request place old.requests x at there) lacks;
    }

-- its plan has no place for so many stages more, or has it
pub lacks_places : (request more place : ℕ) (old view : Host) (x : Request) → view ≡ old → IsAt request place old.requests → IsOpenAt place old.requests →
    x ≡ get_or view.requests place x → ¬ HasPlaces x.work more → LacksPlaces request more old.requests
lacks_places request more place old view x is at opened value lacks =
    let there : x ≡ get_or old.requests place x = value ∙ ap (λ (h : Host). get_or h.requests place x) is in
    record {
      place = place;
      at = at;
      opened = opened;
      lacks = subst (λ (r : Request). ¬ HasPlaces r.work more) (same_at request place old.requests x at there) lacks;
    }

pub has_places : (request more place : ℕ) (old view : Host) (x : Request) → view ≡ old → IsAt request place old.requests → x ≡ get_or view.requests place x → HasPlaces x.work more →
    HasPlacesIn request more old.requests
has_places request more place old view x is at value has =
    let there : x ≡ get_or old.requests place x = value ∙ ap (λ (h : Host). get_or h.requests place x) is in
    record { place = place; at = at; has = subst (λ (r : Request). HasPlaces r.work more) (same_at request place old.requests x at there) has }

-- what an index gives has no memory for a further user
pub full_in : (request place : ℕ) (old mid view : Host) (x : Request) → mid ≡ ready old → view ≡ mid → IsAt request place old.requests → x ≡ get_or view.requests place x →
    IsFull x.work → IsShort request old.tickets old.requests
full_in request place old mid view x from_old from_mid at value full =
    let there : x ≡ get_or old.requests place x = value ∙ ap (λ (h : Host). get_or h.requests place x) (from_mid ∙ from_old) in
    of_users place at (subst (λ (r : Request). IsFull r.work) (same_at request place old.requests x at there) full)
