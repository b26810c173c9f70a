-- What is so of one request's work.
use Rattle.std.proofs.Common.{◌≡◌, ◌≢◌, ℕ, ◌⊎◌, inl, inr, Option, Some, None, List, refl, ap, sym, ◌∙◌, subst, arith}
use Rattle.std.specs.Prelude.{slice_get}
use Rattle.std.proofs.lemmas.Option.{slice_get_within}
use Rattle.cf_turn.specs.Works.{Work}
use Rattle.cf_host.specs.declared.order.Order.{Order}
use Rattle.cf_host.specs.declared.request.Request.{Request}
use Rattle.cf_host.specs.Hosts.{Host}
use Rattle.cf_host.specs.Keeping.{IsWorkIn}
use Rattle.cf_host.specs.Laws.{ComesTo, IsCall}
use Rattle.cf_host.specs.Requests.{IsAt}
use Rattle.cf_host.proofs.CalledOnce.{find, kept_all, same_sessions}
use Rattle.cf_host.proofs.Effects.{Anyhow, Heard}
use Rattle.cf_host.proofs.Going.{CarriesOn, CarriesWords, Does, Still, call_kept}
use Rattle.cf_host.proofs.Worked.{AreApart, Kept, Moves, begins, goes, stays}

-- the request is opened, and this is so of its work
abbrev pub Of : ℕ → (Work → Type 0) → ℕ → Option Work → Type 0
Of request is n None = n ≢ request
Of request is n (Some w) = n ≡ request → is w

abbrev pub Another : ℕ → ℕ → Type 0
Another request n = n ≢ request

pub record Has (is : Work → Type 0) (h : Host) (request : ℕ) : Type 0 where
  pub work : Work
  pub at : IsWorkIn h request work
  pub so : is work

pub same_work : (w v : Work) → Some w ≡ Some v → w ≡ v
same_work w v e = cc

-- where no two have one number
pub has_kept : (is : Work → Type 0) (h : Host) (request : ℕ) → AreApart h.requests → Has is h request → Kept (Of request is) (Another request) h.requests
has_kept is h request apart it =
    let at = it.at.at in
    let one : (place : ℕ) (r : Request) → slice_get h.requests place ≡ Some r → r.number ≡ request → r.work ≡ Some it.work =
    λ place r there named.
    let same = apart place it.at.place r at.request there at.is (named ∙ sym at.named) in
    let which : Some r ≡ Some at.request = sym there ∙ ap (λ (i : ℕ). slice_get h.requests i) same ∙ at.is in
    let r_is : r ≡ at.request = cc in
    ap (λ (x : Request). x.work) r_is ∙ it.at.is in
    record {
      apart = apart;
      each = λ place r there. by_work r.work r.number (one place r there);
      none = λ n absent same. absent it.at.place at.request (slice_get_within h.requests it.at.place at.request at.is) at.is (at.named ∙ sym same);
    }
  where
    by_work : (work : Option Work) (n : ℕ) → (n ≡ request → work ≡ Some it.work) → Of request is n work
    by_work None n its = λ named. (let e = its named in let no : ⊥ = cc in no)
    by_work (Some w) n its = λ named. subst is (sym (same_work w it.work (its named))) it.so

pub kept_has : (is : Work → Type 0) (h : Host) (request : ℕ) → Kept (Of request is) (Another request) h.requests → Has is h request
kept_has is h request k = elim (find request h.requests) [
  | inl f ↦ by_work f.0 f.1 f.2 f.3 f.1.work refl (k.each f.0 f.1 f.2)
  | inr none ↦ absurd (k.none request none refl)
]
  where
    first : (place : ℕ) (r : Request) → slice_get h.requests place ≡ Some r → r.number ≡ request → IsAt request place h.requests
    first place r there named = record {
      request = r;
      is = there;
      named = named;
      first = λ i s low at same. let one = k.apart i place s r at there (same ∙ sym named) in omega (arith, one, low);
    }

    by_work : (place : ℕ) (r : Request) → slice_get h.requests place ≡ Some r → r.number ≡ request → (work : Option Work) → r.work ≡ work → Of request is r.number work → Has is h request
    by_work place r there named None its so = absurd (so named)
    by_work place r there named (Some w) its so = record { work = w; at = record { place = place; at = first place r there named; is = its }; so = so named }

-- ---- one call

-- what a call does to this request's work leaves that so, or does something else
pub record CarriesOne (request : ℕ) (is : Work → Type 0) (else : Type 0) (old : Host) (out : Option Order) (new : Host) : Type 0 where
  pub does : (w v : Work) → is w → Does (Of request is) old out new request w v → is v ⊎ else
  pub words : (w v : Work) → is w → Heard request w v → is v

carry : (session request : ℕ) (is : Work → Type 0) (else : Type 0) (old : Host) (out : Option Order) (new : Host) → CarriesOne request is else old out new →
    (n : ℕ) (before after : Option Work) → Of request is n before → Moves session (Still (Of request is) old out new n) (Does (Of request is) old out new n) before after → Of request (λ w. is w ⊎ else) n after
carry session request is else old out new c n None after so (stays same still) = subst (Of request (λ w. is w ⊎ else) n) (sym same) so
carry session request is else old out new c n (Some w) after so (stays same still) = subst (Of request (λ w. is w ⊎ else) n) (sym same) (λ named. inl (so named))
carry session request is else old out new c n before after so (begins w was now begun still) =
    let another : n ≢ request = subst (Of request is n) was so in
    subst (Of request (λ w. is w ⊎ else) n) (sym now) (λ named. absurd (another named))
carry session request is else old out new c n before after so (goes w v was now does) =
    let its : n ≡ request → is w = subst (Of request is n) was so in
    subst (Of request (λ w. is w ⊎ else) n) (sym now) (λ named. c.does w v (its named) (subst (λ (m : ℕ). Does (Of request is) old out new m w v) named does))

carry_words : (session request : ℕ) (is : Work → Type 0) → ((w v : Work) → is w → Heard request w v → is v) →
    (n : ℕ) (before after : Option Work) → Of request is n before → Moves session (Anyhow n) (Heard n) before after → Of request is n after
carry_words session request is c n before after so (stays same still) = subst (Of request is n) (sym same) so
carry_words session request is c n before after so (begins w was now begun still) =
    let another : n ≢ request = subst (Of request is n) was so in
    subst (Of request is n) (sym now) (λ named. absurd (another named))
carry_words session request is c n before after so (goes w v was now does) =
    let its : n ≡ request → is w = subst (Of request is n) was so in
    subst (Of request is n) (sym now) (λ named. c w v (its named) (subst (λ (m : ℕ). Heard m w v) named does))

-- what is so of a request's work is so behind a call, or the call does something else
pub one_call : (session : ℕ) (outs : List (Option Order)) (request : ℕ) (is : Work → Type 0) (else : Type 0) (old : Host) (out : Option Order) (new : Host) → ComesTo session outs old → CarriesOne request is else old out new →
    IsCall old out new → Has is old request → Has is new request ⊎ else
one_call session outs request is else old out new comes c call it =
    let k = has_kept is old request (kept_all session outs old comes).apart it in
    let on : CarriesOn session old out new (Of request is) (Another request) (Of request (λ w. is w ⊎ else)) (Another request) =
    record { moves = λ n before after so m. carry session request is else old out new c n before after so m; begun = λ n another still. another; missing = λ n another still. another } in
    let words : CarriesWords session (Of request is) (Another request) =
    record { moves = λ n before after so m. carry_words session request is c.words n before after so m; begun = λ n another still. another; missing = λ n another still. another } in
    let after = kept_has (λ w. is w ⊎ else) new request (call_kept old out new (same_sessions session outs old comes) on words k call) in
    by_so after.work after.at after.so
  where
    by_so : (w : Work) → IsWorkIn new request w → is w ⊎ else → Has is new request ⊎ else
    by_so w at (inl so) = inl (record { work = w; at = at; so = so })
    by_so w at (inr other) = inr other
