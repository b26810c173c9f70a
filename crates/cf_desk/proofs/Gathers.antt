-- Passes that are taken one after another.
use Rattle.cf_forms.specs.Plans.{Planned}
use Rattle.std.proofs.Common.{◌≡◌, ℕ, Bool, true, false, leb, leb-true, leb-false, max, ◌<◌, ◌≤◌, inl, inr, ⊎_elim, length, arith, List, [], ◌∷◌, ◌++◌, map, All, sym, refl, ap, ◌∙◌, subst}
use mathlib.Core.List.{map-append}
use Rattle.std.proofs.lemmas.List.Elements.{All-head, All-tail}
use Rattle.atomic_table.specs.Table.{Me}
use Rattle.cf_model.specs.declared.events.Event.{Event}
use Rattle.cf_desk.specs.declared.row.CallerView.{CallerView}
use Rattle.cf_desk.specs.declared.calls.Kept.{Kept}
use Rattle.cf_model.specs.Graphs.{Graph}
use Rattle.cf_model.specs.States.{State}
use Rattle.cf_desk.specs.Rule.{AllShort}
use Rattle.cf_desk.specs.Views.{Pass, knowns, state_of, IsOneOf, IsLatest, IsLatestOf}
use Rattle.cf_desk.proofs.Meets.{short_more}
use Rattle.cf_desk.specs.Keepings.{AreKept, pass_kept, pass_did}

pub all_at : {A : Type 0} (P : A → Type 0) (xs : List A) (x : A) (ys : List A) → All P (xs ++ x ∷ ys) → P x
all_at P [] x ys h = All-head P x ys h
all_at P (y ∷ xs) x ys h = all_at P xs x ys (All-tail P y (xs ++ x ∷ ys) h)

pub joined_one : (done : List Pass) (p : Pass) (seat new : Me ℕ (List CallerView)) → seat ≡ (knowns done, []) → new ≡ (seat.0 ++ p.known ∷ [], seat.1) → new ≡ (knowns (done ++ p ∷ []), [])
joined_one done p seat new s n =
    n ∙ (λ i. ((s i).0 ++ p.known ∷ [], (s i).1)) ∙ (λ i. (sym (map-append (λ (h : Pass). h.known) done (p ∷ [])) i, []))

pub kept_one : (kept now : List Kept) (done : List Pass) (p : Pass) → AreKept kept done → map pass_kept now ≡ map pass_kept kept ++ pass_did p ∷ [] → AreKept now (done ++ p ∷ [])
kept_one kept now done p h n = n ∙ ap (λ l. l ++ pass_did p ∷ []) h ∙ sym (map-append pass_did done (p ∷ []))

-- the replica that has seen most, with one pass more
one_before : (plan : Planned) (seen : List Event) (ks : List CallerView) (k : CallerView) → (plan ≡ k.setting.plan) × (seen ≡ k.seen) → IsOneOf plan seen (ks ++ k ∷ [])
one_before plan seen [] k h = inl h
one_before plan seen (l ∷ ks) k h = inr (one_before plan seen ks k h)

one_still : (plan : Planned) (seen : List Event) (ks : List CallerView) (k : CallerView) → IsOneOf plan seen ks → IsOneOf plan seen (ks ++ k ∷ [])
one_still plan seen [] k h = absurd h
one_still plan seen (l ∷ ks) k h = ⊎_elim inl (λ r. inr (one_still plan seen ks k r)) h

pub short_push : (n : ℕ) (ks : List CallerView) (k : CallerView) → AllShort n ks → length k.seen ≤ n → AllShort n (ks ++ k ∷ [])
short_push n [] k h le = (le, tt)
short_push n (l ∷ ks) k h le = (h.0, short_push n ks k h.1 le)

knowns_push : (ps : List Pass) (p : Pass) → knowns (ps ++ p ∷ []) ≡ knowns ps ++ p.known ∷ []
knowns_push ps p = map-append (λ (h : Pass). h.known) ps (p ∷ [])

latest_new : (most : ℕ) (s : State) (ps : List Pass) (p : Pass) (count : ℕ) (replica : State) → most < count → count ≡ length p.known.seen → replica ≡ state_of p.known → IsLatest most s (knowns ps) → IsLatest count replica (knowns (ps ++ p ∷ []))
latest_new most s ps p count replica more is state h = subst (IsLatest count replica) (sym (knowns_push ps p)) (record {
  plan = p.known.setting.plan;
  seen = p.known.seen;
  state = state;
  count = is;
  one = one_before p.known.setting.plan p.known.seen (knowns ps) p.known (refl, refl);
  short = short_push count (knowns ps) p.known (short_more most count (omega arith) (knowns ps) h.short) (omega arith);
})

latest_still : (most now : ℕ) (s replica : State) (ps : List Pass) (p : Pass) (count : ℕ) → now ≡ most → replica ≡ s → count ≤ most → count ≡ length p.known.seen → IsLatest most s (knowns ps) → IsLatest now replica (knowns (ps ++ p ∷ []))
latest_still most now s replica ps p count same kept less is h = subst (IsLatest now replica) (sym (knowns_push ps p)) (record {
  plan = h.plan;
  seen = h.seen;
  state = kept ∙ h.state;
  count = same ∙ h.count;
  one = one_still h.plan h.seen (knowns ps) p.known h.one;
  short = short_push now (knowns ps) p.known (subst (λ (n : ℕ). AllShort n (knowns ps)) (sym same) h.short) (omega arith);
})

-- the replica of the first pass
pub latest_first : (replica : State) (p : Pass) (count : ℕ) → count ≡ length p.known.seen → replica ≡ state_of p.known → IsLatest count replica (knowns (p ∷ []))
latest_first replica p count is state = record {
  plan = p.known.setting.plan;
  seen = p.known.seen;
  state = state;
  count = is;
  one = inl (refl, refl);
  short = (omega arith, tt);
}

pub latest_next : (most now : ℕ) (old mine replica : Graph) (ps : List Pass) (p : Pass) (count : ℕ) → now ≡ max most count → (most < count → replica ≡ mine) → (count ≤ most → replica ≡ old) → count ≡ length p.known.seen → mine.state ≡ state_of p.known
    → IsLatest most old.state (knowns ps) → IsLatest now replica.state (knowns (ps ++ p ∷ []))
latest_next most now old mine replica ps p count n newer older is state h = go (leb count most) refl
  where
    go : (b : Bool) → leb count most ≡ b → IsLatest now replica.state (knowns (ps ++ p ∷ []))
    go true e = let le : count ≤ most = leb-true count most e in latest_still most now old.state replica.state ps p count (omega arith) (ap (λ (x : Graph). x.state) (older le)) le is h
    go false e = let lt : most < count = leb-false count most e in latest_new most old.state ps p now replica.state (omega arith) (let m : now ≡ count = omega arith in m ∙ is) (ap (λ (x : Graph). x.state) (newer lt) ∙ state) h

-- of all passes
pub latest_of_all : (s : State) (most : ℕ) (done all : List Pass) → done ≡ all → IsLatest most s (knowns done) → IsLatestOf all s
latest_of_all s most done all is h = (most, subst (λ (l : List Pass). IsLatest most s (knowns l)) is h)
