-- The first work that has a turn.
use Rattle.std.proofs.Common.{◌≡◌, ◌≢◌, ℕ, zero, suc, ◌+◌, ◌<◌, ◌≤◌, inl, inr, Some, List, [], ◌∷◌, ◌∙◌, ap, arith, get_or, length, refl, set, subst, sym}
use Rattle.std.specs.Prelude.{slice_get}
use Rattle.std.proofs.lemmas.Bool.Decides.{eqb_tells}
use Rattle.std.proofs.lemmas.Option.{get_or_from_slice_get}
use Rattle.cf_model.proofs.StateLemmas.{slice_get-set_other}
use Rattle.cf_turn.specs.declared.turn.Turn.{Turn}
use Rattle.cf_turn.specs.Turns.{Moment, Turns}
use Rattle.cf_turn.specs.Works.{Work}
use Rattle.cf_host.specs.declared.request.Request.{Request}
use Rattle.cf_host.specs.Hosts.{FirstTurns, RestTo, RestsIn}
use Rattle.cf_host.specs.Requests.{OnWork}
use Rattle.cf_host.proofs.Effects.{get_set, get_some, length_set, same_some}

-- what an index gives stands there
got : (xs : List Request) (i : ℕ) (x : Request) → i < length xs → x ≡ get_or xs i x → slice_get xs i ≡ Some x
got xs i x there value =
    let it = get_some xs i there in
    it.1 ∙ ap (λ (r : Request). Some r) (sym (value ∙ get_or_from_slice_get xs i it.0 x it.1))

others_set : (old mid : List Request) (place : ℕ) (after : Request) → ((k : ℕ) → place ≤ k → slice_get mid k ≡ slice_get old k) →
    (k : ℕ) → place < k → slice_get (set mid place after) k ≡ slice_get old k
others_set old mid place after kept k above = slice_get-set_other mid place k after (λ e. omega (arith, e, above)) ∙ kept k (omega (arith, above))

rest_set : (at : Moment) (old mid : List Request) (place : ℕ) (after : Request) → RestTo at place old mid → RestTo at place old (set mid place after)
rest_set at old mid place after rest k r low there =
    let it = rest k r low there in
    (it.0, slice_get-set_other mid place k after (λ e. omega (arith, e, low)) ∙ it.1, it.2)

pub turned : (at : Moment) (old mid : List Request) (place : ℕ) (x after d : Request) (t : Turn) → place < length mid → x ≡ get_or mid place x → length mid ≡ length old →
    RestTo at place old mid → ((k : ℕ) → place ≤ k → slice_get mid k ≡ slice_get old k) → OnWork (λ (w v : Work). Turns w at t v) x after →
    FirstTurns at old (get_or (set mid place after) place d).number t (set mid place after)
turned at old mid place x after d t there value count rest kept turns =
    let written = get_set mid place after there in
    let named : after.number ≡ x.number = ap (λ (r : Request). r.number) turns.rest in
    record {
      place = place;
      before = x;
      after = after;
      there = sym (kept place (omega arith)) ∙ got mid place x there value;
      named = sym named ∙ ap (λ (r : Request). r.number) (sym (get_or_from_slice_get (set mid place after) place after d written));
      turns = turns;
      count = length_set mid place after ∙ count;
      rest = rest_set at old mid place after rest;
      is = written;
      others = others_set old mid place after kept;
    }

pub rested : (at : Moment) (old mid : List Request) (place : ℕ) (x after : Request) → place < length mid → x ≡ get_or mid place x → RestTo at place old mid →
    ((k : ℕ) → place ≤ k → slice_get mid k ≡ slice_get old k) → RestsIn at x after → RestTo at (place + 1) old (set mid place after)
rested at old mid place x after there value rest kept rests k r low at_k = elim (eqb_tells k place) [
  | inl p ↦
      let stood = sym (kept place (omega arith)) ∙ got mid place x there value in
      let is : x ≡ r = same_some x r (sym stood ∙ ap (λ (i : ℕ). slice_get old i) (sym p.1) ∙ at_k) in
      (after, ap (λ (i : ℕ). slice_get (set mid place after) i) p.1 ∙ get_set mid place after there, subst (λ (b : Request). RestsIn at b after) is rests)
  | inr p ↦ let other = p.1 in rest_set at old mid place after rest k r (omega (arith, low, other)) at_k
]

pub rested_others : (old mid : List Request) (place : ℕ) (after : Request) → ((k : ℕ) → place ≤ k → slice_get mid k ≡ slice_get old k) →
    (k : ℕ) → place + 1 ≤ k → slice_get (set mid place after) k ≡ slice_get old k
rested_others old mid place after kept k above = others_set old mid place after kept k (omega (arith, above))
