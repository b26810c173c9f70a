-- Pieces of a text, one behind the other.
use Rattle.std.proofs.Common.{◌∙◌, ℕ, List, [], ◌∷◌, ◌++◌, ap, append-nil, append_assoc, flat_map, refl, subst, sym}
use Rattle.std.specs.Prelude.{encode_utf8_all}
use Rattle.std.proofs.lemmas.List.{flat_map_more}
use Rattle.cf_telling.specs.Escapes.{written_as}
use Rattle.cf_telling.specs.Texts.{Adds, Written}
use Rattle.cf_telling.specs.declared.text.Within.{Within}

abbrev pub piece : Within → ℕ → List ℕ
piece within c = encode_utf8_all (written_as within c)

pub adds_none : (t : Written) → Adds [] t t
adds_none t = record { whole = λ e. (e, sym (append-nil t.bytes)); short = λ e. refl; within = refl }

pub adds_then : (a b : List ℕ) (x y z : Written) → Adds a x y → Adds b y z → Adds (a ++ b) x z
adds_then a b x y z h k = record {
  whole = λ e. (let second = k.whole e in let first = h.whole second.0 in (first.0, second.1 ∙ ap (λ (l : List ℕ). l ++ b) first.1 ∙ append_assoc x.bytes a b));
  short = λ e. (let first = h.short e in k.short (ap (λ (t : Written). t.is_short) first ∙ e) ∙ first);
  within = k.within ∙ h.within;
}

pub adds_more : (cs : List ℕ) (c : ℕ) (x y z : Written) → Adds (flat_map (piece x.within) cs) x y → Adds (piece y.within c) y z → Adds (flat_map (piece x.within) (cs ++ c ∷ [])) x z
adds_more cs c x y z h k =
    subst (λ (l : List ℕ). Adds l x z) (flat_map_more (piece x.within) [] cs c)
    (adds_then (flat_map (piece x.within) cs) (piece x.within c) x y z h (subst (λ (w : Within). Adds (piece w c) y z) h.within k))
