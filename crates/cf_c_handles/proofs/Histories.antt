-- Texts that are read one behind the other.
use Rattle.std.proofs.Common.{◌≡◌, ◌∙◌, ℕ, List, [], ◌∷◌, ◌++◌, map, refl, ap, subst, sym, inl, inr, true}
use Rattle.std.specs.Prelude.{Err, None, Ok, Result, String, string_bytes}
use Rattle.std_alloc.specs.Box.{with_value}
use Rattle.std.specs.Global.{Box, Global}
use Rattle.std.proofs.lemmas.List.{append-nil, append_assoc, map_push}
use Rattle.cf_forms.specs.Plans.{Planned, has_place, with_room}
use Rattle.cf_model.specs.States.{start}
use Rattle.cf_telling.specs.Tales.{AreToldOf}
use Rattle.cf_telling.specs.declared.tale.Tale.{Tale}
use Rattle.cf_c_handles.specs.declared.handle.object.History.{History as History'}
use Rattle.cf_c_handles.specs.declared.handle.object.Object.TheVariants.{History, Plan}
use Rattle.cf_c_handles.specs.Histories.{AreTexts, AreUnread, HistoryOf, IsLast, IsNewHistory, IsTextAt, OfHistory, ReadsText, text_at, texts_at}
use Rattle.cf_c_handles.specs.declared.code.Code.{Code}

-- texts were read up to a place, and these ends are left
pub record AreRead (bytes ends : List ℕ) (from : ℕ) (left : List ℕ) (texts : List (String Global)) : Type 0 where
  pub stand : AreTexts bytes from left → AreTexts bytes 0 ends
  pub needed : AreTexts bytes 0 ends → AreTexts bytes from left
  pub are : map string_bytes texts ++ texts_at bytes from left ≡ texts_at bytes 0 ends

-- one more
pub read_more : (bytes ends : List ℕ) (from end : ℕ) (left : List ℕ) (texts : List (String Global)) (text : String Global) → IsTextAt bytes from end → string_bytes text ≡ text_at bytes from end →
    AreRead bytes ends from (end ∷ left) texts → AreRead bytes ends end left (texts ++ text ∷ [])
read_more bytes ends from end left texts text there is h = record {
  stand = λ t. h.stand (there, t);
  needed = λ t. (h.needed t).1;
  are =
      ap (λ (l : List (List ℕ)). l ++ texts_at bytes end left) (map_push string_bytes texts text) ∙
      append_assoc (map string_bytes texts) (string_bytes text ∷ []) (texts_at bytes end left) ∙
      ap (λ (b : List ℕ). map string_bytes texts ++ b ∷ texts_at bytes end left) is ∙
      h.are;
}

-- all of them
pub read_all : (bytes ends : List ℕ) (from : ℕ) (texts : List (String Global)) → AreRead bytes ends from [] texts → AreTexts bytes 0 ends × (map string_bytes texts ≡ texts_at bytes 0 ends)
read_all bytes ends from texts h = (h.stand tt, sym (append-nil (map string_bytes texts)) ∙ h.are)

-- one that doesn't stand there, or for which memory is refused
pub read_none : (bytes ends : List ℕ) (from end : ℕ) (left : List ℕ) (texts : List (String Global)) (code : Code) → ReadsText bytes from end (Err code) →
    AreRead bytes ends from (end ∷ left) texts → AreUnread bytes ends code
read_none bytes ends from end left texts code (inl why) h = inl (why.0, λ t. why.1 (h.needed t).0)
read_none bytes ends from end left texts code (inr why) h = inr why.0

-- what stands behind all others is the last
pub is_last : (others : List (String Global)) (text : String Global) → IsLast (others ++ text ∷ []) text
is_last [] text = refl
is_last (other ∷ []) text = refl
is_last (other ∷ (next ∷ others)) text = is_last (next ∷ others) text

-- a history of all words
pub told_all : (room : ℕ) (words : List ℕ) (p : Planned) (tale : Tale) (made : Box History') → has_place p.stages room ≡ true →
    AreToldOf (start (with_room p room)) words tale.entries.items tale.stop → tale.stop ≡ None → IsNewHistory tale made.value → HistoryOf room words (Plan p) (Ok (History made))
told_all room words p tale made place told none new =
    let s = start (with_room p room) in
    let whole : AreToldOf s words tale.entries.items None = subst (λ stop. AreToldOf s words tale.entries.items stop) none told in
    (place, record { now = made; is = refl; told = subst (λ (t : Tale). AreToldOf s words t.entries.items None) (sym new.is) whole; unspoken = new.unspoken })

-- what is told of a history is told of what stands behind the handle
pub asks : (Asks : History' → Result (Unit {0}) Code → History' → Type 0) (h : Box History') (r : Result (Unit {0}) Code) (new : History') → Asks h.value r new →
    OfHistory Asks (History h) r (History (with_value h new))
asks Asks h r new asked = record { now = with_value h new; is = refl; asked = asked }
