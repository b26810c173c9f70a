-- Words that attach stages fit behind all that was seen.
use Rattle.std.proofs.Common.{◌≡◌, ℕ, ◌-◌, ◌<◌, ◌≤◌, true, Option, Some, [], ◌∷◌, length, refl, sym, arith, subst}
use Rattle.std.specs.Prelude.{is_some, unwrap_or}
use Rattle.std.proofs.lemmas.List.Elements.{All-head, All-tail, All-weaker}
use Rattle.cf_forms.specs.declared.forms.Form.{Form}
use Rattle.cf_forms.specs.declared.forms.Of.{Of}
use Rattle.cf_forms.specs.declared.forms.Of.TheVariants.{None as NoSource, One, Two}
use Rattle.cf_forms.specs.Plans.{AreBelow, fits_form, sources_of}
use Rattle.cf_model.specs.declared.events.Event.{Event}
use Rattle.cf_model.specs.declared.events.Event.TheVariants.{Attach as Attaches}
use Rattle.cf_model.specs.Calls.{who_of}
use Rattle.cf_model.specs.Ranges.{EventFits}
use Rattle.cf_event.specs.Words.{IsEvent, first_of, second_of, word_of}
use Rattle.cf_event.specs.Decoding.{event_of}
use Rattle.cf_row.specs.Puts.{IsWordFor, attached_by}

-- the word of an event of this caller that fits
pub word_for : (who stages room w : ℕ) (e : Event) → event_of w ≡ Some e → w ≡ word_of e → IsEvent e → who_of e ≡ who → EventFits stages e → attached_by (Some e) ≤ room →
    IsWordFor who stages room w
word_for who stages room w e back is event mine fits left = record {
  event = e;
  read = back;
  named = sym is;
  is = event;
  mine = mine;
  fits = fits;
  left = subst (λ o. attached_by o ≤ room) (sym back) left;
}

-- the sources of a stage are among more stages, too
pub all_below : (n m : ℕ) (of : Of) → n ≤ m → AreBelow n of → AreBelow m of
all_below n m of le below = All-weaker (λ j. j < n) (λ j. j < m) (λ j l. omega arith) (sources_of of) below

-- they have room in a word
few_sources : (n : ℕ) (of : Of) → n ≤ 4096 → AreBelow n of → (first_of of ≤ 4095) × (second_of of ≤ 4095)
few_sources n NoSource few below = (omega arith, omega arith)
few_sources n (One a) few below =
    let l : a < n = All-head (λ j. j < n) a [] below in
    (omega arith, omega arith)
few_sources n (Two a b) few below =
    let l : a < n = All-head (λ j. j < n) a (b ∷ []) below in
    let m : b < n = All-head (λ j. j < n) b [] (All-tail (λ j. j < n) a (b ∷ []) below) in
    (omega arith, omega arith)

-- an attach is an event, where its sources are there
pub is_attach : (who n : ℕ) (form : Form) (of : Of) (function : Option ℕ) → who ≤ 63 → n ≤ 4096 → AreBelow n of → unwrap_or function 0 ≤ 4095 →
    fits_form form (length (sources_of of)) (is_some function) ≡ true → IsEvent (Attaches who form of function)
is_attach who n form of function w few below small fits =
    let sources = few_sources n of few below in
    (w, sources.0, sources.1, small, fits)

-- its word fits
pub attach_for : (who stages room w : ℕ) (form : Form) (of : Of) (function : Option ℕ) → event_of w ≡ Some (Attaches who form of function) →
    w ≡ word_of (Attaches who form of function) → IsEvent (Attaches who form of function) → AreBelow stages of → 1 ≤ room → IsWordFor who stages room w
attach_for who stages room w form of function back is event below left =
    word_for who stages room w (Attaches who form of function) back is event refl (event.4, below) left
