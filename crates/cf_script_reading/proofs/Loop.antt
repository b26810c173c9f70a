-- A loop over the items of an array, up to the first fault.
use Rattle.std.proofs.Common.{◌≡◌, ℕ, ◌+◌, ◌<◌, ◌≤◌, List, length, drop, get_or, ap, sym, subst, ◌∙◌, Result, Ok, drop_of_length-le}
use Rattle.std.proofs.lemmas.List.{at_drop_more}
use Rattle.serde_json.specs.declared.value.Value.{Value}
use Rattle.serde_json.specs.Data.{Data, item}
use Rattle.serde_json.specs.View.{view, items_view}
use Rattle.cf_script_reading.specs.declared.fault.ReadingFault.{ReadingFault}
use Rattle.cf_script_reading.specs.declared.fault.ReadingFault.TheVariants as faults
use Rattle.cf_script_reading.specs.Checks.{Fails, ◌>>=◌, fold_items}

-- what fails fails whatever comes after it
pub fails_after : {A B : Type 0} (e : ReadingFault) (r : Result A ReadingFault) (f : A → Result B ReadingFault) → Fails e r → Fails e (r >>= f)
fails_after faults.TooLong r f h = ap (λ x. x >>= f) h
fails_after faults.NotJson r f h = ap (λ x. x >>= f) h
fails_after (faults.Shape p) r f h = ap (λ x. x >>= f) h
fails_after (faults.Plan p k) r f h = ap (λ x. x >>= f) h
fails_after (faults.Function k) r f h = ap (λ x. x >>= f) h
fails_after (faults.Step k) r f h = ap (λ x. x >>= f) h
fails_after faults.Read r f h = h
fails_after faults.NoMemory r f h = tt

module _ {S : Type 0} (next : S → Data → Result S ReadingFault) where
  -- the item at i is the next one
  pub at_item : (s : S) (vs : List Value) (i : ℕ) (v : Value) → i < length vs → v ≡ get_or vs i v
      → fold_items next s (items_view (drop i vs)) ≡ (next s (view v) >>= λ t. fold_items next t (items_view (drop (i + 1) vs)))
  unfolding fold_items
  at_item s vs i v h e =
      at_drop_more (λ l. fold_items next s (items_view l)) vs i v h
      ∙ ap (λ x. fold_items next s (item (view x) (items_view (drop (i + 1) vs)))) (sym e)

  pub goes_on : (s t : S) (vs : List Value) (i : ℕ) (v : Value) (whole : Result S ReadingFault) → i < length vs → v ≡ get_or vs i v
      → next s (view v) ≡ Ok t → fold_items next s (items_view (drop i vs)) ≡ whole → fold_items next t (items_view (drop (i + 1) vs)) ≡ whole
  goes_on s t vs i v whole h e step so_far =
      ap (λ r. r >>= λ u. fold_items next u (items_view (drop (i + 1) vs))) (sym step) ∙ sym (at_item s vs i v h e) ∙ so_far

  pub fails_at : (fault : ReadingFault) (s : S) (vs : List Value) (i : ℕ) (v : Value) (whole : Result S ReadingFault) → i < length vs → v ≡ get_or vs i v
      → Fails fault (next s (view v)) → fold_items next s (items_view (drop i vs)) ≡ whole → Fails fault whole
  fails_at fault s vs i v whole h e fails so_far =
      subst (Fails fault) (sym (at_item s vs i v h e) ∙ so_far) (fails_after fault (next s (view v)) _ fails)

  pub is_done : (s : S) (vs : List Value) (i : ℕ) (whole : Result S ReadingFault) → length vs ≤ i
      → fold_items next s (items_view (drop i vs)) ≡ whole → whole ≡ Ok s
  unfolding fold_items
  is_done s vs i whole h so_far = sym so_far ∙ ap (λ l. fold_items next s (items_view l)) (drop_of_length-le vs h)
