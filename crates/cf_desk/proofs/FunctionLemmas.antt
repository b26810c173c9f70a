-- How many functions the first stages of a plan need.
use Rattle.std.proofs.Common.{◌≡◌, ℕ, ◌+◌, ◌<◌, max, List, [], ◌∷◌, length, drop, get_or, add-one, drop-cons, arith, refl, ap, sym, ◌∙◌}
use Rattle.std.proofs.lemmas.Option.{slice_get-get_or}
use Rattle.std.specs.Prelude.{None}
use Rattle.std.specs.Option.{option_map_or}
use Rattle.cf_forms.specs.declared.forms.Form.TheVariants.{Source}
use Rattle.cf_forms.specs.Plans.{PlannedStage, function_at}
use Rattle.cf_desk.specs.Functions.{function_above, function_bound}

-- with the bound of the stages before, that of the rest gives that of all
pub next_bound : (stages : List PlannedStage) (i bound whole : ℕ) → i < length stages → max bound (function_bound (drop i stages)) ≡ whole →
    max (max (function_above (function_at stages i)) bound) (function_bound (drop (i + 1) stages)) ≡ whole
next_bound stages i bound whole l e =
    let d : PlannedStage = record { form = Source; sources = []; function = None } in
    let split : drop i stages ≡ get_or stages i d ∷ drop (i + 1) stages = rw (add-one, drop-cons stages i d) refl in
    let here : function_at stages i ≡ (get_or stages i d).function = ap (λ x. option_map_or (λ (s : PlannedStage). s.function) x None) (slice_get-get_or stages i d l) in
    let all : max bound (max (function_above (get_or stages i d).function) (function_bound (drop (i + 1) stages))) ≡ whole = ap (λ l. max bound (function_bound l)) (sym split) ∙ e in
    let above : function_above (function_at stages i) ≡ function_above (get_or stages i d).function = ap function_above here in
    omega (arith, all, above)
