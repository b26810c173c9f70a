-- A list of cells, as a list of what is kept.
use Rattle.std.proofs.Common.{◌≡◌, ◌<◌, ◌∙◌, ℕ, ℤ, Bool, Option, Some, None, zero, suc, List, [], ◌∷◌, ◌++◌, map, length, set, get_or, replicate, refl, ap, sym, arith}
use Rattle.std.specs.Prelude.{IfNone, option_and_then, slice_get}
use Rattle.std.specs.Option.{option_map}
use Rattle.std.proofs.lemmas.List.{length-map, map-set}
use Rattle.cf_outcome.specs.declared.outcome.Outcome.{Outcome}
use Rattle.cf_forms.specs.declared.forms.Form.{Form}
use Rattle.cf_forms.specs.Forms.{due_of_first, due_one}
use Rattle.cf_model.specs.declared.stage.Stage.TheVariants.{Pending}
use Rattle.cf_core.specs.declared.kept.KeptStage.{KeptStage}
use Rattle.cf_core.specs.declared.cell.Cell.{Cell}
use Rattle.cf_core.specs.declared.cell.Kind.{Kind}
use Rattle.cf_core.specs.declared.cell.Kind.TheVariants as kinds
use Rattle.cf_core.specs.declared.cell.Detail.{Detail}
use Rattle.cf_model.specs.States.{outcome_of}
use Rattle.cf_core.specs.Keeping.Cells.{blank, kept_of, outcome_in, stage_in}
use Rattle.cf_core.specs.Keeping.Treatment.{dated_in, dated_of, due_kept, outcome_part, step_part}
use Rattle.cf_core.specs.Keeping.Sound.{kept_at}
use Rattle.cf_core.proofs.Keeping.Places.{same_put}

pub map_written : (cells : List Cell) (i : ℕ) (c : Cell) → map kept_of (set cells i c) ≡ set (map kept_of cells) i (kept_of c)
map_written cells i c = map-set kept_of cells i c

pub map_blank : (n : ℕ) → map kept_of (replicate n blank) ≡ replicate n (record { stage = Pending; step = 0 })
map_blank zero = refl
map_blank (suc n) = ap (λ ks. record { stage = Pending; step = 0 } ∷ ks) (map_blank n)

-- stage i of the list is what its cell says
pub kept_there : (cells : List Cell) (i : ℕ) (c : Cell) → i < length (map kept_of cells) → c ≡ get_or cells i c → kept_at (map kept_of cells) i ≡ kept_of c
kept_there [] i c l e = absurd (omega (arith, l))
kept_there (x ∷ cells) zero c l e = ap kept_of (sym e)
kept_there (x ∷ cells) (suc i) c l e = kept_there cells i c (omega (arith, l)) e

pub count_kept : (cells : List Cell) → length (map kept_of cells) ≡ length cells
count_kept cells = length-map cells kept_of

pub map_pushed : (cells : List Cell) (c : Cell) → map kept_of (cells ++ c ∷ []) ≡ map kept_of cells ++ kept_of c ∷ []
map_pushed [] c = refl
map_pushed (x ∷ cells) c = ap (λ ks. kept_of x ∷ ks) (map_pushed cells c)

get_there : (cells : List Cell) (i : ℕ) (c : Cell) → i < length (map kept_of cells) → c ≡ get_or cells i c → slice_get (map kept_of cells) i ≡ Some (kept_of c)
get_there [] i c l e = absurd (omega (arith, l))
get_there (x ∷ cells) zero c l e = ap (λ y. Some (kept_of y)) (sym e)
get_there (x ∷ cells) (suc i) c l e = get_there cells i c (omega (arith, l)) e

-- a cell that is settled has its outcome, at its step
pub dated_there : (cells : List Cell) (i : ℕ) (c : Cell) → i < length (map kept_of cells) → c ≡ get_or cells i c → c.kind ≡ kinds.Settled →
    dated_in (map kept_of cells) i ≡ Some (outcome_in c.detail c.flag c.number c.payload, c.step)
dated_there cells i c l e is =
    ap (option_and_then dated_of) (get_there cells i c l e)
    ∙ ap (λ kind. option_map (λ o. (o, c.step)) (outcome_of (stage_in kind c.detail c.flag c.number c.payload))) is

unsettled : (kind : Kind) (detail : Detail) (flag : Bool) (number : ℤ) (payload : ℕ) → (kind ≡ kinds.Settled → ⊥) → outcome_of (stage_in kind detail flag number payload) ≡ None
unsettled kinds.Pending detail flag number payload not = refl
unsettled kinds.Linked detail flag number payload not = refl
unsettled kinds.None detail flag number payload not = refl
unsettled kinds.One detail flag number payload not = refl
unsettled kinds.Two detail flag number payload not = refl
unsettled kinds.Got detail flag number payload not = refl
unsettled kinds.Claimed detail flag number payload not = refl
unsettled kinds.Settled detail flag number payload not = absurd (not refl)

-- and any other has none
pub undated_there : (cells : List Cell) (i : ℕ) (c : Cell) → i < length (map kept_of cells) → c ≡ get_or cells i c → (c.kind ≡ kinds.Settled → ⊥) →
    dated_in (map kept_of cells) i ≡ None
undated_there cells i c l e not =
    ap (option_and_then dated_of) (get_there cells i c l e)
    ∙ ap (option_map (λ o. (o, c.step))) (unsettled c.kind c.detail c.flag c.number c.payload not)

-- what follows from what holds where there is no value
pub none_then : {X : Type 0} {P Q : Type 0} (x : Option X) → (P → Q) → IfNone x P → IfNone x Q
none_then None f p = f p
none_then (Some y) f p = tt

-- ---- a pending stage m, which takes what its one source j has

module _ (form : Form) (cells : List Cell) (j m : ℕ) (from : Cell) (source : j < length (map kept_of cells)) (stage : m < length (map kept_of cells)) (there : from ≡ get_or cells j from) where
  abbrev taken : Option (Outcome × ℕ) → KeptStage
  taken x = due_kept (due_of_first form (outcome_part x)) (step_part x) (kept_at (map kept_of cells) m).step

  -- what is written where the source is settled
  pub takes_one : (at new : Cell) → from.kind ≡ kinds.Settled → at ≡ get_or cells m at → kept_of new ≡ due_kept (due_one form (outcome_in from.detail from.flag from.number from.payload)) from.step at.step →
      map kept_of (set cells m new) ≡ set (map kept_of cells) m (taken (dated_in (map kept_of cells) j))
  takes_one at new settled here is =
      map_written cells m new
      ∙ ap (set (map kept_of cells) m) (is
      ∙ sym (ap taken (dated_there cells j from source there settled)
      ∙ ap (λ (k : KeptStage). due_kept (due_one form (outcome_in from.detail from.flag from.number from.payload)) from.step k.step) (kept_there cells m at stage here)))

  -- and where it isn't, nothing changes
  pub takes_none : (from.kind ≡ kinds.Settled → ⊥) → (kept_at (map kept_of cells) m).stage ≡ Pending → map kept_of cells ≡ set (map kept_of cells) m (taken (dated_in (map kept_of cells) j))
  takes_none not pending =
      let step = (kept_at (map kept_of cells) m).step in
      sym (ap (λ x. set (map kept_of cells) m (taken x)) (undated_there cells j from source there not)
      ∙ same_put (map kept_of cells) m (record { stage = Pending; step = step }) stage (ap (λ stage. record { stage = stage; step = step }) pending))
