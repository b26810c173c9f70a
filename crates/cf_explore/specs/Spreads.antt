-- What is said of the layer that is being made, by the calls that make it.
use Rattle.std.specs.Prelude.{◌≡◌, ℕ, ◌+◌, ◌*◌, IfNone, IfOk, IfSome, List, Option, Result}
use Rattle.cf_explore.specs.declared.layer.Entry.{Entry}
use Rattle.cf_explore.specs.declared.layer.Layer.{Layer}
use Rattle.cf_explore.specs.declared.step.Move.{Move}
use Rattle.cf_explore.specs.declared.trail.Trace.{Trace}
use Rattle.cf_forms.specs.Meanings.{Meanings}
use Rattle.cf_explore.specs.Programs.{Programmed, Situated}
use Rattle.cf_explore.specs.Moves.{moved}
use Rattle.cf_explore.specs.Layers.{AreNumbered, IsNext, IsNowhere, IsSpread, KeepsLed, LeadsOn, counted, weigh}

-- what is so of the layer, where one was made, and what is so where the search stopped instead; want of memory owes neither
abbrev pub IfMade : {E : Type 0} → Result (Option Layer) E → (Layer → Type 0) → Type 0
IfMade result P = IfOk result (λ made. IfSome made P)

abbrev pub IfStopped : {E : Type 0} → Result (Option Layer) E → Type 0 → Type 0
IfStopped result P = IfOk result (λ made. IfNone made P)

-- what is said of a layer's entries
abbrev pub IsNextLayer : Meanings → Programmed → List Entry → Layer → Type 0
IsNextLayer m p entries layer = IsNext m p entries layer.entries.items

abbrev pub LeadsLayerOn : Meanings → Programmed → List Trace → List Trace → List Entry → Layer → Type 0
LeadsLayerOn m p trail longer entries layer = LeadsOn m p trail longer entries layer.entries.items

abbrev pub IsNumberedFrom : ℕ → List Trace → Layer → Type 0
IsNumberedFrom base trail layer = AreNumbered base trail layer.entries.items

-- and of its entries before a call and after it
abbrev pub IsLayerSpread : Meanings → Programmed → Entry → Layer → Layer → Type 0
IsLayerSpread m p e old new = IsSpread m p e old.entries.items new.entries.items

abbrev pub KeepsLayerLed : Meanings → Programmed → List Trace → List Trace → Layer → Layer → Entry → Type 0
KeepsLayerLed m p trail longer old new e = KeepsLed m p trail longer old.entries.items new.entries.items e

abbrev pub KeepsNumbers : List Trace → List Trace → Layer → Layer → Type 0
KeepsNumbers trail longer old new =
    (base : ℕ) → AreNumbered base trail old.entries.items → AreNumbered base longer new.entries.items

-- the situation after one move from this entry came to the others, by as many orders as lead to the entry
abbrev pub AddsMove : Meanings → Programmed → Entry → Move → Layer → Layer → Type 0
AddsMove m p e by old new =
    (f : Situated → ℕ)
    → counted (weigh f new.entries.items) ≡ counted (weigh f old.entries.items + e.orders * f (moved m p e.situation by))

-- that situation isn't among the layer's
abbrev pub MissesMove : Meanings → Programmed → Entry → Move → Layer → Type 0
MissesMove m p e by layer = IsNowhere layer.entries.items (moved m p e.situation by)
