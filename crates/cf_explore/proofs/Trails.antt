-- Trails that grow.
use Rattle.std.proofs.Common.{◌≡◌, ◌<◌, ◌≤◌, ℕ, List, ◌++◌, All, ap, arith, length, length-append, refl, subst, sym, ◌∙◌, zero, suc}
use Rattle.std.proofs.lemmas.Option.{same_Some, slice_get_within}
use Rattle.cf_explore.specs.declared.layer.Entry.{Entry}
use Rattle.cf_explore.specs.declared.trail.Trace.{Trace}
use Rattle.cf_forms.specs.Meanings.{Meanings}
use Rattle.cf_forms.proofs.ListLemmas.{slice_get-longer}
use Rattle.cf_explore.specs.Programs.{Programmed, Situated}
use Rattle.cf_explore.specs.Layers.{IsLed, IsLonger, LeadsTo}
use Rattle.cf_explore.specs.Moves.{moved}

pub leads-longer : (m : Meanings) (p : Programmed) (trail later : List Trace) (k n : ℕ) (s : Situated) → LeadsTo m p trail k n s → LeadsTo m p (trail ++ later) k n s
leads-longer m p trail later zero n s h = (h.0, h.1, omega (arith, h.2, length-append trail later))
leads-longer m p trail later (suc k) n s h =
    (h.0, h.1, slice_get-longer trail later n h.0 h.2, leads-longer m p trail later k h.0.before h.1 h.3, h.4, h.5, h.6)

pub all_led-longer : (m : Meanings) (p : Programmed) (trail later : List Trace) (k : ℕ) (entries : List Entry) → All (IsLed m p trail k) entries → All (IsLed m p (trail ++ later) k) entries
all_led-longer m p trail later k entries h = λ i d l. leads-longer m p trail later k _ _ (h i d l)

-- what leads to a number has it in the trail
pub leads-within : (m : Meanings) (p : Programmed) (trail : List Trace) (k n : ℕ) (s : Situated) → LeadsTo m p trail k n s → n < length trail
leads-within m p trail zero n s h = omega (arith, h.0, h.2)
leads-within m p trail (suc k) n s h = slice_get_within trail n h.0 h.2

-- a number is as high as an order that leads to it is long
pub leads-below : (m : Meanings) (p : Programmed) (trail : List Trace) (k n : ℕ) (s : Situated) → LeadsTo m p trail k n s → k ≤ n
leads-below m p trail zero n s h = omega arith
leads-below m p trail (suc k) n s h = (let before = leads-below m p trail k h.0.before h.1 h.3 in omega (arith, before, h.6))

-- a number stands for one situation, to which orders of one length lead
pub leads-one : (m : Meanings) (p : Programmed) (trail : List Trace) (k j n : ℕ) (s t : Situated) → LeadsTo m p trail k n s → LeadsTo m p trail j n t → (k ≡ j) × (s ≡ t)
leads-one m p trail zero zero n s t h g = (refl, h.1 ∙ sym g.1)
leads-one m p trail zero (suc j) n s t h g = absurd (omega (arith, h.0, g.6))
leads-one m p trail (suc k) zero n s t h g = absurd (omega (arith, g.0, h.6))
leads-one m p trail (suc k) (suc j) n s t h g =
    let same : h.0 ≡ g.0 = same_Some h.0 g.0 (sym h.2 ∙ g.2) in
    let there : LeadsTo m p trail k g.0.before h.1 = subst (λ (x : Trace). LeadsTo m p trail k x.before h.1) same h.3 in
    let before = leads-one m p trail k j g.0.before h.1 g.1 there g.3 in
    let to : moved m p h.1 h.0.by ≡ moved m p g.1 g.0.by = ap (λ (x : Trace). moved m p h.1 x.by) same ∙ ap (λ (x : Situated). moved m p x g.0.by) before.1 in
    (ap suc before.0, h.5 ∙ to ∙ sym g.5)

pub leads-later : (m : Meanings) (p : Programmed) (trail longer : List Trace) (k n : ℕ) (s : Situated) → IsLonger trail longer → LeadsTo m p trail k n s → LeadsTo m p longer k n s
leads-later m p trail longer k n s h leads = subst (λ (t : List Trace). LeadsTo m p t k n s) (sym h.1) (leads-longer m p trail h.0 k n s leads)
