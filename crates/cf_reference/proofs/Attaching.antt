-- Plans whose stages are listed, and one more stage of them.
use Rattle.std.proofs.Common.{◌≡◌, ℕ, ◌+◌, ◌<◌, ◌∷◌, ◌++◌, [], List, All, Option, None, true, length, length-append, ap, add-one, arith, drop, refl, suc, sym, take, zero, ◌∙◌}
use Rattle.std.specs.Prelude.{is_some}
use Rattle.std.proofs.Math.Seq.{drop-append_seam, take-append_seam}
use Rattle.std.proofs.lemmas.List.{take_all}
use Rattle.cf_forms.specs.declared.forms.Form.{Form}
use Rattle.cf_forms.specs.declared.forms.Of.{Of}
use Rattle.cf_forms.specs.declared.limits.Limit.{Limit}
use Rattle.cf_forms.specs.Plans.{Planned, PlannedStage, and_stage, attached_stage, fits_form, form_at, function_at, plan_of, sources_at, sources_of}
use Rattle.cf_model.specs.declared.stage.Stage.{Stage}
use Rattle.cf_model.specs.declared.stage.Stage.TheVariants.{Pending}
use Rattle.cf_forms.proofs.PlanLemmas.{growing-and_stage}
use Rattle.cf_reference.specs.References.{IsInStep, grown}

-- one more of a plan's stages
take_next : (plan : List PlannedStage) (i : ℕ) → i < length plan →
    take i plan ++ record { form = form_at plan i; sources = sources_at plan i; function = function_at plan i } ∷ [] ≡ take (suc i) plan
take_next [] i l = absurd (omega arith)
take_next (p ∷ plan) zero l = refl
take_next (p ∷ plan) (suc i) l = ap (λ r. p ∷ r) (take_next plan i (omega arith))

-- the same stage behind the same stages
both_more : (xs ys : List PlannedStage) (f g : Form) (s t : List ℕ) (m n : Option ℕ) → xs ≡ ys → f ≡ g → s ≡ t → m ≡ n →
    xs ++ record { form = f; sources = s; function = m } ∷ [] ≡ ys ++ record { form = g; sources = t; function = n } ∷ []
both_more xs ys f g s t m n before form sources function = rw (before, form, sources, function) refl

-- two plans have one stage more in common
pub same_more : (a b : List PlannedStage) (i : ℕ) → i < length a → i < length b → take i a ≡ take i b → form_at a i ≡ form_at b i → sources_at a i ≡ sources_at b i →
    function_at a i ≡ function_at b i → take (i + 1) a ≡ take (i + 1) b
same_more a b i in_a in_b before form sources function =
    let more = both_more (take i a) (take i b) (form_at a i) (form_at b i) (sources_at a i) (sources_at b i) (function_at a i) (function_at b i) before form sources function in
    rw add-one (sym (take_next a i in_a) ∙ more ∙ take_next b i in_b)

-- two plans that were built have the same stages and limits
pub same_built : (a b : Planned) (n : ℕ) → a ≡ plan_of a.stages a.limits → b ≡ plan_of b.stages b.limits → n ≡ length a.stages → n ≡ length b.stages →
    take n a.stages ≡ take n b.stages → a.limits ≡ b.limits → a ≡ b
same_built a b n first other so_many as_many stages limits =
    let all : a.stages ≡ b.stages = sym (take_all n a.stages (omega arith)) ∙ stages ∙ take_all n b.stages (omega arith) in
    first ∙ ap (λ xs. plan_of xs a.limits) all ∙ ap (λ ls. plan_of b.stages ls) limits ∙ sym other

-- two lists of one length, each with one more
both_longer : {A B : Type 0} (xs : List A) (ys : List B) (x : A) (y : B) → length xs ≡ length ys → length (xs ++ x ∷ []) ≡ length (ys ++ y ∷ [])
both_longer xs ys x y e = length-append xs (x ∷ []) ∙ ap (λ n. n + 1) e ∙ sym (length-append ys (y ∷ []))

-- the graph stays in step where a stage is attached
pub in_step-attached : (plan : Planned) (stages : List Stage) (claims : List (Option ℕ)) (used : ℕ) (form : Form) (of : Of) (function : Option ℕ) → IsInStep plan stages claims used →
    0 < plan.room → fits_form form (length (sources_of of)) (is_some function) ≡ true → All (λ j. j < length plan.stages) (sources_of of) →
    IsInStep (and_stage plan (attached_stage form of function)) (stages ++ Pending ∷ []) (claims ++ None ∷ []) used
in_step-attached plan stages claims used form of function h room fits lower =
    let new = attached_stage form of function in
    record {
      growing = growing-and_stage plan form of function h.growing room fits lower;
      all_stages = both_longer stages plan.stages Pending new h.all_stages;
      all_claims = both_longer claims plan.stages None new h.all_claims;
      few_used = h.few_used;
    }

-- two plans that have grown alike: with the same stages at their opening, and the same attached
pub record GrownAlike (a b : Planned) (xs ys : List PlannedStage) (m n : ℕ) : Type 0 where
  pub stages : a.stages ≡ b.stages
  pub limits : a.limits ≡ b.limits
  pub attached : xs ≡ ys
  pub room : m ≡ n

pub grown_alike : (a b : Planned) (xs ys : List PlannedStage) (m n : ℕ) → grown a xs m ≡ grown b ys n → GrownAlike a b xs ys m n
grown_alike a b xs ys m n e =
    let opened : length a.stages ≡ length b.stages = ap (λ (p : Planned). p.opened) e in
    let all : a.stages ++ xs ≡ b.stages ++ ys = ap (λ (p : Planned). p.stages) e in
    record {
      stages = sym (take-append_seam a.stages xs) ∙ ap (λ (l : List PlannedStage). take (length a.stages) l) all ∙ ap (λ (k : ℕ). take k (b.stages ++ ys)) opened ∙ take-append_seam b.stages ys;
      limits = ap (λ (p : Planned). p.limits) e;
      attached = sym (drop-append_seam a.stages xs) ∙ ap (λ (l : List PlannedStage). drop (length a.stages) l) all ∙ ap (λ (k : ℕ). drop k (b.stages ++ ys)) opened ∙ drop-append_seam b.stages ys;
      room = ap (λ (p : Planned). p.room) e;
    }

pub alike_grown : (a b : Planned) (xs ys : List PlannedStage) (m n : ℕ) → GrownAlike a b xs ys m n → grown a xs m ≡ grown b ys n
alike_grown a b xs ys m n same =
    ap (λ (l : List PlannedStage). grown a l m) same.attached ∙ ap (λ (k : ℕ). grown a ys k) same.room
    ∙ ap (λ (l : List PlannedStage). record { stages = l ++ ys; limits = a.limits; opened = length l; room = n }) same.stages
    ∙ ap (λ (l : List Limit). record { stages = b.stages ++ ys; limits = l; opened = length b.stages; room = n }) same.limits
