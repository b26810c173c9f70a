-- Where no turn is left, none is taken.
use Rattle.std.proofs.Common.{◌≡◌, ℕ, ◌+◌, ◌<◌, ◌||◌, ◌∷◌, [], List, Option, Some, None, length, arith, ap, sym, ◌∙◌, subst, refl, map, add-one, drop, suc, take, zero}
use Rattle.std.specs.Prelude.{position, slice_get, true, is_some, if◌then◌else◌}
use Rattle.std.specs.List.{list_any}
use Rattle.std.proofs.lemmas.List.Quantifiers.{position-Some}
use Rattle.cf_forms.specs.declared.forms.Form.{Form}
use Rattle.cf_forms.specs.declared.limits.Limit.{Limit}
use Rattle.cf_forms.specs.Forms.{starts}
use Rattle.cf_forms.specs.Plans.{PlannedStage}
use Rattle.cf_model.specs.Graphs.{Graph, NoneLeftFor, NoneLeftUpTo, RestsForLimits, RestsUpTo}
use Rattle.cf_model.specs.declared.stage.Stage.TheVariants.{Pending}
use Rattle.cf_model.specs.States.{is_ready, outcome_in}
use Rattle.cf_core.specs.declared.stages.Stages.{Stages}
use Rattle.cf_core.specs.Keeping.Attaching.{takes_now}
use Rattle.cf_core.specs.Keeping.Treatment.{stages_of}
use Rattle.cf_core.specs.Keeping.Sound.{AreTreated, kept_at}
use Rattle.cf_core.specs.Keeping.SoundStages.{AreSound, settled_view_of}
use Rattle.cf_core.proofs.Keeping.GraphLemmas.{told_stage}
use Rattle.cf_core.proofs.Keeping.Lowest.{all_steady, get_is, length-settled_view, lowest_above}
use Rattle.cf_core.proofs.Keeping.Settling.{sources_part}
use Rattle.cf_core.proofs.Keeping.TurnLemmas.{below_ready}

-- where none is left for the lowest ready stage, the lowest mark isn't below all that are ready
pub none_below_ready : (plan : List PlannedStage) (s : Stages) (m : ℕ) → AreSound plan s → position (λ b. b) s.marks ≡ Some m → AreTreated (m + 1) s.ready →
    NoneLeftFor (position is_ready (settled_view_of plan s)) (position (λ b. b) s.marks) → ⊥
none_below_ready plan s m h lowest below none = by_ready (position is_ready (settled_view_of plan s)) refl none
  where
    by_ready : (x : Option ℕ) → position is_ready (settled_view_of plan s) ≡ x → NoneLeftFor x (position (λ b. b) s.marks) → ⊥
    by_ready None e n = let no : Some m ≡ None = sym lowest ∙ n in cc
    by_ready (Some r) e n =
        let l : r < m = subst (NoneLeftUpTo r) lowest n in
        let p = position-Some is_ready (settled_view_of plan s) r Pending e in
        let within : r < length plan = (let w = p.0 in let all = length-settled_view plan s.kept.items in omega (arith, w, all, h.all_kept)) in
        let told : slice_get (settled_view_of plan s) r ≡ Some ((kept_at s.kept.items r).stage) = told_stage plan s r h within (lowest_above s.marks m r lowest l) in
        let ready : is_ready ((kept_at s.kept.items r).stage) ≡ true = ap is_ready (sym (get_is (settled_view_of plan s) r ((kept_at s.kept.items r).stage) Pending told)) ∙ p.1 in
        let above = below_ready s.kept.items s.ready m h.ready_are below r ready in
        absurd (omega (arith, l, above))

-- ---- attaching

-- once all stages are treated, what a stage takes when it is attached is told by what its sources are seen as
pub takes_is : (plan : List PlannedStage) (s : Stages) (form : Form) (sources : List ℕ) → AreSound plan s → AreTreated (length plan) s.marks →
    takes_now s.kept.items form sources ≡ (starts form sources || list_any is_some (map (outcome_in (settled_view_of plan s)) sources))
takes_is plan s form sources h treated =
    let quiet = all_steady plan s.kept.items s.marks s.ready s.links s.steps s.turns h treated in
    ap (λ r. starts form sources || list_any is_some r) (sym (sources_part s.kept.items sources) ∙ ap (λ ks. map (outcome_in (stages_of ks)) sources) (sym quiet))

-- where no turn is left, attaching takes at most the turn of the new stage
pub attaches_resting : (plan : List PlannedStage) (s t u : Stages) (form : Form) (sources : List ℕ) → t ≡ s → AreSound plan t → AreTreated (length plan) t.marks →
    u.turns ≡ t.turns + (if takes_now t.kept.items form sources then 1 else 0) →
    u.turns ≡ s.turns + (if starts form sources || list_any is_some (map (outcome_in (settled_view_of plan s)) sources) then 1 else 0)
attaches_resting plan s t u form sources same h treated counted =
    counted
    ∙ ap (λ b. t.turns + (if b then 1 else 0)) (takes_is plan t form sources h treated)
    ∙ ap (λ (x : Stages). x.turns + (if starts form sources || list_any is_some (map (outcome_in (settled_view_of plan x)) sources) then 1 else 0)) same

-- ---- limits

none_there : (k : ℕ) (limit : Limit) → slice_get [] k ≡ Some limit → ⊥
none_there k limit e = cc

rests-at : (limits : List Limit) (used k n : ℕ) (limit : Limit) (old mid new : Graph) → n ≡ used + k → slice_get limits n ≡ Some limit → (k ≡ 0 → mid ≡ old) → RestsUpTo limit.stage mid new →
    RestsForLimits (take (k + 1) (drop used limits)) old new
rests-at [] used k n limit old mid new at e h rests = absurd (none_there n limit e)
rests-at (x ∷ limits) zero zero zero limit old mid new at e h rests =
    let same : x ≡ limit = cc in
    subst (λ (g : Graph). RestsUpTo x.stage g new) (h refl) (subst (λ (y : Limit). RestsUpTo y.stage mid new) (sym same) rests)
rests-at (x ∷ limits) zero zero (suc n) limit old mid new at e h rests = absurd (omega (arith, at))
rests-at (x ∷ []) zero (suc k) zero limit old mid new at e h rests = absurd (omega (arith, at))
rests-at (x ∷ []) zero (suc k) (suc n) limit old mid new at e h rests = absurd (none_there n limit e)
rests-at (x ∷ y ∷ limits) zero (suc k) n limit old mid new at e h rests = rw add-one tt
rests-at (x ∷ limits) (suc used) k zero limit old mid new at e h rests = absurd (omega (arith, at))
rests-at (x ∷ limits) (suc used) k (suc n) limit old mid new at e h rests = rests-at limits used k n limit old mid new (omega (arith, at)) e h rests

-- one limit more: the first needs no turn where none is left up to its stage, and of several nothing is said
pub rests-more : (limits : List Limit) (used k : ℕ) (limit : Limit) (old mid new : Graph) → slice_get limits (used + k) ≡ Some limit → (k ≡ 0 → mid ≡ old) → RestsUpTo limit.stage mid new →
    RestsForLimits (take (k + 1) (drop used limits)) old new
rests-more limits used k limit old mid new e h rests = rests-at limits used k (used + k) limit old mid new refl e h rests
