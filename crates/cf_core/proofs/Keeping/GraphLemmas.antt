-- From the stages that a graph keeps to the state that contracts see.
use Rattle.std.proofs.Common.{◌≡◌, ℕ, ◌+◌, ◌-◌, ◌<◌, ◌∷◌, ◌++◌, [], List, true, false, Option, Some, None, length, length-append, suc, zero, arith, ap, sym, ◌∙◌, subst, refl, set, inl, inr, replicate, cond, All, ◌==◌}
use Rattle.std.specs.Prelude.{is_some, slice_get, unwrap_or, option_and_then}
use Rattle.std.specs.Option.{option_map_or}
use Rattle.std.proofs.lemmas.List.Elements.{All-head}
use Rattle.std.proofs.lemmas.Bool.Decides.{eqb_tells, nat_tests}
use Rattle.cf_outcome.specs.declared.outcome.Outcome.{Outcome}
use Rattle.cf_outcome.specs.Outcomes.{wrap}
use Rattle.cf_forms.specs.declared.forms.Args.{Args}
use Rattle.cf_forms.specs.declared.forms.Answer.{Answer}
use Rattle.cf_forms.specs.declared.forms.Landing.{Landing}
use Rattle.cf_forms.specs.declared.forms.Landing.TheVariants.{Settles as Lands, Links}
use Rattle.cf_forms.specs.declared.forms.Form.{Form}
use Rattle.cf_forms.specs.declared.forms.Of.{Of}
use Rattle.cf_forms.specs.Forms.{landing}
use Rattle.cf_forms.specs.Plans.{Planned, PlannedStage, and_stage, attached_stage, fits_form, sources_of, form_at, sources_at}
use Rattle.cf_model.specs.declared.stage.Stage.{Stage}
use Rattle.cf_model.specs.declared.stage.Stage.TheVariants.{Pending, Ready, Claimed, Linked, Settled}
use Rattle.cf_model.specs.declared.replies.Claimed.{Claimed as ClaimReply}
use Rattle.cf_model.specs.declared.replies.Claimed.TheVariants.{Granted}
use Rattle.cf_model.specs.States.{State, outcome_of, outcome_in, outcome_at, stage_at, claim_at, new_states, stages_after}
use Rattle.cf_model.specs.Events.{settled_by, settling, claimed_by, claiming, finished_by, finishing, landed, linked_to, source_outcome, attached_by, attaching}
use Rattle.cf_model.specs.declared.replies.Attached.TheVariants.{At, StagesFull}
use Rattle.cf_model.specs.declared.replies.Finished.TheVariants.{Won, Late, NotYours}
use Rattle.cf_core.specs.declared.kept.KeptStage.{KeptStage}
use Rattle.cf_core.specs.declared.stages.Stages.{Stages}
use Rattle.cf_model.proofs.StateLemmas.{after-unsettled, slice_get-set_other}
use Rattle.cf_core.specs.Keeping.Sound.{AreTreated, StayTaken, StayTakenBut, is_taken, kept_at}
use Rattle.cf_core.specs.Keeping.SoundStages.{AreSound, HasRoom, SameRoom, settled_view_of}
use Rattle.cf_core.specs.Keeping.Landings.{linked_stages, landed_stages}
use Rattle.cf_core.specs.Keeping.Graphs.{AreClaimed, IsInStep}
use Rattle.cf_forms.proofs.PlanLemmas.{growing-and_stage}
use Rattle.cf_core.proofs.Keeping.Moves.{is_steady, outcome_there, settled_view_at}

-- ---- treated stages are seen as they are kept

pub told_stage : (plan : List PlannedStage) (s : Stages) (i : ℕ) → AreSound plan s → i < length plan → AreTreated (i + 1) s.marks → slice_get (settled_view_of plan s) i ≡ Some ((kept_at s.kept.items i).stage)
told_stage plan s i h l treated =
    settled_view_at plan s.kept.items s.marks s.ready s.links s.steps s.turns h i (i + 1) l (is_steady plan s.kept.items s.marks s.ready s.links s.steps s.turns h (i + 1) treated) (omega arith)

pub told_outcome : (plan : List PlannedStage) (s : Stages) (i : ℕ) → AreSound plan s → i < length plan → AreTreated (i + 1) s.marks → outcome_in (settled_view_of plan s) i ≡ outcome_of ((kept_at s.kept.items i).stage)
told_outcome plan s i h l treated = ap (option_and_then outcome_of) (told_stage plan s i h l treated)

pub told_below : (plan : List PlannedStage) (s : Stages) (i j : ℕ) → AreSound plan s → i < length plan → AreTreated (i + 1) s.marks → j < i → outcome_in (settled_view_of plan s) j ≡ outcome_of ((kept_at s.kept.items j).stage)
told_below plan s i j h l treated below =
    outcome_there plan s.kept.items s.marks s.ready s.links s.steps s.turns h j (i + 1) (omega arith) (is_steady plan s.kept.items s.marks s.ready s.links s.steps s.turns h (i + 1) treated) (omega arith)

-- ---- room

pub room_stays : (opened most : ℕ) (old new : Stages) → HasRoom opened most old → SameRoom old new → HasRoom opened most new
room_stays opened most old new h same = (let a = h.0 in let e = same.0 in omega (arith, a, e), λ more. (let a = h.1 more in let e = same.1 in omega (arith, a, e)))

-- ---- settling

pub settles_not : (s : State) (i : ℕ) (o old : Outcome) (seen : List Stage) → seen ≡ s.stages → outcome_in seen i ≡ Some old → (false, record s { stages = seen }) ≡ settling s i o
settles_not s i o old seen same e =
    ap (λ xs. (false, record s { stages = xs })) same ∙ ap (λ y. settled_by y s i o) (sym (ap (λ xs. outcome_in xs i) (sym same) ∙ e))

pub settles_now : (s : State) (i : ℕ) (o : Outcome) (seen new : List Stage) → seen ≡ s.stages → outcome_in seen i ≡ None → new ≡ new_states [] s.plan.stages (set seen i (Settled o)) →
    (true, record s { stages = new }) ≡ settling s i o
settles_now s i o seen new same e is =
    let none : outcome_at s i ≡ None = ap (λ xs. outcome_in xs i) (sym same) ∙ e in
    ap (λ xs. (true, record s { stages = xs })) (is ∙ ap (λ xs. new_states [] s.plan.stages (set xs i (Settled o))) same ∙ ap (λ y. stages_after y s.plan.stages s.stages i o) (sym none))
    ∙ ap (λ y. settled_by y s i o) (sym none)

-- ---- claiming

pub claims_not : (s : State) (who i : ℕ) (x : Stage) (reply : ClaimReply) (seen : List Stage) → seen ≡ s.stages → slice_get seen i ≡ Some x → claimed_by x s who i ≡ (reply, s) → (reply, record s { stages = seen }) ≡ claiming s who i
claims_not s who i x reply seen same e refused =
    let at : stage_at s i ≡ x = ap (λ xs. unwrap_or (slice_get xs i) Pending) (sym same) ∙ ap (λ y. unwrap_or y Pending) e in
    ap (λ xs. (reply, record s { stages = xs })) same ∙ sym (ap (λ y. claimed_by y s who i) at ∙ refused)

pub claims_now : (s : State) (who i : ℕ) (args : Args) (seen new : List Stage) → seen ≡ s.stages → slice_get seen i ≡ Some (Ready args) → new ≡ set seen i Claimed →
    (Granted args, record s { stages = new; claims = set s.claims i (Some who) }) ≡ claiming s who i
claims_now s who i args seen new same e is =
    let at : stage_at s i ≡ Ready args = ap (λ xs. unwrap_or (slice_get xs i) Pending) (sym same) ∙ ap (λ y. unwrap_or y Pending) e in
    ap (λ xs. (Granted args, record s { stages = xs; claims = set s.claims i (Some who) })) (is ∙ ap (λ xs. set xs i Claimed) same) ∙ sym (ap (λ y. claimed_by y s who i) at)

-- ---- landing

pub landed_is : (s : State) (i : ℕ) (at : Landing) → outcome_at s i ≡ None → record s { stages = landed_stages s.plan.stages s.stages i at } ≡ landed s i at
landed_is s i (Lands o) none = sym (after-unsettled s i o none)
landed_is s i (Links j) none = by_target (outcome_at s j)
  where
    by_target : (y : Option Outcome) → record s { stages = linked_stages y s.plan.stages s.stages i j } ≡ linked_to y s i j
    by_target (Some o) = sym (after-unsettled s i (wrap o) none)
    by_target None = refl

-- ---- claims

pub AreClaimed-stay : (claims : List (Option ℕ)) (old new : List KeptStage) → AreClaimed claims old → StayTaken old new → AreClaimed claims new
AreClaimed-stay claims old new h stay i who e = stay i (h i who e)

pub AreClaimed-set : (claims : List (Option ℕ)) (old new : List KeptStage) (d w : ℕ) → AreClaimed claims old → StayTaken old new → is_taken ((kept_at new d).stage) ≡ true → AreClaimed (set claims d (Some w)) new
AreClaimed-set claims old new d w h stay here i who e = elim (eqb_tells i d) [
  | inl s ↦ ap (λ n. is_taken ((kept_at new n).stage)) s.1 ∙ here
  | inr s ↦ stay i (h i who (sym (slice_get-set_other claims d i (Some w) s.1) ∙ e))
]

closed : (claims : List (Option ℕ)) (d who : ℕ) → slice_get (set claims d None) d ≡ Some (Some who) → ⊥
closed [] d who e = cc
closed (x ∷ claims) zero who e = cc
closed (x ∷ claims) (suc d) who e = closed claims d who e

pub AreClaimed-closed : (claims : List (Option ℕ)) (old new : List KeptStage) (d : ℕ) → AreClaimed claims old → StayTakenBut d old new → AreClaimed (set claims d None) new
AreClaimed-closed claims old new d h stay i who e = elim (eqb_tells i d) [
  | inl s ↦ absurd (closed claims d who (ap (slice_get (set claims d None)) (sym s.1) ∙ e))
  | inr s ↦ stay i s.1 (h i who (sym (slice_get-set_other claims d i None s.1) ∙ e))
]

-- a stage with an open claim that isn't settled is claimed
pub open_claimed : (stage : Stage) → is_taken stage ≡ true → outcome_of stage ≡ None → stage ≡ Claimed
open_claimed Claimed e f = refl
open_claimed (Settled o) e f = cc
open_claimed Pending e f = cc
open_claimed (Ready args) e f = cc
open_claimed (Linked j) e f = cc

-- nobody's claims
abbrev nobody : ℕ → List (Option ℕ)
nobody n = replicate n None

none_open : (n i who : ℕ) → slice_get (nobody n) i ≡ Some (Some who) → ⊥
none_open zero i who e = cc
none_open (suc n) zero who e = cc
none_open (suc n) (suc i) who e = none_open n i who e

pub no_claims : (n : ℕ) (kept : List KeptStage) → AreClaimed (replicate n None) kept
no_claims n kept i who e = absurd (none_open n i who e)

-- ---- the first of a list

pub first_all : (P : ℕ → Type 0) (xs : List ℕ) (x : ℕ) → All P xs → slice_get xs 0 ≡ Some x → P x
first_all P [] x h e = cc
first_all P (y ∷ xs) x h e = let same : y ≡ x = cc in subst P same (All-head P y xs h)

-- ---- finishing

pub claim_there : (claims : List (Option ℕ)) (i who : ℕ) → option_map_or (λ w. w == who) (unwrap_or (slice_get claims i) None) false ≡ true → slice_get claims i ≡ Some (Some who)
claim_there [] i who e = cc
claim_there (None ∷ claims) zero who e = cc
claim_there (Some w ∷ claims) zero who e = let same : w ≡ who = grind (arith, nat_tests) in ap (λ n. Some (Some n)) same
claim_there (x ∷ claims) (suc i) who e = claim_there claims i who e

pub finishes_late : (s : State) (who i : ℕ) (answer : Answer) (old : Outcome) (seen : List Stage) → seen ≡ s.stages → option_map_or (λ w. w == who) (claim_at s i) false ≡ true → outcome_in seen i ≡ Some old →
    (Late, record s { stages = seen; claims = set s.claims i None }) ≡ finishing s who i answer
finishes_late s who i answer old seen same has e =
    let at : outcome_at s i ≡ Some old = ap (λ xs. outcome_in xs i) (sym same) ∙ e in
    ap (λ xs. (Late, record s { stages = xs; claims = set s.claims i None })) same
    ∙ sym (ap (λ b. cond b (finished_by (outcome_at s i) (record s { claims = set s.claims i None }) i answer) (NotYours, s)) has
    ∙ ap (λ y. finished_by y (record s { claims = set s.claims i None }) i answer) at)

pub finishes_now : (s : State) (who i : ℕ) (answer : Answer) (source : Option Outcome) (at : Landing) (seen new : List Stage) → seen ≡ s.stages → option_map_or (λ w. w == who) (claim_at s i) false ≡ true →
    outcome_in seen i ≡ None → source ≡ option_and_then (outcome_in seen) (slice_get (sources_at s.plan.stages i) 0) → at ≡ landing (form_at s.plan.stages i) i source answer → new ≡ landed_stages s.plan.stages seen i at →
    (Won, record s { stages = new; claims = set s.claims i None }) ≡ finishing s who i answer
finishes_now s who i answer source at seen new same has e from lands is =
    let before : State = record s { claims = set s.claims i None } in
    let none : outcome_at s i ≡ None = ap (λ xs. outcome_in xs i) (sym same) ∙ e in
    let source_is : source ≡ source_outcome before i = from ∙ ap (λ xs. option_and_then (outcome_in xs) (slice_get (sources_at s.plan.stages i) 0)) same in
    let at_is : at ≡ landing (form_at s.plan.stages i) i (source_outcome before i) answer = lands ∙ ap (λ x. landing (form_at s.plan.stages i) i x answer) source_is in
    ap (λ xs. (Won, record s { stages = xs; claims = set s.claims i None })) (is ∙ ap (λ xs. landed_stages s.plan.stages xs i at) same)
    ∙ ap (λ r. (Won, r)) (landed_is before i at none ∙ ap (landed before i) at_is)
    ∙ sym (ap (λ b. cond b (finished_by (outcome_at s i) before i answer) (NotYours, s)) has ∙ ap (λ y. finished_by y before i answer) none)

-- ---- attaching

pub attaches_not : (s : State) (new : PlannedStage) → s.plan.room ≡ 0 → (StagesFull, s) ≡ attaching s new
attaches_not s new e = sym (ap (λ room. attached_by room s new) e)

attaches_by : (room : ℕ) (s : State) (new : PlannedStage) (seen grown : List Stage) → 0 < room → seen ≡ s.stages → grown ≡ new_states [] (s.plan.stages ++ new ∷ []) (seen ++ Pending ∷ []) →
    (At (length s.plan.stages), record s { plan = and_stage s.plan new; stages = grown; claims = s.claims ++ None ∷ [] }) ≡ attached_by room s new
attaches_by zero s new seen grown l same is = absurd (omega arith)
attaches_by (suc room) s new seen grown l same is =
    ap (λ xs. (At (length s.plan.stages), record s { plan = and_stage s.plan new; stages = xs; claims = s.claims ++ None ∷ [] }))
    (is ∙ ap (λ xs. new_states [] (s.plan.stages ++ new ∷ []) (xs ++ Pending ∷ [])) same)

pub attaches_now : (s : State) (new : PlannedStage) (seen grown : List Stage) → 0 < s.plan.room → seen ≡ s.stages → grown ≡ new_states [] (s.plan.stages ++ new ∷ []) (seen ++ Pending ∷ []) →
    (At (length s.plan.stages), record s { plan = and_stage s.plan new; stages = grown; claims = s.claims ++ None ∷ [] }) ≡ attaching s new
attaches_now s new seen grown l same is = attaches_by s.plan.room s new seen grown l same is

-- nobody has claimed the stage that is attached
push-open : (claims : List (Option ℕ)) (i who : ℕ) → slice_get (claims ++ None ∷ []) i ≡ Some (Some who) → slice_get claims i ≡ Some (Some who)
push-open [] zero who e = cc
push-open [] (suc i) who e = cc
push-open (x ∷ claims) zero who e = e
push-open (x ∷ claims) (suc i) who e = push-open claims i who e

pub AreClaimed-push : (claims : List (Option ℕ)) (old new : List KeptStage) → AreClaimed claims old → StayTaken old new → AreClaimed (claims ++ None ∷ []) new
AreClaimed-push claims old new h stay i who e = stay i (h i who (push-open claims i who e))

-- what is true of a graph between calls stays true when a stage is attached
pub attach_in_step : (plan : Planned) (form : Form) (of : Of) (function : Option ℕ) (s t u : Stages) (claims : List (Option ℕ)) (capacity used : ℕ) → IsInStep plan s claims capacity used → 0 < plan.room →
    fits_form form (length (sources_of of)) (is_some function) ≡ true → All (λ j. j < length plan.stages) (sources_of of) →
    StayTaken s.kept.items t.kept.items → StayTaken t.kept.items u.kept.items → SameRoom s t → SameRoom t u → AreSound (plan.stages ++ attached_stage form of function ∷ []) u →
    IsInStep (and_stage plan (attached_stage form of function)) u (claims ++ None ∷ []) capacity used
attach_in_step plan form of function s t u claims capacity used h room fits lower first then room_first room_then sound =
    let new = attached_stage form of function in
    let longer = length-append plan.stages (new ∷ []) in
    let one : length (new ∷ []) ≡ 1 = refl in
    let more = length-append claims (None ∷ []) in
    let all = h.all_claims in
    let enough = h.claims_room in
    let same : length (plan.stages ++ new ∷ []) + (plan.room - 1) ≡ length plan.stages + plan.room = omega (arith, longer, one, room) in
    record {
      growing = growing-and_stage plan form of function h.growing room fits lower;
      sound = sound;
      all_claims = omega (arith, longer, one, more, all);
      claimed = AreClaimed-push claims s.kept.items u.kept.items h.claimed (λ i e. then i (first i e));
      stages_room = room_stays _ _ t u (room_stays _ _ s t (subst (λ most. HasRoom plan.opened most s) (sym same) h.stages_room) room_first) room_then;
      claims_room = omega (arith, same, enough);
      few_used = h.few_used;
    }
