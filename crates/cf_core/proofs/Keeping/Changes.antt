-- Which stages have come further: a stage that is written, a turn, and flags that are kept of it.
use Rattle.std.proofs.Common.{◌≡◌, ◌≢◌, ℕ, ◌<◌, ◌≤◌, ◌∷◌, ◌++◌, [], List, Bool, true, false, Option, Some, None, length, suc, zero, arith, ap, sym, ◌∙◌, subst, refl, set, map, inl, inr}
use Rattle.std.specs.Prelude.{IfSome, slice_get, position, unwrap_or}
use Rattle.std.proofs.lemmas.Bool.Decides.{eqb_tells}
use Rattle.std.proofs.lemmas.List.Quantifiers.{position-Some}
use Rattle.std.proofs.lemmas.Option.{slice_get_within}
use Rattle.cf_outcome.specs.declared.outcome.Outcome.{Outcome}
use Rattle.cf_forms.specs.declared.forms.Due.{Due}
use Rattle.cf_forms.specs.declared.forms.Due.TheVariants.{Waits, Settles, Needs}
use Rattle.cf_forms.specs.Plans.{PlannedStage}
use Rattle.cf_model.specs.declared.stage.Stage.{Stage}
use Rattle.cf_model.specs.declared.stage.Stage.TheVariants.{Pending, Ready, Claimed, Linked, Settled}
use Rattle.cf_model.specs.States.{State, is_ready, lowest_ready_of, outcome_of}
use Rattle.cf_model.specs.Graphs.{AreChanges, MovesAlone, NoneLeftUpTo, rank, stage_in}
use Rattle.cf_model.proofs.StateLemmas.{slice_get-set_other}
use Rattle.cf_core.specs.declared.kept.KeptStage.{KeptStage}
use Rattle.cf_core.specs.declared.kept.Treated.{Treated}
use Rattle.cf_core.specs.declared.kept.Treated.TheVariants.{Same}
use Rattle.cf_core.specs.declared.stages.Stages.{Stages}
use Rattle.cf_core.specs.Keeping.Changes.{HaveMoved}
use Rattle.cf_core.specs.Keeping.Treatment.{became, due_kept, late_due, linked_kept, stages_of, dated_in, treated, treated_by}
use Rattle.cf_core.specs.Keeping.Sound.{kept_at}
use Rattle.cf_core.specs.Keeping.SoundStages.{AreSound, KeptMovesAlone, lowest_marked_in, settled_view_of}
use Rattle.cf_core.specs.Keeping.Taking.{made_of}
use Rattle.cf_core.specs.Keeping.Turns.{planned_at, turned}
use Rattle.cf_core.proofs.Keeping.Above.{leaves_none}
use Rattle.cf_core.proofs.Keeping.Flags.{past_flags}
use Rattle.cf_core.proofs.Keeping.Marking.{get-set_same}
use Rattle.cf_core.proofs.Keeping.Lowest.{all_steady, length-settled_view, none_marked}
use Rattle.cf_core.proofs.Keeping.Places.{kept_put}

-- ---- a stage, as it is kept

pub kept_stage : (kept : List KeptStage) (i : ℕ) → stage_in (stages_of kept) i ≡ (kept_at kept i).stage
kept_stage [] i = refl
kept_stage (k ∷ kept) zero = refl
kept_stage (k ∷ kept) (suc i) = kept_stage kept i

stage_put : (kept : List KeptStage) (d : ℕ) (new : KeptStage) → d < length kept → stage_in (stages_of (set kept d new)) d ≡ new.stage
stage_put kept d new l = kept_stage (set kept d new) d ∙ ap (λ (k : KeptStage). k.stage) (kept_put kept d new l)

stage_other : (kept : List KeptStage) (d : ℕ) (new : KeptStage) (i : ℕ) → i ≢ d → stage_in (stages_of (set kept d new)) i ≡ stage_in (stages_of kept) i
stage_other kept d new i ne =
    kept_stage (set kept d new) i
    ∙ ap (λ x. let k : KeptStage = unwrap_or x (record { stage = Pending; step = 0 }) in k.stage) (slice_get-set_other kept d i new ne)
    ∙ sym (kept_stage kept i)

-- ---- one stage alone

pub alone_none : (d : ℕ) (stages : List Stage) → MovesAlone d stages stages
alone_none d stages = record { others = λ i ne. refl; onward = omega arith; stays = λ e. refl }

-- a stage that is written is the only one that moves
pub alone_written : (kept : List KeptStage) (d : ℕ) (new : KeptStage) → d < length kept → rank ((kept_at kept d).stage) ≤ rank new.stage →
    (rank new.stage ≡ rank ((kept_at kept d).stage) → new.stage ≡ (kept_at kept d).stage) → MovesAlone d (stages_of kept) (stages_of (set kept d new))
alone_written kept d new l onward stays =
    let was = kept_stage kept d in
    let is = stage_put kept d new l in
    record {
      others = λ i ne. stage_other kept d new i ne;
      onward = (let a = ap rank was in let b = ap rank is in omega (arith, onward, a, b));
      stays = λ e. is ∙ stays (ap rank (sym is) ∙ e ∙ ap rank was) ∙ sym was;
    }

pub alone_put : (kept : List KeptStage) (d : ℕ) (new : KeptStage) → d < length kept → rank ((kept_at kept d).stage) < rank new.stage → MovesAlone d (stages_of kept) (stages_of (set kept d new))
alone_put kept d new l less = alone_written kept d new l (omega (arith, less)) (λ e. absurd (omega (arith, less, e)))

-- and it comes further
pub further_put : (kept : List KeptStage) (d : ℕ) (new : KeptStage) → d < length kept → rank ((kept_at kept d).stage) < rank new.stage → rank (stage_in (stages_of kept) d) < rank (stage_in (stages_of (set kept d new)) d)
further_put kept d new l less = let a = ap rank (kept_stage kept d) in let b = ap rank (stage_put kept d new l) in omega (arith, less, a, b)

pub open_rank : (stage : Stage) → outcome_of stage ≡ None → rank stage < 4
open_rank Pending e = omega arith
open_rank (Ready args) e = omega arith
open_rank Claimed e = omega arith
open_rank (Linked j) e = omega arith
open_rank (Settled o) e = cc

pub ready_rank : (stage : Stage) → is_ready stage ≡ true → rank stage ≡ 1
ready_rank (Ready args) e = refl
ready_rank Pending e = cc
ready_rank Claimed e = cc
ready_rank (Linked j) e = cc
ready_rank (Settled o) e = cc

-- ---- one stage more

first_rank : (stage : Stage) → rank stage ≡ 0 → stage ≡ Pending
first_rank Pending e = refl
first_rank (Ready args) e = absurd (omega (arith, e))
first_rank Claimed e = absurd (omega (arith, e))
first_rank (Linked j) e = absurd (omega (arith, e))
first_rank (Settled o) e = absurd (omega (arith, e))

none_behind : (kept : List KeptStage) → stage_in (stages_of kept) (length kept) ≡ Pending
none_behind [] = refl
none_behind (k ∷ kept) = none_behind kept

pushed_other : (kept : List KeptStage) (new : KeptStage) (i : ℕ) → i ≢ length kept → stage_in (stages_of (kept ++ new ∷ [])) i ≡ stage_in (stages_of kept) i
pushed_other [] new zero ne = absurd (ne refl)
pushed_other [] new (suc i) ne = refl
pushed_other (k ∷ kept) new zero ne = refl
pushed_other (k ∷ kept) new (suc i) ne = pushed_other kept new i (λ e. ne (ap suc e))

pub alone_pushed : (kept : List KeptStage) (new : KeptStage) → MovesAlone (length kept) (stages_of kept) (stages_of (kept ++ new ∷ []))
alone_pushed kept new =
    let none = none_behind kept in
    record {
      others = λ i ne. pushed_other kept new i ne;
      onward = (let a = ap rank none in omega (arith, a));
      stays = λ e. first_rank (stage_in (stages_of (kept ++ new ∷ [])) (length kept)) (e ∙ ap rank none) ∙ sym none;
    }

-- ---- a turn

due_moves : (due : Due) (at step : ℕ) → rank ((due_kept due at step).stage) ≡ 0 → (due_kept due at step).stage ≡ Pending
due_moves Waits at step e = refl
due_moves (Settles o) at step e = absurd (omega (arith, e))
due_moves (Needs args) at step e = absurd (omega (arith, e))

link_onward : (j step : ℕ) (x : Option (Outcome × ℕ)) → 3 ≤ rank ((linked_kept j step x).stage)
link_onward j step None = omega arith
link_onward j step (Some x) = omega arith

link_stays : (j step : ℕ) (x : Option (Outcome × ℕ)) → rank ((linked_kept j step x).stage) ≡ 3 → (linked_kept j step x).stage ≡ Linked j
link_stays j step None e = refl
link_stays j step (Some x) e = absurd (omega (arith, e))

treated_onward : (below : List KeptStage) (p : PlannedStage) (stage : Stage) (step : ℕ) → rank stage ≤ rank ((treated_by below p stage step).stage)
treated_onward below p Pending step = omega arith
treated_onward below p (Linked j) step = link_onward j step (dated_in below j)
treated_onward below p (Ready args) step = omega arith
treated_onward below p Claimed step = omega arith
treated_onward below p (Settled o) step = omega arith

treated_stays : (below : List KeptStage) (p : PlannedStage) (stage : Stage) (step : ℕ) → rank ((treated_by below p stage step).stage) ≡ rank stage → (treated_by below p stage step).stage ≡ stage
treated_stays below p Pending step e = let due = late_due p.form (map (dated_in below) p.sources) in due_moves due.0 due.1 step e
treated_stays below p (Linked j) step e = link_stays j step (dated_in below j) e
treated_stays below p (Ready args) step e = refl
treated_stays below p Claimed step e = refl
treated_stays below p (Settled o) step e = refl

pub turn_alone : (plan : List PlannedStage) (kept : List KeptStage) (m : ℕ) → m < length kept → MovesAlone m (stages_of kept) (stages_of (turned plan kept m))
turn_alone plan kept m l =
    let k = kept_at kept m in
    alone_written kept m (treated kept (planned_at plan m) k) l (treated_onward kept (planned_at plan m) k.stage k.step) (treated_stays kept (planned_at plan m) k.stage k.step)

-- what a turn tells: that its stage is as before, or that it has come further

due_same : (due : Due) (at step : ℕ) → became ((due_kept due at step).stage) ≡ Same → rank ((due_kept due at step).stage) ≤ 0
due_same Waits at step e = omega arith
due_same (Settles o) at step e = cc
due_same (Needs args) at step e = cc

due_further : (due : Due) (at step : ℕ) → became ((due_kept due at step).stage) ≢ Same → 0 < rank ((due_kept due at step).stage)
due_further Waits at step ne = absurd (ne refl)
due_further (Settles o) at step ne = omega arith
due_further (Needs args) at step ne = omega arith

link_same : (j step : ℕ) (x : Option (Outcome × ℕ)) → became ((linked_kept j step x).stage) ≡ Same → rank ((linked_kept j step x).stage) ≤ 3
link_same j step None e = omega arith
link_same j step (Some x) e = cc

link_further : (j step : ℕ) (x : Option (Outcome × ℕ)) → became ((linked_kept j step x).stage) ≢ Same → 3 < rank ((linked_kept j step x).stage)
link_further j step None ne = absurd (ne refl)
link_further j step (Some x) ne = omega arith

treated_same : (below : List KeptStage) (p : PlannedStage) (stage : Stage) (step : ℕ) → made_of stage ((treated_by below p stage step).stage) ≡ Same → rank ((treated_by below p stage step).stage) ≤ rank stage
treated_same below p Pending step e = let due = late_due p.form (map (dated_in below) p.sources) in due_same due.0 due.1 step e
treated_same below p (Linked j) step e = link_same j step (dated_in below j) e
treated_same below p (Ready args) step e = omega arith
treated_same below p Claimed step e = omega arith
treated_same below p (Settled o) step e = omega arith

treated_further : (below : List KeptStage) (p : PlannedStage) (stage : Stage) (step : ℕ) → made_of stage ((treated_by below p stage step).stage) ≢ Same → rank stage < rank ((treated_by below p stage step).stage)
treated_further below p Pending step ne = let due = late_due p.form (map (dated_in below) p.sources) in due_further due.0 due.1 step ne
treated_further below p (Linked j) step ne = link_further j step (dated_in below j) ne
treated_further below p (Ready args) step ne = absurd (ne refl)
treated_further below p Claimed step ne = absurd (ne refl)
treated_further below p (Settled o) step ne = absurd (ne refl)

module _ (plan : List PlannedStage) (kept new : List KeptStage) (m : ℕ) (told : Treated) (l : m < length kept) (is : new ≡ turned plan kept m)
    (says : told ≡ made_of ((kept_at kept m).stage) ((kept_at new m).stage)) where
  there : kept_at new m ≡ treated kept (planned_at plan m) (kept_at kept m)
  there = ap (λ ks. kept_at ks m) is ∙ kept_put kept m (treated kept (planned_at plan m) (kept_at kept m)) l

  by_treatment : told ≡ made_of ((kept_at kept m).stage) ((treated kept (planned_at plan m) (kept_at kept m)).stage)
  by_treatment = says ∙ ap (λ (k : KeptStage). made_of ((kept_at kept m).stage) k.stage) there

  rank_now : rank (stage_in (stages_of new) m) ≡ rank ((treated kept (planned_at plan m) (kept_at kept m)).stage)
  rank_now = ap rank (kept_stage new m ∙ ap (λ (k : KeptStage). k.stage) there)

  pub turn_same_rank : told ≡ Same → rank (stage_in (stages_of new) m) ≤ rank (stage_in (stages_of kept) m)
  turn_same_rank e =
      let k = kept_at kept m in
      let least = treated_same kept (planned_at plan m) k.stage k.step (sym by_treatment ∙ e) in
      let was = ap rank (kept_stage kept m) in
      let now = rank_now in
      omega (arith, least, was, now)

  pub turn_further : told ≢ Same → rank (stage_in (stages_of kept) m) < rank (stage_in (stages_of new) m)
  turn_further ne =
      let k = kept_at kept m in
      let more = treated_further kept (planned_at plan m) k.stage k.step (λ e. ne (by_treatment ∙ e)) in
      let was = ap rank (kept_stage kept m) in
      let now = rank_now in
      omega (arith, more, was, now)

-- ---- flags

-- at the beginning no flag is set, and no stage has moved
pub moved_none : (stages : List Stage) (changed : List Bool) → position (λ b. b) changed ≡ None → HaveMoved stages stages changed
moved_none stages changed none = record {
  same = λ i e. refl;
  further = λ i e. (let no = none_marked changed (length changed) none (omega arith) i (slice_get_within changed i true e) in let is : Some true ≡ Some false = sym e ∙ no in cc);
}

-- a stage moves, and its flag is set
pub moved_on : (old mid new : List Stage) (changed : List Bool) (d : ℕ) → d < length changed → HaveMoved old mid changed → MovesAlone d mid new → rank (stage_in mid d) < rank (stage_in new d) →
    HaveMoved old new (set changed d true)
moved_on old mid new changed d l h alone less = record {
  same = λ i e. elim (eqb_tells i d) [
    | inl s ↦ (let same = s.1 in let is : Some true ≡ Some false = sym (ap (slice_get (set changed d true)) same ∙ get-set_same changed d true l) ∙ e in cc)
    | inr s ↦ alone.others i s.1 ∙ h.same i (sym (slice_get-set_other changed d i true s.1) ∙ e)
  ];
  further = λ i e. elim (eqb_tells i d) [
    | inl s ↦ subst (λ n. rank (stage_in old n) < rank (stage_in new n)) (sym s.1) (further_here (slice_get changed d) refl)
    | inr s ↦ subst (λ x. rank (stage_in old i) < rank x) (sym (alone.others i s.1)) (h.further i (sym (slice_get-set_other changed d i true s.1) ∙ e))
  ];
}
  where
    further_here : (x : Option Bool) → slice_get changed d ≡ x → rank (stage_in old d) < rank (stage_in new d)
    further_here None e = absurd (omega (arith, l, past_flags changed d e))
    further_here (Some false) e = let a = ap rank (h.same d e) in omega (arith, a, less)
    further_here (Some true) e = let a = h.further d e in omega (arith, a, less)

-- or it doesn't move
pub moved_not : (old mid new : List Stage) (changed : List Bool) (d : ℕ) → HaveMoved old mid changed → MovesAlone d mid new → rank (stage_in new d) ≤ rank (stage_in mid d) → HaveMoved old new changed
moved_not old mid new changed d h alone least = record {
  same = λ i e. all_same i ∙ h.same i e;
  further = λ i e. subst (λ x. rank (stage_in old i) < rank x) (sym (all_same i)) (h.further i e);
}
  where
    all_same : (i : ℕ) → stage_in new i ≡ stage_in mid i
    all_same i = elim (eqb_tells i d) [
      | inl s ↦ ap (stage_in new) s.1 ∙ alone.stays (let on = alone.onward in omega (arith, on, least)) ∙ ap (stage_in mid) (sym s.1)
      | inr s ↦ alone.others i s.1
    ]

-- stages that have moved differ
pub moved_changes : (old new : List Stage) (changed : List Bool) → HaveMoved old new changed → AreChanges old new changed
moved_changes old new changed h = record {
  same = h.same;
  differs = λ i e same. (let less = h.further i e in let is = ap rank same in absurd (omega (arith, less, is)));
}

-- ---- where no turn is left, the state is what is kept

pub kept_all : (plan : List PlannedStage) (s : Stages) → AreSound plan s → position (λ b. b) s.marks ≡ None → stages_of s.kept.items ≡ settled_view_of plan s
kept_all plan s h none =
    ap stages_of (sym (all_steady plan s.kept.items s.marks s.ready s.links s.steps s.turns h (none_marked s.marks (length plan) none (omega (arith, h.all_marks)))))

-- there is a state for each stage
pub all_in_view : (plan : List PlannedStage) (s : Stages) → AreSound plan s → length (settled_view_of plan s) ≡ length plan
all_in_view plan s h = length-settled_view plan s.kept.items ∙ h.all_kept

-- so the lowest ready stage is there
pub lowest_there : (s : State) (o : Option ℕ) → o ≡ lowest_ready_of s → length s.stages ≡ length s.plan.stages → IfSome o (λ i. i < length s.plan.stages)
lowest_there s None is all = tt
lowest_there s (Some i) is all = let at = (position-Some is_ready s.stages i Pending (sym is)).0 in omega (arith, at, all)

-- where no turn was left, treating stages changes nothing
pub rests_alone : (i : ℕ) (s t : Stages) → (NoneLeftUpTo i (lowest_marked_in s) → t ≡ s) → lowest_marked_in s ≡ None → KeptMovesAlone i s t
rests_alone i s t still none =
    let same = still (subst (NoneLeftUpTo i) (sym none) tt) in
    subst (KeptMovesAlone i s) (sym same) (alone_none i (stages_of s.kept.items), leaves_none i (lowest_marked_in s) none)
