-- How steps attach stages, and how lines follow one another.
use Rattle.std.proofs.Common.{None, ◌≡◌, ℕ, ◌+◌, ◌-◌, ◌<◌, zero, suc, List, [], ◌∷◌, ◌++◌, length, length-append, drop, get_or, sym, ap, subst, ◌∙◌, append_assoc, add-one, arith, refl}
use Rattle.std.proofs.Math.Seq.{drop-cons}
use Rattle.cf_forms.specs.declared.forms.Form.TheVariants.{Source}
use Rattle.cf_forms.specs.Plans.{Planned, PlannedStage, attached_stage, with_room}
use Rattle.cf_model.specs.declared.events.Event.TheVariants.{Complete as Completes, Fail as Fails, FailAs as FailsAs, Cancel as Cancels, Claim as Claims, Finish as Finishes, Tick as Ticks, Attach as Attaches}
use Rattle.cf_model.specs.States.{State, outcome_at, start}
use Rattle.cf_model.specs.Events.{attached_by}
use Rattle.cf_model.proofs.Shape.{answered-shape}
use Rattle.cf_script_reading.specs.declared.func.Func.{Func}
use Rattle.cf_script_reading.specs.declared.script.Step.{Step}
use Rattle.cf_script_reading.specs.declared.script.Step.TheVariants.{Does, Asks, Work, Nudge}
use Rattle.cf_script_reading.specs.Scripts.{Extent, StepFits, StepsFit, extent_after, extent_of, attached_by as extent_with}
use Rattle.cf_text.specs.Texts.{line}
use Rattle.cf_script.specs.Reports.{after_step, after_steps, step_text, steps_lines, stage_text, stage_lines}
use Rattle.cf_script.proofs.WorkLemmas.{worked-shape}

-- ---- how many stages there are

-- where a stage is attached, the state has the extent that the step leaves
attached-extent : (room : ℕ) (s : State) (new : PlannedStage) → s.plan.room ≡ room →
    extent_of ((attached_by room s new).1.plan) ≡ extent_with (length s.plan.stages) room
attached-extent zero s new is = ap (λ r. record { stages = length s.plan.stages; room = r }) is
attached-extent (suc room) s new is =
    let one : length (new ∷ []) ≡ 1 = refl in
    let more : length (s.plan.stages ++ new ∷ []) ≡ length s.plan.stages + 1 = let sum = length-append s.plan.stages (new ∷ []) in omega (arith, sum, one) in
    let less : s.plan.room - 1 ≡ room = omega (arith, is) in
    ap (λ n. record { stages = n; room = s.plan.room - 1 }) more ∙ ap (λ r. record { stages = length s.plan.stages + 1; room = r }) less

-- so has it after every step
pub after_step-extent : (functions : List Func) (s : State) (x : Step) → extent_of ((after_step functions s x).plan) ≡ extent_after x (extent_of s.plan)
after_step-extent functions s (Does (Attaches who form of function)) = attached-extent s.plan.room s (attached_stage form of function) refl
after_step-extent functions s (Does (Completes who i v)) = ap extent_of (answered-shape s (Completes who i v) refl).plan
after_step-extent functions s (Does (Fails who i code)) = ap extent_of (answered-shape s (Fails who i code) refl).plan
after_step-extent functions s (Does (FailsAs who i failure)) = ap extent_of (answered-shape s (FailsAs who i failure) refl).plan
after_step-extent functions s (Does (Cancels who i)) = ap extent_of (answered-shape s (Cancels who i) refl).plan
after_step-extent functions s (Does (Claims who i)) = ap extent_of (answered-shape s (Claims who i) refl).plan
after_step-extent functions s (Does (Finishes who i answer)) = ap extent_of (answered-shape s (Finishes who i answer) refl).plan
after_step-extent functions s (Does (Ticks who now)) = ap extent_of (answered-shape s (Ticks who now) refl).plan
after_step-extent functions s (Asks a) = refl
after_step-extent functions s Work = ap extent_of (worked-shape functions s).plan
after_step-extent functions s (Nudge k) = refl

-- the first of what is left
pub cut : {X : Type 0} (xs : List X) (i : ℕ) (d : X) → i < length xs → drop i xs ≡ get_or xs i d ∷ drop (i + 1) xs
cut xs i d l = rw add-one (drop-cons xs i d l)

-- the steps of a script fit the state in which its graph is opened
pub opening_fits : (plan said : Planned) (room k : ℕ) (steps done : List Step) (s : State) → plan ≡ said → room ≡ k → steps ≡ done → s ≡ start (with_room plan room) →
    StepsFit (extent_of (with_room said k)) done → StepsFit (extent_of s.plan) steps
opening_fits plan said room k steps done s p r d is fits =
    let opened : s.plan ≡ with_room said k = ap (λ (t : State). t.plan) is ∙ ap (λ q. with_room q room) p ∙ ap (λ n. with_room said n) r in
    subst (λ q. StepsFit (extent_of q) steps) (sym opened) (subst (λ xs. StepsFit (extent_of (with_room said k)) xs) (sym d) fits)

-- the first of the steps that are left fits, and the rest fits the state that it leaves
pub first_fits : (steps : List Step) (i : ℕ) (d : Step) (g : State) → i < length steps → StepsFit (extent_of g.plan) (drop i steps) →
    StepFits (length g.plan.stages) (get_or steps i d)
first_fits steps i d g l fits = (subst (λ xs. StepsFit (extent_of g.plan) xs) (cut steps i d l) fits).0

pub rest_fits : (functions : List Func) (steps : List Step) (i : ℕ) (d : Step) (g u : State) → i < length steps →
    u ≡ after_step functions g (get_or steps i d) → StepsFit (extent_of g.plan) (drop i steps) → StepsFit (extent_of u.plan) (drop (i + 1) steps)
rest_fits functions steps i d g u l reached fits =
    let x = get_or steps i d in
    let rest = drop (i + 1) steps in
    let here = (subst (λ xs. StepsFit (extent_of g.plan) xs) (cut steps i d l) fits).1 in
    let there : StepsFit (extent_of ((after_step functions g x).plan)) rest = subst (λ (e : Extent). StepsFit e rest) (sym (after_step-extent functions g x)) here in
    subst (λ (s : State). StepsFit (extent_of s.plan) rest) (sym reached) there

-- ---- how lines follow one another

-- one step more: its line is written, and its state reached
pub lines_go_on : (functions : List Func) (steps : List Step) (i : ℕ) (d : Step) (g u : State) (text new first : List ℕ) → i < length steps →
    new ≡ text ++ line (step_text functions g (get_or steps i d)) → u ≡ after_step functions g (get_or steps i d) →
    text ++ steps_lines functions g (drop i steps) ≡ first → new ++ steps_lines functions u (drop (i + 1) steps) ≡ first
lines_go_on functions steps i d g u text new first l written reached h =
    let x = get_or steps i d in
    let rest = drop (i + 1) steps in
    let here = line (step_text functions g x) in
    ap (λ t. t ++ steps_lines functions u rest) written
    ∙ ap (λ s. (text ++ here) ++ steps_lines functions s rest) reached
    ∙ append_assoc text here (steps_lines functions (after_step functions g x) rest)
    ∙ sym (ap (λ xs. text ++ steps_lines functions g xs) (cut steps i d l)) ∙ h

pub state_goes_on : (functions : List Func) (steps : List Step) (i : ℕ) (d : Step) (g u last : State) → i < length steps →
    u ≡ after_step functions g (get_or steps i d) → after_steps functions g (drop i steps) ≡ last → after_steps functions u (drop (i + 1) steps) ≡ last
state_goes_on functions steps i d g u last l reached h =
    ap (λ s. after_steps functions s (drop (i + 1) steps)) reached ∙ sym (ap (λ xs. after_steps functions g xs) (cut steps i d l)) ∙ h

-- one stage more
pub stages_go_on : (i : ℕ) (g u : State) (text new first : List ℕ) → i < length g.plan.stages →
    new ≡ text ++ line (stage_text i (outcome_at g i)) → u ≡ g →
    text ++ stage_lines (outcome_at g) i (drop i g.plan.stages) ≡ first → new ++ stage_lines (outcome_at u) (i + 1) (drop (i + 1) u.plan.stages) ≡ first
stages_go_on i g u text new first l written same h =
    let here = line (stage_text i (outcome_at g i)) in
    let rest = drop (i + 1) g.plan.stages in
    ap (λ t. t ++ stage_lines (outcome_at u) (i + 1) (drop (i + 1) u.plan.stages)) written
    ∙ ap (λ (t : State). (text ++ here) ++ stage_lines (outcome_at t) (i + 1) (drop (i + 1) t.plan.stages)) same
    ∙ append_assoc text here (stage_lines (outcome_at g) (i + 1) rest)
    ∙ sym (ap (λ xs. text ++ stage_lines (outcome_at g) i xs) (cut g.plan.stages i (record { form = Source; sources = []; function = None }) l)) ∙ h

pub within : (i n : ℕ) (plan : Planned) (g first : State) → i < n → n ≡ length plan.stages → plan ≡ first.plan → g ≡ first → i < length g.plan.stages
within i n plan g first l count is same =
    let e : length g.plan.stages ≡ n = ap (λ (s : State). length s.plan.stages) same ∙ ap (λ (p : Planned). length p.stages) (sym is) ∙ sym count in
    subst (λ m. i < m) (sym e) l
