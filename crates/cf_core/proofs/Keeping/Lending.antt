-- A stage that a sweep stands at lands as its claim and its finish let it.
use Rattle.std.proofs.Common.{◌≡◌, ℕ, ◌<◌, List, Option, Some, None, length, arith, ap, sym, ◌∙◌, refl, set, subst}
use Rattle.std.specs.Prelude.{option_and_then, position, slice_get}
use Rattle.cf_forms.specs.declared.forms.Args.{Args}
use Rattle.cf_forms.specs.declared.forms.Answer.{Answer}
use Rattle.cf_forms.specs.Forms.{landing}
use Rattle.cf_forms.specs.Plans.{PlannedStage, form_at, sources_at}
use Rattle.cf_model.specs.declared.stage.Stage.{Stage}
use Rattle.cf_model.specs.declared.stage.Stage.TheVariants.{Ready}
use Rattle.cf_model.specs.declared.events.Event.TheVariants.{Finish as Finishes}
use Rattle.cf_model.specs.declared.events.Reply.{Reply}
use Rattle.cf_model.specs.Calling.{CallsOf}
use Rattle.cf_model.specs.Events.{answered}
use Rattle.cf_model.specs.States.{State, is_ready, outcome_in}
use Rattle.cf_core.specs.declared.stages.Stages.{Stages}
use Rattle.cf_core.specs.Keeping.Lending.{IsAt, served_by}
use Rattle.cf_core.specs.Keeping.Serving.{served}
use Rattle.cf_core.specs.Keeping.Sweeps.{AreSwept}
use Rattle.cf_core.proofs.Keeping.Serving.{runs_once, serves_once}

pub lands : (who : ℕ) (s : State) (i : ℕ) (args : Args) (answer : Answer) (new : List Stage) → i < length s.claims → position is_ready s.stages ≡ Some i → slice_get s.stages i ≡ Some (Ready args) →
    new ≡ served s.plan.stages s.stages i answer → record s { stages = new; claims = set s.claims i None } ≡ served_by who s i answer
lands who s i args answer new lc lowest ready is =
    let calls : CallsOf ℕ = λ m number args a n. a ≡ answer in
    let at = landing (form_at s.plan.stages i) i (option_and_then (outcome_in s.stages) (slice_get (sources_at s.plan.stages i) 0)) answer in
    let once = serves_once calls s.plan.stages 0 0 s.stages s.stages new i args answer at refl lowest ready refl refl is in
    let r = runs_once calls who s 0 0 i s.stages new refl lc once in
    r.finished
    ∙ ap (λ a. (answered r.claimed (Finishes who i a)).1) r.called
    ∙ ap (λ t. (answered t (Finishes who i answer)).1) (sym (ap (λ (x : Reply × State). x.1) r.granted))

-- a sweep that has all stages behind it stands at none of them
pub swept_over : (plan : List PlannedStage) (m : ℕ) (args : Option Args) (s : Stages) → IsAt plan m args s → m ≡ length plan → AreSwept plan (length plan) (length plan) s
swept_over plan m None s at over = subst (λ n. AreSwept plan n n s) over at.1
swept_over plan m (Some args) s at over = let within = at.0 in absurd (omega (arith, within, over))
