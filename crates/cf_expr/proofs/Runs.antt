-- Plain histories, event by event, and the law.
use Rattle.std.proofs.Common.{◌≡◌, ◌≢◌, ℕ, ◌+◌, ◌<◌, ◌==◌, ◌∷◌, [], List, Bool, true, false, cond, Option, Some, None, All, length, suc, zero, arith, ap, sym, ◌∙◌, subst, refl, map, drop, set, replicate, get_or, length-append}
use Rattle.std.specs.Prelude.{slice_get, option_and_then, unwrap_or, nat_lt, nat_le, take_while}
use Rattle.std.specs.Option.{option_map, option_map_or, option_or}
use Rattle.std.proofs.lemmas.Bool.Decides.{nat_tests}
use Rattle.std.proofs.lemmas.List.{length-replicate}
use Rattle.std.proofs.lemmas.List.Elements.{All-head, All-tail}
use Rattle.std.proofs.lemmas.Option.{slice_get_within, get_or_from_slice_get, slice_get-get_or}
use Rattle.cf_outcome.specs.declared.outcome.Outcome.{Outcome}
use Rattle.cf_outcome.specs.declared.outcome.Outcome.TheVariants.{Value as Gives, Fault}
use Rattle.cf_outcome.specs.declared.outcome.Cause.TheVariants.{Thrown, Cancelled}
use Rattle.cf_outcome.specs.Outcomes.{wrap}
use Rattle.cf_forms.specs.declared.forms.Form.TheVariants.{Source}
use Rattle.cf_forms.specs.declared.forms.Args.{Args}
use Rattle.cf_forms.specs.declared.forms.Answer.{Answer}
use Rattle.cf_forms.specs.declared.forms.Due.TheVariants.{Waits, Needs}
use Rattle.cf_forms.specs.declared.limits.Limit.{Limit}
use Rattle.cf_forms.specs.Forms.{follows, landing}
use Rattle.cf_forms.specs.Meanings.{Meanings, stage_answer}
use Rattle.cf_forms.specs.Plans.{Planned, PlannedStage, attached_stage, form_at, sources_at, fits_count}
use Rattle.cf_model.specs.declared.stage.Stage.{Stage}
use Rattle.cf_model.specs.declared.stage.Stage.TheVariants.{Pending, Ready, Claimed, Linked, Settled}
use Rattle.cf_model.specs.declared.replies.Finished.TheVariants.{Won, NotYours}
use Rattle.cf_model.specs.declared.replies.Ticked.{Ticked}
use Rattle.cf_model.specs.declared.replies.Ticked.TheVariants.{Fired, Past}
use Rattle.cf_model.specs.States.{State, outcome_of, outcome_in, outcome_at, stage_at, claim_at, start}
use Rattle.cf_model.specs.declared.events.Event.{Event}
use Rattle.cf_model.specs.declared.events.Event.TheVariants.{Complete as Completes, Fail as Fails, FailAs as FailsAs, Cancel as Cancels, Claim as Claims, Finish as Finishes, Tick as Ticks, Attach as Attaches}
use Rattle.cf_model.specs.declared.events.Reply.TheVariants.{Claim as ToldClaim}
use Rattle.cf_model.specs.Events.{answered, state_after, settled_by, claimed_by, finished_by, firing, due_limits, source_outcome, cause_of}
use Rattle.cf_model.proofs.Shape.{answered-grows, length-new_states}
use Rattle.cf_model.proofs.Stable.{landing-lower}
use Rattle.cf_forms.specs.Plans.{IsBuilt}
use Rattle.cf_expr.specs.Expressions.{named_for, first_named, landing_expr, due_expr, is_source, expr}
use Rattle.cf_expr.specs.Histories.{Grants, is_plain_form, IsPlainPlan, granted_with, IsPlainEvent, IsPlain, nothing_granted, is_at_rest, IsQuiet}
use Rattle.cf_expr.specs.Laws.{QuietIsExpression}
use Rattle.cf_expr.proofs.Forms.{first_same}
use Rattle.cf_expr.proofs.Exprs.{expr_by_stage}
use Rattle.cf_expr.proofs.Settles.{IsSet, Owes, Waiting, sound_settled, below_there, all_sound, expr_due, more_same, sources_lower}
use Rattle.cf_expr.proofs.Writes.{Stands, settled_by_stands, closed_stands, landed_stands, claim_stands, claim_closed}
use Rattle.cf_expr.proofs.Named.{cancelled_same, names_nothing, same_number, was_unsettled}
use Rattle.cf_expr.proofs.Attached.{attached_stands, in_last, set_so_far}

-- What stands before the events that are left, after which the plan's stages are `last`: of a source that isn't settled, or isn't there yet,
-- the first outcome that they name is the one of the whole history.
pub record Good (meanings : Meanings) (named exprs : ℕ → Option Outcome) (last : List PlannedStage) (granted : Grants) (s : State) (events : List Event) : Type 0 where
  pub stands : Stands meanings named exprs granted s
  pub reaches : (state_after s events).plan.stages ≡ last
  pub all_stages : length s.stages ≡ length s.plan.stages
  pub all_claims : length s.claims ≡ length s.plan.stages
  pub left : (i : ℕ) (p : PlannedStage) → slice_get last i ≡ Some p → is_source p.form ≡ true → outcome_at s i ≡ None → first_named events i ≡ named i

-- ---- a claimed stage

-- a stage whose claim is open and that isn't settled was granted what follows
was_granted : (exprs outs : ℕ → Option Outcome) (g : ℕ → Option Args) (who : ℕ) (c : Option ℕ) (i : ℕ) (p : PlannedStage) (x : Stage) → Owes exprs outs g c i p x → c ≡ Some who → outcome_of x ≡ None →
    (args : Args) × (g who ≡ Some args) × (follows p.form (map outs p.sources) ≡ Needs args)
was_granted exprs outs g who c i p Pending h held e = cc
was_granted exprs outs g who c i p (Ready args) h held e = let k = h.0 in cc
was_granted exprs outs g who c i p Claimed h held e = (h.0, h.1 who held, h.2)
was_granted exprs outs g who c i p (Linked j) h held e = let k = h.0 in cc
was_granted exprs outs g who c i p (Settled o) h held e = cc

-- a claim that someone has open
is_open : (c : Option ℕ) (who : ℕ) → option_map_or (λ w. w == who) c false ≡ true → c ≡ Some who
is_open None who e = cc
is_open (Some w) who e = let same : w ≡ who = grind (arith, nat_tests) in ap (λ n. Some n) same

-- where the answer that is meant lands
landing_is : (meanings : Meanings) (plan : List PlannedStage) (i : ℕ) (p : PlannedStage) (outs : ℕ → Option Outcome) (args : Args) (answer : Answer) → slice_get plan i ≡ Some p →
    answer ≡ stage_answer meanings plan i args →
    landing (form_at plan i) i (option_and_then outs (slice_get (sources_at plan i) 0)) answer
    ≡ landing p.form i (option_and_then outs (slice_get p.sources 0)) (meanings (unwrap_or p.function 0) args)
landing_is meanings plan i p outs args answer e said = rw (said, e) refl

-- a ready stage is there
there : (x : Option Stage) {args : Args} → unwrap_or x Pending ≡ Ready args → x ≡ Some (Ready args)
there None e = cc
there (Some x) e = ap (λ z. Some z) e

-- a tick, by whether it is past
abbrev ticked : Bool → State → ℕ → Ticked × State
ticked b s now =
    let fired = firing 0 s (due_limits s now) in
    cond b (Past, s) (Fired fired.0, record fired.1 { moment = now; used = s.used + length (due_limits s now) })

-- ---- no limit comes due

no_limits : (limits : List Limit) (n now : ℕ) → All (λ (l : Limit). now < l.at) limits → take_while (λ (l : Limit). nat_le l.at now) (drop n limits) ≡ []
no_limits [] zero now h = refl
no_limits [] (suc n) now h = refl
no_limits (l ∷ limits) zero now h =
    let above = All-head (λ (l : Limit). now < l.at) l limits h in
    let not : nat_le l.at now ≡ false = grind (arith, nat_tests) in rw not refl
no_limits (l ∷ limits) (suc n) now h = no_limits limits n now (All-tail (λ (l : Limit). now < l.at) l limits h)

-- what holds of each element
all_at : {X : Type 0} (P : X → Type 0) (xs : List X) (i : ℕ) (x : X) → All P xs → slice_get xs i ≡ Some x → P x
all_at P xs i x h e = subst P (get_or_from_slice_get xs i x x e) (h i x (slice_get_within xs i x e))

-- outcomes of lower sources
map_below : (f g : ℕ → Option Outcome) (i : ℕ) (sources : List ℕ) → All (λ j. j < i) sources → ((j : ℕ) → j < i → f j ≡ g j) → map f sources ≡ map g sources
map_below f g i [] lower h = refl
map_below f g i (j ∷ sources) lower h =
    let here = h j (All-head (λ k. k < i) j sources lower) in
    let rest = map_below f g i sources (All-tail (λ k. k < i) j sources lower) h in cc

module _ (meanings : Meanings) (named exprs : ℕ → Option Outcome) (last : List PlannedStage) (known : IsSet meanings named exprs last) where
  -- ---- sources are settled with the first outcome that is named
  source_named : (granted : Grants) (s : State) (e : Event) (events : List Event) (i : ℕ) (o : Outcome) → Good meanings named exprs last granted s (e ∷ events) →
      form_at s.plan.stages i ≡ Source → named_for i e ≡ Some o → outcome_at s i ≡ None → (p : PlannedStage) → slice_get s.plan.stages i ≡ Some p → exprs i ≡ Some o
  source_named granted s e events i o good source is unsettled p there =
      let form : p.form ≡ Source = ap (λ x. option_map_or (λ (q : PlannedStage). q.form) x Source) (sym there) ∙ source in
      let test : is_source p.form ≡ true = ap is_source form in
      let first : first_named (e ∷ events) i ≡ Some o = ap (λ x. option_or x (first_named events i)) is in
      let whole = good.left i p (in_last s (e ∷ events) last i p good.reaches there) test unsettled in
      good.stands.known.by_stage i p there ∙ ap (λ b. cond b (named i) (due_expr meanings exprs i p (follows p.form (map exprs p.sources)))) test ∙ sym whole ∙ first

  by_naming : (granted : Grants) (s : State) (e : Event) (events : List Event) (i : ℕ) (o : Outcome) → Good meanings named exprs last granted s (e ∷ events) →
      form_at s.plan.stages i ≡ Source → named_for i e ≡ Some o → Stands meanings named exprs granted ((settled_by (outcome_at s i) s i o).1)
  by_naming granted s e events i o good source is =
      settled_by_stands meanings named exprs granted (outcome_at s i) s i o refl good.stands (source_named granted s e events i o good source is)

  -- ---- claims
  claimed_stands : (granted : Grants) (x : Stage) (s : State) (who i : ℕ) → stage_at s i ≡ x → Stands meanings named exprs granted s →
      Stands meanings named exprs (granted_with granted (Claims who i) (ToldClaim ((claimed_by x s who i).0))) ((claimed_by x s who i).1)
  claimed_stands granted (Ready args) s who i e h = claim_stands meanings named exprs granted s who i args h (there (slice_get s.stages i) e)
  claimed_stands granted (Settled o) s who i e h = h
  claimed_stands granted Claimed s who i e h = h
  claimed_stands granted (Linked j) s who i e h = h
  claimed_stands granted Pending s who i e h = h

  -- ---- finishes
  lands_meant : (granted : Grants) (s : State) (who i : ℕ) (answer : Answer) → Stands meanings named exprs granted s → outcome_at s i ≡ None → claim_at s i ≡ Some who →
      ((args : Args) → granted who i ≡ Some args → answer ≡ stage_answer meanings s.plan.stages i args) →
      (p : PlannedStage) → slice_get s.plan.stages i ≡ Some p → exprs i ≡ landing_expr exprs (landing (form_at s.plan.stages i) i (source_outcome s i) answer)
  lands_meant granted s who i answer h unsettled held meant p there =
      let f = h.sound i p there in
      let was = was_granted exprs (outcome_in s.stages) (λ w. granted w i) who (claim_at s i) i p f.stage f.owes held (ap (option_and_then outcome_of) (sym f.there) ∙ unsettled) in
      let right : (j : ℕ) (o : Outcome) → j < i → outcome_in s.stages j ≡ Some o → exprs j ≡ Some o = λ j o l e.
      (let q = below_there s.plan.stages i j p there l in sound_settled exprs (λ w. granted w j) (claim_at s j) s.stages j q.0 o (h.sound j q.0 q.1) e) in
      let due = expr_due meanings named exprs s.plan.stages h.known (outcome_in s.stages) i p (Needs was.0) there was.2 (λ w. cc) right in
      let ne : follows p.form (map (outcome_in s.stages) p.sources) ≢ Waits = λ w. (let k = was.2 in cc) in
      let same = first_same (outcome_in s.stages) exprs p.sources (more_same meanings named exprs s.plan.stages h.known (outcome_in s.stages) exprs i p there ne right) in
      let said = meant was.0 was.1 in
      due ∙ ap (landing_expr exprs)
      (ap (λ x. landing p.form i x (meanings (unwrap_or p.function 0) was.0)) same ∙ sym (landing_is meanings s.plan.stages i p (outcome_in s.stages) was.0 answer there said))

  finished_by_stands : (granted : Grants) (y : Option Outcome) (s : State) (who i : ℕ) (answer : Answer) → outcome_at s i ≡ y → Stands meanings named exprs granted s → claim_at s i ≡ Some who →
      ((finished_by y (record s { claims = set s.claims i None }) i answer).0 ≡ Won → (args : Args) → granted who i ≡ Some args → answer ≡ stage_answer meanings s.plan.stages i args) →
      Stands meanings named exprs granted ((finished_by y (record s { claims = set s.claims i None }) i answer).1)
  finished_by_stands granted (Some old) s who i answer e h held meant = closed_stands meanings named exprs granted s i h
  finished_by_stands granted None s who i answer e h held meant =
      landed_stands meanings named exprs granted (landing (form_at s.plan.stages i) i (source_outcome s i) answer) (record s { claims = set s.claims i None }) i
      (closed_stands meanings named exprs granted s i h) e (claim_closed s.claims i)
      (λ j l. landing-lower (form_at s.plan.stages i) i (source_outcome s i) answer j l)
      (lands_meant granted s who i answer h e held (meant refl))

  finishing_stands : (granted : Grants) (b : Bool) (s : State) (who i : ℕ) (answer : Answer) → option_map_or (λ w. w == who) (claim_at s i) false ≡ b → Stands meanings named exprs granted s →
      ((cond b (finished_by (outcome_at s i) (record s { claims = set s.claims i None }) i answer) (NotYours, s)).0 ≡ Won → (args : Args) → granted who i ≡ Some args →
      answer ≡ stage_answer meanings s.plan.stages i args) →
      Stands meanings named exprs granted ((cond b (finished_by (outcome_at s i) (record s { claims = set s.claims i None }) i answer) (NotYours, s)).1)
  finishing_stands granted true s who i answer e h meant = finished_by_stands granted (outcome_at s i) s who i answer refl h (is_open (claim_at s i) who e) meant
  finishing_stands granted false s who i answer e h meant = h

  ticking_stands : (granted : Grants) (b : Bool) (s : State) (now : ℕ) → due_limits s now ≡ [] → Stands meanings named exprs granted s →
      Stands meanings named exprs granted ((ticked b s now).1)
  ticking_stands granted true s now none h = h
  ticking_stands granted false s now none h = rw none (record { known = h.known; sound = h.sound })

  -- a pending stage of the last state has no expression
  pending_none : (s : State) (granted : Grants) (i : ℕ) (p : PlannedStage) (b : Bool) → is_source p.form ≡ b → Good meanings named exprs last granted s [] → slice_get s.plan.stages i ≡ Some p →
      outcome_at s i ≡ None → follows p.form (map (outcome_at s) p.sources) ≡ Waits → ((j : ℕ) → j < i → outcome_at s j ≡ exprs j) → exprs i ≡ None
  pending_none s granted i p true test good e unsettled waits below =
      good.stands.known.by_stage i p e ∙ rw test (sym (good.left i p (in_last s [] last i p good.reaches e) test unsettled))
  pending_none s granted i p false test good e unsettled waits below =
      let same = map_below (outcome_at s) exprs i p.sources (sources_lower meanings named exprs s.plan.stages good.stands.known i p e) below in
      good.stands.known.by_stage i p e ∙ rw (test, ← same, waits) refl

  -- ---- every event
  event_stands : (granted : Grants) (e : Event) (s : State) (events : List Event) → Good meanings named exprs last granted s (e ∷ events) → IsPlainEvent meanings granted s e →
      Stands meanings named exprs (granted_with granted e ((answered s e).0)) ((answered s e).1)
  event_stands granted (Completes who i v) s events good plain =
      by_naming granted s (Completes who i v) events i (Gives v) good plain.1 (ap (λ b. cond b (Some (Gives v)) None) (same_number i))
  event_stands granted (Fails who i code) s events good plain =
      by_naming granted s (Fails who i code) events i (Fault (Thrown code) false) good plain.1 (ap (λ b. cond b (Some (Fault (Thrown code) false)) None) (same_number i))
  event_stands granted (FailsAs who i failure) s events good plain =
      by_naming granted s (FailsAs who i failure) events i (Fault (cause_of failure) false) good plain.1 (ap (λ b. cond b (Some (Fault (cause_of failure) false)) None) (same_number i))
  event_stands granted (Cancels who i) s events good plain =
      subst (Stands meanings named exprs granted) (sym (cancelled_same (outcome_at s i) s i))
      (by_naming granted s (Cancels who i) events i (Fault Cancelled false) good plain.1 (ap (λ b. cond b (Some (Fault Cancelled false)) None) (same_number i)))
  event_stands granted (Claims who i) s events good plain = claimed_stands granted (stage_at s i) s who i refl good.stands
  event_stands granted (Finishes who i answer) s events good plain =
      finishing_stands granted (option_map_or (λ w. w == who) (claim_at s i) false) s who i answer refl good.stands plain
  event_stands granted (Ticks who now) s events good plain =
      ticking_stands granted (nat_lt now s.moment) s now (no_limits s.plan.limits s.used now plain) good.stands
  event_stands granted (Attaches who form of function) s events good plain =
      attached_stands meanings named exprs granted s.plan.room s (attached_stage form of function) refl good.stands good.all_stages good.all_claims
      (set_so_far meanings named exprs ((answered s (Attaches who form of function)).1) events last good.reaches known)

  event_good : (granted : Grants) (e : Event) (s : State) (events : List Event) → Good meanings named exprs last granted s (e ∷ events) → IsPlainEvent meanings granted s e →
      Good meanings named exprs last (granted_with granted e ((answered s e).0)) ((answered s e).1) events
  event_good granted e s events good plain =
      let g = answered-grows s e in
      let more = ap length g.stages ∙ length-append s.plan.stages g.more in
      let a = g.all_stages in
      let b = g.all_claims in
      let c = good.all_stages in
      let d = good.all_claims in
      record {
        stands = event_stands granted e s events good plain;
        reaches = good.reaches;
        all_stages = omega (arith, a, c, more);
        all_claims = omega (arith, b, d, more);
        left = λ i p is source unsettled.
            (let before = good.left i p is source (was_unsettled (outcome_at s i) s e i refl unsettled) in
            ap (λ x. option_or x (first_named events i)) (sym (names_nothing meanings granted e s i plain good.all_stages unsettled)) ∙ before);
      }

  -- ---- the last state
  rest_is : (s : State) (granted : Grants) (i : ℕ) (p : PlannedStage) (x : Stage) → Good meanings named exprs last granted s [] → slice_get s.plan.stages i ≡ Some p → slice_get s.stages i ≡ Some x →
      Owes exprs (outcome_at s) (λ w. granted w i) (claim_at s i) i p x → Waiting (outcome_at s) p x → is_at_rest x ≡ true → ((j : ℕ) → j < i → outcome_at s j ≡ exprs j) → outcome_of x ≡ exprs i
  rest_is s granted i p Pending good e there owes waits rest below = sym (pending_none s granted i p (is_source p.form) refl good e (ap (option_and_then outcome_of) there) waits below)
  rest_is s granted i p (Ready args) good e there owes waits rest below = cc
  rest_is s granted i p Claimed good e there owes waits rest below = cc
  rest_is s granted i p (Linked j) good e there owes waits rest below = sym (owes.2 ∙ ap (option_map wrap) (sym (below j owes.1) ∙ waits))
  rest_is s granted i p (Settled o) good e there owes waits rest below = sym owes

  rest_below : (s : State) (granted : Grants) → Good meanings named exprs last granted s [] → IsQuiet s → (n i : ℕ) (p : PlannedStage) → i < n → slice_get s.plan.stages i ≡ Some p → outcome_at s i ≡ exprs i
  rest_below s granted good quiet zero i p l e = absurd (omega arith)
  rest_below s granted good quiet (suc n) i p l e =
      let f = good.stands.sound i p e in
      ap (option_and_then outcome_of) f.there
      ∙ rest_is s granted i p f.stage good e f.there f.owes f.waits (all_at (λ x. is_at_rest x ≡ true) s.stages i f.stage quiet f.there)
      (λ j m. let q = below_there s.plan.stages i j p e m in rest_below s granted good quiet n j q.0 (omega arith) q.1)

  pub run_is : (events : List Event) (s : State) (granted : Grants) (i : ℕ) (p : PlannedStage) → Good meanings named exprs last granted s events → IsPlain meanings granted s events →
      IsQuiet (state_after s events) → slice_get last i ≡ Some p → outcome_at (state_after s events) i ≡ exprs i
  run_is [] s granted i p good plain quiet e = rest_below s granted good quiet (suc i) i p (omega arith) (ap (λ xs. slice_get xs i) good.reaches ∙ e)
  run_is (event ∷ events) s granted i p good plain quiet e =
      run_is events ((answered s event).1) (granted_with granted event ((answered s event).0)) i p (event_good granted event s events good plain.0) plain.1 quiet e

-- ---- the start

replicate_at : (n i : ℕ) → i < n → slice_get (replicate n Pending) i ≡ Some Pending
replicate_at zero i l = absurd (omega arith)
replicate_at (suc n) zero l = refl
replicate_at (suc n) (suc i) l = replicate_at n i (omega arith)

no_claim : (n i : ℕ) → unwrap_or {T = Option ℕ} (slice_get (replicate n None) i) None ≡ None
no_claim zero i = refl
no_claim (suc n) zero = refl
no_claim (suc n) (suc i) = no_claim n i

set_of : (meanings : Meanings) (plan : Planned) (events : List Event) → IsBuilt plan → IsPlainPlan plan → IsSet meanings (first_named events) (expr plan events meanings) plan.stages
set_of meanings plan events built plain = record {
  lower = built.lower;
  counted = λ i p e. all_at (λ (q : PlannedStage). fits_count q.form (length q.sources) ≡ true) plan.stages i p built.fitting e;
  plain = λ i p e. all_at (λ (q : PlannedStage). is_plain_form q.form ≡ true) plan.stages i p plain e;
  by_stage = expr_by_stage meanings (first_named events) plan.stages built.lower;
}

start_good : (meanings : Meanings) (plan : Planned) (events : List Event) (named exprs : ℕ → Option Outcome) (last : List PlannedStage) → named ≡ first_named events → IsSet meanings named exprs last →
    (state_after (start plan) events).plan.stages ≡ last → Good meanings named exprs last nothing_granted (start plan) events
start_good meanings plan events named exprs last first known reaches =
    let n = length plan.stages in
    record {
      stands = record {
        known = set_so_far meanings named exprs (start plan) events last reaches known;
        sound = all_sound meanings named exprs plan.stages (set_so_far meanings named exprs (start plan) events last reaches known) (λ j. None) nothing_granted (claim_at (start plan)) (replicate n Pending)
            (λ i p e. record { stage = Pending; there = replicate_at n i (slice_get_within plan.stages i p e); owes = no_claim n i })
            (λ j o h. cc);
      };
      reaches = reaches;
      all_stages = length-new_states [] plan.stages (replicate n Pending) ∙ length-replicate {A = Stage} n Pending;
      all_claims = length-replicate {A = Option ℕ} n None;
      left = λ i p e source unsettled. ap (λ f. f i) (sym first);
    }

pub quiet_is_expression : QuietIsExpression
quiet_is_expression plan events meanings i built plain history quiet l =
    let last = state_after (start plan) events in
    let known = set_of meanings last.plan events built plain in
    let d : PlannedStage = record { form = Source; sources = []; function = None } in
    run_is meanings (first_named events) (expr last.plan events meanings) last.plan.stages known events (start plan) nothing_granted i (get_or last.plan.stages i d)
    (start_good meanings plan events (first_named events) (expr last.plan events meanings) last.plan.stages refl known refl) history quiet
    (slice_get-get_or last.plan.stages i d l)
