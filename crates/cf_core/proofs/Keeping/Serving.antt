-- A ready stage that lands at once lands as if it had been claimed before.
use Rattle.std.proofs.Common.{◌≡◌, ◌≢◌, ◌==◌, ℕ, ◌+◌, ◌<◌, ◌∷◌, [], List, true, false, Option, Some, None, length, suc, zero, arith, ap, sym, ◌∙◌, refl, set, set-set, get_or}
use Rattle.std.specs.Prelude.{is_some, option_and_then, position, slice_get, unwrap_or}
use Rattle.std.specs.Option.{option_map_or}
use Rattle.std.proofs.lemmas.Bool.Decides.{nat_tests}
use Rattle.std.proofs.lemmas.Option.{slice_get-get_or, slice_get_within}
use Rattle.std.proofs.lemmas.List.Quantifiers.{position-Some}
use Rattle.cf_outcome.specs.declared.outcome.Outcome.{Outcome}
use Rattle.cf_outcome.specs.Outcomes.{wrap}
use Rattle.cf_forms.specs.declared.forms.Args.{Args}
use Rattle.cf_forms.specs.declared.forms.Answer.{Answer}
use Rattle.cf_forms.specs.declared.forms.Landing.{Landing}
use Rattle.cf_forms.specs.declared.forms.Landing.TheVariants.{Settles as Lands, Links}
use Rattle.cf_forms.specs.Forms.{landing}
use Rattle.cf_forms.specs.Plans.{PlannedStage, form_at, function_at, sources_at}
use Rattle.cf_model.specs.declared.stage.Stage.{Stage}
use Rattle.cf_model.specs.declared.stage.Stage.TheVariants.{Pending, Ready, Claimed, Linked, Settled}
use Rattle.cf_model.specs.declared.replies.Claimed.TheVariants.{Granted}
use Rattle.cf_model.specs.declared.replies.Finished.{Finished}
use Rattle.cf_model.specs.declared.events.Reply.TheVariants.{Claim as ToldClaim}
use Rattle.cf_model.specs.States.{State, is_ready, outcome_of, outcome_in, new_states}
use Rattle.cf_model.specs.Events.{claimed_by, claiming, told_as}
use Rattle.cf_model.specs.Calling.{CallsOf, Runs, RunsOnce}
use Rattle.cf_core.specs.Keeping.Landings.{landed_stages, linked_stages}
use Rattle.cf_core.specs.Keeping.Serving.{RunsNext, ServesOnce, served}
use Rattle.cf_core.specs.Keeping.Sound.{AreTreated, kept_at}
use Rattle.cf_core.specs.Keeping.SoundStages.{AreSound, settled_view_of}
use Rattle.cf_core.specs.declared.stages.Stages.{Stages}
use Rattle.cf_model.proofs.Calling.{runs_on, runs_one}
use Rattle.cf_core.proofs.Keeping.Marking.{get-set_same}
use Rattle.cf_core.proofs.Keeping.Lowest.{length-settled_view}
use Rattle.cf_core.proofs.Keeping.GraphLemmas.{finishes_now, told_stage}

-- ---- what is read of the stages once one is claimed

-- the outcomes are those of before
pub claimed-outcome : (xs : List Stage) (i j : ℕ) (args : Args) → slice_get xs i ≡ Some (Ready args) → outcome_in (set xs i Claimed) j ≡ outcome_in xs j
claimed-outcome [] i j args e = refl
claimed-outcome (x ∷ xs) zero zero args e = let is : x ≡ Ready args = cc in sym (ap outcome_of is)
claimed-outcome (x ∷ xs) zero (suc j) args e = refl
claimed-outcome (x ∷ xs) (suc i) zero args e = refl
claimed-outcome (x ∷ xs) (suc i) (suc j) args e = claimed-outcome xs i j args e

pub claimed-source : (xs : List Stage) (i : ℕ) (args : Args) (j : Option ℕ) → slice_get xs i ≡ Some (Ready args) → option_and_then (outcome_in xs) j ≡ option_and_then (outcome_in (set xs i Claimed)) j
claimed-source xs i args None e = refl
claimed-source xs i args (Some j) e = sym (claimed-outcome xs i j args e)

-- ---- landing

-- once a stage is claimed, and treated again, it is kept as claimed
pub kept_claimed : (plan : List PlannedStage) (s r t : Stages) (d : ℕ) → AreSound plan s → d < length plan → AreTreated (d + 1) s.marks → settled_view_of plan r ≡ set (settled_view_of plan s) d Claimed →
    settled_view_of plan t ≡ settled_view_of plan r → AreSound plan t → AreTreated (d + 1) t.marks → (kept_at t.kept.items d).stage ≡ Claimed
kept_claimed plan s r t d before l first claimed same sound treated =
    let l_seen = slice_get_within (settled_view_of plan s) d ((kept_at s.kept.items d).stage) (told_stage plan s d before l first) in
    let is : slice_get (settled_view_of plan t) d ≡ Some Claimed = ap (λ xs. slice_get xs d) (same ∙ claimed) ∙ get-set_same (settled_view_of plan s) d Claimed l_seen in
    let told = told_stage plan t d sound l treated in
    let both : Some ((kept_at t.kept.items d).stage) ≡ Some Claimed = sym told ∙ is in cc

-- one that settles isn't read
pub settles-claimed : (plan : List PlannedStage) (xs new : List Stage) (d : ℕ) (at : Landing) (o : Outcome) → at ≡ Lands o → new ≡ new_states [] plan (set xs d (Settled o)) → new ≡ landed_stages plan (set xs d Claimed) d at
settles-claimed plan xs new d at o is e =
    e ∙ ap (new_states [] plan) (sym (set-set xs d Claimed (Settled o))) ∙ sym (ap (landed_stages plan (set xs d Claimed) d) is)

-- one that links is linked, or settles where the other one has
pub links-claimed : (plan : List PlannedStage) (xs new : List Stage) (d j : ℕ) (at : Landing) (args : Args) (x : Option Outcome) → at ≡ Links j → slice_get xs d ≡ Some (Ready args) → outcome_in xs j ≡ x →
    new ≡ linked_stages x plan xs d j → new ≡ landed_stages plan (set xs d Claimed) d at
links-claimed plan xs new d j at args x is e told new_is =
    let seen : outcome_in (set xs d Claimed) j ≡ x = claimed-outcome xs d j args e ∙ told in
    new_is ∙ by_outcome x ∙ ap (λ y. linked_stages y plan (set xs d Claimed) d j) (sym seen) ∙ sym (ap (landed_stages plan (set xs d Claimed) d) is)
  where
    by_outcome : (y : Option Outcome) → linked_stages y plan xs d j ≡ linked_stages y plan (set xs d Claimed) d j
    by_outcome (Some o) = ap (new_states [] plan) (sym (set-set xs d Claimed (Settled (wrap o))))
    by_outcome None = sym (set-set xs d Claimed (Linked j))

-- ---- what is done with a stage

-- what is the lowest ready stage is ready
not_ready : (x : Stage) → is_ready x ≡ true → ((args : Args) → x ≢ Ready args) → ⊥
not_ready Pending e ne = cc
not_ready (Ready args) e ne = ne args refl
not_ready Claimed e ne = cc
not_ready (Linked j) e ne = cc
not_ready (Settled o) e ne = cc

pub never_unready : (before xs : List Stage) (i : ℕ) (x : Stage) → xs ≡ before → slice_get xs i ≡ Some x → position is_ready before ≡ Some i → ((args : Args) → x ≢ Ready args) → ⊥
never_unready before xs i x same e lowest ne =
    let found = position-Some is_ready before i Pending lowest in
    let there : slice_get before i ≡ Some (get_or before i Pending) = slice_get-get_or before i Pending found.0 in
    let both : Some x ≡ Some (get_or before i Pending) = sym e ∙ ap (λ ys. slice_get ys i) same ∙ there in
    let is : get_or before i Pending ≡ x = cc in
    not_ready x (ap is_ready (sym is) ∙ found.1) ne

-- one call of its function, and where the stage lands, as seen once it was treated
pub serves_once : {M : Type 0} (calls : CallsOf M) (plan : List PlannedStage) (m n : M) (before xs new : List Stage) (i : ℕ) (args : Args) (answer : Answer) (at : Landing) → xs ≡ before → position is_ready before ≡ Some i → slice_get xs i ≡ Some (Ready args) →
    calls m (unwrap_or (function_at plan i) 0) args answer n → at ≡ landing (form_at plan i) i (option_and_then (outcome_in xs) (slice_get (sources_at plan i) 0)) answer → new ≡ landed_stages plan (set xs i Claimed) i at →
    ServesOnce calls plan before m i new n
serves_once calls plan m n before xs new i args answer at same lowest e called lands is = record {
  lowest = lowest;
  args = args;
  ready = ap (λ ys. slice_get ys i) (sym same) ∙ e;
  answer = answer;
  called = called;
  lands = is ∙ ap (landed_stages plan (set xs i Claimed) i) lands ∙ ap (λ ys. served plan ys i answer) same;
}

-- ---- a claim and its finish

has_claim : (claims : List (Option ℕ)) (who i : ℕ) → i < length claims → option_map_or (λ w. w == who) (unwrap_or (slice_get (set claims i (Some who)) i) None) false ≡ true
has_claim claims who i l =
    ap (λ x. option_map_or (λ w. w == who) (unwrap_or x None) false) (get-set_same claims i (Some who) l) ∙ grind (arith, nat_tests)

-- the stage that was found is there
pub found_within : (plan : List PlannedStage) (s : Stages) (i : ℕ) → AreSound plan s → Some i ≡ position is_ready (settled_view_of plan s) → i < length plan
found_within plan s i h told =
    let found = position-Some is_ready (settled_view_of plan s) i Pending (sym told) in
    let all = length-settled_view plan s.kept.items in
    omega (arith, found.0, all, h.all_kept)

-- what is done with the lowest ready stage is what its claim and its finish do
pub runs_once : {M : Type 0} (calls : CallsOf M) (who : ℕ) (s : State) (m n : M) (i : ℕ) (seen new : List Stage) → seen ≡ s.stages → i < length s.claims →
    ServesOnce calls s.plan.stages seen m i new n → RunsOnce calls who s m i (record s { stages = new; claims = set s.claims i None }) n
runs_once calls who s m n i seen new same lc h =
    let e : slice_get s.stages i ≡ Some (Ready h.args) = ap (λ xs. slice_get xs i) (sym same) ∙ h.ready in
    let claimed : State = record s { stages = set s.stages i Claimed; claims = set s.claims i (Some who) } in
    let granted : claiming s who i ≡ (Granted h.args, claimed) = ap (λ y. claimed_by (unwrap_or y Pending) s who i) e in
    let source = option_and_then (outcome_in s.stages) (slice_get (sources_at s.plan.stages i) 0) in
    let at = landing (form_at s.plan.stages i) i source h.answer in
    let none : outcome_in (set s.stages i Claimed) i ≡ None = claimed-outcome s.stages i i h.args e ∙ ap (option_and_then outcome_of) e in
    let done = finishes_now claimed who i h.answer source at (set s.stages i Claimed) (landed_stages s.plan.stages (set s.stages i Claimed) i at) refl (has_claim s.claims who i lc) none
    (claimed-source s.stages i h.args (slice_get (sources_at s.plan.stages i) 0) e) refl refl in
    record {
      lowest = ap (position is_ready) (sym same) ∙ h.lowest;
      args = h.args;
      claimed = claimed;
      granted = ap (told_as ToldClaim) granted;
      answer = h.answer;
      called = h.called;
      finished = ap (λ xs. record s { stages = xs; claims = set s.claims i None }) (h.lands ∙ ap (λ xs. served s.plan.stages xs i h.answer) same)
          ∙ ap (λ claims. record s { stages = served s.plan.stages s.stages i h.answer; claims = claims }) (sym (set-set s.claims i (Some who) None))
          ∙ ap (λ (done : Finished × State). done.1) done;
    }

-- ---- so many

-- a stage more is run, if one was found
pub run_more : {M : Type 0} (calls : CallsOf M) (who : ℕ) (r s u : State) (l m n : M) (count : ℕ) (x : Option ℕ) → RunsNext calls who s m x u n → is_some x ≡ true → Runs calls who r l count s m → Runs calls who r l (count + 1) u n
run_more calls who r s u l m n count None is some h = cc
run_more calls who r s u l m n count (Some i) is some h = runs_on calls who r s u l m n count 1 h (runs_one calls who s u m n i is)
