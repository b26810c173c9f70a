-- The expressions, stage by stage.
use Rattle.std.proofs.Common.{◌≡◌, ℕ, ◌+◌, ◌<◌, ◌∷◌, ◌++◌, [], List, cond, Option, Some, All, suc, zero, arith, ap, ◌∙◌, refl, map, take, append_assoc, append-nil}
use Rattle.std.specs.Prelude.{slice_get, option_and_then, unwrap_or}
use Rattle.std.specs.Option.{option_map}
use Rattle.std.proofs.lemmas.List.Elements.{All-head, All-tail}
use Rattle.cf_outcome.specs.declared.outcome.Outcome.{Outcome}
use Rattle.cf_outcome.specs.Outcomes.{wrap}
use Rattle.cf_forms.specs.declared.forms.Due.{Due}
use Rattle.cf_forms.specs.declared.forms.Due.TheVariants.{Waits, Settles, Needs}
use Rattle.cf_forms.specs.declared.forms.Landing.{Landing}
use Rattle.cf_forms.specs.declared.forms.Landing.TheVariants.{Settles as Lands, Links}
use Rattle.cf_forms.specs.Forms.{follows, landing}
use Rattle.cf_forms.specs.Plans.{PlannedStage, HasLowerSources}
use Rattle.cf_forms.proofs.PlanLemmas.{lower_at}
use Rattle.cf_forms.specs.Meanings.{Meanings}
use Rattle.cf_model.proofs.Stable.{landing-lower}
use Rattle.cf_expr.specs.Expressions.{is_source, stage_expr, due_expr, landing_expr, expr_in, exprs_from}
use Rattle.cf_expr.proofs.Forms.{first_same}

exprs_from-at : (meanings : Meanings) (named : ℕ → Option Outcome) (n : ℕ) (below : List (Option Outcome)) (plan : List PlannedStage) (i : ℕ) (p : PlannedStage) → slice_get plan i ≡ Some p →
    expr_in (exprs_from meanings named n below plan) i ≡ stage_expr meanings named (expr_in (below ++ take i (exprs_from meanings named n below plan))) (n + i) p
exprs_from-at meanings named n below [] i p e = cc
exprs_from-at meanings named n below (p0 ∷ plan) zero p e =
    let same_p : p ≡ p0 = cc in
    let here : n + 0 ≡ n = omega arith in
    rw (append-nil, same_p, here) refl
exprs_from-at meanings named n below (p0 ∷ plan) (suc i) p e =
    let new = stage_expr meanings named (expr_in below) n p0 in
    let rest = exprs_from meanings named (n + 1) (below ++ new ∷ []) plan in
    let next : (n + 1) + i ≡ n + suc i = omega arith in
    exprs_from-at meanings named (n + 1) (below ++ new ∷ []) plan i p e
    ∙ ap (λ b. stage_expr meanings named (expr_in b) ((n + 1) + i) p) (append_assoc below (new ∷ []) (take i rest))
    ∙ ap (λ k. stage_expr meanings named (expr_in (below ++ new ∷ take i rest)) k p) next

expr_in-take : (xs : List (Option Outcome)) (i j : ℕ) → j < i → expr_in (take i xs) j ≡ expr_in xs j
expr_in-take xs zero j l = absurd (omega arith)
expr_in-take [] (suc i) j l = refl
expr_in-take (x ∷ xs) (suc i) zero l = refl
expr_in-take (x ∷ xs) (suc i) (suc j) l = expr_in-take xs i j (omega arith)

map-take : (xs : List (Option Outcome)) (i : ℕ) (sources : List ℕ) → All (λ j. j < i) sources → map (expr_in (take i xs)) sources ≡ map (expr_in xs) sources
map-take xs i [] h = refl
map-take xs i (j ∷ sources) h =
    let here = expr_in-take xs i j (All-head (λ k. k < i) j sources h) in
    let rest = map-take xs i sources (All-tail (λ k. k < i) j sources h) in cc

-- a landing of stage i looks at stages below it alone
landing-same : (f g : ℕ → Option Outcome) (i : ℕ) (at : Landing) → ((j : ℕ) → at ≡ Links j → f j ≡ g j) → landing_expr f at ≡ landing_expr g at
landing-same f g i (Lands o) h = refl
landing-same f g i (Links j) h = ap (option_map wrap) (h j refl)

due-take : (meanings : Meanings) (xs : List (Option Outcome)) (i : ℕ) (p : PlannedStage) (due : Due) → map (expr_in (take i xs)) p.sources ≡ map (expr_in xs) p.sources →
    due_expr meanings (expr_in (take i xs)) i p due ≡ due_expr meanings (expr_in xs) i p due
due-take meanings xs i p Waits e = refl
due-take meanings xs i p (Settles o) e = refl
due-take meanings xs i p (Needs args) e =
    let first = first_same (expr_in xs) (expr_in (take i xs)) p.sources e in
    let answer = meanings (unwrap_or p.function 0) args in
    let at = landing p.form i (option_and_then (expr_in xs) (slice_get p.sources 0)) answer in
    ap (λ source. landing_expr (expr_in (take i xs)) (landing p.form i source answer)) first
    ∙ landing-same (expr_in (take i xs)) (expr_in xs) i at
    (λ j l. expr_in-take xs i j (landing-lower p.form i (option_and_then (expr_in xs) (slice_get p.sources 0)) answer j l))

stage-take : (meanings : Meanings) (named : ℕ → Option Outcome) (xs : List (Option Outcome)) (i : ℕ) (p : PlannedStage) → All (λ j. j < i) p.sources →
    stage_expr meanings named (expr_in (take i xs)) i p ≡ stage_expr meanings named (expr_in xs) i p
stage-take meanings named xs i p lower =
    let e = map-take xs i p.sources lower in
    ap (λ q. cond (is_source p.form) (named i) (due_expr meanings (expr_in (take i xs)) i p (follows p.form q))) e
    ∙ ap (λ x. cond (is_source p.form) (named i) x) (due-take meanings xs i p (follows p.form (map (expr_in xs) p.sources)) e)

-- the expression of each stage, by those of all stages
pub expr_by_stage : (meanings : Meanings) (named : ℕ → Option Outcome) (plan : List PlannedStage) → HasLowerSources 0 plan → (i : ℕ) (p : PlannedStage) → slice_get plan i ≡ Some p →
    expr_in (exprs_from meanings named 0 [] plan) i ≡ stage_expr meanings named (expr_in (exprs_from meanings named 0 [] plan)) i p
expr_by_stage meanings named plan lower i p e =
    let all = exprs_from meanings named 0 [] plan in
    let h = lower_at 0 plan i p lower e in
    let n : 0 + i ≡ i = omega arith in
    exprs_from-at meanings named 0 [] plan i p e
    ∙ ap (λ k. stage_expr meanings named (expr_in (take i all)) k p) n
    ∙ stage-take meanings named all i p (λ k d l. let b = h k d l in omega arith)
