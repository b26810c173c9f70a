-- Histories in parts: what is plain part by part is plain, and claims and finishes change no expression.
use Rattle.std.proofs.Common.{◌≡◌, ◌≢◌, ◌==◌, ◌∷◌, ◌++◌, ℕ, Bool, false, cond, Some, arith, [], List, Option, None, All, true, ap, sym, ◌∙◌, refl}
use mathlib.Core.Path.{fun_ext}
use Rattle.std.specs.Prelude.{◌&&◌}
use Rattle.std.specs.Option.{option_or}
use Rattle.std.proofs.lemmas.Bool.Decides.{nat_tests}
use Rattle.cf_forms.specs.declared.forms.Args.{Args}
use Rattle.cf_model.specs.declared.replies.Claimed.TheVariants.{Granted, Settled, Taken, NotReady}
use Rattle.cf_model.specs.declared.events.Reply.{Reply}
use Rattle.cf_model.specs.declared.events.Reply.TheVariants.{Claim as ToldClaim, Flag as ToldFlag, Finish as ToldFinish, Tick as ToldTick, Attach as ToldAttach}
use Rattle.std.proofs.lemmas.List.Elements.{All-head, All-tail}
use Rattle.cf_model.specs.declared.events.Event.{Event}
use Rattle.cf_model.specs.declared.events.Event.TheVariants.{Complete as Completes, Fail as Fails, FailAs as FailsAs, Cancel as Cancels, Claim as Claims, Finish as Finishes, Tick as Ticks, Attach as Attaches}
use Rattle.cf_model.specs.Events.{answered}
use Rattle.cf_expr.specs.Expressions.{named_for, first_named, expr_in, exprs_from}
use Rattle.cf_expr.specs.Histories.{Grants, granted_with, is_work, without_work}
use Rattle.cf_expr.specs.Laws.{PlainPartsJoin, WorkKeepsExpressions}

pub plain_append : PlainPartsJoin
plain_append meanings granted s [] more h k = k
plain_append meanings granted s (e ∷ events) more h k = (h.0, plain_append meanings (granted_with granted e ((answered s e).0)) ((answered s e).1) events more h.1 k)

-- ---- claims and finishes name no outcome

work_names_none : (i : ℕ) (e : Event) → is_work e ≡ true → named_for i e ≡ None
work_names_none i (Completes who j v) h = cc
work_names_none i (Fails who j code) h = cc
work_names_none i (FailsAs who j failure) h = cc
work_names_none i (Cancels who j) h = cc
work_names_none i (Claims who j) h = refl
work_names_none i (Finishes who j answer) h = refl
work_names_none i (Ticks who now) h = cc
work_names_none i (Attaches who form of function) h = cc

named_without : (i : ℕ) (b : Bool) (e : Event) (events rest : List Event) → is_work e ≡ b → first_named events i ≡ first_named rest i → first_named (e ∷ events) i ≡ first_named (cond b rest (e ∷ rest)) i
named_without i true e events rest t h = ap (λ x. option_or x (first_named events i)) (work_names_none i e t) ∙ h
named_without i false e events rest t h = ap (option_or (named_for i e)) h

first_named-without_work : (i : ℕ) (events : List Event) → first_named events i ≡ first_named (without_work events) i
first_named-without_work i [] = refl
first_named-without_work i (e ∷ events) = named_without i (is_work e) e events (without_work events) refl (first_named-without_work i events)

pub work_keeps_expressions : WorkKeepsExpressions
work_keeps_expressions plan events others meanings i same =
    ap (λ named. expr_in (exprs_from meanings named 0 [] plan.stages) i)
    (fun_ext λ j. first_named-without_work j events ∙ ap (λ l. first_named l j) same ∙ sym (first_named-without_work j others))

-- work that comes last is left out
none_left : (b : Bool) (e : Event) (rest : List Event) → b ≡ true → rest ≡ [] → cond b rest (e ∷ rest) ≡ []
none_left true e rest t h = h
none_left false e rest t h = cc

work_alone : (work : List Event) → All (λ e. is_work e ≡ true) work → without_work work ≡ []
work_alone [] h = refl
work_alone (e ∷ work) h =
    none_left (is_work e) e (without_work work) (All-head (λ x. is_work x ≡ true) e work h) (work_alone work (All-tail (λ x. is_work x ≡ true) e work h))

same_left : (b : Bool) (e : Event) (xs ys : List Event) → xs ≡ ys → cond b xs (e ∷ xs) ≡ cond b ys (e ∷ ys)
same_left b e xs ys h = ap (λ l. cond b l (e ∷ l)) h

pub without_work-append : (events work : List Event) → All (λ e. is_work e ≡ true) work → without_work (events ++ work) ≡ without_work events
without_work-append [] work h = work_alone work h
without_work-append (e ∷ events) work h = same_left (is_work e) e (without_work (events ++ work)) (without_work events) (without_work-append events work h)

-- ---- a caller's claim is granted nothing to others

unless_same : (b c : Bool) (x y : Option Args) → b ≡ false → cond (b && c) x y ≡ y
unless_same true c x y e = cc
unless_same false c x y e = refl

differs : (w who : ℕ) → w ≢ who → (w == who) ≡ false
differs w who ne = grind (arith, nat_tests)

pub granted_with-other : (granted : Grants) (who i w k : ℕ) (reply : Reply) → w ≢ who → granted_with granted (Claims who i) reply w k ≡ granted w k
granted_with-other granted who i w k (ToldClaim (Granted args)) ne = unless_same (w == who) (k == i) (Some args) (granted w k) (differs w who ne)
granted_with-other granted who i w k (ToldClaim Settled) ne = refl
granted_with-other granted who i w k (ToldClaim Taken) ne = refl
granted_with-other granted who i w k (ToldClaim NotReady) ne = refl
granted_with-other granted who i w k (ToldFlag b) ne = refl
granted_with-other granted who i w k (ToldFinish f) ne = refl
granted_with-other granted who i w k (ToldTick t) ne = refl
granted_with-other granted who i w k (ToldAttach a) ne = refl
