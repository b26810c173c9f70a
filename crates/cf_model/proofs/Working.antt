-- Work ends with nothing ready, and keeps the plan.
use Rattle.std.proofs.Common.{◌≡◌, ℕ, ◌+◌, ◌<◌, ◌≤◌, Option, Some, None, zero, suc, length, arith, ap, sym, subst, ◌∙◌, refl}
use Rattle.std.proofs.lemmas.List.Sums.{count_by-le-length}
use Rattle.cf_forms.specs.Meanings.{Meanings, stage_answer}
use Rattle.cf_model.specs.declared.replies.Claimed.TheVariants as claims
use Rattle.cf_model.specs.declared.events.Event.TheVariants.{Claim as Claims, Finish as Finishes}
use Rattle.cf_model.specs.declared.events.Reply.{Reply}
use Rattle.cf_model.specs.declared.events.Reply.TheVariants as replies
use Rattle.cf_model.specs.States.{State, lowest_ready_of}
use Rattle.cf_model.specs.Events.{answered}
use Rattle.cf_model.specs.Claims.{is_claimable, claimable_count}
use Rattle.cf_model.specs.Growth.{SameShape}
use Rattle.cf_model.specs.Working.{finished_after, worked_once, and_one, working, worked}
use Rattle.cf_model.proofs.Claimable.{others-claimable, claiming-claimable, ready-granted}
use Rattle.cf_model.proofs.LowestReady.{lowest_ready-is_ready}
use Rattle.cf_model.proofs.Shape.{answered-shape}

-- ---- one turn

finished_after-claimable : (who : ℕ) (m : Meanings) (i : ℕ) (r : Reply) (s : State) → claimable_count (finished_after who m i (r, s)) ≤ claimable_count s
finished_after-claimable who m i (replies.Claim (claims.Granted args)) s = others-claimable s (Finishes who i (stage_answer m s.plan.stages i args)) refl
finished_after-claimable who m i (replies.Claim claims.Settled) s = omega arith
finished_after-claimable who m i (replies.Claim claims.Taken) s = omega arith
finished_after-claimable who m i (replies.Claim claims.NotReady) s = omega arith
finished_after-claimable who m i (replies.Flag b) s = omega arith
finished_after-claimable who m i (replies.Finish f) s = omega arith
finished_after-claimable who m i (replies.Tick t) s = omega arith
finished_after-claimable who m i (replies.Attach a) s = omega arith

-- a turn leaves fewer stages that may be claimed
pub worked_once-claimable : (who : ℕ) (m : Meanings) (s : State) (i : ℕ) → lowest_ready_of s ≡ Some i → claimable_count (worked_once who m s i) < claimable_count s
worked_once-claimable who m s i e =
    let (args, granted) = ready-granted s who i (lowest_ready-is_ready s i e) in
    let claimed = claiming-claimable s who i args granted in
    let done = answered s (Claims who i) in
    let finished = finished_after-claimable who m i done.0 done.1 in
    omega (arith, claimed, finished)

pub same_shape : (s : State) → SameShape s s
same_shape s = record { plan = refl; all_stages = refl; all_claims = refl }

pub then_shape : (s r t : State) → SameShape s r → SameShape r t → SameShape s t
then_shape s r t f g = record { plan = g.plan ∙ f.plan; all_stages = g.all_stages ∙ f.all_stages; all_claims = g.all_claims ∙ f.all_claims }

finished_after-shape : (who : ℕ) (m : Meanings) (i : ℕ) (r : Reply) (s : State) → SameShape s (finished_after who m i (r, s))
finished_after-shape who m i (replies.Claim (claims.Granted args)) s = answered-shape s (Finishes who i (stage_answer m s.plan.stages i args)) refl
finished_after-shape who m i (replies.Claim claims.Settled) s = same_shape s
finished_after-shape who m i (replies.Claim claims.Taken) s = same_shape s
finished_after-shape who m i (replies.Claim claims.NotReady) s = same_shape s
finished_after-shape who m i (replies.Flag b) s = same_shape s
finished_after-shape who m i (replies.Finish f) s = same_shape s
finished_after-shape who m i (replies.Tick t) s = same_shape s
finished_after-shape who m i (replies.Attach a) s = same_shape s

pub worked_once-shape : (who : ℕ) (m : Meanings) (s : State) (i : ℕ) → SameShape s (worked_once who m s i)
worked_once-shape who m s i =
    let done = answered s (Claims who i) in
    then_shape s done.1 (worked_once who m s i) (answered-shape s (Claims who i) refl) (finished_after-shape who m i done.0 done.1)

-- ---- all turns

-- a ready stage may be claimed
pub some_claimable : (s : State) (i : ℕ) → lowest_ready_of s ≡ Some i → 0 < claimable_count s
some_claimable s i e =
    let (args, granted) = ready-granted s 0 i (lowest_ready-is_ready s i e) in
    let claimed = claiming-claimable s 0 i args granted in
    omega (arith, claimed)

pub working-none : (most who : ℕ) (m : Meanings) (s : State) → lowest_ready_of s ≡ None → working most who m s ≡ (0, s)
working-none zero who m s e = refl
working-none (suc most) who m s e = rw e refl

pub working-some : (most who : ℕ) (m : Meanings) (s : State) (i : ℕ) → lowest_ready_of s ≡ Some i → working (suc most) who m s ≡ and_one (working most who m (worked_once who m s i))
working-some most who m s i e = rw e refl

-- what is known between two turns: so many are left that give the whole, and each stage that may be claimed has one
pub record IsBetweenTurns (who : ℕ) (m : Meanings) (whole : ℕ × State) (stages calls : ℕ) (s : State) : Type 0 where
  pub left : ℕ
  pub counted : left + calls ≡ stages
  pub enough : claimable_count s ≤ left
  pub goes_on : (calls + (working left who m s).0, (working left who m s).1) ≡ whole

pub at_first : (who : ℕ) (m : Meanings) (s : State) (stages : ℕ) → stages ≡ length s.plan.stages → length s.stages ≡ length s.plan.stages → IsBetweenTurns who m (worked who m s) stages 0 s
at_first who m s stages all same = record {
  left = length s.plan.stages;
  counted = omega arith;
  enough = let at_most = count_by-le-length is_claimable s.stages in omega arith;
  goes_on = let w = worked who m s in let e : 0 + w.0 ≡ w.0 = omega arith in ap (λ n. (n, w.1)) e;
}

turn_taken : (left : ℕ) (who : ℕ) (m : Meanings) (whole : ℕ × State) (stages calls : ℕ) (s : State) (i : ℕ) → lowest_ready_of s ≡ Some i →
    left + calls ≡ stages → claimable_count s ≤ left → (calls + (working left who m s).0, (working left who m s).1) ≡ whole →
    IsBetweenTurns who m whole stages (calls + 1) (worked_once who m s i)
turn_taken zero who m whole stages calls s i e counted enough goes_on =
    let some = some_claimable s i e in absurd (omega arith)
turn_taken (suc left) who m whole stages calls s i e counted enough goes_on =
    let rest = working left who m (worked_once who m s i) in
    let one = working-some left who m s i e in
    let sum : calls + 1 + rest.0 ≡ calls + (rest.0 + 1) = omega arith in
    let fewer = worked_once-claimable who m s i e in
    record {
      left = left;
      counted = omega arith;
      enough = omega arith;
      goes_on = ap (λ n. (n, rest.1)) sum ∙ ap (λ (done : ℕ × State). (calls + done.0, done.1)) (sym one) ∙ goes_on;
    }

pub one_more : (who : ℕ) (m : Meanings) (whole : ℕ × State) (stages calls : ℕ) (s : State) (i : ℕ) → lowest_ready_of s ≡ Some i →
    IsBetweenTurns who m whole stages calls s → IsBetweenTurns who m whole stages (calls + 1) (worked_once who m s i)
one_more who m whole stages calls s i e h = turn_taken h.left who m whole stages calls s i e h.counted h.enough h.goes_on

pub at_last : (who : ℕ) (m : Meanings) (whole : ℕ × State) (stages calls : ℕ) (s : State) → lowest_ready_of s ≡ None →
    IsBetweenTurns who m whole stages calls s → (calls, s) ≡ whole
at_last who m whole stages calls s e h =
    let none = working-none h.left who m s e in
    let sum : calls ≡ calls + 0 = omega arith in
    ap (λ n. (n, s)) sum ∙ ap (λ (done : ℕ × State). (calls + done.0, done.1)) (sym none) ∙ h.goes_on

-- ---- what work keeps and leaves

shape_at : (most who : ℕ) (m : Meanings) (s : State) (x : Option ℕ) → lowest_ready_of s ≡ x →
    ((t : State) → SameShape t ((working most who m t).1)) → SameShape s ((working (suc most) who m s).1)
shape_at most who m s None e rest = subst (λ (done : ℕ × State). SameShape s done.1) (sym (working-none (suc most) who m s e)) (same_shape s)
shape_at most who m s (Some i) e rest =
    let t = worked_once who m s i in
    subst (λ (done : ℕ × State). SameShape s done.1) (sym (working-some most who m s i e))
    (then_shape s t ((working most who m t).1) (worked_once-shape who m s i) (rest t))

working-shape : (most who : ℕ) (m : Meanings) (s : State) → SameShape s ((working most who m s).1)
working-shape zero who m s = same_shape s
working-shape (suc most) who m s = shape_at most who m s (lowest_ready_of s) refl (λ t. working-shape most who m t)

pub worked-shape : (who : ℕ) (m : Meanings) (s : State) → SameShape s ((worked who m s).1)
worked-shape who m s = working-shape (length s.plan.stages) who m s

none_claimable : (s : State) (x : Option ℕ) → lowest_ready_of s ≡ x → claimable_count s ≤ 0 → lowest_ready_of s ≡ None
none_claimable s None e none = e
none_claimable s (Some i) e none = let some = some_claimable s i e in absurd (omega arith)

ends_at : (most who : ℕ) (m : Meanings) (s : State) (x : Option ℕ) → lowest_ready_of s ≡ x → claimable_count s ≤ most + 1 →
    ((t : State) → claimable_count t ≤ most → lowest_ready_of ((working most who m t).1) ≡ None) → lowest_ready_of ((working (suc most) who m s).1) ≡ None
ends_at most who m s None e enough rest = subst (λ (done : ℕ × State). lowest_ready_of done.1 ≡ None) (sym (working-none (suc most) who m s e)) e
ends_at most who m s (Some i) e enough rest =
    let t = worked_once who m s i in
    let fewer = worked_once-claimable who m s i e in
    subst (λ (done : ℕ × State). lowest_ready_of done.1 ≡ None) (sym (working-some most who m s i e)) (rest t (omega (arith, fewer)))

working-ends : (most who : ℕ) (m : Meanings) (s : State) → claimable_count s ≤ most → lowest_ready_of ((working most who m s).1) ≡ None
working-ends zero who m s enough = none_claimable s (lowest_ready_of s) refl enough
working-ends (suc most) who m s enough = ends_at most who m s (lowest_ready_of s) refl (omega arith) (λ t fewer. working-ends most who m t fewer)

-- nothing is ready after work
pub worked-ends : (who : ℕ) (m : Meanings) (s : State) → length s.stages ≡ length s.plan.stages → lowest_ready_of ((worked who m s).1) ≡ None
worked-ends who m s same = working-ends (length s.plan.stages) who m s (let at_most = count_by-le-length is_claimable s.stages in omega arith)
