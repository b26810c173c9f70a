-- Which functions a worker calls, and how that adds up.
use Rattle.std.proofs.Common.{◌≡◌, ℕ, ◌+◌, ◌<◌, ◌≤◌, Option, Some, None, List, [], ◌∷◌, ◌++◌, length, cond, sym, refl, ap, ◌∙◌, subst, append-nil, append_assoc, arith}
use Rattle.std.specs.Prelude.{◌==◌}
use Rattle.std.proofs.lemmas.List.{append_cancel_left}
use Rattle.cf_forms.specs.declared.forms.Answer.{Answer}
use Rattle.cf_forms.specs.declared.forms.Args.{Args}
use Rattle.cf_forms.specs.Meanings.{meanings_of}
use Rattle.cf_pool.specs.Answering.{Answers, as_meant}
use Rattle.std.proofs.lemmas.List.Elements.{All-head, All-nil, All-weaker}
use Rattle.std.specs.List.{All}
use Rattle.cf_forms.specs.Plans.{Planned, PlannedStage}
use Rattle.cf_model.specs.declared.events.Reply.{Reply}
use Rattle.cf_model.specs.States.{State}
use Rattle.cf_model.specs.Growth.{Grows}
use Rattle.cf_model.specs.declared.calls.Call.TheVariants.{Claim, Finish}
use Rattle.cf_desk.specs.declared.calls.Rec.{Rec}
use Rattle.cf_desk.specs.declared.calls.Rec.TheVariants.{Did}
use Rattle.cf_desk.specs.Views.{Acts, Follows, Pass, state_of}
use Rattle.cf_desk.proofs.Passes.{same_acts, same_follows}
use Rattle.cf_model.specs.Calling.{CallsOf}
use Rattle.cf_pool.specs.Calling.{AreCalled, Calls, CallsOnce, RunsGranted, AnswerAlike, RunsStage, TellsOf, calls_by, calls_of, first_answers}
use Rattle.cf_pool.specs.Jobs.{AddsWork, granted_by}
use Rattle.cf_pool.specs.Works.{AreWork, Owed, Works, claims_by, claims_of, owed_after, owed_by}
use Rattle.cf_pool.proofs.Jobs.{acts_grow}
use Rattle.cf_pool.proofs.Working.{by_record, function_stays, more_stages, owed_as, owed_claim, pass_grows}

-- ---- a stage that was run stays so as the plan grows

granted_grown : {M : Type 0} (tells : TellsOf M) (calls : CallsOf M) (s r : State) (who : ℕ) (o : Owed) (rs : List Rec) (m n : M) → Grows s r → RunsGranted tells calls s.plan.stages who o rs m n → RunsGranted tells calls r.plan.stages who o rs m n
granted_grown tells calls s r who None rs m n g h = h
granted_grown tells calls s r who (Some owed) rs m n g h =
    let (answer, one, first) = h in (
      answer,
      record {
        there = (let l = one.there in let more = more_stages s r g in omega (arith, l, more));
        before = one.before;
        told = one.told;
        called = subst (λ k. calls one.before k owed.1 answer n) (function_stays s r owed.0 g one.there) one.called;
      },
      first,
    )

called_grown : {M : Type 0} (tells : TellsOf M) (calls : CallsOf M) (s r : State) (who : ℕ) (rs : List Rec) (m n : M) → Grows s r → AreCalled tells calls s.plan.stages who rs m n → AreCalled tells calls r.plan.stages who rs m n
called_grown tells calls s r who [] m n g h = h
called_grown tells calls s r who (x ∷ rs) m n g h =
    let (k, one, rest) = h in (k, granted_grown tells calls s r who (owed_by x) rs m k g one, called_grown tells calls s r who rs k n g rest)

-- ---- one after another

granted_append : {M : Type 0} (tells : TellsOf M) (calls : CallsOf M) (stages : List PlannedStage) (who : ℕ) (o : Owed) (xs ys : List Rec) (m n : M) → owed_after o xs ≡ None → RunsGranted tells calls stages who o xs m n → RunsGranted tells calls stages who o (xs ++ ys) m n
granted_append tells calls stages who None xs ys m n out h = h
granted_append tells calls stages who (Some owed) [] ys m n out h = cc
granted_append tells calls stages who (Some owed) (x ∷ xs) ys m n out h = h

called_append : {M : Type 0} (tells : TellsOf M) (calls : CallsOf M) (stages : List PlannedStage) (who : ℕ) (o : Owed) (xs ys : List Rec) (m k n : M) → owed_after o xs ≡ None → AreCalled tells calls stages who xs m k → AreCalled tells calls stages who ys k n → AreCalled tells calls stages who (xs ++ ys) m n
called_append tells calls stages who o [] ys m k n out f g = subst (λ x. AreCalled tells calls stages who ys x n) f g
called_append tells calls stages who o (x ∷ xs) ys m k n out f g =
    let (l, one, rest) = f in
    (l, granted_append tells calls stages who (owed_by x) xs ys m l out one, called_append tells calls stages who (owed_by x) xs ys l k n out rest g)

-- ---- what a pass adds

-- the pass has these records more, over the plan as it has seen it last
abbrev pub CallsIn : {M : Type 0} → TellsOf M → CallsOf M → Pass → Pass → M → M → Type 0
CallsIn tells calls p q m n = Calls tells calls (state_of q.known).plan.stages p.known.caller p.records q.records m n

pub calls_itself : {M : Type 0} (tells : TellsOf M) (calls : CallsOf M) (p : Pass) (m : M) → CallsIn tells calls p p m m
calls_itself tells calls p m = record { more = []; is = sym (append-nil p.records); called = refl }

-- where only more was seen, nothing is called
pub calls_follows : {M : Type 0} (tells : TellsOf M) (calls : CallsOf M) (p q : Pass) (m : M) → Follows p q → CallsIn tells calls p q m m
calls_follows tells calls p q m f = record { more = []; is = ap (λ (h : Pass). h.records) f.is ∙ sym (append-nil p.records); called = refl }

pub calls_on : {M : Type 0} (tells : TellsOf M) (calls : CallsOf M) (p q r : Pass) (m n : M) → CallsIn tells calls p q m n → Follows q r → CallsIn tells calls p r m n
calls_on tells calls p q r m n a f =
    let grows : Grows (state_of q.known) (state_of r.known) = pass_grows q r f.caught.others (same_follows q r f).1 (ap (λ (h : Pass). h.known.seen) f.is ∙ f.caught.joined) in
    record {
      more = a.more;
      is = ap (λ (h : Pass). h.records) f.is ∙ a.is;
      called = called_grown tells calls (state_of q.known) (state_of r.known) p.known.caller a.more m n grows a.called;
    }

-- what comes after work that owes nothing
pub calls_then : {M : Type 0} (tells : TellsOf M) (calls : CallsOf M) (answers : Answers) (p q r : Pass) (m k n : M) (owes : Owed) → AddsWork answers None p q None → AddsWork answers None q r owes
    → CallsIn tells calls p q m k → CallsIn tells calls q r k n → CallsIn tells calls p r m n
calls_then tells calls answers p q r m k n owes f g a b =
    let is : f.more ≡ a.more = append_cancel_left p.records f.more a.more (sym f.records ∙ a.is) in
    let grows : Grows (state_of q.known) (state_of r.known) = pass_grows q r g.seen g.same.1 g.goes_on in
    record {
      more = a.more ++ b.more;
      is = b.is ∙ ap (λ l. l ++ b.more) a.is ∙ append_assoc p.records a.more b.more;
      called = called_append tells calls (state_of r.known).plan.stages p.known.caller None a.more b.more m k n (subst (λ l. owed_after None l ≡ None) is f.owes_then)
          (called_grown tells calls (state_of q.known) (state_of r.known) p.known.caller a.more m k grows a.called)
          (subst (λ who. AreCalled tells calls (state_of r.known).plan.stages who b.more k n) f.same.2 b.called);
    }

-- ---- a job

-- a claim that wasn't granted
pub calls_claim : {M : Type 0} (tells : TellsOf M) (calls : CallsOf M) (p q : Pass) (m : M) (i : ℕ) (reply : Reply) → Acts p (Claim i) reply q → granted_by reply ≡ None → CallsIn tells calls p q m m
calls_claim tells calls p q m i reply a none =
    let owes : owed_by (Did (length a.before + 1) (Claim i) reply) ≡ None = owed_claim (length a.before + 1) i reply ∙ ap (owed_as i) none in
    record {
      more = Did (length a.before + 1) (Claim i) reply ∷ [];
      is = ap (λ (h : Pass). h.records) a.is;
      called = (m, subst (λ (o : Owed). RunsGranted tells calls (state_of q.known).plan.stages p.known.caller o [] m m) (sym owes) refl, refl);
    }

-- a claim that was granted, whose finish was refused
pub calls_granted : {M : Type 0} (tells : TellsOf M) (calls : CallsOf M) (p q r : Pass) (m n : M) (i : ℕ) (reply : Reply) (args : Args) (answer : Answer) → Acts p (Claim i) reply q → granted_by reply ≡ Some args
    → RunsStage tells calls (state_of q.known).plan.stages q.known.caller i args answer m n → Follows q r → CallsIn tells calls p r m n
calls_granted tells calls p q r m n i reply args answer a given run f =
    let x = Did (length a.before + 1) (Claim i) reply in
    let owes : owed_by x ≡ Some (i, args) = owed_claim (length a.before + 1) i reply ∙ ap (owed_as i) given in
    let caller : q.known.caller ≡ p.known.caller = (same_acts p q (Claim i) reply a).2 in
    let grows : Grows (state_of q.known) (state_of r.known) = pass_grows q r f.caught.others (same_follows q r f).1 (ap (λ (h : Pass). h.known.seen) f.is ∙ f.caught.joined) in
    let one : RunsGranted tells calls (state_of q.known).plan.stages p.known.caller (Some (i, args)) [] m n = subst (λ who. RunsGranted tells calls (state_of q.known).plan.stages who (Some (i, args)) [] m n) caller (answer, run, tt) in
    record {
      more = x ∷ [];
      is = ap (λ (h : Pass). h.records) f.is ∙ ap (λ (h : Pass). h.records) a.is;
      called = (n, subst (λ (o : Owed). RunsGranted tells calls (state_of r.known).plan.stages p.known.caller o [] m n) (sym owes) (granted_grown tells calls (state_of q.known) (state_of r.known) p.known.caller (Some (i, args)) [] m n grows one), refl);
    }

-- a claim that was granted, and its finish
pub calls_both : {M : Type 0} (tells : TellsOf M) (calls : CallsOf M) (p q r : Pass) (m n : M) (i : ℕ) (reply finished : Reply) (args : Args) (answer : Answer) → Acts p (Claim i) reply q → granted_by reply ≡ Some args
    → RunsStage tells calls (state_of q.known).plan.stages q.known.caller i args answer m n → Acts q (Finish i answer) finished r → CallsIn tells calls p r m n
calls_both tells calls p q r m n i reply finished args answer a given run b =
    let x = Did (length a.before + 1) (Claim i) reply in
    let y = Did (length b.before + 1) (Finish i answer) finished in
    let owes : owed_by x ≡ Some (i, args) = owed_claim (length a.before + 1) i reply ∙ ap (owed_as i) given in
    let caller : q.known.caller ≡ p.known.caller = (same_acts p q (Claim i) reply a).2 in
    let grows : Grows (state_of q.known) (state_of r.known) = acts_grow q r (Finish i answer) finished b in
    let one : RunsGranted tells calls (state_of q.known).plan.stages p.known.caller (Some (i, args)) (y ∷ []) m n = subst (λ who. RunsGranted tells calls (state_of q.known).plan.stages who (Some (i, args)) (y ∷ []) m n) caller (answer, run, (refl, refl)) in
    record {
      more = x ∷ y ∷ [];
      is = ap (λ (h : Pass). h.records) b.is ∙ ap (λ (l : List Rec). l ++ y ∷ []) (ap (λ (h : Pass). h.records) a.is) ∙ append_assoc p.records (x ∷ []) (y ∷ []);
      called = (n, subst (λ (o : Owed). RunsGranted tells calls (state_of r.known).plan.stages p.known.caller o (y ∷ []) m n) (sym owes) (granted_grown tells calls (state_of q.known) (state_of r.known) p.known.caller (Some (i, args)) (y ∷ []) m n grows one), (n, refl, refl));
    }

-- ---- no function twice

few_by : (i j : ℕ) (x : Option Args) → calls_by i (owed_as j x) ≤ cond (i == j) 1 0
few_by i j None = omega arith
few_by i j (Some args) = omega arith

by_claims : (answers : Answers) (plan : Planned) (i : ℕ) (o : Owed) (r : Rec) → AreWork answers plan o (r ∷ []) → calls_by i (owed_by r) ≤ claims_by i r
by_claims answers plan i o r h = by_record answers plan (λ (owed : Owed) (x : Rec). calls_by i (owed_by x) ≤ claims_by i x)
    (λ place j reply l. subst (λ (owed : Owed). calls_by i owed ≤ cond (i == j) 1 0) (sym (owed_claim place j reply)) (few_by i j (granted_by reply)))
    (λ place j args answer reply is. omega arith) o r h.0

of_claims : (answers : Answers) (plan : Planned) (i : ℕ) (o : Owed) (rs : List Rec) → AreWork answers plan o rs → calls_of i rs ≤ claims_of i rs
of_claims answers plan i o [] h = omega arith
of_claims answers plan i o (r ∷ rs) h =
    let one = by_claims answers plan i o r (h.0, tt) in
    let rest = of_claims answers plan i (owed_by r) rs h.1 in
    omega (arith, one, rest)

pub calls_once : {M : Type 0} (tells : TellsOf M) (calls : CallsOf M) (answers : Answers) (p q : Pass) (m n : M) → Works answers p q → CallsIn tells calls p q m n → CallsOnce tells calls (state_of q.known).plan.stages p.known.caller p.records q.records m n
calls_once tells calls answers p q m n w c =
    let is : w.more ≡ c.more = append_cancel_left p.records w.more c.more (sym w.records ∙ c.is) in
    record {
      each = c;
      once = λ i. (let few = of_claims answers (state_of q.known).plan i None w.more w.work in let one = w.once i in
          subst (λ l. calls_of i l ≤ 1) is (omega (arith, few, one)));
    }

-- ---- a run

pub once_grown : {M : Type 0} (tells : TellsOf M) (calls : CallsOf M) (s r : State) (who : ℕ) (records now : List Rec) (m n : M) → Grows s r → CallsOnce tells calls s.plan.stages who records now m n → CallsOnce tells calls r.plan.stages who records now m n
once_grown tells calls s r who records now m n g h = record {
  each = record { more = h.each.more; is = h.each.is; called = called_grown tells calls s r who h.each.more m n g h.each.called };
  once = h.once;
}

-- ---- workers that share their functions

pub first_shared : {W F : Type 0} (meaning : F → Args → Answer) (functions : W → List F) (fns : List F) (ws : List W) → 0 < length ws → All (λ w. functions w ≡ fns) ws → first_answers (λ w. as_meant (meanings_of meaning (functions w))) ws ≡ as_meant (meanings_of meaning fns)
first_shared meaning functions fns [] l h = absurd (omega arith)
first_shared meaning functions fns (w ∷ ws) l h = ap (λ l. as_meant (meanings_of meaning l)) (All-head (λ x. functions x ≡ fns) w ws h)

pub alike_shared : {W F : Type 0} (meaning : F → Args → Answer) (functions : W → List F) (fns : List F) (ws : List W) → All (λ w. functions w ≡ fns) ws → AnswerAlike (λ w. as_meant (meanings_of meaning (functions w))) ws
alike_shared meaning functions fns [] h = All-nil (λ w. as_meant (meanings_of meaning (functions w)) ≡ first_answers (λ x. as_meant (meanings_of meaning (functions x))) [])
alike_shared meaning functions fns (w ∷ ws) h =
    All-weaker (λ x. functions x ≡ fns) (λ x. as_meant (meanings_of meaning (functions x)) ≡ as_meant (meanings_of meaning (functions w))) (λ x e. ap (λ l. as_meant (meanings_of meaning l)) (e ∙ sym (All-head (λ x. functions x ≡ fns) w ws h))) (w ∷ ws) h
