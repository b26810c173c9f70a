-- Passes that workers have worked with, one after another.
use Rattle.std.proofs.Common.{◌≡◌, ℕ, ◌+◌, ◌<◌, ◌≤◌, Bool, true, false, Option, Some, None, Result, Ok, Err, MatchResult, List, [], ◌∷◌, ◌++◌, length, map, All, sym, refl, ap, ◌∙◌, subst, append_assoc, append-nil, eqb, length-append, take, get_or, arith}
use Rattle.std.specs.Prelude.{nat_lt}
use Rattle.std.specs.List.{AllZip}
use Rattle.std.proofs.lemmas.List.{take_more}
use Rattle.std.proofs.lemmas.List.Elements.{All-cons, All-head, All-nil, All-tail, All-push, All-weaker, Contains-append_left, Contains-push, filter-append}
use borrow.Author.Tests.{ltb-true, ltb-false}
use mathlib.Core.List.{map-append}
use Rattle.cf_desk.specs.declared.faults.DeskFault.{DeskFault}
use Rattle.cf_model.specs.declared.events.Event.{Event}
use Rattle.cf_model.specs.Calls.{who_of}
use Rattle.cf_desk.specs.Log.{Catches}
use Rattle.cf_desk.specs.Rule.{AllShort}
use Rattle.cf_desk.specs.Views.{Pass, Meets, Desk, knowns}
use Rattle.cf_desk.proofs.Gathers.{short_push}
use Rattle.cf_desk.proofs.Meets.{short_more}
use Rattle.cf_desk.proofs.Passes.{none_new}
use Rattle.cf_pool.specs.declared.pool.Met.{Met}
use Rattle.cf_pool.specs.declared.pool.Worked.{Worked}
use Rattle.cf_pool.specs.Runs.{EndsIf, IsFirst, IsWorkedBy, SeesMore, Stop, first_with, lower_of, stop_of}
use Rattle.cf_pool.specs.Answering.{Answers}
use Rattle.cf_model.specs.Calling.{CallsOf}
use Rattle.cf_pool.specs.Calling.{TellsOf}

-- ---- the lowest caller that was stopped

lower_more : (stops : List Stop) (met new : Met) (b : Bool) → nat_lt new.caller met.caller ≡ b → IsFirst stops (Some met) → IsFirst (stops ++ (new.caller, Some new.fault) ∷ []) (Some (lower_of b met new))
lower_more stops met new true e h =
    let lt : new.caller < met.caller = ltb-true new.caller met.caller e in (
      Contains-push stops (new.caller, Some new.fault),
      All-push (EndsIf new.caller) stops (new.caller, Some new.fault) (All-weaker (EndsIf met.caller) (EndsIf new.caller) (λ (x : Stop) f l. f (omega arith)) stops h.1) (λ l. absurd (omega arith)),
    )
lower_more stops met new false e h =
    let le : met.caller ≤ new.caller = ltb-false new.caller met.caller e in (
      Contains-append_left stops ((new.caller, Some new.fault) ∷ []) (met.caller, Some met.fault) h.0,
      All-push (EndsIf met.caller) stops (new.caller, Some new.fault) h.1 (λ l. absurd (omega arith)),
    )

pub first_more : (stops : List Stop) (met : Option Met) (caller : ℕ) (fault : Option DeskFault) → IsFirst stops met → IsFirst (stops ++ (caller, fault) ∷ []) (first_with met caller fault)
first_more stops None caller None h = All-push (λ (x : Stop). x.1 ≡ None) stops (caller, None) h refl
first_more stops (Some met) caller None h =
    (Contains-append_left stops ((caller, None) ∷ []) (met.caller, Some met.fault) h.0, All-push (EndsIf met.caller) stops (caller, None) h.1 (λ l. refl))
first_more stops None caller (Some fault) h = (
  Contains-push stops (caller, Some fault),
  All-push (EndsIf caller) stops (caller, Some fault) (All-weaker (λ (x : Stop). x.1 ≡ None) (EndsIf caller) (λ (x : Stop) e l. e) stops h) (λ l. absurd (omega arith)),
)
first_more stops (Some met) caller (Some fault) h = lower_more stops met (record { caller = caller; fault = fault }) (nat_lt caller met.caller) refl h

-- ---- lists side by side

pub zip_push : {A B : Type 0} (R : A → B → Type 0) (xs : List A) (ys : List B) (x : A) (y : B) → AllZip R xs ys → R x y → AllZip R (xs ++ x ∷ []) (ys ++ y ∷ [])
zip_push R [] [] x y h r = (r, tt)
zip_push R [] (b ∷ ys) x y h r = absurd h
zip_push R (a ∷ xs) [] x y h r = absurd h
zip_push R (a ∷ xs) (b ∷ ys) x y h r = (h.0, zip_push R xs ys x y h.1 r)

-- what a loop over a list has made so far: beside it goes what the others lead to
abbrev pub PoolGoesOn : {A B : Type 0} → (A → B → Type 0) → List A → List A → List B → Type 0
PoolGoesOn {A} {B} R all rest ys = (zs : List B) → AllZip R rest zs → AllZip R all (ys ++ zs)

pub zip_begun : {A B : Type 0} (R : A → B → Type 0) (all rest : List A) (ys : List B) → rest ≡ all → ys ≡ [] → PoolGoesOn R all rest ys
zip_begun R all rest ys same none zs h = subst (λ l. AllZip R all (l ++ zs)) (sym none) (subst (λ l. AllZip R l zs) same h)

pub zip_step : {A B : Type 0} (R : A → B → Type 0) (all was rest : List A) (ys now : List B) (x : A) (y : B) → was ≡ x ∷ rest → now ≡ ys ++ y ∷ [] → R x y → PoolGoesOn R all was ys → PoolGoesOn R all rest now
zip_step R all was rest ys now x y first items r g zs h =
    subst (AllZip R all) (sym (append_assoc ys (y ∷ []) zs) ∙ ap (λ l. l ++ zs) (sym items)) (g (y ∷ zs) (subst (λ l. AllZip R l (y ∷ zs)) (sym first) (r, h)))

pub zip_ended : {A B : Type 0} (R : A → B → Type 0) (all rest : List A) (ys : List B) → length rest ≡ 0 → PoolGoesOn R all rest ys → AllZip R all ys
zip_ended R all [] ys none g = subst (AllZip R all) (append-nil ys) (g [] tt)
zip_ended R all (x ∷ rest) ys none g = absurd (omega arith)

-- what is side by side with a list, and that with a third
pub zip_through : {A B C : Type 0} (P : A → B → Type 0) (Q : B → C → Type 0) (R : A → C → Type 0) → ((x : A) (y : B) (z : C) → P x y → Q y z → R x z) → (xs : List A) (ys : List B) (zs : List C) → AllZip P xs ys → AllZip Q ys zs → AllZip R xs zs
zip_through P Q R f [] [] [] p q = tt
zip_through P Q R f [] [] (z ∷ zs) p q = absurd q
zip_through P Q R f [] (y ∷ ys) zs p q = absurd p
zip_through P Q R f (x ∷ xs) [] zs p q = absurd p
zip_through P Q R f (x ∷ xs) (y ∷ ys) [] p q = absurd q
zip_through P Q R f (x ∷ xs) (y ∷ ys) (z ∷ zs) p q = (f x y z p.0 q.0, zip_through P Q R f xs ys zs p.1 q.1)

pub all_mapped : {A B : Type 0} (P : B → Type 0) (f : A → B) (xs : List A) → All P (map f xs) → All (λ x. P (f x)) xs
all_mapped P f [] h = All-nil (λ x. P (f x))
all_mapped P f (x ∷ xs) h = All-cons (λ y. P (f y)) x xs (All-head P (f x) (map f xs) h) (all_mapped P f xs (All-tail P (f x) (map f xs) h))

-- ---- passes that see more

catches_then : (c : ℕ) (xs ys zs : List Event) → Catches c xs ys → Catches c ys zs → Catches c xs zs
catches_then c xs ys zs f g = record {
  others = f.others ++ g.others;
  joined = g.joined ∙ ap (λ l. l ++ g.others) f.joined ∙ append_assoc xs f.others g.others;
  none = filter-append (λ x. eqb (who_of x) c) f.others g.others ∙ (rw (f.none, g.none) refl);
}

pub sees_itself : (p : Pass) → SeesMore p p
sees_itself p = record { same = (refl, refl, refl, refl); caught = none_new p.known.caller p.known.seen; records = refl; looks = refl }

pub sees_then : (p q r : Pass) → SeesMore p q → SeesMore q r → SeesMore p r
sees_then p q r a b = record {
  same = (b.same.0 ∙ a.same.0, b.same.1 ∙ a.same.1, b.same.2 ∙ a.same.2, b.same.3 ∙ a.same.3);
  caught = catches_then p.known.caller p.known.seen q.known.seen r.known.seen a.caught (subst (λ (c : ℕ). Catches c q.known.seen r.known.seen) a.same.2 b.caught);
  records = b.records ∙ a.records;
  looks = b.looks ∙ a.looks;
}

pub sees_left : (p q p' q' : Pass) → Meets p q p' q' → SeesMore p p'
sees_left p q p' q' m = record {
  same = (ap (λ (h : Pass). h.table) m.left, ap (λ (h : Pass). h.known.setting) m.left, ap (λ (h : Pass). h.known.caller) m.left, ap (λ (h : Pass). h.calls) m.left);
  caught = subst (λ (h : Pass). Catches p.known.caller p.known.seen h.known.seen) (sym m.left) m.begins_left;
  records = ap (λ (h : Pass). h.records) m.left;
  looks = ap (λ (h : Pass). h.known.looks) m.left;
}

pub sees_right : (p q p' q' : Pass) → Meets p q p' q' → SeesMore q q'
sees_right p q p' q' m = record {
  same = (ap (λ (h : Pass). h.table) m.right, ap (λ (h : Pass). h.known.setting) m.right, ap (λ (h : Pass). h.known.caller) m.right, ap (λ (h : Pass). h.calls) m.right);
  caught = subst (λ (h : Pass). Catches q.known.caller q.known.seen h.known.seen) (sym m.right) m.begins_right;
  records = ap (λ (h : Pass). h.records) m.right;
  looks = ap (λ (h : Pass). h.known.looks) m.right;
}

pub sees_longer : (p q : Pass) → SeesMore p q → length p.known.seen ≤ length q.known.seen
sees_longer p q a = let e = ap length a.caught.joined in let l = length-append p.known.seen a.caught.others in omega arith

-- the other passes, with one more that has met the caller's
pub short_met : (p q p' q' : Pass) (qs : List Pass) → Meets p q p' q' → AllShort (length p.known.seen) (knowns qs) → AllShort (length p'.known.seen) (knowns (qs ++ q' ∷ []))
short_met p q p' q' qs m h =
    let n = sees_longer p p' (sees_left p q p' q' m) in
    let a = ap (λ (x : Pass). length x.known.seen) m.left in
    let b = ap (λ (x : Pass). length x.known.seen) m.right in
    subst (AllShort (length p'.known.seen)) (sym (map-append (λ (x : Pass). x.known) qs (q' ∷ [])))
    (short_push (length p'.known.seen) (knowns qs) q'.known (short_more (length p.known.seen) (length p'.known.seen) n (knowns qs) h) (omega arith))

pub stop_step : {M : Type 0} (ws : List (Worked M)) (i caller : ℕ) (w : Worked M) (met now : Option Met) → i < length ws → w ≡ get_or ws i w → caller ≡ w.pass.known.caller → now ≡ first_with met caller w.fault → IsFirst (map stop_of (take i ws)) met → IsFirst (map stop_of (take (i + 1) ws)) now
stop_step ws i caller w met now l is by_caller by_fault h =
    let more : take (i + 1) ws ≡ take i ws ++ w ∷ [] = take_more ws i w l ∙ ap (λ x. take i ws ++ x ∷ []) (sym is) in
    let stops : map stop_of (take (i + 1) ws) ≡ map stop_of (take i ws) ++ stop_of w ∷ [] = ap (map stop_of) more ∙ map-append stop_of (take i ws) (w ∷ []) in
    let then : now ≡ first_with met w.pass.known.caller w.fault = by_fault ∙ ap (λ n. first_with met n w.fault) by_caller in
    subst (λ m. IsFirst (map stop_of (take (i + 1) ws)) m) (sym then)
    (subst (λ s. IsFirst s (first_with met w.pass.known.caller w.fault)) (sym stops) (first_more (map stop_of (take i ws)) met w.pass.known.caller w.fault h))

pub parts_step : {H X : Type 0} (f : H → X) (hs now : List H) (h : H) (p : X) (rest all : List X) → all ≡ map f hs ++ p ∷ rest → f h ≡ p → now ≡ hs ++ h ∷ [] → all ≡ map f now ++ rest
parts_step f hs now h p rest all parts same items =
    parts ∙ ap (λ x. map f hs ++ x ∷ rest) (sym same) ∙ sym (append_assoc (map f hs) (f h ∷ []) rest) ∙ ap (λ x. x ++ rest) (sym (ap (map f) items ∙ map-append f hs (h ∷ [])))

-- what a worker has come to, whose thread was joined, or which worked on the caller's
pub work_ended : {H M : Type 0} (tells : TellsOf M) (calls : CallsOf M) (answers : M → Answers) (was : H → Pass × M) (on : H → Desk) (d : Desk) (one : Pass × M) (started : Result H (Worked M)) (w : Worked M)
    → MatchResult started (λ h. (was h ≡ one) × (on h ≡ d)) (λ x. IsWorkedBy tells calls answers d 1000 one x × (x.alone ≡ true))
    → MatchResult started (λ h. IsWorkedBy tells calls answers (on h) 1000 (was h) w × (w.alone ≡ false)) (λ x. w ≡ x) → IsWorkedBy tells calls answers d 1000 one w
work_ended {H} {M} tells calls answers was on d one (Ok h) w same is =
    subst (λ (k : Pass × M). IsWorkedBy tells calls answers d 1000 k w) same.0 (subst (λ (x : Desk). IsWorkedBy tells calls answers x 1000 (was h) w) same.1 is.0)
work_ended tells calls answers was on d one (Err x) w is same = subst (λ y. IsWorkedBy tells calls answers d 1000 one y) (sym same) is.0
