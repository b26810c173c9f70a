-- Whether two lists of outcomes are the same.
use Rattle.std.proofs.Common.{◌≡◌, Bool, true, false, Some, None, Option, List, ap, ap₂, refl}
use Rattle.std.specs.Prelude.{◌&&◌}
use Rattle.std.specs.Bool.{Decides, beq}
use Rattle.std.specs.Cmp.{signed_Decides, unsigned_Decides, booleans_Decides}
use Rattle.std.specs.Cmp.Lexicographic.{pointwise, pointwise_decides}
use Rattle.cf_outcome.specs.declared.outcome.Value.{Value}
use Rattle.cf_outcome.specs.declared.outcome.Value.TheVariants.{Nil, Int}
use Rattle.cf_outcome.specs.declared.outcome.Cause.{Cause}
use Rattle.cf_outcome.specs.declared.outcome.Cause.TheVariants.{Thrown, Cancelled, TimedOut, BadAnswer}
use Rattle.cf_outcome.specs.declared.outcome.Outcome.{Outcome}
use Rattle.cf_outcome.specs.declared.outcome.Outcome.TheVariants.{Value as Gives, Fault}
use Rattle.cf_explore.specs.Conditions.{same_cause, same_value}

-- what is one is told so, and what is two isn't
one : {A : Type 0} (x : A) → Decides true (x ≡ x)
one x = (λ e. refl, λ e. refl)

two : {P : Type 0} → (P → ⊥) → Decides false P
two not = ((λ e. (let never : ⊥ = cc in absurd never)), λ h. absurd (not h))

value_decides : (v w : Value) → Decides (same_value v w) (v ≡ w)
value_decides Nil Nil = one Nil
value_decides Nil (Int b) = two (λ e. cc)
value_decides (Int a) Nil = two (λ e. cc)
value_decides (Int a) (Int b) = let d = signed_Decides a b in ((λ e. ap Int (d.0 e)), λ e. d.1 (let same : a ≡ b = cc in same))

cause_decides : (a b : Cause) → Decides (same_cause a b) (a ≡ b)
cause_decides (Thrown a) (Thrown b) = let d = unsigned_Decides a b in ((λ e. ap Thrown (d.0 e)), λ e. d.1 (let same : a ≡ b = cc in same))
cause_decides (Thrown a) Cancelled = two (λ e. cc)
cause_decides (Thrown a) (TimedOut b) = two (λ e. cc)
cause_decides (Thrown a) (BadAnswer b) = two (λ e. cc)
cause_decides Cancelled (Thrown b) = two (λ e. cc)
cause_decides Cancelled Cancelled = one Cancelled
cause_decides Cancelled (TimedOut b) = two (λ e. cc)
cause_decides Cancelled (BadAnswer b) = two (λ e. cc)
cause_decides (TimedOut a) (Thrown b) = two (λ e. cc)
cause_decides (TimedOut a) Cancelled = two (λ e. cc)
cause_decides (TimedOut a) (TimedOut b) = let d = unsigned_Decides a b in ((λ e. ap TimedOut (d.0 e)), λ e. d.1 (let same : a ≡ b = cc in same))
cause_decides (TimedOut a) (BadAnswer b) = two (λ e. cc)
cause_decides (BadAnswer a) (Thrown b) = two (λ e. cc)
cause_decides (BadAnswer a) Cancelled = two (λ e. cc)
cause_decides (BadAnswer a) (TimedOut b) = two (λ e. cc)
cause_decides (BadAnswer a) (BadAnswer b) = let d = unsigned_Decides a b in ((λ e. ap BadAnswer (d.0 e)), λ e. d.1 (let same : a ≡ b = cc in same))

-- both of two things
both : {P Q : Type 0} (a b : Bool) → Decides a P → Decides b Q → Decides (a && b) (P × Q)
both true b p q = ((λ e. (p.0 refl, q.0 e)), λ h. q.1 h.1)
both false b p q = two (λ h. (let e = p.1 h.0 in cc))

same_outcome : Outcome → Outcome → Bool
same_outcome (Gives v) (Gives w) = same_value v w
same_outcome (Fault a x) (Fault b y) = same_cause a b && beq x y
same_outcome o q = false

outcome_decides : (o q : Outcome) → Decides (same_outcome o q) (o ≡ q)
unfolding same_outcome
outcome_decides (Gives v) (Gives w) = let d = value_decides v w in ((λ e. ap Gives (d.0 e)), λ e. d.1 (let same : v ≡ w = cc in same))
outcome_decides (Gives v) (Fault b y) = two (λ e. cc)
outcome_decides (Fault a x) (Gives w) = two (λ e. cc)
outcome_decides (Fault a x) (Fault b y) =
    let d = both (same_cause a b) (beq x y) (cause_decides a b) (booleans_Decides x y) in
    ((λ e. (let h = d.0 e in ap₂ Fault h.0 h.1)), λ e. d.1 ((let same : a ≡ b = cc in same), (let same : x ≡ y = cc in same)))

same_option : Option Outcome → Option Outcome → Bool
same_option (Some o) (Some q) = same_outcome o q
same_option None None = true
same_option a b = false

option_decides : (a b : Option Outcome) → Decides (same_option a b) (a ≡ b)
unfolding same_option
option_decides (Some o) (Some q) = let d = outcome_decides o q in ((λ e. ap Some (d.0 e)), λ e. d.1 (let same : o ≡ q = cc in same))
option_decides (Some o) None = two (λ e. cc)
option_decides None (Some q) = two (λ e. cc)
option_decides None None = one None

pub are_same : List (Option Outcome) → List (Option Outcome) → Bool
are_same xs ys = pointwise same_option xs ys

pub same_decides : (xs ys : List (Option Outcome)) → Decides (are_same xs ys) (xs ≡ ys)
unfolding are_same
same_decides xs ys = pointwise_decides option_decides xs ys
