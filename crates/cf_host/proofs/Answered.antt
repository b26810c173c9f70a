-- Each ticket is answered once.
use Rattle.std.proofs.Common.{◌≡◌, ℕ, ◌<◌, ◌≤◌, Bool, true, false, cond, eqb, Some, Option, List, [], ◌∷◌, ◌++◌, refl, ap, sym, subst, ◌∙◌, inl, inr, arith}
use Rattle.std.proofs.lemmas.Bool.Decides.{eqb_tells}
use Rattle.cf_host.specs.declared.ticket.Ticket.{Ticket}
use Rattle.cf_host.specs.Tickets.{AreAmong, AreApart, Call, ComesTo, EachIsAnsweredOnce, IsOneOf, NoneHas, Tickets, closed_in, closes, opened_in, opens, reserves, ticket_of, without}

-- no number is above the last one
abbrev pub AreLow : ℕ → List Ticket → Type 0
AreLow last [] = Unit {0}
AreLow last (t ∷ ts) = (t.number ≤ last) × AreLow last ts

pub low_more : (a b : ℕ) (ts : List Ticket) → a ≤ b → AreLow a ts → AreLow b ts
low_more a b [] l h = tt
low_more a b (t ∷ ts) l h = ((let n = h.0 in omega (arith, n, l)), low_more a b ts l h.1)

pub none_low : (n last : ℕ) (ts : List Ticket) → last < n → AreLow last ts → NoneHas n ts
none_low n last [] l h = tt
none_low n last (t ∷ ts) l h = ((λ e. let m = h.0 in absurd (omega (arith, m, l, e))), none_low n last ts l h.1)

among_more : (t : Ticket) (ts us : List Ticket) → AreAmong ts us → AreAmong ts (t ∷ us)
among_more t [] us h = tt
among_more t (x ∷ ts) us h = (inr h.0, among_more t ts us h.1)

none_one : (n : ℕ) (t : Ticket) (us : List Ticket) → IsOneOf t us → NoneHas n us → t.number ≡ n → ⊥
none_one n t [] one h e = absurd one
none_one n t (u ∷ us) one h e = elim one [
  | inl is ↦ h.0 (ap (λ (x : Ticket). x.number) is ∙ e)
  | inr later ↦ none_one n t us later h.1 e
]

none_among : (n : ℕ) (ts us : List Ticket) → AreAmong ts us → NoneHas n us → NoneHas n ts
none_among n [] us h none = tt
none_among n (t ∷ ts) us h none = ((λ e. none_one n t us h.0 none e), none_among n ts us h.1 none)

-- these were opened and not closed
abbrev IsOpen : List Ticket → List Ticket → Ticket → Type 0
IsOpen os cs t = IsOneOf t os × NoneHas t.number cs

abbrev AreOpen : List Ticket → List Ticket → List Ticket → Type 0
AreOpen os cs [] = Unit {0}
AreOpen os cs (t ∷ ts) = IsOpen os cs t × AreOpen os cs ts

open_more : (t : Ticket) (os cs ts : List Ticket) → AreOpen os cs ts → AreOpen (t ∷ os) cs ts
open_more t os cs [] h = tt
open_more t os cs (x ∷ ts) h = ((inr h.0.0, h.0.1), open_more t os cs ts h.1)

open_append : (t : Ticket) (os cs ts : List Ticket) → AreOpen os cs ts → IsOpen os cs t → AreOpen os cs (ts ++ t ∷ [])
open_append t os cs [] h one = (one, tt)
open_append t os cs (x ∷ ts) h one = (h.0, open_append t os cs ts h.1 one)

found_first : (b : Bool) (os cs : List Ticket) (u t : Ticket) (rest : Option Ticket) → IsOpen os cs u → (rest ≡ Some t → IsOpen os cs t) →
    cond b (Some u) rest ≡ Some t → IsOpen os cs t
found_first true os cs u t rest one later e = let is : u ≡ t = cc in subst (IsOpen os cs) is one
found_first false os cs u t rest one later e = later e

open_found : (n : ℕ) (t : Ticket) (os cs ts : List Ticket) → AreOpen os cs ts → ticket_of n ts ≡ Some t → IsOpen os cs t
open_found n t os cs [] h e = cc
open_found n t os cs (u ∷ ts) h e = found_first (eqb u.number n) os cs u t (ticket_of n ts) h.0 (open_found n t os cs ts h.1) e

open_without : (t : Ticket) (os cs ts : List Ticket) → AreOpen os cs ts → AreOpen os (t ∷ cs) (without t.number ts)
open_without t os cs [] h = tt
open_without t os cs (u ∷ ts) h = elim (eqb_tells u.number t.number) [
  | inl p ↦ rw p.0 (open_without t os cs ts h.1)
  | inr p ↦ rw p.0 ((h.0.0, ((λ e. p.1 (sym e)), h.0.1)), open_without t os cs ts h.1)
]

record IsKept (calls : List Call) (w : Tickets) : Type 0 where
  low : AreLow w.last (opened_in calls)
  numbers : AreApart (opened_in calls)
  opened : AreAmong (closed_in calls) (opened_in calls)
  once : AreApart (closed_in calls)
  waits : AreOpen (opened_in calls) (closed_in calls) w.waiting

kept : (calls : List Call) (w : Tickets) → ComesTo calls w → IsKept calls w
kept [] w h = subst (IsKept []) (sym h) (record { low = tt; numbers = tt; opened = tt; once = tt; waits = tt })
kept (opens t ∷ calls) w (v, before, call) =
    let k = kept calls v before in
    let number = call.number in
    let last = call.last in
    let none = none_low t.number v.last (opened_in calls) (omega (arith, number)) k.low in
    record {
      low = (omega (arith, last), low_more v.last w.last (opened_in calls) (omega (arith, number, last)) k.low);
      numbers = (none, k.numbers);
      opened = among_more t (closed_in calls) (opened_in calls) k.opened;
      once = k.once;
      waits = subst (AreOpen (t ∷ opened_in calls) (closed_in calls)) (sym call.waiting)
          (open_append t (t ∷ opened_in calls) (closed_in calls) v.waiting (open_more t (opened_in calls) (closed_in calls) v.waiting k.waits)
          (inl refl, none_among t.number (closed_in calls) (opened_in calls) k.opened none));
    }
kept (closes t ∷ calls) w (v, before, call) =
    let k = kept calls v before in
    let one = open_found t.number t (opened_in calls) (closed_in calls) v.waiting k.waits call.is in
    record {
      low = subst (λ (n : ℕ). AreLow n (opened_in calls)) (sym call.last) k.low;
      numbers = k.numbers;
      opened = (one.0, k.opened);
      once = (one.1, k.once);
      waits = subst (AreOpen (opened_in calls) (t ∷ closed_in calls)) (sym call.waiting) (open_without t (opened_in calls) (closed_in calls) v.waiting k.waits);
    }
kept (reserves ∷ calls) w (v, before, call) =
    let k = kept calls v before in
    record {
      low = subst (λ (n : ℕ). AreLow n (opened_in calls)) (sym call.last) k.low;
      numbers = k.numbers;
      opened = k.opened;
      once = k.once;
      waits = subst (AreOpen (opened_in calls) (closed_in calls)) (sym call.waiting) k.waits;
    }

pub each_is_answered_once : EachIsAnsweredOnce
each_is_answered_once calls w h = let k = kept calls w h in record { numbers = k.numbers; opened = k.opened; once = k.once }
