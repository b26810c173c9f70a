-- The events of one caller among a front of others.
use Rattle.std.proofs.Common.{◌≡◌, ℕ, zero, suc, ◌<◌, List, [], ◌∷◌, take, refl, ap, ◌∙◌, eq-eqb, arith}
use Rattle.std.specs.Prelude.{Some, Bool, true, false, cond, eqb, slice_get}
use Rattle.cf_model.specs.declared.events.Event.{Event}
use Rattle.cf_model.specs.Calls.{who_of}
use Rattle.cf_event.specs.Events.{own}
use Rattle.cf_event.proofs.Events.{none_there}
use Rattle.cf_history.specs.Verdicts.{IsSkipped}

kept_some : (b : Bool) (x : Event) (ys : List Event) → b ≡ true → cond b (x ∷ ys) ys ≡ [] → ⊥
kept_some true x ys is e = cc
kept_some false x ys is e = cc

-- an event of the caller stands among these
pub own_there : (c n : ℕ) (rest : List Event) (e : Event) → slice_get rest n ≡ Some e → who_of e ≡ c → own c rest ≡ [] → ⊥
own_there c n [] e at mine none = cc
own_there c zero (x ∷ rest) e at mine none =
    let same : x ≡ e = cc in
    kept_some (eqb (who_of x) c) x (own c rest) (eq-eqb (who_of x) c (ap who_of same ∙ mine)) none
own_there c (suc n) (x ∷ rest) e at mine none = own_there c n rest e at mine (none_there c x rest (eqb (who_of x) c) none).1

pub get_take : {X : Type 0} (n most : ℕ) (rest : List X) → n < most → slice_get (take most rest) n ≡ slice_get rest n
get_take n zero rest l = absurd (omega arith)
get_take n (suc most) [] l = refl
get_take zero (suc most) (x ∷ rest) l = refl
get_take (suc n) (suc most) (x ∷ rest) l = get_take n most rest (omega arith)

-- where one stands among the first, the first aren't all others'
pub not_skipped : (c at most place : ℕ) (rest : List Event) → IsSkipped c rest at most place → own c (take most rest) ≡ [] → ⊥
not_skipped c at most place rest s none =
    own_there c s.before (take most rest) s.next.event (get_take s.before most rest s.below ∙ s.next.there) s.next.mine none
