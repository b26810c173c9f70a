-- Orders with one move more, and the situations to which they lead.
use Rattle.std.proofs.Common.{◌≡◌, ℕ, suc, ◌+◌, Some, None, Option, List, [], ◌∷◌, ◌++◌, length, ap, arith, refl, ◌∙◌, subst}
use Rattle.std.specs.Prelude.{Contains}
use Rattle.cf_forms.specs.Meanings.{Meanings}
use Rattle.cf_model.specs.declared.events.Event.{Event}
use Rattle.cf_explore.specs.declared.step.Move.{Move}
use Rattle.cf_explore.specs.Programs.{Programmed, Situated, start_of}
use Rattle.cf_explore.specs.Moves.{event_of, moved, moves}
use Rattle.cf_explore.specs.Orders.{AreMoves, IsOrder, after, led, next}
use Rattle.cf_explore_laws.specs.Tellings.{and_event, events_by}
use Rattle.cf_explore_laws.proofs.Lists.{contains-first, contains-joined, contains-map}

pub led-push : (m : Meanings) (p : Programmed) (s : Situated) (xs : List Move) (by : Move) → led m p s (xs ++ by ∷ []) ≡ moved m p (led m p s xs) by
led-push m p s [] by = refl
led-push m p s (x ∷ xs) by = led-push m p (moved m p s x) xs by

pub moves-push : (m : Meanings) (p : Programmed) (s : Situated) (xs : List Move) (by : Move) → AreMoves m p s xs → Contains (moves p (led m p s xs)) by → AreMoves m p s (xs ++ by ∷ [])
moves-push m p s [] by h can = (can, tt)
moves-push m p s (x ∷ xs) by h can = (h.0, moves-push m p (moved m p s x) xs by h.1 can)

and-push : (o : Option Event) (es fs : List Event) → and_event o (es ++ fs) ≡ and_event o es ++ fs
and-push None es fs = refl
and-push (Some e) es fs = refl

pub events-push : (m : Meanings) (p : Programmed) (s : Situated) (xs : List Move) (by : Move) → events_by m p s (xs ++ by ∷ []) ≡ events_by m p s xs ++ and_event (event_of p (led m p s xs) by) []
events-push m p s [] by = refl
events-push m p s (x ∷ xs) by =
    ap (and_event (event_of p s x)) (events-push m p (moved m p s x) xs by)
    ∙ and-push (event_of p s x) (events_by m p (moved m p s x) xs) (and_event (event_of p (led m p (moved m p s x) xs) by) [])

-- its first moves can be made
pub moves-front : (m : Meanings) (p : Programmed) (s : Situated) (xs ys : List Move) → AreMoves m p s (xs ++ ys) → AreMoves m p s xs
moves-front m p s [] ys h = tt
moves-front m p s (x ∷ xs) ys h = (h.0, moves-front m p (moved m p s x) xs ys h.1)

-- the situation to which an order leads is one of those after as many moves
after-led : (m : Meanings) (p : Programmed) (k : ℕ) (s : Situated) (order : List Move) → Contains (after m p k) s → AreMoves m p s order → Contains (after m p (k + length order)) (led m p s order)
after-led m p k s [] there h = subst (λ (n : ℕ). Contains (after m p n) s) (let e : k ≡ k + 0 = omega arith in e) there
after-led m p k s (by ∷ order) there h =
    let one : Contains (next m p s) (moved m p s by) = contains-map (moved m p s) (moves p s) by h.0 in
    let after_it : Contains (after m p (suc k)) (moved m p s by) = contains-joined (next m p) (after m p k) s (moved m p s by) there one in
    subst (λ (n : ℕ). Contains (after m p n) (led m p (moved m p s by) order)) (let e : suc k + length order ≡ k + suc (length order) = omega arith in e)
    (after-led m p (suc k) (moved m p s by) order after_it h.1)

pub order-after : (m : Meanings) (p : Programmed) (k : ℕ) (order : List Move) (s : Situated) → IsOrder m p k order s → Contains (after m p k) s
order-after m p k order s h =
    let there : Contains (after m p (0 + length order)) (led m p (start_of p) order) = after-led m p 0 (start_of p) order (contains-first (start_of p) []) h.can_be in
    let same : 0 + length order ≡ k = (let e = h.size in omega arith) in
    subst (λ (t : Situated). Contains (after m p k) t) h.leads (subst (λ (n : ℕ). Contains (after m p n) (led m p (start_of p) order)) same there)
