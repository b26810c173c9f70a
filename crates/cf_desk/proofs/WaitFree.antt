-- Each call takes few steps.
use Rattle.std.proofs.Common.{◌≡◌, ◌∙◌, ℕ, ◌+◌, ◌≤◌, inl, inr, ⊎_elim, Option, Some, None, List, [], ◌∷◌, ◌++◌, length, refl, ap, length-append, arith}
use Rattle.cf_model.specs.declared.asks.Ask.{Ask}
use Rattle.cf_model.specs.declared.asks.Told.{Told}
use Rattle.cf_model.specs.declared.calls.Call.{Call}
use Rattle.cf_model.specs.declared.events.Event.{Event}
use Rattle.cf_model.specs.declared.events.Reply.{Reply}
use Rattle.cf_model.specs.Calls.{event_by}
use Rattle.cf_event.specs.Decoding.{event_of}
use Rattle.cf_desk.specs.declared.row.CallerView.{CallerView}
use Rattle.cf_desk.specs.Log.{Catches}
use Rattle.cf_desk.specs.Results.{CaughtUp}
use Rattle.cf_desk.specs.Rule.{AddsNext, LooksNext, looked, saw, with_seen}
use Rattle.cf_desk.specs.Views.{Acts, Desk, LooksFor, LooksOnce, Meets, Pass, Reads}
use Rattle.cf_desk.specs.WaitFree.{AreCalls, CallsTakeFewSteps, EachIsOneStep, IsOneStep, PassesAreWaitFree, TakesSteps, after_calls, most_looks}
use Rattle.cf_desk.proofs.Looks.{at_most_one}
use Rattle.cf_desk.proofs.Passes.{caught_longer, follows_longer}

look_is_one : (k : CallerView) → IsOneStep k (looked k ∷ [])
look_is_one k = (looked k, refl, omega (arith, length-append k.looks (length k.seen ∷ [])))

event_is_one : (k : CallerView) (e : Event) → IsOneStep k (saw k e ∷ [])
event_is_one k e = (saw k e, refl, omega (arith, length-append k.seen (e ∷ [])))

one_as : (k now : CallerView) (w : List CallerView) → w ≡ now ∷ [] → IsOneStep k (now ∷ []) → IsOneStep k w
one_as k now w is one = (one.0, is ∙ one.1, one.2)

load_is_one : (k : CallerView) (found : ℕ) (w : List CallerView) (o : Option Event) → event_of found ≡ o → LooksNext k found w → IsOneStep k w
load_is_one k found w None is l = one_as k (looked k) w (l.empty is) (look_is_one k)
load_is_one k found w (Some e) is l = one_as k (saw k e) w (l.taken e is).0 (event_is_one k e)

exchange_is_one : (k : CallerView) (word found : ℕ) (mine : Event) (w : List CallerView) (o : Option Event) → event_of word ≡ Some mine → event_of found ≡ o → AddsNext k word found w → IsOneStep k w
exchange_is_one k word found mine w None writes is a = one_as k (saw k mine) w (a.won mine writes is) (event_is_one k mine)
exchange_is_one k word found mine w (Some e) writes is a = one_as k (saw k e) w (a.lost e is).0 (event_is_one k e)

pub each_is_one_step : EachIsOneStep
each_is_one_step k found w = (load_is_one k found w (event_of found) refl, λ word e writes a. exchange_is_one k word found e w (event_of found) writes refl a)

-- the pass has seen as much or more, and looked at most so many times
abbrev Looked : ℕ → Pass → Pass → Type 0
Looked most p q = (length p.known.seen ≤ length q.known.seen) × (length q.known.looks ≤ length p.known.looks + most)

takes : (most : ℕ) (p q : Pass) → Looked most p q → TakesSteps most p q
takes most p q h = let more = h.0 in let few = h.1 in (more, omega arith)

looked_then : (m n : ℕ) (p f q : Pass) → Looked m p f → Looked n f q → Looked (m + n) p q
looked_then m n p f q h g = let a = h.0 in let b = h.1 in let c = g.0 in let d = g.1 in (omega arith, omega arith)

looked_once : (d : Desk) (p q : Pass) → LooksOnce d p q → length q.known.looks ≤ length p.known.looks + 1
looked_once d p q l = let one = at_most_one d q l.look l.last in let len = ap length l.is in omega (arith, length-append p.known.looks l.look)

looked_for : (d : Desk) (stage most : ℕ) (p q : Pass) → LooksFor d stage most p q → length q.known.looks ≤ length p.known.looks + most
looked_for d stage most p q l =
    let few = l.at_most in let len = ap length l.is in omega (arith, length-append (p.known.looks ++ l.earlier) l.look, length-append p.known.looks l.earlier)

caught_up : (d : Desk) (p q : Pass) (knows : Type 0) → CaughtUp d knows p q → Looked 1 p q × (knows → Looked 0 p q)
caught_up d p q knows (inl h) =
    let seen = ap (λ (x : Pass). length x.known.seen) h.1 in let looks = ap (λ (x : Pass). length x.known.looks) h.1 in
    let same : Looked 0 p q = (omega arith, omega arith) in
    ((same.0, (let few = same.1 in omega arith)), λ _. same)
caught_up d p q knows (inr h) = ((follows_longer p q h.1, looked_once d p q h.2), λ k. absurd (h.0 k))

acted : (p q : Pass) (call : Call) (reply : Reply) → Acts p call reply q → Looked 0 p q
acted p q call reply a =
    let seen = ap (λ (x : Pass). length x.known.seen) a.is in let looks = ap (λ (x : Pass). length x.known.looks) a.is in
    let longer = caught_longer p.known.caller p.known.seen a.before a.caught in
    (omega (arith, length-append a.before (event_by p.known.caller call ∷ [])), omega arith)

read_on : (p q : Pass) (ask : Ask) (answer : Told) → Reads p ask answer q → length p.known.seen ≤ length q.known.seen
read_on p q ask answer r =
    let seen = ap (λ (x : Pass). length x.known.seen) r.is in let longer = caught_longer p.known.caller p.known.seen r.now r.caught in omega arith

-- what a call does once its pass has caught up, beside the look by which it may have
then_takes : (d : Desk) (n : ℕ) (p f q : Pass) (knows : Type 0) → CaughtUp d knows p f → Looked n f q → TakesSteps (n + 1) p q × (knows → TakesSteps n p q)
then_takes d n p f q knows caught on =
    let c = caught_up d p f knows caught in
    let most = looked_then 1 n p f q c.0 on in
    (takes (n + 1) p q (most.0, (let few = most.1 in omega arith)), λ k. (let exact = looked_then 0 n p f q (c.1 k) on in takes n p q (exact.0, (let few = exact.1 in omega arith))))

levelled : (p q : Pass) (all : List Event) → q ≡ record p { known = with_seen all p.known } → Catches p.known.caller p.known.seen all → TakesSteps 0 p q
levelled p q all is caught =
    let seen = ap (λ (x : Pass). length x.known.seen) is in let looks = ap (λ (x : Pass). length x.known.looks) is in
    let longer = caught_longer p.known.caller p.known.seen all caught in
    takes 0 p q (omega arith, omega arith)

pub calls_take_few_steps : CallsTakeFewSteps
calls_take_few_steps d p q = record {
  answered = λ call reply a. then_takes d 0 p a.found q _ a.caught (acted a.found q call reply a.acts);
  refused = λ call fault r. then_takes d 0 p r.found q _ r.caught (follows_longer r.found q r.left, (let same = ap length r.looks in omega arith));
  told = λ ask answer t. then_takes d 1 p t.found q _ t.caught (read_on t.found q ask answer t.reads, looked_once d t.found q t.looks);
  joined = λ stage most answer t. (then_takes d most p t.found q _ t.caught (read_on t.found q _ _ t.joins.read, looked_for d stage most t.found q t.looks)).0;
  untold = λ ask fault r. takes 1 p q (caught_up d p q _ r.0).0;
  ready = λ f l. takes 1 p q (follows_longer p q f, looked_once d p q l);
  met = λ r s. ⊎_elim (λ (m : Meets p r q s). levelled p q m.all m.left m.begins_left) (λ (m : Meets r p s q). levelled p q m.all m.right m.begins_right);
  heeded = λ notice h. levelled p q h.all h.is h.caught;
}

together : (p : Pass) (calls : List (ℕ × Pass)) → AreCalls p calls → TakesSteps (most_looks calls) p (after_calls p calls)
together p [] h = (omega arith, omega arith)
together p (c ∷ cs) h =
    let rest = together c.1 cs h.1 in
    let a = h.0.0 in let b = h.0.1 in let e = rest.0 in let f = rest.1 in (omega arith, omega arith)

pub passes_are_wait_free : PassesAreWaitFree
passes_are_wait_free p calls words h room = let t = together p calls h in let a = t.0 in let b = t.1 in omega arith
