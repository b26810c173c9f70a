-- Stages that gather others.
use Rattle.std.proofs.Common.{◌≡◌, ℕ, zero, suc, ◌+◌, ◌<◌, ◌≤◌, ◌∙◌, ◌&&◌, Bool, cond, true, false, Option, Some, None, List, [], ◌∷◌, ◌++◌, All, drop, get_or, length, length-drop, map, min, refl, ap, sym, arith, subst, append_assoc, append-nil, replicate, take, take-append-drop}
use Rattle.std.specs.Prelude.{is_some, option_and_then}
use Rattle.std.proofs.Math.Nat.{min-eq_right}
use Rattle.std.specs.List.{list_all}
use Rattle.std.specs.Option.{option_map}
use Rattle.std.proofs.lemmas.List.{drop_more, get_or-drop}
use Rattle.std.proofs.lemmas.List.Elements.{All-head, All-tail}
use Rattle.std.proofs.lemmas.List.Folds.{list_all-append}
use Rattle.cf_outcome.specs.declared.outcome.Outcome.{Outcome}
use Rattle.cf_outcome.specs.declared.outcome.Outcome.TheVariants.{Value as Gives, Fault}
use Rattle.cf_outcome.specs.Outcomes.{wrap}
use Rattle.cf_forms.specs.declared.forms.Due.TheVariants.{Waits, Settles}
use Rattle.cf_forms.specs.declared.forms.Form.TheVariants as forms
use Rattle.cf_forms.specs.Forms.{due_of_first, first_fault, first_there}
use Rattle.cf_forms.specs.declared.forms.Of.{Of}
use Rattle.cf_forms.specs.declared.forms.Of.TheVariants.{None as NoSource, One, Two}
use Rattle.cf_forms.specs.Plans.{fits_form, sources_of}
use Rattle.cf_forms.proofs.ListLemmas.{slice_get-seam}
use Rattle.cf_model.specs.declared.stage.Stage.{Stage}
use Rattle.cf_model.specs.declared.stage.Stage.TheVariants.{Pending}
use Rattle.cf_model.specs.Ranges.{EventFits}
use Rattle.cf_model.specs.States.{State, due_state, next_of, outcome_in, outcome_of}
use Rattle.cf_model.proofs.Closed.{reached_length}
use Rattle.cf_event.specs.Words.{IsStage}
use Rattle.cf_ledger.specs.Ledgers.{stages_of, state_of}
use Rattle.cf_request.specs.Attaching.{TellsAttach, TellsAttaches}
use Rattle.cf_request.specs.Gathering.{GathersAsOne, GathersAtOnce, attaches, first_two, form_of, gathered, gathers, joined, joins, stages_for}
use Rattle.cf_request.specs.Telling.{Teller, with_memory}
use Rattle.cf_request.specs.declared.gathering.Gathering.{Gathering}
use Rattle.cf_request.specs.declared.gathering.Gathering.TheVariants.{AllOf, AnyOf}
use Rattle.cf_request.specs.Machines.{Machine, stages_in, state_in, waiting_in}
use Rattle.cf_request.specs.Relays.{AreThere, NoneBehind}
use Rattle.cf_request.specs.Rows.{AreCalls, nothing}
use Rattle.cf_request.proofs.Attached.{AreAttaches, AttachesRow, attaches_one, calls_attach, outcome_stays, row_of, stages_attached}

-- ---- one stage

fits : (how : Gathering) (of : Of) → fits_form (form_of how) (length (sources_of of)) false ≡ true
fits AllOf of = refl
fits AnyOf of = refl

pub stage_is : (how : Gathering) (of : Of) → IsStage (form_of how) of None
stage_is how of = (omega arith, fits how of)

pub event_fits : (who : ℕ) (how : Gathering) (of : Of) (stages : ℕ) → All (λ i. i < stages) (sources_of of) → EventFits stages (attaches who how of)
event_fits who how of stages there = (fits how of, there)

-- ---- the first two

pub two_is : (sources : List ℕ) (d : ℕ) → 2 ≤ length sources → first_two sources ≡ Two (get_or sources 0 d) (get_or sources 1 d)
two_is [] d l = absurd (omega (arith, l))
two_is (a ∷ []) d l = absurd (omega (arith, l))
two_is (a ∷ b ∷ sources) d l = refl

pub one_is : (sources : List ℕ) (d : ℕ) → length sources ≡ 1 → first_two sources ≡ One (get_or sources 0 d)
one_is [] d l = absurd (omega (arith, l))
one_is (a ∷ []) d l = refl
one_is (a ∷ b ∷ sources) d l = absurd (omega (arith, l))

pub none_is : (sources : List ℕ) → length sources ≡ 0 → first_two sources ≡ NoSource
none_is [] l = refl
none_is (a ∷ sources) l = absurd (omega (arith, l))

pub pair_there : (a b stages : ℕ) → a < stages → b < stages → All (λ i. i < stages) (sources_of (Two a b))
pair_there a b stages first second = λ k d l. at k d l
  where
    at : (k d : ℕ) → k < 2 → get_or (a ∷ b ∷ []) k d < stages
    at zero d l = first
    at (suc zero) d l = second
    at (suc (suc k)) d l = absurd (omega (arith, l))

pub two_there : (sources : List ℕ) (stages : ℕ) → All (λ i. i < stages) sources → All (λ i. i < stages) (sources_of (first_two sources))
two_there [] stages h = h
two_there (a ∷ []) stages h = h
two_there (a ∷ b ∷ sources) stages h = pair_there a b stages (h 0 0 (omega arith)) (h 1 0 (omega arith))

-- the rest is there, too
pub rest_there : (sources : List ℕ) (k stages more : ℕ) → stages ≤ more → All (λ i. i < stages) sources → All (λ i. i < more) (drop k sources)
rest_there sources k stages more l h = λ j d m.
    let size = length-drop k sources in
    let at = h (k + j) d (omega (arith, size, m)) in
    let is = get_or-drop k sources j d in
    omega (arith, at, is, l)

pub rest_is : (sources : List ℕ) (k : ℕ) → k ≡ min (length sources) 2 → drop k sources ≡ drop 2 sources
rest_is [] zero is = refl
rest_is [] (suc k) is = refl
rest_is (a ∷ []) k is = subst (λ (n : ℕ). drop n (a ∷ []) ≡ drop 2 (a ∷ [])) (sym is) refl
rest_is (a ∷ b ∷ sources) k is = ap (λ (n : ℕ). drop n (a ∷ b ∷ sources)) (is ∙ min-eq_right (omega arith))

-- one source more is joined
pub joins_then : (who : ℕ) (how : Gathering) (next before : ℕ) (sources : List ℕ) (k : ℕ) (old between end : Teller) → k < length sources → TellsAttach 0 (attaches who how (Two before (get_or sources k 0))) old between →
    TellsAttaches 0 (joins who how (next + 1) next (drop (k + 1) sources)) between end → TellsAttaches 0 (joins who how next before (drop k sources)) old end
joins_then who how next before sources k old between end l first rest =
    subst (λ (xs : List ℕ). TellsAttaches 0 (joins who how next before xs) old end) (sym (drop_more sources k 0 l)) (between, first, rest)

-- ---- a row of stages

joins_are : (who : ℕ) (how : Gathering) (next gathered : ℕ) (sources : List ℕ) → AreAttaches (joins who how next gathered sources)
joins_are who how next gathered [] = tt
joins_are who how next gathered (a ∷ sources) = (who, form_of how, Two gathered a, None, refl, joins_are who how (next + 1) next sources)

gathers_are : (who : ℕ) (how : Gathering) (next : ℕ) (sources : List ℕ) → AreAttaches (gathers who how next sources)
gathers_are who how next sources = (who, form_of how, first_two sources, None, refl, joins_are who how (next + 1) next (drop 2 sources))

joins_count : (who : ℕ) (how : Gathering) (next gathered : ℕ) (sources : List ℕ) → length (joins who how next gathered sources) ≡ length sources
joins_count who how next gathered [] = refl
joins_count who how next gathered (a ∷ sources) = ap suc (joins_count who how (next + 1) next sources)

pub gathers_count : (who : ℕ) (how : Gathering) (next : ℕ) (sources : List ℕ) → length (gathers who how next sources) ≡ stages_for sources
gathers_count who how next sources = let size = length-drop 2 sources in let rest = joins_count who how (next + 1) next (drop 2 sources) in omega (arith, size, rest)

pub row_gathers : (who : ℕ) (how : Gathering) (next : ℕ) (sources : List ℕ) (old new : Teller) → stages_for sources ≤ (state_of old.ledger).plan.room → TellsAttaches 0 (gathers who how next sources) old new →
    AttachesRow (gathers who how next sources) old new
row_gathers who how next sources old new room tells =
    let count = gathers_count who how next sources in
    row_of 0 (gathers who how next sources) old new (gathers_are who how next sources) (omega (arith, room, count)) tells

-- memory is found, and then each stage is attached by a call
pub calls_gather : (who : ℕ) (how : Gathering) (sources : List ℕ) (old : Machine) (found end : Teller) (words : ℕ) → found ≡ with_memory words old.teller → stages_for sources + waiting_in old ≤ found.ledger.free → stages_for sources ≤ (state_in old).plan.room →
    AreThere (state_in old) old.follows → NoneBehind old.follows (state_in old).stages → TellsAttaches 0 (gathers who how (stages_in old) sources) found end →
    AreCalls old (nothing ∷ replicate (stages_for sources) nothing) (record old { teller = end })
calls_gather who how sources old found end words is enough room there none tells =
    let n = stages_in old in
    let count = gathers_count who how n sources in
    subst (λ (k : ℕ). AreCalls old (nothing ∷ replicate k nothing) (record old { teller = end })) count
    (calls_attach 0 (gathers who how n sources) old found end words (gathers_are who how n sources) is (omega (arith, count, enough)) (omega (arith, count, room)) there none tells)

-- ---- as one stage

wrap_twice : (o : Outcome) → wrap (wrap o) ≡ wrap o
wrap_twice (Gives v) = refl
wrap_twice (Fault cause wrapped) = refl

and_end : (b : Bool) → (b && true) ≡ b
and_end true = refl
and_end false = refl

all_by : (b : Bool) (o : Outcome) → outcome_of (due_state (cond b (Settles o) Waits)) ≡ cond b (Some o) None
all_by true o = refl
all_by false o = refl

all_is : (q : List (Option Outcome)) → gathered AllOf q ≡ cond (list_all is_some q) (Some (first_fault q)) None
all_is q = all_by (list_all is_some q) (first_fault q)

fault_then : (front : List (Option Outcome)) (o : Outcome) → first_fault (Some (first_fault front) ∷ Some o ∷ []) ≡ first_fault (front ++ Some o ∷ [])
fault_then [] o = refl
fault_then (None ∷ front) o = fault_then front o
fault_then (Some (Gives v) ∷ front) o = fault_then front o
fault_then (Some (Fault cause wrapped) ∷ front) o = refl

all_then : (front : List (Option Outcome)) (o : Option Outcome) (b : Bool) → gathered AllOf (cond b (Some (first_fault front)) None ∷ o ∷ []) ≡ cond (b && is_some o) (Some (first_fault (front ++ o ∷ []))) None
all_then front None true = refl
all_then front (Some x) true = ap Some (fault_then front x)
all_then front o false = refl

first_by : (x : Option Outcome) → outcome_of (due_state (due_of_first forms.AnyOf x)) ≡ option_map wrap x
first_by None = refl
first_by (Some o) = refl

any_is : (q : List (Option Outcome)) → gathered AnyOf q ≡ option_map wrap (first_there q)
any_is q = first_by (first_there q)

first_stays : (front back : List (Option Outcome)) (x : Outcome) → first_there front ≡ Some x → first_there (front ++ back) ≡ Some x
first_stays [] back x h = cc
first_stays (None ∷ front) back x h = first_stays front back x h
first_stays (Some y ∷ front) back x h = h

first_comes : (front back : List (Option Outcome)) → first_there front ≡ None → first_there (front ++ back) ≡ first_there back
first_comes [] back h = refl
first_comes (None ∷ front) back h = first_comes front back h
first_comes (Some y ∷ front) back h = cc

any_then : (front : List (Option Outcome)) (o x : Option Outcome) → first_there front ≡ x → gathered AnyOf (option_map wrap x ∷ o ∷ []) ≡ option_map wrap (first_there (front ++ o ∷ []))
any_then front o None h = any_is (None ∷ o ∷ []) ∙ ap (option_map wrap) (sym (first_comes front (o ∷ []) h))
any_then front o (Some x) h = ap Some (wrap_twice x) ∙ ap (option_map wrap) (sym (first_stays front (o ∷ []) x h))

-- one source more
one_then : (how : Gathering) (front : List (Option Outcome)) (o : Option Outcome) → gathered how (gathered how front ∷ o ∷ []) ≡ gathered how (front ++ o ∷ [])
one_then AllOf front o =
    let q = front ++ o ∷ [] in
    ap (λ (v : Option Outcome). gathered AllOf (v ∷ o ∷ [])) (all_is front) ∙ all_then front o (list_all is_some front)
    ∙ ap (λ (b : Bool). cond b (Some (first_fault q)) None) (ap (λ (b : Bool). list_all is_some front && b) (sym (and_end (is_some o))) ∙ sym (list_all-append is_some front (o ∷ []))) ∙ sym (all_is q)
one_then AnyOf front o = ap (λ (v : Option Outcome). gathered AnyOf (v ∷ o ∷ [])) (any_is front) ∙ any_then front o (first_there front) refl ∙ sym (any_is (front ++ o ∷ []))

joined_all : (how : Gathering) (front q : List (Option Outcome)) → joined how (gathered how front) q ≡ gathered how (front ++ q)
joined_all how front [] = ap (gathered how) (sym (append-nil front))
joined_all how front (o ∷ q) = ap (λ (v : Option Outcome). joined how v q) (one_then how front o) ∙ joined_all how (front ++ o ∷ []) q ∙ ap (gathered how) (append_assoc front (o ∷ []) q)

pub gathers_as_one : GathersAsOne
gathers_as_one how q = joined_all how (take 2 q) (drop 2 q) ∙ ap (gathered how) (take-append-drop 2 q)

-- ---- at once

outcome_last : (xs : List Stage) (y : Stage) (n : ℕ) → length xs ≡ n → outcome_in (xs ++ y ∷ []) n ≡ outcome_of y
outcome_last xs y n is = subst (λ (k : ℕ). outcome_in (xs ++ y ∷ []) k ≡ outcome_of y) is (ap (option_and_then outcome_of) (slice_get-seam xs y []))

new_outcome : (who : ℕ) (how : Gathering) (of : Of) (old new : Teller) → 0 < (state_of old.ledger).plan.room → TellsAttach 0 (attaches who how of) old new →
    outcome_in (state_of new.ledger).stages (stages_of old.ledger) ≡ gathered how (map (outcome_in (state_of old.ledger).stages) (sources_of of))
new_outcome who how of old new room h =
    let s = state_of old.ledger in
    let y = next_of s.stages (form_of how) (sources_of of) Pending in
    let n = length s.plan.stages in
    ap (λ (xs : List Stage). outcome_in xs n) (stages_attached who (form_of how) of None 0 old new room h) ∙ outcome_last s.stages y n (reached_length old.ledger.plan old.ledger.events)

-- the sources have now what they had at first
record SameFirst (first : List Stage) (count : ℕ) (t : Teller) : Type 0 where
  few : count ≤ stages_of t.ledger
  same : (i : ℕ) → i < count → outcome_in (state_of t.ledger).stages i ≡ outcome_in first i

first_attach : (who : ℕ) (how : Gathering) (of : Of) (first : List Stage) (count : ℕ) (old new : Teller) → 0 < (state_of old.ledger).plan.room → TellsAttach 0 (attaches who how of) old new → SameFirst first count old → SameFirst first count new
first_attach who how of first count old new room h f =
    let more = (attaches_one who (form_of how) of None 0 old new room h).count in
    let few = f.few in
    record {
      few = omega (arith, more, few);
      same = λ i l. outcome_stays who (form_of how) of None 0 old new i room h (omega (arith, l, few)) ∙ f.same i l;
    }

join_has : (who : ℕ) (how : Gathering) (next before : ℕ) (sources : List ℕ) (first : List Stage) (count root : ℕ) (v : Option Outcome) (a end : Teller) → next ≡ stages_of a.ledger → before + 1 ≡ next →
    outcome_in (state_of a.ledger).stages before ≡ v → All (λ i. i < count) sources → SameFirst first count a → length sources ≤ (state_of a.ledger).plan.room → TellsAttaches 0 (joins who how next before sources) a end →
    root + 1 ≡ stages_of end.ledger → outcome_in (state_of end.ledger).stages root ≡ joined how v (map (outcome_in first) sources)
join_has who how next before [] first count root v a end at last has there f room same is =
    let now = ap (λ (t : Teller). stages_of t.ledger) same in
    let here : root ≡ before = omega (arith, now, at, last, is) in
    ap (λ (t : Teller). outcome_in (state_of t.ledger).stages root) same ∙ ap (outcome_in (state_of a.ledger).stages) here ∙ has
join_has who how next before (x ∷ sources) first count root v a end at last has there f room (between, done, rest) is =
    let some : 0 < (state_of a.ledger).plan.room = omega (arith, room) in
    let of = Two before x in
    let one = attaches_one who (form_of how) of None 0 a between some done in
    let more = one.count in
    let left = one.room in
    let source = f.same x (All-head (λ i. i < count) x sources there) in
    let value = ap (outcome_in (state_of between.ledger).stages) at ∙ new_outcome who how of a between some done
    ∙ ap (λ (o : Option Outcome). gathered how (o ∷ outcome_in (state_of a.ledger).stages x ∷ [])) has ∙ ap (λ (o : Option Outcome). gathered how (v ∷ o ∷ [])) source in
    join_has who how (next + 1) next sources first count root (gathered how (v ∷ outcome_in first x ∷ [])) between end (omega (arith, at, more)) refl value (All-tail (λ i. i < count) x sources there)
    (first_attach who how of first count a between some done f) (omega (arith, room, left)) rest is

two_of : (f : ℕ → Option Outcome) (sources : List ℕ) → map f (sources_of (first_two sources)) ≡ take 2 (map f sources)
two_of f [] = refl
two_of f (a ∷ []) = refl
two_of f (a ∷ b ∷ sources) = refl

rest_of : (f : ℕ → Option Outcome) (sources : List ℕ) → map f (drop 2 sources) ≡ drop 2 (map f sources)
rest_of f [] = refl
rest_of f (a ∷ []) = refl
rest_of f (a ∷ b ∷ sources) = refl

pub gathers_at_once : GathersAtOnce
gathers_at_once who how sources root old new h =
    let may = h.may in
    let a = h.found in
    let s = state_of a.ledger in
    let n = length s.plan.stages in
    let same : s ≡ state_in old = ap (λ (t : Teller). state_of t.ledger) h.finds.is in
    let stages = ap (λ (t : State). t.stages) same in
    let count = ap (λ (t : State). length t.plan.stages) same in
    let place = ap (λ (t : State). t.plan.room) same in
    let first = (state_in old).stages in
    let f = outcome_in first in
    let tells = h.tells in
    let done = tells.1 in
    let between = tells.0 in
    let room = may.room in
    let some : 0 < s.plan.room = omega (arith, room, place) in
    let one = attaches_one who (form_of how) (first_two sources) None 0 a between some done in
    let more = one.count in
    let left = one.room in
    let size = length-drop 2 sources in
    let there = rest_there sources 2 (stages_in old) (stages_in old) (omega arith) may.there in
    let begin : SameFirst first (stages_in old) a = record { few = omega (arith, count); same = λ i l. ap (λ (xs : List Stage). outcome_in xs i) stages } in
    let value : outcome_in (state_of between.ledger).stages (stages_in old) ≡ gathered how (take 2 (map f sources)) =
    ap (outcome_in (state_of between.ledger).stages) (sym count) ∙ new_outcome who how (first_two sources) a between some done
    ∙ ap (λ (xs : List Stage). gathered how (map (outcome_in xs) (sources_of (first_two sources)))) stages ∙ ap (gathered how) (two_of f sources) in
    join_has who how (stages_in old + 1) (stages_in old) (drop 2 sources) first (stages_in old) root (gathered how (take 2 (map f sources))) between new.teller
    (omega (arith, more, count)) refl value there (first_attach who how (first_two sources) first (stages_in old) a between some done begin) (omega (arith, room, place, left, size)) tells.2 h.is_root
    ∙ ap (joined how (gathered how (take 2 (map f sources)))) (rest_of f sources) ∙ gathers_as_one how (map f sources)
