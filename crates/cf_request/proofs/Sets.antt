-- The ready stages of each lane, as sets.
use Rattle.std.proofs.Common.{◌≡◌, ◌≢◌, ℕ, zero, suc, ◌+◌, ◌<◌, ◌≤◌, Bool, true, false, cond, Option, Some, None, List, [], ◌∷◌, ◌++◌, Contains, length, length-append, get_or, drop, take, ◌-◌, set, nat_lt, refl, ap, sym, ◌∙◌, arith, subst, inl, inr, ◌⊎◌}
use Rattle.std.specs.Prelude.{◌==◌, ◌&&◌, IfNone, IfSome, not, replicate, slice_get}
use Rattle.std.specs.Bool.{beq}
use Rattle.std.specs.List.{position, position_or_len, sum_by}
use Rattle.std.proofs.Math.Bool.{and-true}
use Rattle.std.proofs.Math.Seq.{drop-cons}
use Rattle.std.proofs.lemmas.Bool.{cases_eq, cases_lt, eq-eqb, eqb-true, ltb-false, ltb-true, ne_eqb}
use Rattle.std.proofs.lemmas.List.{get_or-set_other, get_or-set_same, get_or_append_left, length-replicate, length-set, take_all}
use Rattle.std.proofs.lemmas.List.Quantifiers.{position-Some}
use Rattle.std.proofs.lemmas.List.Sums.{sum_by-le, sum_by-set, sum_by_more}
use Rattle.std.proofs.lemmas.Option.{get_or_from_slice_get}
use Rattle.cf_forms.specs.Plans.{Planned, with_room}
use Rattle.cf_model.specs.declared.stage.Stage.{Stage}
use Rattle.cf_model.specs.Graphs.{AreNews, stage_in}
use Rattle.cf_model.specs.declared.events.Event.{Event}
use Rattle.cf_model.specs.declared.events.Reply.{Reply}
use Rattle.cf_model.specs.Calls.{is_attach}
use Rattle.cf_model.specs.Events.{answered}
use Rattle.cf_model.specs.States.{State, is_ready}
use Rattle.cf_event.specs.Decoding.{event_of}
use Rattle.cf_ledger.specs.Ledgers.{Does, Ledger, stages_of, state_at, state_of}
use Rattle.cf_request.specs.Lanes.{IsLowestIn, NoneReadyIn, ready_below}
use Rattle.cf_request.specs.Ready.{AreFitBut, AreSets, FitState, HasLanes, IsFit, Lanes, ReadySets, and_lane, count_of, is_in, lane_of, lanes_of, none_ready, with_lane}
use Rattle.cf_request.specs.Telling.{answers_attach, most_stages}
use Rattle.cf_request.proofs.Lists.{contains_cases}
use Rattle.cf_request.proofs.Telling.{last_news, next_is, none_there, same_most}
use Rattle.cf_request.proofs.Words.{at_most_one, lanes_stay, lanes_told, more_told, none_lost, none_more}

abbrev weight : Bool → ℕ
weight b = cond b 1 0

weight_few : (b : Bool) → weight b ≤ 1
weight_few true = omega arith
weight_few false = omega arith

pub count_few : (flags : List Bool) → count_of flags ≤ length flags
count_few flags = let h = sum_by-le weight 1 flags (λ k d l. weight_few (get_or flags k d)) in omega (arith, h)

pub set_same : (flags : List Bool) (i : ℕ) (b : Bool) → slice_get flags i ≡ Some b → set flags i b ≡ flags
set_same [] i b h = cc
set_same (x ∷ flags) zero b h = let e : x ≡ b = cc in ap (λ (y : Bool). y ∷ flags) (sym e)
set_same (x ∷ flags) (suc i) b h = ap (λ (l : List Bool). x ∷ l) (set_same flags i b h)

-- a flag is set, or cleared
pub count_set : (flags : List Bool) (i : ℕ) (b : Bool) → i < length flags → slice_get flags i ≡ Some b → (c : Bool) → count_of (set flags i c) + weight b ≡ count_of flags + weight c
count_set flags i b l h c =
    let was = ap weight (get_or_from_slice_get flags i b false h) in
    let h = sum_by-set weight flags i c false l in
    omega (arith, was, h)

-- ---- what a test says

pub same_by : (b c : Bool) → beq b c ≡ true → b ≡ c
same_by true true h = refl
same_by true false h = cc
same_by false true h = cc
same_by false false h = refl

pub other_by : (b c : Bool) → beq b c ≡ false → b ≡ not c
other_by true true h = cc
other_by true false h = refl
other_by false true h = refl
other_by false false h = cc

-- what is written is counted; the flags are those that a contract sees
pub count_more : (flags seen : List Bool) (count i : ℕ) (b c : Bool) → flags ≡ seen → count ≡ count_of flags → i < length seen → slice_get flags i ≡ Some b → beq b c ≡ false → c ≡ true → count + 1 ≡ count_of (set flags i true)
count_more flags seen count i b c view is l h differs on =
    let was = ap weight (other_by b c differs ∙ ap not on) in
    let more = count_set flags i b (subst (λ (s : List Bool). i < length s) (sym view) l) h true in
    omega (arith, was, more, is)

pub count_less : (flags seen : List Bool) (count i : ℕ) (b c : Bool) → flags ≡ seen → count ≡ count_of flags → i < length seen → slice_get flags i ≡ Some b → beq b c ≡ false → c ≡ false → count ≡ count_of (set flags i false) + 1
count_less flags seen count i b c view is l h differs off =
    let was = ap weight (other_by b c differs ∙ ap not off) in
    let less = count_set flags i b (subst (λ (s : List Bool). i < length s) (sym view) l) h false in
    omega (arith, was, less, is)

-- ---- one flag is written

abbrev written : List (List Bool) → ℕ → ℕ → Bool → List (List Bool)
written sets lane i b = set sets lane (set (get_or sets lane []) i b)

in_written : (sets : List (List Bool)) (lane i : ℕ) (b : Bool) → lane < length sets → i < length (get_or sets lane []) → is_in (written sets lane i b) lane i ≡ b
in_written sets lane i b l k =
    ap (λ (flags : List Bool). get_or flags i false) (get_or-set_same sets lane (set (get_or sets lane []) i b) [] l) ∙ get_or-set_same (get_or sets lane []) i b false k

in_other_lane : (sets : List (List Bool)) (lane i : ℕ) (b : Bool) (other j : ℕ) → other ≢ lane → is_in (written sets lane i b) other j ≡ is_in sets other j
in_other_lane sets lane i b other j differs = ap (λ (flags : List Bool). get_or flags j false) (get_or-set_other sets lane other (set (get_or sets lane []) i b) [] differs)

in_other_stage : (sets : List (List Bool)) (lane i : ℕ) (b : Bool) (other j : ℕ) → lane < length sets → j ≢ i → is_in (written sets lane i b) other j ≡ is_in sets other j
in_other_stage sets lane i b other j l differs = elim (cases_eq other lane) [
  | inl same ↦ subst (λ (o : ℕ). is_in (written sets lane i b) o j ≡ is_in sets o j) (sym same)
      (ap (λ (flags : List Bool). get_or flags j false) (get_or-set_same sets lane (set (get_or sets lane []) i b) [] l) ∙ get_or-set_other (get_or sets lane []) i j b false differs)
  | inr other_lane ↦ in_other_lane sets lane i b other j other_lane
]

and_not : (b : Bool) → (b && false) ≡ false
and_not true = refl
and_not false = refl

-- the stage that is written fits then
fit_here : (stages : List Stage) (r : ReadySets) (IsLeft : ℕ → Type 0) (i : ℕ) → AreFitBut IsLeft stages r → lane_of r.of i < length r.sets → i < length (get_or r.sets (lane_of r.of i) []) →
    IsFit stages (record r { sets = written r.sets (lane_of r.of i) i (is_ready (stage_in stages i)) }) i
fit_here stages r IsLeft i h l k = λ lane there.
    let own = lane_of r.of i in
    let b = is_ready (stage_in stages i) in
    let size = length-set r.sets own (set (get_or r.sets own []) i b) in
    elim (cases_eq lane own) [
      | inl same ↦ subst (λ (o : ℕ). is_in (written r.sets own i b) o i ≡ (b && (own == o))) (sym same)
          (in_written r.sets own i b l k ∙ sym (and-true b) ∙ ap (λ (t : Bool). b && t) (sym (eq-eqb own own refl)))
      | inr differs ↦ in_other_lane r.sets own i b lane i differs ∙ h.apart i lane (omega (arith, there, size)) (λ e. differs (sym e))
          ∙ sym (and_not b) ∙ ap (λ (t : Bool). b && t) (sym (ne_eqb own lane (λ e. differs (sym e))))
    ]

fit_there : (stages : List Stage) (r : ReadySets) (i : ℕ) (b : Bool) (j : ℕ) → lane_of r.of i < length r.sets → j ≢ i → IsFit stages r j → IsFit stages (record r { sets = written r.sets (lane_of r.of i) i b }) j
fit_there stages r i b j l differs h = λ lane there.
    let own = lane_of r.of i in
    let size = length-set r.sets own (set (get_or r.sets own []) i b) in
    in_other_stage r.sets own i b lane j l differs ∙ h lane (omega (arith, there, size))

apart_there : (r : ReadySets) (i : ℕ) (b : Bool) (j lane : ℕ) → lane < length r.sets → lane_of r.of i < length r.sets → lane_of r.of j ≢ lane → is_in r.sets lane j ≡ false → is_in (written r.sets (lane_of r.of i) i b) lane j ≡ false
apart_there r i b j lane there l differs was =
    let own = lane_of r.of i in
    elim (cases_eq j i) [
      | inl same ↦ in_other_lane r.sets own i b lane j (λ e. differs (ap (lane_of r.of) same ∙ sym e)) ∙ was
      | inr other ↦ in_other_stage r.sets own i b lane j l other ∙ was
    ]

-- one stage more fits
pub fit_more : (stages : List Stage) (r : ReadySets) (IsLeft IsLeft' : ℕ → Type 0) (i : ℕ) → AreFitBut IsLeft stages r → lane_of r.of i < length r.sets → i < length (get_or r.sets (lane_of r.of i) []) →
    ((j : ℕ) → j ≢ i → ¬ IsLeft' j → ¬ IsLeft j) → AreFitBut IsLeft' stages (record r { sets = written r.sets (lane_of r.of i) i (is_ready (stage_in stages i)) })
fit_more stages r IsLeft IsLeft' i h l k fewer =
    let own = lane_of r.of i in
    let b = is_ready (stage_in stages i) in
    let size = length-set r.sets own (set (get_or r.sets own []) i b) in
    let r' : ReadySets = record r { sets = written r.sets own i b } in
    record {
      rest = λ j not. elim (cases_eq j i) [
        | inl same ↦ subst (IsFit stages r') (sym same) (fit_here stages r IsLeft i h l k)
        | inr other ↦ fit_there stages r i b j l other (h.rest j (fewer j other not))
      ];
      apart = λ j lane there differs. let was : lane < length r.sets = omega (arith, there, size) in apart_there r i b j lane was l differs (h.apart j lane was differs);
    }

-- ---- the lane of a stage is there

pub lane_there : (r : ReadySets) (i : ℕ) → AreSets r → i < length r.of → (lane_of r.of i < length r.sets) × (i < length (get_or r.sets (lane_of r.of i) []))
lane_there r i h l =
    let there = h.there i 0 l in
    let size = h.flags (lane_of r.of i) [] there in
    let most = h.most in
    (there, omega (arith, size, most, l))

-- the rest of the stages is left, and the lanes are the same as first
pub record Marks (IsLeft : ℕ → Type 0) (stages : List Stage) (first r : ReadySets) : Type 0 where
  pub rest : AreFitBut IsLeft stages r
  pub count : length r.sets ≡ length first.sets
  pub same : r ≡ record first { sets = r.sets }

pub marks_more : (IsLeft IsLeft' : ℕ → Type 0) (stages : List Stage) (first r r' : ReadySets) (i : ℕ) (ready : Bool) → Marks IsLeft stages first r → AreSets r → i < length first.of → ready ≡ is_ready (stage_in stages i) →
    r' ≡ (record r { sets = written r.sets (lane_of r.of i) i ready }) → ((j : ℕ) → j ≢ i → ¬ IsLeft' j → ¬ IsLeft j) → Marks IsLeft' stages first r'
marks_more IsLeft IsLeft' stages first r r' i ready h are l is e fewer =
    let size = ap (λ (x : ReadySets). length x.of) h.same in
    let there = lane_there r i are (omega (arith, l, size)) in
    let own = lane_of r.of i in
    let now = written r.sets own i ready in
    let sets = ap (λ (x : ReadySets). x.sets) e in
    record {
      rest = subst (AreFitBut IsLeft' stages) (sym (e ∙ ap (λ (b : Bool). let x : ReadySets = record r { sets = written r.sets own i b } in x) is)) (fit_more stages r IsLeft IsLeft' i h.rest there.0 there.1 fewer);
      count = ap (λ (l : List (List Bool)). length l) sets ∙ length-set r.sets own (set (get_or r.sets own []) i ready) ∙ h.count;
      same = e ∙ ap (λ (x : ReadySets). let y : ReadySets = record x { sets = now } in y) h.same ∙ ap (λ (l : List (List Bool)). let y : ReadySets = record first { sets = l } in y) (sym sets);
    }

-- one of the news less is left
pub left_next : (news : List ℕ) (k j : ℕ) → k < length news → j ≢ get_or news k 0 → ¬ Contains (drop (k + 1) news) j → ¬ Contains (drop k news) j
left_next news k j l differs not h =
    let next : suc k ≡ k + 1 = omega arith in
    let is : drop k news ≡ get_or news k 0 ∷ drop (k + 1) news = drop-cons news k 0 l ∙ ap (λ (n : ℕ). get_or news k 0 ∷ drop n news) next in
    elim (contains_cases (get_or news k 0) j (drop (k + 1) news) (subst (λ (xs : List ℕ). Contains xs j) is h)) [
      | inl same ↦ differs (sym same)
      | inr later ↦ not later
    ]

-- ---- news

bools : (a b : Bool) → (a ≡ b) ⊎ (a ≡ b → ⊥)
bools true true = inl refl
bools true false = inr (λ e. cc)
bools false true = inr (λ e. cc)
bools false false = inl refl

ready_same : (a b : Stage) → ¬ (a ≢ b) → is_ready a ≡ is_ready b
ready_same a b not = elim (bools (is_ready a) (is_ready b)) [
  | inl same ↦ same
  | inr differs ↦ absurd (not (λ e. differs (ap is_ready e)))
]

ready_there : (stages : List Stage) (i : ℕ) → length stages ≤ i → is_ready (stage_in stages i) ≡ false
ready_there stages i l = ap is_ready (none_there stages i l)

-- the news alone are left
fit_news : (old new : List Stage) (news : List ℕ) (r : ReadySets) → AreNews old new news → ((i : ℕ) → IsFit old r i) → AreFitBut (Contains news) new r
fit_news old new news r h fit = record {
  rest = λ i not lane there. fit i lane there ∙ ap (λ (b : Bool). b && (lane_of r.of i == lane)) (sym (ready_same (stage_in new i) (stage_in old i) (λ differs. not (h.all i differs))));
  apart = λ i lane there differs. fit i lane there ∙ ap (λ (t : Bool). is_ready (stage_in old i) && t) (ne_eqb (lane_of r.of i) lane differs) ∙ and_not (is_ready (stage_in old i));
}

-- where the others are as they were, one alone is left
pub fit_others : (old new : List Stage) (i : ℕ) (r : ReadySets) → ((j : ℕ) → j ≢ i → stage_in new j ≡ stage_in old j) → ((j : ℕ) → IsFit old r j) → AreFitBut (λ j. j ≡ i) new r
fit_others old new i r same fit = record {
  rest = λ j not lane there. fit j lane there ∙ ap (λ (x : Stage). is_ready x && (lane_of r.of j == lane)) (sym (same j not));
  apart = λ j lane there differs. fit j lane there ∙ ap (λ (t : Bool). is_ready (stage_in old j) && t) (ne_eqb (lane_of r.of j) lane differs) ∙ and_not (is_ready (stage_in old j));
}

-- a stage that isn't there is in no set, whatever its lane
fit_pushed : (stages : List Stage) (r : ReadySets) (lane : ℕ) → length r.of ≡ length stages → ((i : ℕ) → IsFit stages r i) → (i : ℕ) → IsFit stages (record r { of = r.of ++ lane ∷ [] }) i
fit_pushed stages r lane size fit i = λ l there. elim (cases_lt i (length stages)) [
  | inl below ↦ fit i l there ∙ ap (λ (o : ℕ). is_ready (stage_in stages i) && (o == l)) (sym (get_or_append_left r.of (lane ∷ []) 0 i (omega (arith, size, below))))
  | inr above ↦ (let no = ready_there stages i above in
      fit i l there ∙ ap (λ (b : Bool). b && (lane_of r.of i == l)) no ∙ sym (ap (λ (b : Bool). b && (lane_of (r.of ++ lane ∷ []) i == l)) no))
]

fit_reached : (b : Bool) (stages : List Stage) (r : ReadySets) (lane : ℕ) → length r.of ≡ length stages → ((i : ℕ) → IsFit stages r i) → (i : ℕ) → IsFit stages (record r { of = cond b (r.of ++ lane ∷ []) r.of }) i
fit_reached true stages r lane size fit i = fit_pushed stages r lane size fit i
fit_reached false stages r lane size fit i = fit i

pub fit_reached_all : (s : State) (stages lane : ℕ) (r : ReadySets) → FitState s r → length s.stages ≡ length s.plan.stages → (i : ℕ) → IsFit s.stages (record r { of = lanes_of stages lane r.of }) i
fit_reached_all s stages lane r h size = let all = h.all in fit_reached (nat_lt (length r.of) stages) s.stages r lane (omega (arith, all, size)) h.fit

-- so many lanes there are then
lanes_count_by : (b : Bool) (stages lane : ℕ) (lanes : List ℕ) → nat_lt (length lanes) stages ≡ b → length lanes ≤ stages → stages ≤ length lanes + 1 → length (cond b (lanes ++ lane ∷ []) lanes) ≡ stages
lanes_count_by true stages lane lanes is low high =
    let less = ltb-true (length lanes) stages is in
    let size = length-append lanes (lane ∷ []) in
    omega (arith, less, size, low, high)
lanes_count_by false stages lane lanes is low high = let less = ltb-false (length lanes) stages is in omega (arith, less, low, high)

pub lanes_reached : (old new : Ledger) (word stages lane : ℕ) (reply : Reply) (r : ReadySets) → Does word old reply new → stages ≡ stages_of new → FitState (state_of old) r → HasLanes (state_of new) (lanes_of stages lane r.of)
lanes_reached old new word stages lane reply r does is h =
    let less = none_lost old new word reply does in
    let more = at_most_one old new word reply does in
    let all = h.all in
    lanes_count_by (nat_lt (length r.of) stages) stages lane r.of refl (omega (arith, all, less, is)) (omega (arith, all, more, is)) ∙ is

-- a word that attaches nothing leaves each stage its lane
pub lanes_kept : (e : Event) (old new : Ledger) (word : ℕ) (reply : Reply) (r : ReadySets) → event_of word ≡ Some e → is_attach e ≡ false → Does word old reply new → FitState (state_of old) r → length r.of ≡ stages_of new
lanes_kept e old new word reply r is isnt does h = h.all ∙ sym (none_more e old new word reply is isnt does)

pub sets_stay : (stages lane : ℕ) (r : ReadySets) → length r.of ≡ stages → r ≡ (record r { of = lanes_of stages lane r.of })
sets_stay stages lane r same = sym (ap (λ (of : List ℕ). let x : ReadySets = record r { of = of } in x) (lanes_stay stages lane r.of same))

-- one stage more is written, if its reply is an attach's
pub sets_told : (old new : Ledger) (word lane : ℕ) (reply : Reply) (is_more : Bool) (r : ReadySets) → is_more ≡ answers_attach reply → Does word old reply new → FitState (state_of old) r → (record r { of = and_lane is_more lane r.of }) ≡ (record r { of = lanes_of (stages_of new) lane r.of })
sets_told old new word lane reply is_more r is does h =
    ap (λ (of : List ℕ). let x : ReadySets = record r { of = of } in x) (ap (λ (b : Bool). and_lane b lane r.of) is ∙ lanes_told old new word lane reply r.of does h.all)

-- for which there is a place
pub place_told : (old new : Ledger) (word : ℕ) (reply : Reply) (is_more : Bool) (r : ReadySets) → is_more ≡ answers_attach reply → Does word old reply new → FitState (state_of old) r → length r.of + cond is_more 1 0 ≤ r.places
place_told old new word reply is_more r is does h =
    let more = more_told old new word reply does in
    let one = ap weight is in
    let most = same_most old new word reply does in
    let all = h.all in
    let room = h.room in
    omega (arith, more, one, most, all, room)

-- what is left, once a word is done
pub left_by : (old new : Ledger) (word place stages lane : ℕ) (reply : Reply) (news : List ℕ) (r : ReadySets) → (does : Does word old reply new) → place ≡ length new.events - 1 → AreNews (state_at new place).stages (state_at new (place + 1)).stages news →
    length (state_of old).stages ≡ stages_of old → FitState (state_of old) r → AreFitBut (Contains news) (state_of new).stages (record r { of = lanes_of stages lane r.of })
left_by old new word place stages lane reply news r does is are size h =
    let r' : ReadySets = record r { of = lanes_of stages lane r.of } in
    subst (λ (s : State). AreFitBut (Contains news) s.stages r') (sym (next_is old new word reply does))
    (fit_news (state_of old).stages ((answered (state_of old) does.event).1.stages) news r' (last_news old new word place reply news does is are)
    (fit_reached_all (state_of old) stages lane r h size))

-- and once all is written
pub fit_state : (old new : Ledger) (word stages lane : ℕ) (reply : Reply) (r r' : ReadySets) → Does word old reply new → stages ≡ stages_of new → FitState (state_of old) r → r' ≡ (record r { of = lanes_of stages lane r.of; sets = r'.sets }) →
    ((i : ℕ) → IsFit (state_of new).stages r' i) → FitState (state_of new) r'
fit_state old new word stages lane reply r r' does is h same fit =
    let most = same_most old new word reply does in
    let places = ap (λ (x : ReadySets). x.places) same in
    let room = h.room in
    record {
      all = ap (λ (x : ReadySets). length x.of) same ∙ lanes_reached old new word stages lane reply r does is h;
      room = omega (arith, most, places, room);
      fit = fit;
    }

-- ---- at the opening

replicate_at : {X : Type 0} (n i : ℕ) (x d : X) → i < n → get_or (replicate n x) i d ≡ x
replicate_at zero i x d l = absurd (omega (arith, l))
replicate_at (suc n) zero x d l = refl
replicate_at (suc n) (suc i) x d l = replicate_at n i x d (omega (arith, l))

flag_none : (n i : ℕ) → get_or (replicate n false) i false ≡ false
flag_none zero i = refl
flag_none (suc n) zero = refl
flag_none (suc n) (suc i) = flag_none n i

none_in : (lanes places lane i : ℕ) → lane < length (replicate lanes (replicate places false)) → is_in (replicate lanes (replicate places false)) lane i ≡ false
none_in lanes places lane i l =
    let size = length-replicate lanes (replicate places false) in
    ap (λ (flags : List Bool). get_or flags i false) (replicate_at lanes lane (replicate places false) [] (omega (arith, l, size))) ∙ flag_none places i

-- all stages are left
pub left_first : (stages : List Stage) (of : List ℕ) (lanes places n : ℕ) (r : ReadySets) → r ≡ none_ready of lanes places → n ≡ length stages → AreFitBut (λ i. i < n) stages r
left_first stages of lanes places n r is size =
    subst (AreFitBut (λ i. i < n) stages) (sym is) (record {
      rest = λ i not lane there. none_in lanes places lane i there ∙ sym (ap (λ (b : Bool). b && (lane_of of i == lane)) (ready_there stages i
          (elim (cases_lt i n) [ inl below ↦ absurd (not below) | inr above ↦ omega (arith, above, size) ])));
      apart = λ i lane there differs. none_in lanes places lane i there;
    })

-- ---- what the sets say

and_both : (a b : Bool) → (a && b) ≡ true → (a ≡ true) × (b ≡ true)
and_both true true h = (refl, refl)
and_both true false h = cc
and_both false true h = cc
and_both false false h = cc

lowest_is : (s : State) (r : ReadySets) (lane i : ℕ) → FitState s r → lane < length r.sets → length s.stages ≡ length s.plan.stages → position (λ b. b) (get_or r.sets lane []) ≡ Some i → IsLowestIn s r.of lane i
lowest_is s r lane i h l size e =
    let at = position-Some (λ (b : Bool). b) (get_or r.sets lane []) i false e in
    let both = and_both (is_ready (stage_in s.stages i)) (lane_of r.of i == lane) (sym (h.fit i lane l) ∙ at.1) in
    let ready = both.0 in
    record {
      there = elim (cases_lt i (length s.stages)) [
        | inl below ↦ omega (arith, below, size)
        | inr above ↦ (let no = ready_there s.stages i above in cc)
      ];
      ready = both.0;
      its_lane = eqb-true (lane_of r.of i) lane both.1;
      first = λ k below on same.
          let is = h.fit k lane l ∙ ap (λ (b : Bool). b && (lane_of r.of k == lane)) on ∙ eq-eqb (lane_of r.of k) lane same in
          let off = at.2 k below in
          cc;
    }

pub lowest_some : (s : State) (r : ReadySets) (lane : ℕ) (o : Option ℕ) → FitState s r → lane < length r.sets → length s.stages ≡ length s.plan.stages → o ≡ position (λ b. b) (get_or r.sets lane []) → IfSome o (λ i. IsLowestIn s r.of lane i)
lowest_some s r lane None h l size e = tt
lowest_some s r lane (Some i) h l size e = lowest_is s r lane i h l size (sym e)

pub lowest_few : (s : State) (lanes : List ℕ) (lane : ℕ) (o : Option ℕ) → most_stages s ≤ 4096 → IfSome o (λ i. IsLowestIn s lanes lane i) → IfSome o (λ i. i ≤ 4095)
lowest_few s lanes lane None most h = tt
lowest_few s lanes lane (Some i) most h = let there = h.there in omega (arith, there, most)

-- where no place is found, all flags are false
none_at : (flags : List Bool) (k : ℕ) → length flags ≤ position_or_len (λ b. b) flags → get_or flags k false ≡ false
none_at [] k l = refl
none_at (true ∷ flags) k l = absurd (omega (arith, l))
none_at (false ∷ flags) zero l = refl
none_at (false ∷ flags) (suc k) l = none_at flags k (omega (arith, l))

long_by : (b : Bool) (flags : List Bool) → nat_lt (position_or_len (λ b. b) flags) (length flags) ≡ b → cond b (Some (position_or_len (λ b. b) flags)) None ≡ None → length flags ≤ position_or_len (λ b. b) flags
long_by true flags is e = cc
long_by false flags is e = ltb-false (position_or_len (λ (b : Bool). b) flags) (length flags) is

pub lowest_none : (s : State) (r : ReadySets) (lane : ℕ) (o : Option ℕ) → FitState s r → lane < length r.sets → o ≡ position (λ b. b) (get_or r.sets lane []) → IfNone o (NoneReadyIn s r.of lane (length s.plan.stages))
lowest_none s r lane (Some i) h l e = tt
lowest_none s r lane None h l e = λ k below on same.
    let flags = get_or r.sets lane [] in
    let off = none_at flags k (long_by (nat_lt (position_or_len (λ (b : Bool). b) flags) (length flags)) flags refl (sym e)) in
    let is = h.fit k lane l ∙ ap (λ (b : Bool). b && (lane_of r.of k == lane)) on ∙ eq-eqb (lane_of r.of k) lane same in
    cc

-- ---- how many

abbrev below : List Bool → ℕ → ℕ
below flags zero = 0
below flags (suc k) = cond (get_or flags k false) 1 0 + below flags k

count_below : (flags : List Bool) (n : ℕ) → n ≤ length flags → sum_by weight (take n flags) ≡ below flags n
count_below flags zero l = refl
count_below flags (suc n) l =
    let rest = count_below flags n (omega (arith, l)) in
    let more = sum_by_more weight flags n false (omega (arith, l)) in
    let next : n + 1 ≡ suc n = omega arith in
    subst (λ (m : ℕ). sum_by weight (take m flags) ≡ below flags (suc n)) next (omega (arith, rest, more))

ready_as_below : (s : State) (r : ReadySets) (lane n : ℕ) → FitState s r → lane < length r.sets → below (get_or r.sets lane []) n ≡ ready_below s r.of lane n
ready_as_below s r lane zero h l = refl
ready_as_below s r lane (suc n) h l =
    let one = ap weight (h.fit n lane l) in
    let rest = ready_as_below s r lane n h l in
    omega (arith, one, rest)

ready_beyond : (s : State) (of : List ℕ) (lane n k : ℕ) → length s.stages ≤ n → ready_below s of lane (n + k) ≡ ready_below s of lane n
ready_beyond s of lane n zero l = let e : n + 0 ≡ n = omega arith in ap (ready_below s of lane) e
ready_beyond s of lane n (suc k) l =
    let e : n + suc k ≡ suc (n + k) = omega arith in
    let none = ap (λ (b : Bool). weight (b && (lane_of of (n + k) == lane))) (ready_there s.stages (n + k) (omega (arith, l))) in
    let rest = ready_beyond s of lane n k l in
    ap (ready_below s of lane) e ∙ omega (arith, none, rest)

pub ready_is : (s : State) (r : ReadySets) (lane : ℕ) → AreSets r → FitState s r → lane < length r.sets → length s.stages ≡ length s.plan.stages → count_of (get_or r.sets lane []) ≡ ready_below s r.of lane (length s.plan.stages)
ready_is s r lane are h l size =
    let flags = get_or r.sets lane [] in
    let n = length s.plan.stages in
    let long = are.flags lane [] l in
    let room = h.room in
    let k = length flags - n in
    let e : length flags ≡ n + k = omega (arith, long, room) in
    ap (λ (xs : List Bool). sum_by weight xs) (sym (take_all (length flags) flags (omega arith))) ∙ count_below flags (length flags) (omega arith)
    ∙ ready_as_below s r lane (length flags) h l ∙ ap (ready_below s r.of lane) e ∙ ready_beyond s r.of lane n k (omega (arith, size))

-- ---- what a contract sees

abbrev pub lanes_in : ReadySets → Lanes
lanes_in r = record { of = r.of; count = length r.sets }

pub lanes_seen : (r r' : ReadySets) (stages n lane : ℕ) → r' ≡ (record r { of = lanes_of stages lane r.of; sets = r'.sets }) → length r'.sets ≡ length r.sets → stages ≡ n → lanes_in r' ≡ with_lane n lane (lanes_in r)
lanes_seen r r' stages n lane same count is =
    ap (λ (l : List ℕ). let x : Lanes = record { of = l; count = length r'.sets } in x) (ap (λ (x : ReadySets). x.of) same ∙ ap (λ (k : ℕ). lanes_of k lane r.of) is)
    ∙ ap (λ (k : ℕ). let x : Lanes = record { of = lanes_of n lane r.of; count = k } in x) count

pub lanes_first : (r r' : ReadySets) (of : List ℕ) (lanes places : ℕ) → r ≡ none_ready of lanes places → r' ≡ (record r { sets = r'.sets }) → length r'.sets ≡ length r.sets → lanes_in r' ≡ (record { of = of; count = lanes })
lanes_first r r' of lanes places is same count =
    let size = count ∙ ap (λ (x : ReadySets). length x.sets) is ∙ length-replicate lanes (replicate places false) in
    ap (λ (l : List ℕ). let x : Lanes = record { of = l; count = length r'.sets } in x) (ap (λ (x : ReadySets). x.of) same ∙ ap (λ (x : ReadySets). x.of) is)
    ∙ ap (λ (k : ℕ). let x : Lanes = record { of = of; count = k } in x) size

-- as a request is opened
pub fit_first : (ledger : Ledger) (plan : Planned) (more : ℕ) (of : List ℕ) (lanes : ℕ) (r r' : ReadySets) → ledger ≡ (record { plan = with_room plan more; events = []; free = 0 }) → length of ≡ length plan.stages → r ≡ none_ready of lanes (length of + more) →
    r' ≡ (record r { sets = r'.sets }) → ((i : ℕ) → IsFit (state_of ledger).stages r' i) → FitState (state_of ledger) r'
fit_first ledger plan more of lanes r r' is all first same fit =
    let stages : stages_of ledger ≡ length plan.stages = ap (λ (l : Ledger). stages_of l) is in
    let room : (state_of ledger).plan.room ≡ more = ap (λ (l : Ledger). (state_of l).plan.room) is in
    let size = ap (λ (x : ReadySets). length x.of) same ∙ ap (λ (x : ReadySets). length x.of) first in
    let places = ap (λ (x : ReadySets). x.places) same ∙ ap (λ (x : ReadySets). x.places) first in
    record {
      all = omega (arith, size, all, stages);
      room = omega (arith, stages, room, places, all);
      fit = fit;
    }
