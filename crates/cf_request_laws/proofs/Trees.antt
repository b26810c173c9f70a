-- The stages that gather, all together, and what an event makes of them.
use Rattle.std.proofs.Common.{◌≡◌, ℕ, ◌+◌, ◌≤◌, true, false, drop, length, map, take, Option, Some, None, List, [], ◌∷◌, refl, ap, sym, ◌∙◌, arith, inl, inr, ◌⊎◌}
use Rattle.std.specs.Prelude.{is_some}
use Rattle.cf_outcome.specs.declared.outcome.Outcome.{Outcome}
use Rattle.cf_forms.specs.declared.forms.Of.TheVariants.{Two}
use Rattle.cf_forms.specs.Plans.{PlannedStage, attached_stage, sources_of}
use Rattle.cf_model.specs.declared.events.Event.{Event}
use Rattle.cf_model.specs.Events.{answered}
use Rattle.cf_model.specs.Laws.{IsClosed}
use Rattle.cf_model.specs.States.{State, outcome_in}
use Rattle.cf_request.specs.Gathering.{first_two, form_of, gathered, joined}
use Rattle.cf_request.specs.Telling.{is_settled_in}
use Rattle.cf_request.specs.declared.gathering.Gathering.{Gathering}
use Rattle.cf_request.specs.declared.gathering.Gathering.TheVariants.{AllOf, AnyOf}
use Rattle.cf_request.proofs.Gathered.{gathers_as_one}
use Rattle.cf_request_laws.specs.Roots.{given}
use Rattle.cf_request_laws.proofs.Stages.{ComesFirst, IsHeld, IsSound, settles_with, stays_held, stays_sound}

-- ---- the stages

abbrev pub joining : Gathering → ℕ → ℕ → PlannedStage
joining how before source = attached_stage (form_of how) (Two before source) None

abbrev pub beginning : Gathering → List ℕ → PlannedStage
beginning how sources = attached_stage (form_of how) (first_two sources) None

-- each of the stages that join these sources is so
abbrev pub EachJoin : (ℕ → PlannedStage → Type 0) → Gathering → ℕ → ℕ → List ℕ → Type 0
EachJoin P how next before [] = Unit {0}
EachJoin P how next before (x ∷ sources) = P next (joining how before x) × EachJoin P how (next + 1) next sources

-- and each of all
abbrev pub EachOf : (ℕ → PlannedStage → Type 0) → Gathering → ℕ → List ℕ → Type 0
EachOf P how first sources = P first (beginning how sources) × EachJoin P how (first + 1) first (drop 2 sources)

-- one of them, up to the last
pub record OneOf (P : ℕ → PlannedStage → Type 0) (first last : ℕ) : Type 0 where
  pub stage : ℕ
  pub planned : PlannedStage
  pub not_before : first ≤ stage
  pub not_behind : stage ≤ last
  pub is : P stage planned

-- ---- each by itself

map_joins : (P Q : ℕ → PlannedStage → Type 0) (how : Gathering) (next before : ℕ) (sources : List ℕ) → ((stage : ℕ) (p : PlannedStage) → P stage p → Q stage p) → EachJoin P how next before sources → EachJoin Q how next before sources
map_joins P Q how next before [] f h = tt
map_joins P Q how next before (x ∷ sources) f h = (f next (joining how before x) h.0, map_joins P Q how (next + 1) next sources f h.1)

pub map_each : (P Q : ℕ → PlannedStage → Type 0) (how : Gathering) (first : ℕ) (sources : List ℕ) → ((stage : ℕ) (p : PlannedStage) → P stage p → Q stage p) → EachOf P how first sources → EachOf Q how first sources
map_each P Q how first sources f h = (f first (beginning how sources) h.0, map_joins P Q how (first + 1) first (drop 2 sources) f h.1)

either_next : (Q R : ℕ → PlannedStage → Type 0) (how : Gathering) (next before last x : ℕ) (sources : List ℕ) → next + length sources ≡ last → Q next (joining how before x) ⊎ R next (joining how before x) → EachJoin Q how (next + 1) next sources ⊎ OneOf R (next + 1) last →
    EachJoin Q how next before (x ∷ sources) ⊎ OneOf R next last
either_next Q R how next before last x sources is (inr r) rest = inr (record { stage = next; planned = joining how before x; not_before = omega arith; not_behind = omega (arith, is); is = r })
either_next Q R how next before last x sources is (inl q) (inr r) = let l = r.not_before in inr (record { stage = r.stage; planned = r.planned; not_before = omega (arith, l); not_behind = r.not_behind; is = r.is })
either_next Q R how next before last x sources is (inl q) (inl rest) = inl (q, rest)

either_joins : (P Q R : ℕ → PlannedStage → Type 0) (how : Gathering) (next before last : ℕ) (sources : List ℕ) → before + length sources ≡ last → next ≡ before + 1 → ((stage : ℕ) (p : PlannedStage) → P stage p → Q stage p ⊎ R stage p) → EachJoin P how next before sources →
    EachJoin Q how next before sources ⊎ OneOf R next last
either_joins P Q R how next before last [] is at f h = inl tt
either_joins P Q R how next before last (x ∷ sources) is at f h =
    either_next Q R how next before last x sources (omega (arith, is, at)) (f next (joining how before x) h.0) (either_joins P Q R how (next + 1) next last sources (omega (arith, is, at)) refl f h.1)

either_all : (Q R : ℕ → PlannedStage → Type 0) (how : Gathering) (first last : ℕ) (sources : List ℕ) → first ≤ last → Q first (beginning how sources) ⊎ R first (beginning how sources) → EachJoin Q how (first + 1) first (drop 2 sources) ⊎ OneOf R (first + 1) last →
    EachOf Q how first sources ⊎ OneOf R first last
either_all Q R how first last sources is (inr r) rest = inr (record { stage = first; planned = beginning how sources; not_before = omega arith; not_behind = is; is = r })
either_all Q R how first last sources is (inl q) (inr r) = let l = r.not_before in inr (record { stage = r.stage; planned = r.planned; not_before = omega (arith, l); not_behind = r.not_behind; is = r.is })
either_all Q R how first last sources is (inl q) (inl rest) = inl (q, rest)

-- each is one, or some stage is another
either_each : (P Q R : ℕ → PlannedStage → Type 0) (how : Gathering) (first last : ℕ) (sources : List ℕ) → first + length (drop 2 sources) ≡ last → ((stage : ℕ) (p : PlannedStage) → P stage p → Q stage p ⊎ R stage p) → EachOf P how first sources →
    EachOf Q how first sources ⊎ OneOf R first last
either_each P Q R how first last sources is f h =
    either_all Q R how first last sources (omega (arith, is)) (f first (beginning how sources) h.0) (either_joins P Q R how (first + 1) first last (drop 2 sources) is refl f h.1)

-- ---- what the root has

two_of : (f : ℕ → Option Outcome) (sources : List ℕ) → map f (sources_of (first_two sources)) ≡ take 2 (map f sources)
two_of f [] = refl
two_of f (a ∷ []) = refl
two_of f (a ∷ b ∷ sources) = refl

rest_of : (f : ℕ → Option Outcome) (sources : List ℕ) → map f (drop 2 sources) ≡ drop 2 (map f sources)
rest_of f [] = refl
rest_of f (a ∷ []) = refl
rest_of f (a ∷ b ∷ sources) = refl

-- what all the stages give one behind the other is what one gives over all sources
as_one : (how : Gathering) (sources : List ℕ) (s : State) → joined how (given how (beginning how sources).sources s) (map (outcome_in s.stages) (drop 2 sources)) ≡ given how sources s
as_one how sources s =
    let f = outcome_in s.stages in
    let rest = map f (drop 2 sources) in
    ap (λ (q : List (Option Outcome)). joined how (gathered how q) rest) (two_of f sources) ∙ ap (joined how (gathered how (take 2 (map f sources)))) (rest_of f sources) ∙ gathers_as_one how (map f sources)

joins_have : (how : Gathering) (next before last : ℕ) (sources : List ℕ) (s : State) (v : Option Outcome) → before + length sources ≡ last → next ≡ before + 1 → EachJoin (λ stage p. IsSound how stage p s) how next before sources → outcome_in s.stages before ≡ v →
    outcome_in s.stages last ≡ joined how v (map (outcome_in s.stages) sources)
joins_have how next before last [] s v is at h has = let here : last ≡ before = omega (arith, is) in ap (outcome_in s.stages) here ∙ has
joins_have how next before last (x ∷ sources) s v is at h has =
    let o = outcome_in s.stages x in
    joins_have how (next + 1) next last sources s (gathered how (v ∷ o ∷ [])) (omega (arith, is, at)) refl h.1 (h.0.same ∙ ap (λ (y : Option Outcome). gathered how (y ∷ o ∷ [])) has)

-- the root of sound stages has what one stage over all sources takes
pub root_has : (how : Gathering) (first last : ℕ) (sources : List ℕ) (s : State) → first + length (drop 2 sources) ≡ last → EachOf (λ stage p. IsSound how stage p s) how first sources → outcome_in s.stages last ≡ given how sources s
root_has how first last sources s is h =
    joins_have how (first + 1) first last (drop 2 sources) s (given how (beginning how sources).sources s) is refl h.1 h.0.same ∙ as_one how sources s

-- ---- while the root is open

pub none_by : (x : Option Outcome) → is_some x ≡ false → x ≡ None
none_by None h = refl
none_by (Some o) h = cc

any_none : (a b : Option Outcome) → gathered AnyOf (a ∷ b ∷ []) ≡ None → a ≡ None
any_none None b h = refl
any_none (Some o) b h = cc

-- a sound stage that an event leaves sound, but for one that came first
record MayMove (how : Gathering) (stage : ℕ) (p : PlannedStage) (s : State) : Type 0 where
  sound : IsSound how stage p s
  all : is_settled_in s.stages stage ≡ true → how ≡ AllOf

may_open : (stage : ℕ) (p : PlannedStage) (s : State) → IsSound AnyOf stage p s → outcome_in s.stages stage ≡ None → MayMove AnyOf stage p s
may_open stage p s h none = record { sound = h; all = λ on. (let no : false ≡ true = sym (ap is_some none) ∙ on in let never : ⊥ = cc in absurd never) }

-- the root of anyOf is open only while each of the stages is
any_joins : (next before last : ℕ) (sources : List ℕ) (s : State) → before + length sources ≡ last → next ≡ before + 1 → EachJoin (λ stage p. IsSound AnyOf stage p s) AnyOf next before sources → outcome_in s.stages last ≡ None →
    (outcome_in s.stages before ≡ None) × EachJoin (λ stage p. MayMove AnyOf stage p s) AnyOf next before sources
any_joins next before last [] s is at h none = (let here : before ≡ last = omega (arith, is) in ap (outcome_in s.stages) here ∙ none, tt)
any_joins next before last (x ∷ sources) s is at h none =
    let rest = any_joins (next + 1) next last sources s (omega (arith, is, at)) refl h.1 none in
    (any_none (outcome_in s.stages before) (outcome_in s.stages x) (sym h.0.same ∙ rest.0), (may_open next (joining AnyOf before x) s h.0 rest.0, rest.1))

may_move : (how : Gathering) (first last : ℕ) (sources : List ℕ) (s : State) → first + length (drop 2 sources) ≡ last → EachOf (λ stage p. IsSound how stage p s) how first sources → outcome_in s.stages last ≡ None → EachOf (λ stage p. MayMove how stage p s) how first sources
may_move AllOf first last sources s is h none = map_each (λ stage p. IsSound AllOf stage p s) (λ stage p. MayMove AllOf stage p s) AllOf first sources (λ stage p x. record { sound = x; all = λ on. refl }) h
may_move AnyOf first last sources s is h none =
    let rest = any_joins (first + 1) first last (drop 2 sources) s is refl h.1 none in
    (may_open first (beginning AnyOf sources) s h.0 rest.0, rest.1)

-- So an event leaves all stages sound, or one of them came first.
pub tree_stays : (how : Gathering) (first last : ℕ) (sources : List ℕ) (s : State) (e : Event) → first + length (drop 2 sources) ≡ last → IsClosed s → EachOf (λ stage p. IsSound how stage p s) how first sources → is_settled_in s.stages last ≡ false →
    EachOf (λ stage p. IsSound how stage p ((answered s e).1)) how first sources ⊎ OneOf (λ stage p. ComesFirst how stage p s ((answered s e).1) e) first last
tree_stays how first last sources s e is closed h still =
    let t = (answered s e).1 in
    either_each (λ stage p. MayMove how stage p s) (λ stage p. IsSound how stage p t) (λ stage p. ComesFirst how stage p s t e) how first last sources is
    (λ stage p m. stays_sound how stage p s e closed m.sound m.all) (may_move how first last sources s is h (none_by (outcome_in s.stages last) still))

-- ---- whichever came first

-- an event leaves each of them pending or settled
pub tree_held : (how : Gathering) (first : ℕ) (sources : List ℕ) (s : State) (e : Event) → IsClosed s → EachOf (λ stage p. IsHeld how stage p s) how first sources → EachOf (λ stage p. IsHeld how stage p ((answered s e).1)) how first sources
tree_held how first sources s e closed h =
    map_each (λ stage p. IsHeld how stage p s) (λ stage p. IsHeld how stage p ((answered s e).1)) how first sources (λ stage p x. stays_held how stage p s e closed x) h

-- who has more gives no less
gives_more : (how : Gathering) (v w o : Option Outcome) → (is_some v ≡ true → is_some w ≡ true) → is_some (gathered how (v ∷ o ∷ [])) ≡ true → is_some (gathered how (w ∷ o ∷ [])) ≡ true
gives_more AllOf None w o h some = cc
gives_more AllOf (Some a) None o h some = (let no = h refl in cc)
gives_more AllOf (Some a) (Some b) None h some = cc
gives_more AllOf (Some a) (Some b) (Some c) h some = refl
gives_more AnyOf None None o h some = some
gives_more AnyOf None (Some b) o h some = refl
gives_more AnyOf (Some a) None o h some = (let no = h refl in cc)
gives_more AnyOf (Some a) (Some b) o h some = refl

joins_settle : (how : Gathering) (next before last : ℕ) (sources : List ℕ) (s : State) (v : Option Outcome) → before + length sources ≡ last → next ≡ before + 1 → IsClosed s → EachJoin (λ stage p. IsHeld how stage p s) how next before sources →
    (is_some v ≡ true → is_settled_in s.stages before ≡ true) → is_some (joined how v (map (outcome_in s.stages) sources)) ≡ true → is_settled_in s.stages last ≡ true
joins_settle how next before last [] s v is at closed h has some = let here : last ≡ before = omega (arith, is) in ap (is_settled_in s.stages) here ∙ has some
joins_settle how next before last (x ∷ sources) s v is at closed h has some =
    let o = outcome_in s.stages x in
    joins_settle how (next + 1) next last sources s (gathered how (v ∷ o ∷ [])) (omega (arith, is, at)) refl closed h.1
    (λ more. settles_with how next (joining how before x) s closed h.0 (gives_more how v (outcome_in s.stages before) o has more)) some

-- the root is settled once one stage over all sources would be
pub root_settles : (how : Gathering) (first last : ℕ) (sources : List ℕ) (s : State) → first + length (drop 2 sources) ≡ last → IsClosed s → EachOf (λ stage p. IsHeld how stage p s) how first sources → is_some (given how sources s) ≡ true → is_settled_in s.stages last ≡ true
root_settles how first last sources s is closed h some =
    joins_settle how (first + 1) first last (drop 2 sources) s (given how (beginning how sources).sources s) is refl closed h.1
    (λ more. settles_with how first (beginning how sources) s closed h.0 more) (ap is_some (as_one how sources s) ∙ some)
