-- Which relays may be behind.
use Rattle.std.proofs.Common.{◌≡◌, ℕ, zero, suc, ◌+◌, ◌<◌, ◌≤◌, Bool, true, false, List, [], ◌∷◌, ◌++◌, All, Contains, drop, get_or, length, length-append, take, refl, ap, sym, ◌∙◌, arith, subst, inl, inr, ◌⊎◌}
use Rattle.std.specs.Prelude.{is_some, set}
use Rattle.std.proofs.Math.Seq.{take-append-add}
use Rattle.std.proofs.lemmas.Bool.{cases_eq}
use Rattle.std.proofs.lemmas.List.{drop-append-le, get_or-set_other, get_or-set_same, length-set}
use Rattle.std.proofs.lemmas.List.Elements.{All-cons, All-contains, All-head, All-nil, All-push, All-tail, All-weaker, Contains-append_left, Contains-append_right}
use Rattle.cf_model.specs.declared.events.Reply.{Reply}
use Rattle.cf_model.specs.declared.stage.Stage.{Stage}
use Rattle.cf_model.specs.States.{State, outcome_in}
use Rattle.cf_model.specs.declared.events.Event.TheVariants.{Finish as Finishes}
use Rattle.cf_model.specs.declared.events.Reply.TheVariants.{Finish as ToldFinish}
use Rattle.cf_event.specs.Words.{word_of}
use Rattle.cf_ledger.specs.Ledgers.{state_of}
use Rattle.cf_ledger.specs.Steps.{finished_as}
use Rattle.cf_ledger.specs.declared.step.Finish.{Finish}
use Rattle.cf_ledger.specs.declared.step.Held.{Held}
use Rattle.std.specs.Prelude.{Option, Some, None}
use Rattle.cf_request.specs.Joins.{sources_of}
use Rattle.cf_request.specs.Lanes.{FinishesHeld}
use Rattle.cf_request.specs.declared.relays.Behind.{Behind}
use Rattle.cf_request.specs.Relays.{AreBehindBy, AreIn, AreLookedAt, AreMarked, HaveCommon, IsBehindAt, IsNotBehind, MarksAll, NoneBehind, NoneFollowed, is_in_flags}
use Rattle.cf_request.specs.Settling.{Settles, settle_event}
use Rattle.cf_request.specs.Telling.{Teller, Tells, is_settled_in}
use Rattle.cf_request.specs.declared.joins.Join.{Join}
use Rattle.cf_request.specs.declared.settling.Due.{Due}
use Rattle.cf_request.proofs.Decided.{none_is, undecided_same}
use Rattle.cf_request.proofs.Lists.{contains_cases, contains_head, contains_tail}
use Rattle.cf_request.proofs.Telling.{next_is, stays}

-- ---- flags

pub flag_past : (flags : List Bool) (i : ℕ) → length flags ≤ i → get_or flags i false ≡ false
flag_past [] i l = refl
flag_past (b ∷ flags) zero l = absurd (omega (arith, l))
flag_past (b ∷ flags) (suc i) l = flag_past flags i (omega (arith, l))

-- a flag that is set stays so where another one is set
pub flag_stays : (flags : List Bool) (i j : ℕ) → i < length flags → get_or flags j false ≡ true → get_or (set flags i true) j false ≡ true
flag_stays flags i j l h = elim (cases_eq j i) [
  | inl same ↦ subst (λ (k : ℕ). get_or (set flags i true) k false ≡ true) (sym same) (get_or-set_same flags i true false l)
  | inr other ↦ get_or-set_other flags i j true false other ∙ h
]

-- so are those of one more join
pub marked_more : (old new : List Bool) (follows : List Join) (j : Join) → MarksAll (sources_of j) old new → AreMarked old follows → AreMarked new (follows ++ j ∷ [])
marked_more old new follows j h marked =
    All-push (λ (x : Join). AreIn new (sources_of x)) follows j
    (All-weaker (λ (x : Join). AreIn old (sources_of x)) (λ (x : Join). AreIn new (sources_of x)) (λ x on. All-weaker (λ (i : ℕ). is_in_flags old i ≡ true) (λ (i : ℕ). is_in_flags new i ≡ true) h.stay (sources_of x) on) follows marked)
    h.marked

pub marks_none : (flags : List Bool) → MarksAll [] flags flags
marks_none flags = record { flags = refl; stay = λ i on. on; marked = All-nil (λ (i : ℕ). is_in_flags flags i ≡ true) }

pub marks_one : (xs : List ℕ) (i : ℕ) (old flags new : List Bool) → i < length flags → new ≡ set flags i true → MarksAll xs old flags → MarksAll (xs ++ i ∷ []) old new
marks_one xs i old flags new l is h = subst (λ (now : List Bool). MarksAll (xs ++ i ∷ []) old now) (sym is) (record {
  flags = length-set flags i true ∙ h.flags;
  stay = λ k on. flag_stays flags i k l (h.stay k on);
  marked = All-push (λ (k : ℕ). is_in_flags (set flags i true) k ≡ true) xs i
      (All-weaker (λ (k : ℕ). is_in_flags flags k ≡ true) (λ (k : ℕ). is_in_flags (set flags i true) k ≡ true) (λ k on. flag_stays flags i k l on) xs h.marked)
      (get_or-set_same flags i true false l);
})

-- ---- what is behind

pub tests : (b : Bool) → (b ≡ true) ⊎ (b ≡ false)
tests true = inl refl
tests false = inr refl

pub behind_by : (news : List ℕ) (follows : List Join) (stages : List Stage) → NoneBehind follows stages → AreBehindBy news follows stages
behind_by news follows stages h = λ k d l. inl (h k d l)

-- where no stage of those is followed, no join is behind
pub none_behind : (seen : ℕ) (told news : List ℕ) (flags : List Bool) (follows : List Join) (stages : List Stage) → news ≡ drop seen told → AreMarked flags follows → AreLookedAt seen told follows stages → NoneFollowed flags news → NoneBehind follows stages
none_behind seen told news flags follows stages is marked h none = λ k d l. elim (h.rest k d l) [
  | inl fine ↦ fine
  | inr common ↦ (let i = common.0 in
      let off = All-contains (λ (j : ℕ). is_in_flags flags j ≡ false) news i none (subst (λ (xs : List ℕ). Contains xs i) (sym is) common.2) in
      let mark = All-contains (λ (j : ℕ). is_in_flags flags j ≡ true) (sources_of (get_or follows k d)) i (marked k d l) common.1 in
      let wrong : true ≡ false = sym mark ∙ off in
      absurd (cc))
]

-- ---- what was looked at

pub looked_none : (seen : ℕ) (told : List ℕ) (follows : List Join) (stages : List Stage) → seen ≡ length told → NoneBehind follows stages → AreLookedAt seen told follows stages
looked_none seen told follows stages is h = record { within = omega (arith, is); rest = behind_by (drop seen told) follows stages h }

pub stay_word : (old new : Teller) (word : ℕ) (reply : Reply) → Tells word old reply new → (i : ℕ) → is_settled_in (state_of old.ledger).stages i ≡ true → is_settled_in (state_of new.ledger).stages i ≡ true
stay_word old new word reply h i is =
    ap (λ (t : State). is_settled_in t.stages i) (next_is old.ledger new.ledger word reply h.does) ∙ ap is_some (stays (state_of old.ledger) h.does.event i is) ∙ is

none_there : (i : ℕ) → Contains [] i → ⊥
none_there i (k, l, e) = absurd (omega (arith, l))

pub contains_or : (xs : List ℕ) (i : ℕ) → Contains xs i ⊎ (Contains xs i → ⊥)
contains_or [] i = inr (none_there i)
contains_or (x ∷ xs) i = elim (cases_eq x i) [
  | inl same ↦ inl (subst (λ (y : ℕ). Contains (x ∷ xs) y) same (contains_head x xs))
  | inr other ↦ elim (contains_or xs i) [
    | inl on ↦ inl (contains_tail x i xs on)
    | inr off ↦ inr (λ h. elim (contains_cases x i xs h) [ inl e ↦ other e | inr r ↦ off r ])
  ]
]

common_or : (xs ys : List ℕ) → HaveCommon xs ys ⊎ All (λ i. Contains ys i → ⊥) xs
common_or [] ys = inr (All-nil (λ (i : ℕ). Contains ys i → ⊥))
common_or (x ∷ xs) ys = elim (contains_or ys x) [
  | inl on ↦ inl (x, contains_head x xs, on)
  | inr off ↦ elim (common_or xs ys) [
    | inl c ↦ inl (c.0, contains_tail x c.0 xs c.1, c.2)
    | inr none ↦ inr (All-cons (λ (i : ℕ). Contains ys i → ⊥) x xs off none)
  ]
]

-- what a word doesn't settle has the outcome that it had
outcome_word : (old new : Teller) (word : ℕ) (reply : Reply) → (t : Tells word old reply new) → (i : ℕ) → (Contains t.fresh i → ⊥) → outcome_in (state_of new.ledger).stages i ≡ outcome_in (state_of old.ledger).stages i
outcome_word old new word reply t i off =
    let before = (state_of old.ledger).stages in
    let after = (state_of new.ledger).stages in
    elim (tests (is_settled_in before i)) [
      | inl was ↦ ap (λ (s : State). outcome_in s.stages i) (next_is old.ledger new.ledger word reply t.does) ∙ stays (state_of old.ledger) t.does.event i was
      | inr not ↦ elim (tests (is_settled_in after i)) [
        | inl on ↦ absurd (off (t.are.all i not on))
        | inr still ↦ none_is (outcome_in after i) still ∙ sym (none_is (outcome_in before i) not)
      ]
    ]

looked_by : (seen : ℕ) (old new : Teller) (word : ℕ) (reply : Reply) (j : Join) → (t : Tells word old reply new) → drop seen new.told ≡ drop seen old.told ++ t.fresh →
    IsNotBehind (state_of old.ledger).stages j ⊎ HaveCommon (sources_of j) (drop seen old.told) → IsNotBehind (state_of new.ledger).stages j ⊎ HaveCommon (sources_of j) (drop seen new.told)
looked_by seen old new word reply j t rest (inl fine) = elim (common_or (sources_of j) t.fresh) [
  | inl c ↦ inr (c.0, c.1, subst (λ (xs : List ℕ). Contains xs c.0) (sym rest) (Contains-append_right (drop seen old.told) t.fresh c.0 c.2))
  | inr none ↦ inl (λ decided. stay_word old new word reply t j.stage (fine (λ undecided. decided
      (undecided_same (outcome_in (state_of old.ledger).stages) (outcome_in (state_of new.ledger).stages) j
      (All-weaker (λ (i : ℕ). Contains t.fresh i → ⊥) (λ (i : ℕ). outcome_in (state_of new.ledger).stages i ≡ outcome_in (state_of old.ledger).stages i) (λ i off. outcome_word old new word reply t i off) (sources_of j) none) undecided))))
]
looked_by seen old new word reply j t rest (inr c) =
    inr (c.0, c.1, subst (λ (xs : List ℕ). Contains xs c.0) (sym rest) (Contains-append_left (drop seen old.told) t.fresh c.0 c.2))

pub looked_word : (seen : ℕ) (follows : List Join) (old new : Teller) (word : ℕ) (reply : Reply) → Tells word old reply new → AreLookedAt seen old.told follows (state_of old.ledger).stages → AreLookedAt seen new.told follows (state_of new.ledger).stages
looked_word seen follows old new word reply t h =
    let rest : drop seen new.told ≡ drop seen old.told ++ t.fresh = ap (drop seen) t.told ∙ drop-append-le seen old.told t.fresh h.within in
    let size = ap (λ (xs : List ℕ). length xs) t.told ∙ length-append old.told t.fresh in
    let within = h.within in
    record {
      within = omega (arith, size, within);
      rest = λ k d l. looked_by seen old new word reply (get_or follows k d) t rest (h.rest k d l);
    }

pub looked_settle : (seen : ℕ) (follows : List Join) (who : ℕ) (d : Due) (old new : Teller) → Settles who d old new → AreLookedAt seen old.told follows (state_of old.ledger).stages → AreLookedAt seen new.told follows (state_of new.ledger).stages
looked_settle seen follows who d old new h = looked_word seen follows old new (word_of (settle_event who d.stage d.outcome)) h.reply h.done.tells.tells

pub looked_held : (seen : ℕ) (follows : List Join) (who : ℕ) (held : Option Held) (old : Teller) (finish : Option Finish) (new : Teller) → FinishesHeld who held old finish new → AreLookedAt seen old.told follows (state_of old.ledger).stages →
    AreLookedAt seen new.told follows (state_of new.ledger).stages
looked_held seen follows who None old None new h looked = subst (λ (t : Teller). AreLookedAt seen t.told follows (state_of t.ledger).stages) (sym h) looked
looked_held seen follows who (Some g) old (Some f) new h looked = looked_word seen follows old new (word_of (Finishes who g.stage g.answer)) (ToldFinish (finished_as f.late)) h.done.tells.tells looked
looked_held seen follows who None old (Some f) new h looked = absurd h
looked_held seen follows who (Some g) old None new h looked = absurd h

-- ---- the next place

all_front : {X : Type 0} (P : X → Type 0) (xs ys : List X) → All P (xs ++ ys) → All P xs
all_front P [] ys h = All-nil P
all_front P (x ∷ xs) ys h = All-cons P x xs (All-head P x (xs ++ ys) h) (all_front P xs ys (All-tail P x (xs ++ ys) h))

-- where one is settled, and none is followed that this settles, no join up to that one is behind
pub behind_next : (follows : List Join) (flags : List Bool) (who seen : ℕ) (news : List ℕ) (old new : Teller) (b : Behind) → IsBehindAt follows old b → AreMarked flags follows → Settles who b.due old new → seen ≡ length old.told → news ≡ drop seen new.told → NoneFollowed flags news →
    NoneBehind (take (b.place + 1) follows) (state_of new.ledger).stages
behind_next follows flags who seen news old new b h marked settles at are none =
    let due = h.due in
    let front = due.front in
    let j = due.join in
    let stages = (state_of new.ledger).stages in
    let first = looked_settle seen front who b.due old new settles (looked_none seen old.told front (state_of old.ledger).stages at due.first) in
    let marks = all_front (λ (x : Join). AreIn flags (sources_of x)) front (j ∷ due.back) (subst (AreMarked flags) due.is marked) in
    let before = none_behind seen new.told news flags front stages are marks first none in
    let settled : is_settled_in stages j.stage ≡ true = ap (is_settled_in stages) due.due.stage ∙ ap is_some settles.ends in
    let split : take (b.place + 1) follows ≡ front ++ j ∷ [] = ap (λ (n : ℕ). take (n + 1) follows) h.place ∙ ap (take (length front + 1)) due.is ∙ take-append-add front (j ∷ due.back) 1 in
    subst (λ (l : List Join). NoneBehind l stages) (sym split) (All-push (IsNotBehind stages) front j before (λ decided. settled))
