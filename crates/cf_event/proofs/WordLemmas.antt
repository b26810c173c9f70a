-- Words and their fields.
use Rattle.std.proofs.Common.{◌≡◌, ℕ, zero, suc, List, [], ◌∷◌, ◌++◌, map, replicate, All, ◌/◌, ◌%◌, ◌^◌, ◌<◌, ◌≤◌, false, Option, Some, None, refl, ap, sym, ◌∙◌, arith, rules}
use Rattle.std.specs.Prelude.{IfSome, nat_lt, option_and_then, ◌==◌, ◌&&◌}
use Rattle.std.specs.Option.{option_map}
use Rattle.std.specs.Int.{cast_signed, w32}
use Rattle.std.proofs.lemmas.Int.{to_z-of_z}
use Rattle.std.proofs.lemmas.Grind.{common_steps}
use Rattle.std.proofs.lemmas.List.Elements.{All-head, All-tail}
use Rattle.std.proofs.lemmas.Bool.Decides.{nat_tests}
use Rattle.cf_outcome.specs.declared.outcome.Value.{Value}
use Rattle.cf_outcome.specs.declared.outcome.Value.TheVariants.{Nil, Int}
use Rattle.cf_forms.specs.declared.forms.Answer.{Answer}
use Rattle.cf_forms.specs.declared.forms.Answer.TheVariants.{Give, Throw, Link}
use Rattle.cf_model.specs.declared.events.Event.{Event}
use Rattle.cf_model.specs.declared.events.Event.TheVariants.{Complete as Completes, Fail as Fails, FailAs as FailsAs, Cancel as Cancels, Claim as Claims, Finish as Finishes, Tick as Ticks, Attach as Attaches}
use Rattle.cf_model.specs.declared.events.Failure.TheVariants.{TimedOut, BadAnswer}
use Rattle.cf_event.specs.Words.{IsAnswer, IsEvent, IsValue, answer_low, answer_tag, attach_low, count_of, first_of, value_low, value_tag, word_of, word_with}
use Rattle.cf_event.specs.Decoding.{answer_with, attach_with, claim_of, completing_of, decoded, decoded_with, event_of, event_with, failure_with, giving_of, value_with}
use Rattle.cf_event.proofs.AttachLemmas.{attach_back, attach_small, attach_with_is, chosen, count_small}

-- a word's fields
kind_in : (kind who i tag low : ℕ) → who < 256 → i < 4096 → tag < 16 → low < 2 ^ 32 → word_with kind who i tag low / 2 ^ 56 ≡ kind
kind_in kind who i tag low w s t l = omega arith

who_in : (kind who i tag low : ℕ) → who < 256 → i < 4096 → tag < 16 → low < 2 ^ 32 → word_with kind who i tag low / 2 ^ 48 % 2 ^ 8 ≡ who
who_in kind who i tag low w s t l = omega arith

stage_in : (kind who i tag low : ℕ) → who < 256 → i < 4096 → tag < 16 → low < 2 ^ 32 → word_with kind who i tag low / 2 ^ 36 % 2 ^ 12 ≡ i
stage_in kind who i tag low w s t l = omega arith

tag_in : (kind who i tag low : ℕ) → who < 256 → i < 4096 → tag < 16 → low < 2 ^ 32 → word_with kind who i tag low / 2 ^ 32 % 2 ^ 4 ≡ tag
tag_in kind who i tag low w s t l = omega arith

low_in : (kind who i tag low : ℕ) → who < 256 → i < 4096 → tag < 16 → low < 2 ^ 32 → word_with kind who i tag low % 2 ^ 32 ≡ low
low_in kind who i tag low w s t l = omega arith

-- a word is that of its fields
pub word_of_fields : (w : ℕ) → word_with (w / 2 ^ 56) (w / 2 ^ 48 % 2 ^ 8) (w / 2 ^ 36 % 2 ^ 12) (w / 2 ^ 32 % 2 ^ 4) (w % 2 ^ 32) ≡ w
word_of_fields w = omega arith

-- the event of the word of these fields
pub event_of_fields : (kind who i tag low : ℕ) → who < 256 → i < 4096 → tag < 16 → low < 2 ^ 32 → event_of (word_with kind who i tag low) ≡ event_with kind who i tag low
unfolding event_of
event_of_fields kind who i tag low w s t l =
    rw (kind_in kind who i tag low w s t l, who_in kind who i tag low w s t l, stage_in kind who i tag low w s t l, tag_in kind who i tag low w s t l, low_in kind who i tag low w s t l)

-- a value, and an answer, come back
value_with-back : (v : Value) → IsValue v → value_with (value_tag v) (value_low v) ≡ Some v
value_with-back Nil h = refl
value_with-back (Int z) h = ap (λ y. Some (Int y)) (to_z-of_z w32 z h)

answer_with-back : (a : Answer) → IsAnswer a → answer_with (answer_tag a) (answer_low a) ≡ Some a
answer_with-back (Give Nil) h = refl
answer_with-back (Give (Int z)) h = ap (λ y. Some (Give (Int y))) (to_z-of_z w32 z h)
answer_with-back (Throw code) h = refl
answer_with-back (Link j) h = grind (arith, common_steps)

-- their fields are small
value_small : (v : Value) → IsValue v → (value_tag v < 16) × (value_low v < 2 ^ 32)
value_small Nil h = (omega arith, omega arith)
value_small (Int z) h = (omega arith, search rules)

answer_small : (a : Answer) → IsAnswer a → (answer_tag a < 16) × (answer_low a < 2 ^ 32)
answer_small (Give v) h = value_small v h
answer_small (Throw code) h = (omega arith, h)
answer_small (Link j) h = (omega arith, omega arith)

-- of kind 7 are those that attach
event_with_attach : (who i tag low : ℕ) → who ≤ 63 → event_with 7 who i tag low ≡ attach_with who i tag low
event_with_attach who i tag low l = let few : nat_lt 63 who ≡ false = grind (arith, nat_tests) in rw few refl

-- the event of an event's word is that event
pub event_of_own_word : (e : Event) → IsEvent e → event_of (word_of e) ≡ Some e
event_of_own_word (Completes who i v) h =
    let small = value_small v h.2 in
    let back = value_with-back v h.2 in
    event_of_fields 1 who i (value_tag v) (value_low v) (omega (arith, h.0)) (omega (arith, h.1)) small.0 small.1 ∙ grind (arith, common_steps)
event_of_own_word (Fails who i code) h =
    event_of_fields 2 who i 0 code (omega (arith, h.0)) (omega (arith, h.1)) (omega arith) h.2 ∙ grind (arith, common_steps)
event_of_own_word (FailsAs who i (TimedOut code)) h =
    event_of_fields 8 who i 0 code (omega (arith, h.0)) (omega (arith, h.1)) (omega arith) h.2 ∙ grind (arith, common_steps)
event_of_own_word (FailsAs who i (BadAnswer code)) h =
    event_of_fields 8 who i 1 code (omega (arith, h.0)) (omega (arith, h.1)) (omega arith) h.2 ∙ grind (arith, common_steps)
event_of_own_word (Cancels who i) h =
    event_of_fields 3 who i 0 0 (omega (arith, h.0)) (omega (arith, h.1)) (omega arith) (omega arith) ∙ grind (arith, common_steps)
event_of_own_word (Claims who i) h =
    event_of_fields 4 who i 0 0 (omega (arith, h.0)) (omega (arith, h.1)) (omega arith) (omega arith) ∙ grind (arith, common_steps)
event_of_own_word (Finishes who i a) h =
    let small = answer_small a h.2 in
    let back = answer_with-back a h.2 in
    event_of_fields 5 who i (answer_tag a) (answer_low a) (omega (arith, h.0)) (omega (arith, h.1)) small.0 small.1 ∙ grind (arith, common_steps)
event_of_own_word (Ticks who now) h =
    event_of_fields 6 who 0 0 now (omega (arith, h.0)) (omega arith) (omega arith) h.1 ∙ grind (arith, common_steps)
event_of_own_word (Attaches who form of function) h =
    let low = attach_low form of function in
    event_of_fields 7 who (first_of of) (count_of of) low (omega (arith, h.0)) (omega (arith, h.1)) (count_small of) (attach_small form of function h.2 h.3)
    ∙ event_with_attach who (first_of of) (count_of of) low h.0
    ∙ attach_back who form of function h.2 h.3 h.4

-- what a value, and an answer, with these fields is
value_with_is : (tag low : ℕ) (v : Value) → low < 2 ^ 32 → value_with tag low ≡ Some v → IsValue v × (value_tag v ≡ tag) × (value_low v ≡ low)
value_with_is tag low v l h = grind (arith, common_steps, nat_tests)

answer_with_is : (tag low : ℕ) (a : Answer) → low < 2 ^ 32 → answer_with tag low ≡ Some a → IsAnswer a × (answer_tag a ≡ tag) × (answer_low a ≡ low)
answer_with_is tag low a l h = grind (arith, common_steps, nat_tests, value_with_is)

-- what the event with these fields is
event_with_is : (kind who i tag low : ℕ) (e : Event) → i < 4096 → low < 2 ^ 32 → event_with kind who i tag low ≡ Some e → IsEvent e × (word_of e ≡ word_with kind who i tag low)
event_with_is kind who i tag low e s l h =
    chosen (nat_lt 63 who) None _ e (λ t n. absurd cc) (λ w.
    chosen (kind == 1) (option_map (Completes who i) (value_with tag low)) _ e
    (λ k n. grind (arith, common_steps, nat_tests, value_with_is)) (λ k1.
    chosen (kind == 2 && tag == 0) (Some (Fails who i low)) _ e (λ k n. grind (arith, common_steps, nat_tests)) (λ k2.
    chosen (kind == 3 && tag == 0 && low == 0) (Some (Cancels who i)) _ e (λ k n. grind (arith, common_steps, nat_tests)) (λ k3.
    chosen (kind == 4 && tag == 0 && low == 0) (Some (Claims who i)) _ e (λ k n. grind (arith, common_steps, nat_tests)) (λ k4.
    chosen (kind == 5) (option_map (Finishes who i) (answer_with tag low)) _ e
    (λ k n. grind (arith, common_steps, nat_tests, answer_with_is)) (λ k5.
    chosen (kind == 6 && tag == 0 && i == 0) (Some (Ticks who low)) _ e (λ k n. grind (arith, common_steps, nat_tests)) (λ k6.
    chosen (kind == 7) (attach_with who i tag low) _ e
    (λ k n. (let is : kind ≡ 7 = grind (arith, nat_tests) in
    let few : who ≤ 63 = grind (arith, nat_tests) in
    let found = attach_with_is who i tag low e few s l n in
    (found.0, found.1 ∙ ap (λ m. word_with m who i tag low) (sym is)))) (λ k7.
    chosen (kind == 8) (option_map (FailsAs who i) (failure_with tag low)) None e (λ k n. grind (arith, common_steps, nat_tests)) (λ k8 n. absurd cc))))))))) h

-- the event of a word is one, and that is its word
pub event_of_is : (w : ℕ) (e : Event) → event_of w ≡ Some e → IsEvent e × (word_of e ≡ w)
unfolding event_of
event_of_is w e h =
    let found = event_with_is (w / 2 ^ 56) (w / 2 ^ 48 % 2 ^ 8) (w / 2 ^ 36 % 2 ^ 12) (w / 2 ^ 32 % 2 ^ 4) (w % 2 ^ 32) e (omega arith) (omega arith) h in
    (found.0, found.1 ∙ word_of_fields w)

-- what is found for a word is its event, and there is no other
pub found_is : (w : ℕ) (x : Option Event) → event_of w ≡ x → IfSome x (λ e. IsEvent e × (word_of e ≡ w))
found_is w None h = tt
found_is w (Some e) h = event_of_is w e h

pub every_is : (w : ℕ) (x : Option Event) → event_of w ≡ x → (e : Event) → IsEvent e → word_of e ≡ w → x ≡ Some e
every_is w x h e is same = sym h ∙ ap event_of (sym same) ∙ event_of_own_word e is

-- ---- the three kinds that have a comparison of their own

pub claim_there : (w : ℕ) → w / 2 ^ 54 ≡ 16 → w % 2 ^ 36 ≡ 0 → event_of w ≡ Some (Claims (w / 2 ^ 48 % 64) (w / 2 ^ 36 % 4096))
claim_there w head rest = every_is w (event_of w) refl (Claims (w / 2 ^ 48 % 64) (w / 2 ^ 36 % 4096)) (omega arith, omega arith) (omega (arith, head, rest))

pub claim_named : (w : ℕ) → w / 2 ^ 54 ≡ 16 → w % 2 ^ 36 ≡ 0 → word_of (Claims (w / 2 ^ 48 % 64) (w / 2 ^ 36 % 4096)) ≡ w
claim_named w head rest = (event_of_is w (Claims (w / 2 ^ 48 % 64) (w / 2 ^ 36 % 4096)) (claim_there w head rest)).1

claim_only : (w who i : ℕ) → event_of w ≡ Some (Claims who i) → (w / 2 ^ 54 ≡ 16) × (w % 2 ^ 36 ≡ 0)
claim_only w who i e = let is = event_of_is w (Claims who i) e in let small = is.0 in let word = is.1 in (omega (arith, small, word), omega (arith, small, word))

pub no_claim : (w : ℕ) → (w / 2 ^ 54 ≡ 16 → w % 2 ^ 36 ≡ 0 → ⊥) → option_and_then claim_of (event_of w) ≡ None
no_claim w other = by_event (event_of w) refl
  where
    by_event : (x : Option Event) → event_of w ≡ x → option_and_then claim_of x ≡ None
    by_event None e = refl
    by_event (Some (Completes who i v)) e = refl
    by_event (Some (Fails who i code)) e = refl
    by_event (Some (FailsAs who i failure)) e = refl
    by_event (Some (Cancels who i)) e = refl
    by_event (Some (Claims who i)) e = (let is = claim_only w who i e in absurd (other is.0 is.1))
    by_event (Some (Finishes who i answer)) e = refl
    by_event (Some (Ticks who now)) e = refl
    by_event (Some (Attaches who form of function)) e = refl

pub giving_there : (w : ℕ) → w / 2 ^ 54 ≡ 20 → w / 2 ^ 32 % 16 ≡ 1 → event_of w ≡ Some (Finishes (w / 2 ^ 48 % 64) (w / 2 ^ 36 % 4096) (Give (Int (cast_signed w32 (w % 2 ^ 32)))))
giving_there w head tag =
    let v = Int (cast_signed w32 (w % 2 ^ 32)) in
    let is = value_with_is 1 (w % 2 ^ 32) v (omega arith) refl in
    let low = is.2 in
    every_is w (event_of w) refl (Finishes (w / 2 ^ 48 % 64) (w / 2 ^ 36 % 4096) (Give v)) (omega arith, omega arith, is.0)
    (ap (λ low. word_with 5 (w / 2 ^ 48 % 64) (w / 2 ^ 36 % 4096) 1 low) low ∙ whole)
  where
    whole : word_with 5 (w / 2 ^ 48 % 64) (w / 2 ^ 36 % 4096) 1 (w % 2 ^ 32) ≡ w
    whole = omega (arith, head, tag)

pub giving_named : (w : ℕ) → w / 2 ^ 54 ≡ 20 → w / 2 ^ 32 % 16 ≡ 1 → word_of (Finishes (w / 2 ^ 48 % 64) (w / 2 ^ 36 % 4096) (Give (Int (cast_signed w32 (w % 2 ^ 32))))) ≡ w
giving_named w head tag = (event_of_is w (Finishes (w / 2 ^ 48 % 64) (w / 2 ^ 36 % 4096) (Give (Int (cast_signed w32 (w % 2 ^ 32))))) (giving_there w head tag)).1

pub nil_there : (w : ℕ) → w / 2 ^ 54 ≡ 20 → w % 2 ^ 36 ≡ 0 → event_of w ≡ Some (Finishes (w / 2 ^ 48 % 64) (w / 2 ^ 36 % 4096) (Give Nil))
nil_there w head rest = every_is w (event_of w) refl (Finishes (w / 2 ^ 48 % 64) (w / 2 ^ 36 % 4096) (Give Nil)) (omega arith, omega arith, tt) (omega (arith, head, rest))

pub nil_named : (w : ℕ) → w / 2 ^ 54 ≡ 20 → w % 2 ^ 36 ≡ 0 → word_of (Finishes (w / 2 ^ 48 % 64) (w / 2 ^ 36 % 4096) (Give Nil)) ≡ w
nil_named w head rest = (event_of_is w (Finishes (w / 2 ^ 48 % 64) (w / 2 ^ 36 % 4096) (Give Nil)) (nil_there w head rest)).1

int_only : (w who i low : ℕ) → who ≤ 63 → i ≤ 4095 → low < 2 ^ 32 → word_with 5 who i 1 low ≡ w → (w / 2 ^ 54 ≡ 20) × (w / 2 ^ 32 % 16 ≡ 1)
int_only w who i low small there l word = (omega (arith, small, there, l, word), omega (arith, small, there, l, word))

pub no_giving : (w : ℕ) → (w / 2 ^ 54 ≡ 20 → w / 2 ^ 32 % 16 ≡ 1 → ⊥) → (w / 2 ^ 54 ≡ 20 → w % 2 ^ 36 ≡ 0 → ⊥) → option_and_then giving_of (event_of w) ≡ None
no_giving w no_int no_nil = by_event (event_of w) refl
  where
    by_event : (x : Option Event) → event_of w ≡ x → option_and_then giving_of x ≡ None
    by_event None e = refl
    by_event (Some (Completes who i v)) e = refl
    by_event (Some (Fails who i code)) e = refl
    by_event (Some (FailsAs who i failure)) e = refl
    by_event (Some (Cancels who i)) e = refl
    by_event (Some (Claims who i)) e = refl
    by_event (Some (Finishes who i (Throw code))) e = refl
    by_event (Some (Finishes who i (Link j))) e = refl
    by_event (Some (Finishes who i (Give Nil))) e =
        (let is = event_of_is w (Finishes who i (Give Nil)) e in
        let small = is.0.0 in let there = is.0.1 in let word = is.1 in absurd (no_nil (omega (arith, small, there, word)) (omega (arith, small, there, word))))
    by_event (Some (Finishes who i (Give (Int z)))) e =
        (let is = event_of_is w (Finishes who i (Give (Int z))) e in
        let found = int_only w who i (value_low (Int z)) is.0.0 is.0.1 (value_small (Int z) is.0.2).1 is.1 in absurd (no_int found.0 found.1))
    by_event (Some (Ticks who now)) e = refl
    by_event (Some (Attaches who form of function)) e = refl

pub completing_there : (w : ℕ) → w / 2 ^ 54 ≡ 4 → w / 2 ^ 32 % 16 ≡ 1 → event_of w ≡ Some (Completes (w / 2 ^ 48 % 64) (w / 2 ^ 36 % 4096) (Int (cast_signed w32 (w % 2 ^ 32))))
completing_there w head tag =
    let v = Int (cast_signed w32 (w % 2 ^ 32)) in
    let is = value_with_is 1 (w % 2 ^ 32) v (omega arith) refl in
    let low = is.2 in
    every_is w (event_of w) refl (Completes (w / 2 ^ 48 % 64) (w / 2 ^ 36 % 4096) v) (omega arith, omega arith, is.0)
    (ap (λ low. word_with 1 (w / 2 ^ 48 % 64) (w / 2 ^ 36 % 4096) 1 low) low ∙ whole)
  where
    whole : word_with 1 (w / 2 ^ 48 % 64) (w / 2 ^ 36 % 4096) 1 (w % 2 ^ 32) ≡ w
    whole = omega (arith, head, tag)

pub completing_named : (w : ℕ) → w / 2 ^ 54 ≡ 4 → w / 2 ^ 32 % 16 ≡ 1 → word_of (Completes (w / 2 ^ 48 % 64) (w / 2 ^ 36 % 4096) (Int (cast_signed w32 (w % 2 ^ 32)))) ≡ w
completing_named w head tag = (event_of_is w (Completes (w / 2 ^ 48 % 64) (w / 2 ^ 36 % 4096) (Int (cast_signed w32 (w % 2 ^ 32)))) (completing_there w head tag)).1

completing_only : (w who i low : ℕ) → who ≤ 63 → i ≤ 4095 → low < 2 ^ 32 → word_with 1 who i 1 low ≡ w → (w / 2 ^ 54 ≡ 4) × (w / 2 ^ 32 % 16 ≡ 1)
completing_only w who i low small there l word = (omega (arith, small, there, l, word), omega (arith, small, there, l, word))

pub no_completing : (w : ℕ) → (w / 2 ^ 54 ≡ 4 → w / 2 ^ 32 % 16 ≡ 1 → ⊥) → option_and_then completing_of (event_of w) ≡ None
no_completing w other = by_event (event_of w) refl
  where
    by_event : (x : Option Event) → event_of w ≡ x → option_and_then completing_of x ≡ None
    by_event None e = refl
    by_event (Some (Completes who i Nil)) e = refl
    by_event (Some (Completes who i (Int z))) e =
        (let is = event_of_is w (Completes who i (Int z)) e in
        let found = completing_only w who i (value_low (Int z)) is.0.0 is.0.1 (value_small (Int z) is.0.2).1 is.1 in absurd (other found.0 found.1))
    by_event (Some (Fails who i code)) e = refl
    by_event (Some (FailsAs who i failure)) e = refl
    by_event (Some (Cancels who i)) e = refl
    by_event (Some (Claims who i)) e = refl
    by_event (Some (Finishes who i answer)) e = refl
    by_event (Some (Ticks who now)) e = refl
    by_event (Some (Attaches who form of function)) e = refl

-- two events with one word are one event
some_same : {A : Type 0} (a b : A) → Some a ≡ Some b → a ≡ b
some_same a b e = cc

pub one_to_one : (d e : Event) → IsEvent d → IsEvent e → word_of d ≡ word_of e → d ≡ e
one_to_one d e h k same = some_same d e (sym (event_of_own_word d h) ∙ ap event_of same ∙ event_of_own_word e k)

-- no word of an event is 0, which is no event's
pub word_of_filled : (e : Event) → 0 < word_of e
word_of_filled (Completes who i v) = omega arith
word_of_filled (Fails who i code) = omega arith
word_of_filled (FailsAs who i failure) = omega arith
word_of_filled (Cancels who i) = omega arith
word_of_filled (Claims who i) = omega arith
word_of_filled (Finishes who i answer) = omega arith
word_of_filled (Ticks who now) = omega arith
word_of_filled (Attaches who form of function) = omega arith

pub event_of_zero : event_of 0 ≡ None
unfolding event_of
event_of_zero = refl

-- events' words decode to the events, also with zeros behind them
pub decoded_words : (events : List Event) (free : ℕ) → All IsEvent events → decoded (map word_of events ++ replicate free 0) ≡ events
decoded_words [] zero h = refl
decoded_words [] (suc free) h = ap (λ o. decoded_with o (decoded (replicate free 0))) event_of_zero
decoded_words (e ∷ events) free h =
    ap (λ o. decoded_with o (decoded (map word_of events ++ replicate free 0))) (event_of_own_word e (All-head IsEvent e events h))
    ∙ ap (λ l. e ∷ l) (decoded_words events free (All-tail IsEvent e events h))
