-- No user is told twice.
use Rattle.std.proofs.Common.{◌≡◌, ◌≢◌, ℕ, zero, suc, ◌≤◌, ◌⊎◌, inl, inr, Bool, cond, leb, Option, Some, None, List, [], ◌∷◌, ◌++◌, All, Contains, map, refl, ap, sym, ◌∙◌, subst, append-nil, append_assoc, arith}
use Rattle.std.specs.Prelude.{slice_get}
use Rattle.std.specs.List.{remove}
use Rattle.std.proofs.lemmas.Bool.Decides.{leb_tells}
use Rattle.std.proofs.lemmas.Option.{slice_get_within}
use Rattle.std.proofs.lemmas.List.Elements.{All-contains, All-cons, All-nil, Contains-append_cases, Contains-append_left, Contains-append_right}
use Rattle.cf_row.proofs.Elements.{contains_none}
use Rattle.cf_part.specs.Rows.{IsApart}
use Rattle.cf_part.proofs.Lists.{apart_append, contains_head, contains_tail}
use Rattle.cf_turn.specs.declared.turn.Turn.{Turn}
use Rattle.cf_turn.specs.declared.turn.Turn.TheVariants.{Tell as TellTurn, Show as ShowTurn, Stop as StopTurn, Call as CallTurn, Ask as AskTurn}
use Rattle.cf_turn.specs.declared.wish.End.{End}
use Rattle.cf_turn.specs.declared.wish.Wish.{Wish}
use Rattle.cf_turn.specs.Rows.{IsCall as IsCallOfWork}
use Rattle.cf_turn.specs.Rows.IsCall.{asks as AsksOf, ends as EndsOf}
use Rattle.cf_turn.specs.Works.{Work}
use Rattle.cf_host.specs.declared.order.Order.{Order}
use Rattle.cf_host.specs.declared.order.Order.TheVariants.{Beats, News as LooksFor, Open, Row, Call, Stop, Show, Tell, Sleep}
use Rattle.cf_host.specs.declared.ticket.Asked.{Asked}
use Rattle.cf_host.specs.declared.ticket.Asked.TheVariants.{Act as OfAct}
use Rattle.cf_host.specs.declared.ticket.Ticket.{Ticket}
use Rattle.cf_host.specs.Hosts.{Host, Orders, OrdersTurn, WorksOn, moment_in}
use Rattle.cf_host.specs.Keeping.{TellsOnce, asked_by, told_by, told_in}
use Rattle.cf_host.specs.Laws.{ComesTo, IsCall}
use Rattle.cf_host.specs.Laws.IsCall.{turns, follows, acts, ends, wants, grows, stirs, stops, opens, hears, lands, refuses, closes, beats, news, lacks, loses, finishes}
use Rattle.cf_host.specs.Tickets.{Tickets}
use Rattle.cf_host.proofs.CalledOnce.{none_yet, same_sessions}
use Rattle.cf_host.proofs.Effects.{Anyhow, Heard}
use Rattle.cf_host.proofs.Going.{CarriesOn, CarriesWords, Does, IsElse, IsMeant, OpensAct, Still, call_kept, of_another, turned, unordered, went}
use Rattle.cf_host.proofs.Numbers.{call_goes, later_number}
use Rattle.cf_host.proofs.Steady.{KeepsAsked, Tells as TellsOne, TurnSteady, asked_same, keeps_asked, tells_end as EndIsTold, tells_wish as WishIsTold, turn_steady}
use Rattle.cf_host.proofs.Worked.{Begun, Kept, Moves, begins, goes, stays}

-- ---- lists of numbers

-- a number is taken out of a list
record Splits (number : ℕ) (whole left : List ℕ) : Type 0 where
  front : List ℕ
  back : List ℕ
  is : whole ≡ front ++ number ∷ back
  rest : left ≡ front ++ back

split_remove : {A : Type 0} → (number : A → ℕ) (xs : List A) (k : ℕ) (x : A) → slice_get xs k ≡ Some x → Splits (number x) (map number xs) (map number (remove xs k))
split_remove number [] k x is = (let low = slice_get_within [] k x is in absurd (omega (arith, low)))
split_remove number (y ∷ xs) zero x is =
    let same : y ≡ x = cc in
    record { front = []; back = map number xs; is = ap (λ (z : _). number z ∷ map number xs) same; rest = refl }
split_remove number (y ∷ xs) (suc k) x is =
    let more = split_remove number xs k x is in
    record { front = number y ∷ more.front; back = more.back; is = ap (λ (l : List ℕ). number y ∷ l) more.is; rest = ap (λ (l : List ℕ). number y ∷ l) more.rest }

split_front : (number : ℕ) (whole left more : List ℕ) → Splits number whole left → Splits number (whole ++ more) (left ++ more)
split_front number whole left more s = record {
  front = s.front;
  back = s.back ++ more;
  is = ap (λ (l : List ℕ). l ++ more) s.is ∙ append_assoc s.front (number ∷ s.back) more;
  rest = ap (λ (l : List ℕ). l ++ more) s.rest ∙ append_assoc s.front s.back more;
}

split_back : (number : ℕ) (whole left before : List ℕ) → Splits number whole left → Splits number (before ++ whole) (before ++ left)
split_back number whole left before s = record {
  front = before ++ s.front;
  back = s.back;
  is = ap (λ (l : List ℕ). before ++ l) s.is ∙ sym (append_assoc before s.front (number ∷ s.back));
  rest = ap (λ (l : List ℕ). before ++ l) s.rest ∙ sym (append_assoc before s.front s.back);
}

only_in : (x n : ℕ) (xs : List ℕ) → Contains (x ∷ xs) n → (n ≡ x) ⊎ Contains xs n
only_in x n xs h = elim (Contains-append_cases (x ∷ []) xs n h) [
  | inl own ↦ inl (alone own)
  | inr later ↦ inr later
]
  where
    alone : Contains (x ∷ []) n → n ≡ x
    alone (zero, low, is) = sym is
    alone (suc k, low, is) = absurd (omega (arith, low))

all_other : (x : ℕ) (ys : List ℕ) → (Contains ys x → ⊥) → All (λ y. x ≢ y) ys
all_other x [] h = All-nil (λ y. x ≢ y)
all_other x (y ∷ ys) h =
    All-cons (λ z. x ≢ z) y ys (λ same. h (subst (λ (z : ℕ). Contains (y ∷ ys) z) (sym same) (contains_head y ys))) (all_other x ys (λ k. h (contains_tail y x ys k)))

-- the elements
whole_has : (front : List ℕ) (number : ℕ) (back : List ℕ) (n : ℕ) → Contains (front ++ number ∷ back) n → (n ≡ number) ⊎ Contains (front ++ back) n
whole_has front number back n h = elim (Contains-append_cases front (number ∷ back) n h) [
  | inl own ↦ inr (Contains-append_left front back n own)
  | inr later ↦ elim (only_in number n back later) [
    | inl its ↦ inl its
    | inr more ↦ inr (Contains-append_right front back n more)
  ]
]

left_has : (front : List ℕ) (number : ℕ) (back : List ℕ) (n : ℕ) → Contains (front ++ back) n → Contains (front ++ number ∷ back) n
left_has front number back n h = elim (Contains-append_cases front back n h) [
  | inl own ↦ Contains-append_left front (number ∷ back) n own
  | inr later ↦ Contains-append_right front (number ∷ back) n (contains_tail number n back later)
]

number_there : (front : List ℕ) (number : ℕ) (back : List ℕ) → Contains (front ++ number ∷ back) number
number_there front number back = Contains-append_right front (number ∷ back) number (contains_head number back)

taken_apart : (front : List ℕ) (number : ℕ) (back : List ℕ) → IsApart (front ++ number ∷ back) → IsApart (front ++ back) × (Contains (front ++ back) number → ⊥)
taken_apart [] number back h = (h.1, λ c. All-contains (λ y. number ≢ y) back number h.0 c refl)
taken_apart (x ∷ front) number back h =
    let more = taken_apart front number back h.1 in
    let none : Contains (front ++ back) x → ⊥ = λ c. All-contains (λ y. x ≢ y) (front ++ number ∷ back) x h.0 (left_has front number back x c) refl in
    let differ : x ≢ number = All-contains (λ y. x ≢ y) (front ++ number ∷ back) number h.0 (number_there front number back) in (
      (all_other x (front ++ back) none, more.0),
      λ c. elim (only_in x number (front ++ back) c) [
        | inl same ↦ differ (sym same)
        | inr later ↦ more.1 later
      ],
    )

put_apart : (front : List ℕ) (number : ℕ) (back : List ℕ) → IsApart (front ++ back) → (Contains (front ++ back) number → ⊥) → IsApart (front ++ number ∷ back)
put_apart [] number back h none = (all_other number back none, h)
put_apart (x ∷ front) number back h none =
    let out : Contains (front ++ number ∷ back) x → ⊥ = λ c. elim (whole_has front number back x c) [
      | inl same ↦ none (subst (λ (n : ℕ). Contains (x ∷ front ++ back) n) same (contains_head x (front ++ back)))
      | inr later ↦ All-contains (λ y. x ≢ y) (front ++ back) x h.0 later refl
    ] in
    (all_other x (front ++ number ∷ back) out, put_apart front number back h.1 (λ c. none (contains_tail x number (front ++ back) c)))

-- ---- who asked

-- The numbers of a request's users are all different, each was given for the request, and none of these users was told.
record Pending (owner : ℕ → ℕ) (last : ℕ) (told : List ℕ) (n : ℕ) (w : Work) : Type 0 where
  apart : IsApart (asked_by w)
  low : (k : ℕ) → Contains (asked_by w) k → k ≤ last
  own : (k : ℕ) → Contains (asked_by w) k → owner k ≡ n
  untold : (k : ℕ) → Contains (asked_by w) k → Contains told k → ⊥

abbrev Holds : (ℕ → ℕ) → ℕ → List ℕ → ℕ → Option Work → Type 0
Holds owner last told n None = Unit {0}
Holds owner last told n (Some w) = Pending owner last told n w

-- the request of the act that the last ticket is of
abbrev request_of : Asked → ℕ
request_of (OfAct request) = request
request_of of = 0

abbrev acting : List Ticket → ℕ
acting [] = 0
acting (t ∷ []) = request_of t.of
acting (t ∷ u ∷ ts) = acting (u ∷ ts)

acting_last : (ts : List Ticket) (t : Ticket) → acting (ts ++ t ∷ []) ≡ request_of t.of
acting_last [] t = refl
acting_last (x ∷ []) t = refl
acting_last (x ∷ y ∷ ts) t = acting_last (y ∷ ts) t

-- new numbers are given for that request
abbrev given : (ℕ → ℕ) → Tickets → Tickets → ℕ → ℕ
given owner old new k = cond (leb k old.last) (owner k) (acting new.waiting)

given_before : (owner : ℕ → ℕ) (old new : Tickets) (k : ℕ) → k ≤ old.last → given owner old new k ≡ owner k
given_before owner old new k low = elim (leb_tells k old.last) [
  | inl p ↦ ap (λ (b : Bool). cond b (owner k) (acting new.waiting)) p.0
  | inr p ↦ (let high = p.1 in absurd (omega (arith, low, high)))
]

given_now : (owner : ℕ → ℕ) (n number : ℕ) (old new : Tickets) → OpensAct n number old new → given owner old new number ≡ n
given_now owner n number old new o = elim (leb_tells number old.last) [
  | inl p ↦ (let low = p.1 in let named = o.named in let next = o.opens.number in absurd (omega (arith, low, named, next)))
  | inr p ↦
      ap (λ (b : Bool). cond b (owner number) (acting new.waiting)) p.0 ∙ ap acting o.opens.waiting ∙ acting_last old.waiting o.ticket ∙ ap request_of o.of
]

-- ---- one work

-- how its numbers change
record Later (owner : ℕ → ℕ) (old new : Tickets) (told told' : List ℕ) (n : ℕ) : Type 0 where
  more : old.last ≤ new.last
  untold : (k : ℕ) → owner k ≡ n → (Contains told k → ⊥) → Contains told' k → ⊥

pending_same : (owner : ℕ → ℕ) (old new : Tickets) (told told' : List ℕ) (n : ℕ) (w v : Work) → Later owner old new told told' n → asked_by v ≡ asked_by w → Pending owner old.last told n w →
    Pending (given owner old new) new.last told' n v
pending_same owner old new told told' n w v l same p =
    let its : (k : ℕ) → Contains (asked_by v) k → Contains (asked_by w) k = λ k c. subst (λ (xs : List ℕ). Contains xs k) same c in
    record {
      apart = subst IsApart (sym same) p.apart;
      low = λ k c. let low = p.low k (its k c) in let more = l.more in omega (arith, low, more);
      own = λ k c. given_before owner old new k (p.low k (its k c)) ∙ p.own k (its k c);
      untold = λ k c. l.untold k (p.own k (its k c)) (p.untold k (its k c));
    }

pending_left : (owner : ℕ → ℕ) (old new : Tickets) (told : List ℕ) (n number : ℕ) (w v : Work) → old.last ≤ new.last → Splits number (asked_by w) (asked_by v) → Pending owner old.last told n w →
    Pending (given owner old new) new.last (number ∷ told) n v
pending_left owner old new told n number w v more s p =
    let two = taken_apart s.front number s.back (subst IsApart s.is p.apart) in
    let left : (k : ℕ) → Contains (asked_by v) k → Contains (s.front ++ s.back) k = λ k c. subst (λ (xs : List ℕ). Contains xs k) s.rest c in
    let its : (k : ℕ) → Contains (asked_by v) k → Contains (asked_by w) k = λ k c. subst (λ (xs : List ℕ). Contains xs k) (sym s.is) (left_has s.front number s.back k (left k c)) in
    record {
      apart = subst IsApart (sym s.rest) two.0;
      low = λ k c. let low = p.low k (its k c) in omega (arith, low, more);
      own = λ k c. given_before owner old new k (p.low k (its k c)) ∙ p.own k (its k c);
      untold = λ k c t. elim (only_in number k told t) [
        | inl same ↦ two.1 (subst (λ (j : ℕ). Contains (s.front ++ s.back) j) same (left k c))
        | inr before ↦ p.untold k (its k c) before
      ];
    }

pending_more : (owner : ℕ → ℕ) (old new : Tickets) (told told' : List ℕ) (n number : ℕ) (w v : Work) → Later owner old new told told' n → ((k : ℕ) → Contains told' k → k ≤ old.last) → OpensAct n number old new →
    Splits number (asked_by v) (asked_by w) → Pending owner old.last told n w → Pending (given owner old new) new.last told' n v
pending_more owner old new told told' n number w v l low o s p =
    let next = o.opens.number in
    let named = o.named in
    let last = o.opens.last in
    let back : (k : ℕ) → Contains (s.front ++ s.back) k → Contains (asked_by w) k = λ k c. subst (λ (xs : List ℕ). Contains xs k) (sym s.rest) c in
    let its : (k : ℕ) → Contains (asked_by v) k → (k ≡ number) ⊎ Contains (asked_by w) k =
    (λ k c. elim (whole_has s.front number s.back k (subst (λ (xs : List ℕ). Contains xs k) s.is c)) [
      | inl same ↦ inl same
      | inr before ↦ inr (back k before)
    ]) in
    let fresh : Contains (s.front ++ s.back) number → ⊥ = λ c. let under = p.low number (back number c) in omega (arith, under, next, named) in
    record {
      apart = subst IsApart (sym s.is) (put_apart s.front number s.back (subst IsApart s.rest p.apart) fresh);
      low = λ k c. elim (its k c) [
        | inl same ↦ omega (arith, same, named, last)
        | inr before ↦ (let under = p.low k before in let more = l.more in omega (arith, under, more))
      ];
      own = λ k c. elim (its k c) [
        | inl same ↦ ap (given owner old new) same ∙ given_now owner n number old new o
        | inr before ↦ given_before owner old new k (p.low k before) ∙ p.own k before
      ];
      untold = λ k c t. elim (its k c) [
        | inl same ↦ (let under = low k t in omega (arith, under, same, named, next))
        | inr before ↦ l.untold k (p.own k before) (p.untold k before) t
      ];
    }

split_tells : (number : ℕ) (w v : Work) → TellsOne number w v → Splits number (asked_by w) (asked_by v)
split_tells number w v (WishIsTold place x is named left same) =
    let wishes = split_remove (λ (y : Wish). y.number) w.wishes place x is in
    let ends = map (λ (y : End). y.number) w.ends in
    let s = split_front x.number (map (λ (y : Wish). y.number) w.wishes) (map (λ (y : Wish). y.number) (remove w.wishes place)) ends wishes in
    subst (λ (j : ℕ). Splits j (asked_by w) (asked_by v)) named
    (subst (λ (l : List ℕ). Splits x.number (asked_by w) l) (sym (ap (λ (l : List Wish). map (λ (y : Wish). y.number) l ++ map (λ (y : End). y.number) v.ends) left ∙
    ap (λ (l : List End). map (λ (y : Wish). y.number) (remove w.wishes place) ++ map (λ (y : End). y.number) l) same)) s)
split_tells number w v (EndIsTold place x is named left same) =
    let ends = split_remove (λ (y : End). y.number) w.ends place x is in
    let wishes = map (λ (y : Wish). y.number) w.wishes in
    let s = split_back x.number (map (λ (y : End). y.number) w.ends) (map (λ (y : End). y.number) (remove w.ends place)) wishes ends in
    subst (λ (j : ℕ). Splits j (asked_by w) (asked_by v)) named
    (subst (λ (l : List ℕ). Splits x.number (asked_by w) l) (sym (ap (λ (l : List Wish). map (λ (y : Wish). y.number) l ++ map (λ (y : End). y.number) v.ends) same ∙
    ap (λ (l : List End). wishes ++ map (λ (y : End). y.number) l) left)) s)

split_wish : (number : ℕ) (w v : Work) → map (λ (y : Wish). y.number) v.wishes ≡ map (λ (y : Wish). y.number) w.wishes ++ number ∷ [] → v.ends ≡ w.ends → Splits number (asked_by v) (asked_by w)
split_wish number w v wishes same =
    let a = map (λ (y : Wish). y.number) w.wishes in
    let b = map (λ (y : End). y.number) w.ends in
    record {
      front = a;
      back = b;
      is = ap (λ (l : List ℕ). l ++ map (λ (y : End). y.number) v.ends) wishes ∙ ap (λ (l : List End). (a ++ number ∷ []) ++ map (λ (y : End). y.number) l) same ∙ append_assoc a (number ∷ []) b;
      rest = refl;
    }

split_end : (number : ℕ) (w v : Work) → map (λ (y : End). y.number) v.ends ≡ map (λ (y : End). y.number) w.ends ++ number ∷ [] → v.wishes ≡ w.wishes → Splits number (asked_by v) (asked_by w)
split_end number w v ends_ same =
    let a = map (λ (y : Wish). y.number) w.wishes in
    let b = map (λ (y : End). y.number) w.ends in
    record {
      front = a ++ b;
      back = [];
      is = ap (λ (l : List Wish). map (λ (y : Wish). y.number) l ++ map (λ (y : End). y.number) v.ends) same ∙ ap (λ (l : List ℕ). a ++ l) ends_ ∙ sym (append_assoc a b (number ∷ []));
      rest = sym (append-nil (a ++ b));
    }

-- ---- one call

none_told : (out : Option Order) → IsElse out → told_in out ≡ []
none_told None quiet = refl
none_told (Some (Beats number)) quiet = refl
none_told (Some (LooksFor number look)) quiet = refl
none_told (Some (Open number request)) quiet = refl
none_told (Some (Sleep until)) quiet = refl
none_told (Some (Row number request q)) quiet = absurd quiet
none_told (Some (Call number request i function args)) quiet = absurd quiet
none_told (Some (Stop number)) quiet = absurd quiet
none_told (Some (Show request i shown)) quiet = absurd quiet
none_told (Some (Tell number told)) quiet = absurd quiet

-- of whom a turn's order tells
abbrev told_turn : Turn → List ℕ
told_turn (TellTurn number told) = number ∷ []
told_turn t = []

turn_told : (now request : ℕ) (t : Turn) (order : Order) (out : Option Order) (old new : Tickets) → out ≡ Some order → OrdersTurn now request t order old new → told_in out ≡ told_turn t
turn_told now request (TellTurn number told) order out old new is (same, rest) = ap told_in (is ∙ ap (λ (o : Order). Some o) same)
turn_told now request (ShowTurn i shown) order out old new is (same, rest) = ap told_in (is ∙ ap (λ (o : Order). Some o) same)
turn_told now request (StopTurn i) order out old new is (same, rest) = ap told_in (is ∙ ap (λ (o : Order). Some o) same)
turn_told now request (CallTurn i function args) order out old new is (number, same, rest) = ap told_in (is ∙ ap (λ (o : Order). Some o) same)
turn_told now request (AskTurn q) order out old new is (number, same, rest) = ap told_in (is ∙ ap (λ (o : Order). Some o) same)

-- a turn tells a user of its own request
turn_tells : (owner : ℕ → ℕ) (last : ℕ) (told : List ℕ) (n : ℕ) (t : Turn) (w v : Work) → Pending owner last told n w → TurnSteady t w v → (k : ℕ) → Contains (told_turn t) k → Contains (asked_by w) k
turn_tells owner last told n (TellTurn number told') w v p same k c =
    let s = split_tells number w v same.tells in
    let is : k ≡ number = elim (only_in number k [] c) [
      | inl its ↦ its
      | inr never ↦ absurd (contains_none k never)
    ] in
    subst (λ (l : List ℕ). Contains l k) (sym s.is) (subst (λ (j : ℕ). Contains (s.front ++ number ∷ s.back) j) (sym is) (number_there s.front number s.back))
turn_tells owner last told n (ShowTurn i shown) w v p same k c = absurd (contains_none k c)
turn_tells owner last told n (StopTurn i) w v p same k c = absurd (contains_none k c)
turn_tells owner last told n (CallTurn i function args) w v p same k c = absurd (contains_none k c)
turn_tells owner last told n (AskTurn q) w v p same k c = absurd (contains_none k c)

still_untold : (owner : ℕ → ℕ) (old : Host) (out : Option Order) (new : Host) (told : List ℕ) (n : ℕ) → Still (Holds owner old.tickets.last told) old out new n →
    (k : ℕ) → owner k ≡ n → (Contains told k → ⊥) → Contains (told_in out ++ told) k → ⊥
still_untold owner old out new told n (unordered quiet) k own none c = none (subst (λ (l : List ℕ). Contains (l ++ told) k) (none_told out quiet) c)
still_untold owner old out new told n (of_another request t order at w v differ its is orders turn) k own none c =
    elim (Contains-append_cases (told_in out) told k c) [
      | inl now ↦
          let there = turn_tells owner old.tickets.last told request t w v its (turn_steady w v at t turn) k (subst (λ (l : List ℕ). Contains l k) (turn_told at.now request t order out old.tickets new.tickets is orders) now) in
          differ (sym (its.own k there) ∙ own)
      | inr before ↦ none before
    ]

-- what is told by a call, and what was
record ToldSoFar (old : Host) (out : Option Order) (new : Host) (told : List ℕ) : Type 0 where
  more : old.tickets.last ≤ new.tickets.last
  low : (k : ℕ) → Contains (told_in out ++ told) k → k ≤ old.tickets.last

its_turn : (owner : ℕ → ℕ) (old : Host) (out : Option Order) (new : Host) (told : List ℕ) (n : ℕ) (t : Turn) (w v : Work) → ToldSoFar old out new told → told_in out ≡ told_turn t → TurnSteady t w v →
    Pending owner old.tickets.last told n w → Pending (given owner old.tickets new.tickets) new.tickets.last (told_in out ++ told) n v
its_turn owner old out new told n (TellTurn number told') w v d is same p =
    subst (λ (l : List ℕ). Pending (given owner old.tickets new.tickets) new.tickets.last (l ++ told) n v) (sym is)
    (pending_left owner old.tickets new.tickets told n number w v d.more (split_tells number w v same.tells) p)
its_turn owner old out new told n (ShowTurn i shown) w v d is same p =
    pending_same owner old.tickets new.tickets told (told_in out ++ told) n w v
    (record { more = d.more; untold = λ k own none c. none (subst (λ (l : List ℕ). Contains (l ++ told) k) is c) }) (asked_same w v same.3) p
its_turn owner old out new told n (StopTurn i) w v d is same p =
    pending_same owner old.tickets new.tickets told (told_in out ++ told) n w v
    (record { more = d.more; untold = λ k own none c. none (subst (λ (l : List ℕ). Contains (l ++ told) k) is c) }) (asked_same w v same.asks) p
its_turn owner old out new told n (CallTurn i function args) w v d is same p =
    pending_same owner old.tickets new.tickets told (told_in out ++ told) n w v
    (record { more = d.more; untold = λ k own none c. none (subst (λ (l : List ℕ). Contains (l ++ told) k) is c) }) (asked_same w v same.asks) p
its_turn owner old out new told n (AskTurn q) w v d is same p =
    pending_same owner old.tickets new.tickets told (told_in out ++ told) n w v
    (record { more = d.more; untold = λ k own none c. none (subst (λ (l : List ℕ). Contains (l ++ told) k) is c) }) (asked_same w v same.asks) p

its_call : (owner : ℕ → ℕ) (old : Host) (out : Option Order) (new : Host) (told : List ℕ) (n : ℕ) (w v : Work) → ToldSoFar old out new told → Still (Holds owner old.tickets.last told) old out new n → (call : IsCallOfWork w None v) →
    IsMeant old out new n w v None call → KeepsAsked w v None call → Pending owner old.tickets.last told n w → Pending (given owner old.tickets new.tickets) new.tickets.last (told_in out ++ told) n v
its_call owner old out new told n w v d still (AsksOf number act until is rest) meant same p =
    pending_more owner old.tickets new.tickets told (told_in out ++ told) n number w v (record { more = d.more; untold = still_untold owner old out new told n still }) d.low meant (split_wish number w v same.0 same.1) p
its_call owner old out new told n w v d still (EndsOf end is rest) meant same p =
    pending_more owner old.tickets new.tickets told (told_in out ++ told) n end.number w v (record { more = d.more; untold = still_untold owner old out new told n still }) d.low meant (split_end end.number w v same.0 same.1) p
its_call owner old out new told n w v d still call meant same p =
    pending_same owner old.tickets new.tickets told (told_in out ++ told) n w v (record { more = d.more; untold = still_untold owner old out new told n still }) (asked_same w v same) p

its_does : (owner : ℕ → ℕ) (old : Host) (out : Option Order) (new : Host) (told : List ℕ) (n : ℕ) (w v : Work) → ToldSoFar old out new told → Pending owner old.tickets.last told n w →
    Does (Holds owner old.tickets.last told) old out new n w v → Pending (given owner old.tickets new.tickets) new.tickets.last (told_in out ++ told) n v
its_does owner old out new told n w v d p (turned t order at is orders turn) =
    its_turn owner old out new told n t w v d (turn_told at.now n t order out old.tickets new.tickets is orders) (turn_steady w v at t turn) p
its_does owner old out new told n w v d p (went still call meant) = its_call owner old out new told n w v d still call meant (keeps_asked w v call) p

-- nobody asks yet
fresh_pending : (owner : ℕ → ℕ) (last : ℕ) (told : List ℕ) (n session : ℕ) (w : Work) → Begun session w → Pending owner last told n w
fresh_pending owner last told n session w b =
    let none : asked_by w ≡ [] = ap asked_by b.is in
    let never : (k : ℕ) → Contains (asked_by w) k → ⊥ = λ k c. contains_none k (subst (λ (l : List ℕ). Contains l k) none c) in
    record { apart = subst IsApart (sym none) tt; low = λ k c. absurd (never k c); own = λ k c. absurd (never k c); untold = λ k c t. never k c }

moves_on : (session : ℕ) (owner : ℕ → ℕ) (old : Host) (out : Option Order) (new : Host) (told : List ℕ) → ToldSoFar old out new told → (n : ℕ) (before after : Option Work) → Holds owner old.tickets.last told n before →
    Moves session (Still (Holds owner old.tickets.last told) old out new n) (Does (Holds owner old.tickets.last told) old out new n) before after →
    Holds (given owner old.tickets new.tickets) new.tickets.last (told_in out ++ told) n after
moves_on session owner old out new told d n None after p (stays same still) = subst (Holds (given owner old.tickets new.tickets) new.tickets.last (told_in out ++ told) n) (sym same) tt
moves_on session owner old out new told d n (Some w) after p (stays same still) =
    subst (Holds (given owner old.tickets new.tickets) new.tickets.last (told_in out ++ told) n) (sym same)
    (pending_same owner old.tickets new.tickets told (told_in out ++ told) n w w (record { more = d.more; untold = still_untold owner old out new told n still }) refl p)
moves_on session owner old out new told d n before after p (begins w was is begun still) =
    subst (Holds (given owner old.tickets new.tickets) new.tickets.last (told_in out ++ told) n) (sym is) (fresh_pending (given owner old.tickets new.tickets) new.tickets.last (told_in out ++ told) n session w begun)
moves_on session owner old out new told d n before after p (goes w v was is does) =
    subst (Holds (given owner old.tickets new.tickets) new.tickets.last (told_in out ++ told) n) (sym is)
    (its_does owner old out new told n w v d (subst (Holds owner old.tickets.last told n) was p) does)

moves_words : (session : ℕ) (owner : ℕ → ℕ) (last : ℕ) (told : List ℕ) (n : ℕ) (before after : Option Work) → Holds owner last told n before → Moves session (Anyhow n) (Heard n) before after → Holds owner last told n after
moves_words session owner last told n before after p (stays same still) = subst (Holds owner last told n) (sym same) p
moves_words session owner last told n before after p (begins w was is begun still) = subst (Holds owner last told n) (sym is) (fresh_pending owner last told n session w begun)
moves_words session owner last told n before after p (goes w v was is heard) =
    let q = subst (Holds owner last told n) was p in
    let same : asked_by v ≡ asked_by w = ap asked_by heard.is in
    let its : (k : ℕ) → Contains (asked_by v) k → Contains (asked_by w) k = λ k c. subst (λ (xs : List ℕ). Contains xs k) same c in
    let r : Pending owner last told n v =
    record { apart = subst IsApart (sym same) q.apart; low = λ k c. q.low k (its k c); own = λ k c. q.own k (its k c); untold = λ k c. q.untold k (its k c) } in
    subst (Holds owner last told n) (sym is) r

-- ---- a row of calls

record State (h : Host) (told : List ℕ) : Type 0 where
  owner : ℕ → ℕ
  kept : Kept (Holds owner h.tickets.last told) Anyhow h.requests
  apart : IsApart told
  low : (k : ℕ) → Contains told k → k ≤ h.tickets.last

-- of whom a call tells asked for something, and wasn't told
record Fresh (h : Host) (told : List ℕ) (k : ℕ) : Type 0 where
  low : k ≤ h.tickets.last
  untold : Contains told k → ⊥

work_tells : (old : Host) (now : ℕ) (order : Order) (new : Host) (told : List ℕ) (s : State old told) → WorksOn old now order new → (k : ℕ) → Contains (told_in (Some order)) k → Fresh old told k
work_tells old now order new told s w k c =
    let f = w.turns in
    let o = f.turns in
    let at = moment_in old now w.may_claim in
    let p : Pending s.owner old.tickets.last told f.before.number o.before = subst (Holds s.owner old.tickets.last told f.before.number) o.is (s.kept.each f.place f.before f.there) in
    let there = turn_tells s.owner old.tickets.last told f.before.number w.turn o.before o.after p (turn_steady o.before o.after at w.turn o.calls) k
    (subst (λ (l : List ℕ). Contains l k) (turn_told now w.request w.turn order (Some order) old.tickets new.tickets refl w.orders) c) in
    record { low = p.low k there; untold = p.untold k there }

order_tells : (old : Host) (now : ℕ) (order : Order) (new : Host) (told : List ℕ) (s : State old told) → Orders old now order new → (k : ℕ) → Contains (told_in (Some order)) k → Fresh old told k
order_tells old now (Tell number told') new told s o k c = work_tells old now (Tell number told') new told s o k c
order_tells old now (Beats number) new told s o k c = absurd (contains_none k c)
order_tells old now (LooksFor number look) new told s o k c = absurd (contains_none k c)
order_tells old now (Open number request) new told s o k c = absurd (contains_none k c)
order_tells old now (Sleep until) new told s o k c = absurd (contains_none k c)
order_tells old now (Row number request q) new told s o k c = absurd (contains_none k c)
order_tells old now (Call number request i function args) new told s o k c = absurd (contains_none k c)
order_tells old now (Stop number) new told s o k c = absurd (contains_none k c)
order_tells old now (Show request i shown) new told s o k c = absurd (contains_none k c)

none_tells : (old : Host) (out : Option Order) (told : List ℕ) → out ≡ None → (k : ℕ) → Contains (told_in out) k → Fresh old told k
none_tells old out told is k c = absurd (contains_none k (subst (λ (o : Option Order). Contains (told_in o) k) is c))

call_tells : (old : Host) (out : Option Order) (new : Host) (told : List ℕ) (s : State old told) → IsCall old out new → (k : ℕ) → Contains (told_in out) k → Fresh old told k
call_tells old out new told s (turns now order is o) k c = order_tells old now order new told s o k (subst (λ (x : Option Order). Contains (told_in x) k) is c)
call_tells old out new told s (follows request is f) k c = none_tells old out told is k c
call_tells old out new told s (acts now request number until act is a) k c = none_tells old out told is k c
call_tells old out new told s (ends now request number until is a) k c = none_tells old out told is k c
call_tells old out new told s (wants request stage is_wanted is a) k c = none_tells old out told is k c
call_tells old out new told s (grows request more is a) k c = none_tells old out told is k c
call_tells old out new told s (stirs due is e) k c = none_tells old out told is k c
call_tells old out new told s (stops is e) k c = none_tells old out told is k c
call_tells old out new told s (opens plan notes room number is_flow is a) k c = none_tells old out told is k c
call_tells old out new told s (hears now number entries notes is a) k c = none_tells old out told is k c
call_tells old out new told s (lands number is a) k c = none_tells old out told is k c
call_tells old out new told s (refuses now number is a) k c = none_tells old out told is k c
call_tells old out new told s (closes number is_closed is a) k c = none_tells old out told is k c
call_tells old out new told s (beats now number clock beats' is b) k c = none_tells old out told is k c
call_tells old out new told s (news now number mark lengths is b) k c = none_tells old out told is k c
call_tells old out new told s (lacks now number is b) k c = none_tells old out told is k c
call_tells old out new told s (loses number is b) k c = none_tells old out told is k c
call_tells old out new told s (finishes number answer is b) k c = none_tells old out told is k c

one_apart : (out : Option Order) → IsApart (told_in out)
one_apart None = tt
one_apart (Some (Tell number told)) = (All-nil (λ y. number ≢ y), tt)
one_apart (Some (Beats number)) = tt
one_apart (Some (LooksFor number look)) = tt
one_apart (Some (Open number request)) = tt
one_apart (Some (Sleep until)) = tt
one_apart (Some (Row number request q)) = tt
one_apart (Some (Call number request i function args)) = tt
one_apart (Some (Stop number)) = tt
one_apart (Some (Show request i shown)) = tt

step : (session : ℕ) (old : Host) (out : Option Order) (new : Host) (told : List ℕ) → old.session ≡ session → State old told → IsCall old out new → State new (told_in out ++ told)
step session old out new told own s call =
    let more = later_number old.tickets new.tickets (call_goes old out new call) in
    let low : (k : ℕ) → Contains (told_in out ++ told) k → k ≤ old.tickets.last = (λ k c. elim (Contains-append_cases (told_in out) told k c) [
      | inl now ↦ (call_tells old out new told s call k now).low
      | inr before ↦ s.low k before
    ]) in
    let d : ToldSoFar old out new told = record { more = more; low = low } in
    let on : CarriesOn session old out new (Holds s.owner old.tickets.last told) Anyhow (Holds (given s.owner old.tickets new.tickets) new.tickets.last (told_in out ++ told)) Anyhow =
    record { moves = λ n a b p m. moves_on session s.owner old out new told d n a b p m; begun = λ n a still. tt; missing = λ n a still. tt } in
    let words : CarriesWords session (Holds s.owner old.tickets.last told) Anyhow =
    record { moves = λ n a b p m. moves_words session s.owner old.tickets.last told n a b p m; begun = λ n a still. tt; missing = λ n a still. tt } in
    record {
      owner = given s.owner old.tickets new.tickets;
      kept = call_kept old out new own on words s.kept call;
      apart = apart_append (told_in out) told (one_apart out) s.apart (λ k now before. (call_tells old out new told s call k now).untold before);
      low = λ k c. let under = low k c in omega (arith, under, more);
    }

state : (session : ℕ) (outs : List (Option Order)) (h : Host) → ComesTo session outs h → State h (told_by outs)
state session [] h (threads, lease, takes_all, is) =
    subst (λ (x : Host). State x []) (sym is) (record { owner = λ k. 0; kept = none_yet (λ n. tt); apart = tt; low = λ k c. absurd (contains_none k c) })
state session (out ∷ outs) h (before, comes, call) = step session before out h (told_by outs) (same_sessions session outs before comes) (state session outs before comes) call

pub tells_once : TellsOnce
tells_once session outs h comes = (state session outs h comes).apart
