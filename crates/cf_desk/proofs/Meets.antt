-- Seats that are joined, levelled and split keep the rule.
use Rattle.std.proofs.Common.{◌≡◌, ℕ, zero, suc, ◌+◌, ◌<◌, ◌≤◌, ◌≢◌, Bool, true, false, cond, eqb, ne_eqb, leb, leb-true, leb-false, Some, List, [], ◌∷◌, ◌++◌, map, length, replicate, get_or, set, slice_get, slice_index, sym, refl, ap, ◌∙◌, subst, ⊎_elim, arith}
use Rattle.std.proofs.lemmas.List.{set-get_or}
use Rattle.std.proofs.lemmas.List.Elements.{All-nil, filter-append}
use Rattle.std.proofs.lemmas.Option.{none-some}
use mathlib.Core.Option.{some, none}
use lib.ListN.{get_elem?}
use Rattle.atomic_table.specs.Table.{Me, step, keeps, Allows, Splits, Joins, Enters}
use Rattle.atomic_table.proofs.Lists.{at_set, at_snoc, set_again}
use Rattle.cf_model.specs.declared.events.Event.{Event}
use Rattle.cf_desk.proofs.Lists.{none_of_both, one_of}
use Rattle.cf_desk.specs.declared.row.DeskConfig.{DeskConfig}
use Rattle.cf_desk.specs.declared.row.LogConfig.{LogConfig}
use Rattle.cf_desk.specs.declared.row.CallerView.{CallerView}
use Rattle.cf_model.specs.Calls.{who_of}
use Rattle.cf_event.specs.Words.{word_of}
use Rattle.cf_event.specs.Decoding.{event_of}
use Rattle.cf_event.proofs.WordLemmas.{event_of_own_word}
use Rattle.cf_model.specs.States.{State, start}
use Rattle.cf_model.specs.Events.{answered}
use Rattle.cf_event.specs.Events.{AreEventsOf, own}
use Rattle.cf_desk.specs.Log.{AreLogged}
use Rattle.cf_event.proofs.Events.{event_at, events_front}
use Rattle.cf_desk.specs.Rule.{Stands, AllStand, IsLookOf, weight, count_in, count_all, RowKept, holds, longer_if, longest, with_seen, level, AllCatch, AllLogged, AllShort, levels, finds, FindsSeen, head_of, rest_of, noted, note_of}
use Rattle.cf_desk.proofs.Keeps.{count_set, keeps_view, looks_stay, same_some}

count_snoc : (c : ℕ) (views : List (List CallerView)) (v : List CallerView) → count_all c (views ++ v ∷ []) ≡ count_all c views + count_in c v
count_snoc c [] v = omega arith
count_snoc c (x ∷ xs) v = let r = count_snoc c xs v in omega arith

count_append : (c : ℕ) (v w : List CallerView) → count_in c (v ++ w) ≡ count_in c v + count_in c w
count_append c [] w = omega arith
count_append c (k ∷ ks) w = let r = count_append c ks w in omega arith

pub stand_append : (setting : DeskConfig) (log : List Event) (v w : List CallerView) → AllStand setting log v → AllStand setting log w → AllStand setting log (v ++ w)
stand_append setting log [] w h g = g
stand_append setting log (k ∷ ks) w h g = (h.0, stand_append setting log ks w h.1 g)

splits : {S : Type 0} (t : LogConfig) (id : ℕ) (v left right : List CallerView) → ((log : List Event) → AllStand t.setting log v → AllStand t.setting log left × AllStand t.setting log right)
    → ((c : ℕ) → count_in c left + count_in c right ≡ count_in c v) → Splits (holds {S = S} t) id v left right
splits t id v left right stand counts s h at =
    let both = stand h.log (h.known id v at) in record {
      log = h.log;
      row = h.row;
      known = λ j u e. ⊎_elim
          (λ was. ⊎_elim (λ (p : (j ≡ id) × (left ≡ u)). subst (AllStand t.setting h.log) p.1 both.0) (λ (p : (j ≢ id) × (get_elem? s.views j ≡ some u)). h.known j u p.1) (at_set s.views id j left u was))
          (λ (same : right ≡ u). subst (AllStand t.setting h.log) same both.1)
          (at_snoc (set s.views id left) right u j e);
      apart = λ c below. let a = h.apart c below in let n = counts c in let s1 = count_set c s.views id v left at in let s2 = count_snoc c (set s.views id left) right in omega arith;
    }

head_stands : (setting : DeskConfig) (log : List Event) (v : List CallerView) → AllStand setting log v → AllStand setting log (head_of v) × AllStand setting log (rest_of v)
head_stands setting log [] h = (tt, tt)
head_stands setting log (k ∷ ks) h = ((h.0, tt), h.1)

count_head : (c : ℕ) (v : List CallerView) → count_in c (head_of v) + count_in c (rest_of v) ≡ count_in c v
count_head c [] = refl
count_head c (k ∷ ks) = omega arith

pub gives_first : {S : Type 0} (t : LogConfig) (id : ℕ) (v : List CallerView) → Splits (holds {S = S} t) id v (rest_of v) (head_of v)
gives_first t id v = splits t id v (rest_of v) (head_of v) (λ log h. let p = head_stands t.setting log v h in (p.1, p.0)) (λ c. let n = count_head c v in omega arith)

pub keeps_first : {S : Type 0} (t : LogConfig) (id : ℕ) (v : List CallerView) → Splits (holds {S = S} t) id v (head_of v) (rest_of v)
keeps_first t id v = splits t id v (head_of v) (rest_of v) (λ log h. head_stands t.setting log v h) (λ c. count_head c v)

pub joins : {S : Type 0} (t : LogConfig) (id : ℕ) (v : List CallerView) (other : ℕ) (w : List CallerView) → Joins (holds {S = S} t) id v other w (v ++ w) []
joins t id v other w s h at apart there =
    let theirs = ⊎_elim (λ (p : (other ≡ id) × (v ++ w ≡ w)). absurd (apart p.0)) (λ (p : (other ≢ id) × (get_elem? s.views other ≡ some w)). p.1) (at_set s.views id other (v ++ w) w there) in
    let both = stand_append t.setting h.log v w (h.known id v at) (h.known other w theirs) in record {
      log = h.log;
      row = h.row;
      known = λ j u e. ⊎_elim
          (λ (p : (j ≡ other) × ([] ≡ u)). subst (AllStand t.setting h.log) p.1 tt)
          (λ (p : (j ≢ other) × (get_elem? (set s.views id (v ++ w)) j ≡ some u)). ⊎_elim
          (λ (q : (j ≡ id) × (v ++ w ≡ u)). subst (AllStand t.setting h.log) q.1 both)
          (λ (q : (j ≢ id) × (get_elem? s.views j ≡ some u)). h.known j u q.1)
          (at_set s.views id j (v ++ w) u p.1))
          (at_set (set s.views id (v ++ w)) other j [] u e);
      apart = λ c below. let a = h.apart c below in let s1 = count_set c s.views id v (v ++ w) at in let s2 = count_set c (set s.views id (v ++ w)) other w [] there in let n = count_append c v w in omega arith;
    }

-- a view that stands for no caller
one_more : (t : LogConfig) (words : List ℕ) (views : List (List CallerView)) (h : RowKept t words views) (w : List CallerView) → AllStand t.setting h.log w → ((c : ℕ) → c < t.setting.callers → count_in c w ≡ 0) → RowKept t words (views ++ w ∷ [])
one_more t words views h w stand nobodys_view = record {
  log = h.log;
  row = h.row;
  known = λ j u e. ⊎_elim (h.known j u) (λ (same : w ≡ u). subst (AllStand t.setting h.log) same stand) (at_snoc views w u j e);
  apart = λ c below. let a = h.apart c below in let z = nobodys_view c below in let n = count_snoc c views w in omega arith;
}

pub sits_down : {S : Type 0} (t : LogConfig) (slots word : ℕ) → Enters (holds {S = S} t) slots word (λ n w. ◌≡◌ {A = Me S (List CallerView)} (w, []) ([], []))
sits_down t slots word s h len lt = ([], one_more t s.words s.views h [] tt (λ c below. refl), refl)

-- no event of a log is one of somebody who is no caller of the desk
nobodys : (callers functions c : ℕ) (s : State) (xs : List Event) → callers ≤ c → AreEventsOf callers functions s xs → own c xs ≡ []
nobodys callers functions c s [] le h = refl
nobodys callers functions c s (x ∷ xs) le h =
    let below : who_of x < callers = h.0.caller in
    let other : who_of x ≢ c = omega arith in
    ap (λ b. cond b (x ∷ own c xs) (own c xs)) (ne_eqb (who_of x) c other) ∙ nobodys callers functions c ((answered s x).1) xs le h.1

noted_stands : (setting : DeskConfig) (log : List Event) (k : CallerView) → AreLogged setting log → Stands setting log k → Stands setting log (noted k)
noted_stands setting log k events st =
    let n : ℕ = setting.callers in
    let none = nobodys n setting.functions n (start setting.plan) log (omega arith) events in
    let parts = none_of_both (own n k.seen) (own n st.rest) (sym (filter-append (λ x. eqb (who_of x) n) k.seen st.rest) ∙ ap (own n) (sym st.split) ∙ none) in record {
      terms = st.terms;
      caller = (let same = ap (λ (x : DeskConfig). x.callers) st.terms in omega arith);
      rest = st.rest;
      split = st.split;
      none = ap (λ (x : DeskConfig). own x.callers st.rest) st.terms ∙ parts.1;
      looks = record { filled = (omega arith); since = []; are = refl; looks = All-nil (IsLookOf 0 k.seen) };
    }

notes : {S : Type 0} (t : LogConfig) (id : ℕ) (k : CallerView) → Splits (holds {S = S} t) id (k ∷ []) (k ∷ []) (noted k ∷ [])
notes t id k s h at =
    let v = h.known id (k ∷ []) at in
    subst (λ (views : List (List CallerView)). RowKept t s.words (views ++ (noted k ∷ []) ∷ [])) (sym (set_again s.views id (k ∷ []) at))
    (one_more t s.words s.views h (noted k ∷ []) (noted_stands t.setting h.log k h.row.events v.0, tt)
    (λ c below.
    let same = ap (λ (x : DeskConfig). x.callers) v.0.terms in
    let other : k.setting.callers ≢ c = omega arith in
    let w : weight (eqb k.setting.callers c) ≡ 0 = ap weight (ne_eqb k.setting.callers c other) in
    omega arith))

-- a seat that stands for one pass, of which a notice is split off
pub notes_at : (t : LogConfig) (id : ℕ) (me : Me ℕ (List CallerView)) (k : CallerView) → me ≡ (k ∷ [], []) → Splits (holds {S = ℕ} t) id me.0 me.0 (note_of me.0)
notes_at t id me k one = subst (λ (m : Me ℕ (List CallerView)). Splits (holds {S = ℕ} t) id m.0 m.0 (note_of m.0)) (sym one) (notes {S = ℕ} t id k)

-- of two beginnings of one list the shorter begins the longer
pub between : (a r b q : List Event) → a ++ r ≡ b ++ q → length a ≤ length b → (m : List Event) × (b ≡ a ++ m) × (r ≡ m ++ q)
between [] r b q e le = (b, refl, e)
between (x ∷ xs) r [] q e le = absurd (omega arith)
between (x ∷ xs) r (y ∷ ys) q e le =
    let heads : y ≡ x = cc in let tails : xs ++ r ≡ ys ++ q = cc in
    let t = between xs r ys q tails (omega arith) in
    (t.0, (λ i. heads i ∷ t.1 i), t.2)

longer_short : (xs ys : List Event) (b : Bool) → leb (length xs) (length ys) ≡ b → (length xs ≤ length (longer_if b xs ys)) × (length ys ≤ length (longer_if b xs ys))
longer_short xs ys true e = let h : length xs ≤ length ys = leb-true (length xs) (length ys) e in (omega arith, omega arith)
longer_short xs ys false e = let h : length ys < length xs = leb-false (length xs) (length ys) e in (omega arith, omega arith)

abbrev Begins : List Event → List Event → Type 0
Begins xs log = (rest : List Event) × (log ≡ xs ++ rest)

longer_begins : (xs ys log : List Event) (b : Bool) → Begins xs log → Begins ys log → Begins (longer_if b xs ys) log
longer_begins xs ys log true h g = g
longer_begins xs ys log false h g = h

pub longest_begins : (setting : DeskConfig) (log : List Event) (v : List CallerView) → AllStand setting log v → Begins (longest v) log
longest_begins setting log [] h = (log, refl)
longest_begins setting log (k ∷ ks) h = longer_begins k.seen (longest ks) log (leb (length k.seen) (length (longest ks))) (h.0.rest, h.0.split) (longest_begins setting log ks h.1)

pub short_more : (n m : ℕ) → n ≤ m → (v : List CallerView) → AllShort n v → AllShort m v
short_more n m le [] h = tt
short_more n m le (k ∷ ks) h = (let a = h.0 in omega arith, short_more n m le ks h.1)

all_short : (v : List CallerView) → AllShort (length (longest v)) v
all_short [] = tt
all_short (k ∷ ks) = let p = longer_short k.seen (longest ks) (leb (length k.seen) (length (longest ks))) refl in (p.0, short_more (length (longest ks)) (length (longest (k ∷ ks))) p.1 ks (all_short ks))

-- where all begin the log, and none is longer than this beginning, they may all be taken to have seen it
levelled : (setting : DeskConfig) (log now rest : List Event) → log ≡ now ++ rest → (v : List CallerView) → AllShort (length now) v → AllStand setting log v → AllCatch now v × AllStand setting log (map (with_seen now) v)
levelled setting log now rest e [] short h = (tt, tt)
levelled setting log now rest e (k ∷ ks) short h =
    let st = h.0 in
    let m = between k.seen st.rest now rest (sym st.split ∙ e) short.0 in
    let parts = none_of_both (own k.caller m.0) (own k.caller rest) (sym (filter-append (λ x. eqb (who_of x) k.caller) m.0 rest) ∙ ap (own k.caller) (sym m.2) ∙ st.none) in
    let more = levelled setting log now rest e ks short.1 h.1 in (
      (record { others = m.0; joined = m.1; none = parts.0 }, more.0),
      (record { terms = st.terms; caller = st.caller; rest = rest; split = e; none = parts.1; looks = looks_stay log log now k (omega arith) short.0 st.looks }, more.1),
    )

pub stand_levelled : (setting : DeskConfig) (log : List Event) (v : List CallerView) → AllStand setting log v → AllCatch (longest v) v × AllStand setting log (level v)
stand_levelled setting log v h = let b = longest_begins setting log v h in levelled setting log (longest v) b.0 b.1 v (all_short v) h

logged : (setting : DeskConfig) (log now : List Event) → AreLogged setting now → (v : List CallerView) → AllStand setting log v → AllLogged now v
logged setting log now events [] h = tt
logged setting log now events (k ∷ ks) h = (subst (λ n. AreLogged n now) (sym h.0.terms) events, logged setting log now events ks h.1)

-- the events of the longest list are those of the desk
longest_logged : (setting : DeskConfig) (log : List Event) (v : List CallerView) → AreLogged setting log → AllStand setting log v → AllLogged (longest v) v
longest_logged setting log v events h =
    let b = longest_begins setting log v h in
    logged setting log (longest v) (events_front setting.callers setting.functions (start setting.plan) (longest v) b.0 (subst (AreLogged setting) b.1 events)) v h

count_level : (c : ℕ) (now : List Event) (v : List CallerView) → count_in c (map (with_seen now) v) ≡ count_in c v
count_level c now [] = refl
count_level c now (k ∷ ks) = let r = count_level c now ks in omega arith

pub levels_out : {S : Type 0} (t : LogConfig) (slots id : ℕ) (v : List CallerView) (c : List (ℕ × S)) (i : ℕ) → Allows (holds {S = S} t) slots id (v, c) i (λ n. n) (levels (step slots i 0 0 none) (v, c))
levels_out t slots id v c i s h len at lt =
    let p = stand_levelled t.setting h.log v (h.known id v at) in
    let kept = keeps_view t s.words s.views h id v (level v) at p.1 (λ n. let e = count_level n (longest v) v in omega arith) in
    (level v, keeps, tt, subst (λ ws. RowKept t ws (set s.views id (level v))) (sym (set-get_or s.words i 0)) kept, (refl, refl, p.0, longest_logged t.setting h.log v h.row.events (h.known id v at)))

there_at : (xs : List Event) (i : ℕ) → i < length xs → (e : Event) × (slice_get xs i ≡ Some e)
there_at [] i h = absurd (omega arith)
there_at (x ∷ xs) zero h = (x, refl)
there_at (x ∷ xs) (suc i) h = there_at xs i (omega arith)

word_at : (seen rest : List Event) (zs : List ℕ) (i : ℕ) (e : Event) → slice_get seen i ≡ Some e → get_or (map word_of (seen ++ rest) ++ zs) i 0 ≡ word_of e
word_at [] rest zs i e h = absurd (none-some e h)
word_at (x ∷ xs) rest zs zero e h = ap word_of (same_some x e h)
word_at (x ∷ xs) rest zs (suc i) e h = word_at xs rest zs i e h

pub found_there : {S : Type 0} (t : LogConfig) (slots id : ℕ) (k : CallerView) (c : List (ℕ × S)) (i : ℕ) → i < length k.seen → Allows (holds {S = S} t) slots id (k ∷ [], c) i (λ n. n) (finds (step slots i 0 0 none) (k ∷ [], c))
found_there t slots id k c i inside s h len at lt =
    let st = (h.known id (k ∷ []) at).0 in
    let found : ℕ = slice_index s.words i in
    let kept = keeps_view t s.words s.views h id (k ∷ []) (k ∷ []) at (h.known id (k ∷ []) at) (λ n. omega arith) in
    let e = there_at k.seen i inside in
    let is : found ≡ word_of e.0 = ap (λ (l : List ℕ). get_or l i 0) (h.row.words_are ∙ ap (λ (l : List Event). map word_of l ++ replicate h.row.free 0) st.split) ∙ word_at k.seen st.rest (replicate h.row.free 0) i e.0 e.1 in
    let event = event_at t.setting.callers t.setting.functions (start t.setting.plan) k.seen i e.0 e.1 (events_front t.setting.callers t.setting.functions (start t.setting.plan) k.seen st.rest (subst (AreLogged t.setting) st.split h.row.events)) in (
      k ∷ [],
      keeps,
      tt,
      subst (λ ws. RowKept t ws (set s.views id (k ∷ []))) (sym (set-get_or s.words i 0)) kept,
      (refl, λ k' f. subst (λ (x : CallerView). FindsSeen x i found) (one_of k k' f) (record { event = e.0; there = e.1; is = ap event_of is ∙ event_of_own_word e.0 event.event })),
    )
