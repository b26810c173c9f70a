-- Each step keeps the rule of the row.
use Rattle.std.proofs.Common.{◌≡◌, ℕ, zero, suc, ◌+◌, ◌-◌, ◌<◌, ◌≤◌, ◌≢◌, ◌⊎◌, cond, eqb, eq-eqb, ne_eqb, Some, None, List, [], ◌∷◌, ◌++◌, map, length, replicate, get_or, set, slice_index, sym, refl, ap, ◌∙◌, subst, inl, inr, ⊎_elim, append_assoc, append-nil, length-append, length-set, arith}
use Rattle.std.proofs.lemmas.List.{set-get_or, length-map, length-replicate}
use Rattle.std.proofs.lemmas.List.Elements.{All-push, All-weaker, filter-append}
use mathlib.Core.Option.{some, none, some-injective, some-ne-none}
use mathlib.Core.List.{map-append}
use mathlib.Core.Logic.{dite}
use native.Mathlib.Decide.{ℕ_discrete}
use prog.Atomic.{either}
use lib.ListN.{get_elem?}
use Rattle.atomic_table.specs.Table.{State, Step, Me, step, stepped, keeps, Allows, Splits, Joins}
use Rattle.atomic_table.proofs.Lists.{at_set, exchanged}
use Rattle.cf_model.specs.declared.events.Event.{Event}
use Rattle.cf_desk.proofs.Lists.{none_of_both, one_of}
use Rattle.cf_desk.specs.declared.row.DeskConfig.{DeskConfig}
use Rattle.cf_desk.specs.declared.row.LogConfig.{LogConfig}
use Rattle.cf_desk.specs.declared.row.CallerView.{CallerView}
use Rattle.cf_model.specs.Calls.{who_of}
use Rattle.cf_event.specs.Words.{word_of}
use Rattle.cf_event.specs.Decoding.{event_of}
use Rattle.cf_event.proofs.WordLemmas.{event_of_own_word, event_of_zero, word_of_filled}
use Rattle.cf_model.specs.States.{start}
use Rattle.cf_event.specs.Events.{own}
use Rattle.cf_desk.specs.Log.{IsDeskEvent, AreLogged, state_from}
use Rattle.cf_event.proofs.Events.{event_behind, events_push}
use Rattle.cf_desk.specs.Rule.{Stands, AllStand, weight, count_in, count_all, IsRow, RowKept, holds, saw, looked, LooksNext, AddsNext, looks_next, adds_next, SeesOther, IsLookOf, LooksKept}

-- what lies behind what was seen begins with the event of the next word, if that isn't 0
abbrev pub Next : List Event → ℕ → Type 0
Next rest found = ((found ≡ 0) × (rest ≡ [])) ⊎ ((e : Event) × (found ≡ word_of e) × ((more : List Event) × (rest ≡ e ∷ more)))

zeros_at : (n : ℕ) → get_or {A = ℕ} (replicate n 0) 0 0 ≡ 0
zeros_at zero = refl
zeros_at (suc n) = refl

at_seam : (seen : List Event) (ys : List ℕ) → get_or (map word_of seen ++ ys) (length seen) 0 ≡ get_or ys 0 0
at_seam [] ys = refl
at_seam (x ∷ xs) ys = at_seam xs ys

pub at_next : (t : LogConfig) (log : List Event) (words : List ℕ) (seen rest : List Event) → IsRow t log words → log ≡ seen ++ rest → Next rest (slice_index words (length seen))
at_next t log words seen [] r e =
    inl (ap (λ (l : List ℕ). get_or l (length seen) 0) (r.words_are ∙ ap (λ (l : List Event). map word_of l ++ replicate r.free 0) (e ∙ append-nil seen)) ∙ at_seam seen (replicate r.free 0) ∙ zeros_at r.free, refl)
at_next t log words seen (x ∷ xs) r e =
    let is : slice_index words (length seen) ≡ word_of x = ap (λ (l : List ℕ). get_or l (length seen) 0)
    (r.words_are ∙ ap (λ (l : List Event). map word_of l ++ replicate r.free 0) e ∙ ap (λ (l : List ℕ). l ++ replicate r.free 0) (map-append word_of seen (x ∷ xs)) ∙ append_assoc (map word_of seen) (map word_of (x ∷ xs)) (replicate r.free 0))
    ∙ at_seam seen (map word_of (x ∷ xs) ++ replicate r.free 0) in
    inr (x, is, (xs, refl))

-- a view's change, where it stands for the same passes
pub count_set : (c : ℕ) (views : List (List CallerView)) (id : ℕ) (v w : List CallerView) → get_elem? views id ≡ some v → count_all c (set views id w) + count_in c v ≡ count_all c views + count_in c w
count_set c [] id v w e = absurd (some-ne-none v (sym e))
count_set c (x ∷ xs) zero v w e = let is : count_in c x ≡ count_in c v = ap (count_in c) (some-injective x v e) in omega arith
count_set c (x ∷ xs) (suc id) v w e = let r = count_set c xs id v w e in omega arith

pub count_at : (c : ℕ) (views : List (List CallerView)) (id : ℕ) (v : List CallerView) → get_elem? views id ≡ some v → count_in c v ≤ count_all c views
count_at c [] id v e = absurd (some-ne-none v (sym e))
count_at c (x ∷ xs) zero v e = let is : count_in c x ≡ count_in c v = ap (count_in c) (some-injective x v e) in omega arith
count_at c (x ∷ xs) (suc id) v e = let r = count_at c xs id v e in omega arith

pub count_two : (c : ℕ) (views : List (List CallerView)) (i j : ℕ) (v w : List CallerView) → i ≢ j → get_elem? views i ≡ some v → get_elem? views j ≡ some w → count_in c v + count_in c w ≤ count_all c views
count_two c [] i j v w n e f = absurd (some-ne-none v (sym e))
count_two c (x ∷ xs) zero zero v w n e f = absurd (n refl)
count_two c (x ∷ xs) zero (suc j) v w n e f = let is : count_in c x ≡ count_in c v = ap (count_in c) (some-injective x v e) in let r = count_at c xs j w f in omega arith
count_two c (x ∷ xs) (suc i) zero v w n e f = let is : count_in c x ≡ count_in c w = ap (count_in c) (some-injective x w f) in let r = count_at c xs i v e in omega arith
count_two c (x ∷ xs) (suc i) (suc j) v w n e f = let r = count_two c xs i j v w (λ h. n (ap suc h)) e f in omega arith

pub keeps_view : (t : LogConfig) (words : List ℕ) (views : List (List CallerView)) (h : RowKept t words views) (id : ℕ) (v w : List CallerView) → get_elem? views id ≡ some v → AllStand t.setting h.log w → ((c : ℕ) → count_in c w ≤ count_in c v)
    → RowKept t words (set views id w)
keeps_view t words views h id v w at stand less = record {
  log = h.log;
  row = h.row;
  known = λ j u e. ⊎_elim (λ (p : (j ≡ id) × (w ≡ u)). subst (AllStand t.setting h.log) p.1 stand) (λ (p : (j ≢ id) × (get_elem? views j ≡ some u)). h.known j u p.1) (at_set views id j w u e);
  apart = λ c below. let a = h.apart c below in let l = less c in let s = count_set c views id v w at in omega arith;
}

-- the words of others, behind a new one
own-snoc : (c : ℕ) (rest : List Event) (w : Event) → own c rest ≡ [] → (who_of w ≢ c) → own c (rest ++ w ∷ []) ≡ []
own-snoc c rest w e n = filter-append (λ x. eqb (who_of x) c) rest (w ∷ []) ∙ (rw e (ap (λ b. cond b (w ∷ []) []) (ne_eqb (who_of w) c n)))

-- a pass that has seen more, beside a longer log
pub looks_stay : (log log' now : List Event) (k : CallerView) → length log ≤ length log' → length k.seen ≤ length now → LooksKept log k → LooksKept log' (record k { seen = now })
looks_stay log log' now k more on l = record {
  filled = (let f = l.filled in omega arith);
  since = l.since;
  are = l.are;
  looks = All-weaker (IsLookOf k.filled k.seen) (IsLookOf k.filled now) (λ n h. (h.0, let a = h.1 in omega arith)) l.since l.looks;
}

-- a look behind what was seen, where the log ends
look_kept : (log : List Event) (k : CallerView) → length log ≡ length k.seen → LooksKept log k → LooksKept log (looked k)
look_kept log k end l = record {
  filled = l.filled;
  since = l.since ++ length k.seen ∷ [];
  are = ap (λ (x : List ℕ). x ++ length k.seen ∷ []) l.are ∙ append_assoc k.before l.since (length k.seen ∷ []);
  looks = All-push (IsLookOf k.filled k.seen) l.since (length k.seen) l.looks ((let f = l.filled in omega arith), (omega arith));
}

others_stand : (setting : DeskConfig) (log : List Event) (word : Event) (u : List CallerView) → count_in (who_of word) u ≡ 0 → AllStand setting log u → AllStand setting (log ++ word ∷ []) u
others_stand setting log word [] zero_in h = tt
others_stand setting log word (k ∷ ks) zero_in h = dite (ℕ_discrete k.caller (who_of word))
    (λ (same : k.caller ≡ who_of word). absurd (let one : weight (eqb k.caller (who_of word)) ≡ 1 = ap weight (eq-eqb k.caller (who_of word) same) in omega arith))
    (λ (other : k.caller ≢ who_of word). (
      record { terms = h.0.terms; caller = h.0.caller; rest = h.0.rest ++ word ∷ []; split = ap (λ l. l ++ word ∷ []) h.0.split ∙ append_assoc k.seen h.0.rest (word ∷ []); none = own-snoc k.caller h.0.rest word h.0.none (λ e. other (sym e)); looks = looks_stay log (log ++ word ∷ []) k.seen k (omega (arith, length-append log (word ∷ []))) (omega arith) h.0.looks },
      others_stand setting log word ks (omega arith) h.1,
    ))

pub same_some : (d e : Event) → Some d ≡ Some e → d ≡ e
same_some d e h = cc

-- a load of the next word
looks_kept : (t : LogConfig) (words : List ℕ) (views : List (List CallerView)) (h : RowKept t words views) (id : ℕ) (k : CallerView) → get_elem? views id ≡ some (k ∷ []) → (st : Stands t.setting h.log k) → (found : ℕ) → Next st.rest found
    → (w : List CallerView) × RowKept t words (set views id w) × LooksNext k found w
looks_kept t words views h id k at st found next = ⊎_elim
    (λ (p : (found ≡ 0) × (st.rest ≡ [])). (
      looked k ∷ [],
      keeps_view t words views h id (k ∷ []) (looked k ∷ []) at (record { terms = st.terms; caller = st.caller; rest = st.rest; split = st.split; none = st.none; looks = look_kept h.log k (ap length (st.split ∙ ap (λ l. k.seen ++ l) p.1 ∙ append-nil k.seen)) st.looks }, tt) (λ c. omega arith),
      record { empty = λ _. refl; taken = λ e some. absurd (let none = ap event_of p.0 ∙ event_of_zero in cc) },
    ))
    (λ (p : (e : Event) × (found ≡ word_of e) × ((more : List Event) × (st.rest ≡ e ∷ more))).
    let e : Event = p.0 in
    let more = p.2.0 in
    let parts : own k.caller (e ∷ []) ++ own k.caller more ≡ [] = sym (filter-append (λ x. eqb (who_of x) k.caller) (e ∷ []) more) ∙ ap (own k.caller) (sym p.2.1) ∙ st.none in
    let both = none_of_both (own k.caller (e ∷ [])) (own k.caller more) parts in
    let split' : h.log ≡ (k.seen ++ e ∷ []) ++ more = st.split ∙ ap (λ l. k.seen ++ l) p.2.1 ∙ sym (append_assoc k.seen (e ∷ []) more) in
    let event : IsDeskEvent t.setting (state_from t.setting.plan k.seen) e = event_behind t.setting.callers t.setting.functions (start t.setting.plan) k.seen e more (subst (AreLogged t.setting) (st.split ∙ ap (λ l. k.seen ++ l) p.2.1) h.row.events) in
    let is : event_of found ≡ Some e = ap event_of p.1 ∙ event_of_own_word e event.event in
    let mine : SeesOther k e (saw k e ∷ []) = (refl, subst (λ n. IsDeskEvent n (state_from n.plan k.seen) e) (sym st.terms) event, both.0) in (
      saw k e ∷ [],
      keeps_view t words views h id (k ∷ []) (saw k e ∷ []) at (record { terms = st.terms; caller = st.caller; rest = more; split = split'; none = both.1; looks = looks_stay h.log h.log (k.seen ++ e ∷ []) k (omega arith) (omega (arith, length-append k.seen (e ∷ []))) st.looks }, tt) (λ c. omega arith),
      record { empty = λ none. absurd (let some = is in cc); taken = λ d some. subst (λ (x : Event). SeesOther k x (saw k e ∷ [])) (same_some e d (sym is ∙ some)) mine },
    ))
    next

pub looks : {S : Type 0} (t : LogConfig) (slots id : ℕ) (k : CallerView) (c : List (ℕ × S)) → Allows (holds {S = S} t) slots id (k ∷ [], c) (length k.seen) (λ n. n) (looks_next (step slots (length k.seen) 0 0 none) (k ∷ [], c))
looks t slots id k c s h len at lt =
    let st = (h.known id (k ∷ []) at).0 in
    let found : ℕ = slice_index s.words (length k.seen) in
    let did = looks_kept t s.words s.views h id k at st found (at_next t h.log s.words k.seen st.rest h.row st.split) in
    let same : set s.words (length k.seen) found ≡ s.words = set-get_or s.words (length k.seen) 0 in
    (did.0, keeps, tt, subst (λ ws. RowKept t ws (set s.views id did.0)) (sym same) did.1, (refl, λ k' e. subst (λ (x : CallerView). LooksNext x found did.0) (one_of k k' e) did.2))

-- an exchange of the next word that is won
adds_kept : (t : LogConfig) (words : List ℕ) (views : List (List CallerView)) (h : RowKept t words views) (id : ℕ) (k : CallerView) → get_elem? views id ≡ some (k ∷ []) → (st : Stands t.setting h.log k) → st.rest ≡ []
    → length k.seen < t.words → (e : Event) → IsDeskEvent t.setting (state_from t.setting.plan k.seen) e → who_of e ≡ k.caller → RowKept t (set words (length k.seen) (word_of e)) (set views id (saw k e ∷ []))
adds_kept t words views h id k at st end room e event mine =
    let all : h.log ≡ k.seen = st.split ∙ ap (λ l. k.seen ++ l) end ∙ append-nil k.seen in
    let now : set words (length k.seen) (word_of e) ≡ map word_of (h.log ++ e ∷ []) ++ replicate (h.row.free - 1) 0 = ap (λ l. set l (length k.seen) (word_of e)) h.row.words_are ∙ ap (λ (l : List Event). set (map word_of h.log ++ replicate h.row.free 0) (length l) (word_of e)) (sym all) ∙ put_at h.log h.row.free (some_free h.row all) in record {
      log = h.log ++ e ∷ [];
      row = record { free = h.row.free - 1; words_are = now; room = length-set words (length k.seen) (word_of e) ∙ h.row.room; events = events_push t.setting.callers t.setting.functions (start t.setting.plan) h.log e h.row.events (subst (λ l. IsDeskEvent t.setting (state_from t.setting.plan l) e) (sym all) event) };
      known = λ j u at'. ⊎_elim
          (λ (p : (j ≡ id) × (saw k e ∷ [] ≡ u)). subst (AllStand t.setting (h.log ++ e ∷ [])) p.1 (record { terms = st.terms; caller = st.caller; rest = []; split = ap (λ l. l ++ e ∷ []) all ∙ sym (append-nil (k.seen ++ e ∷ [])); none = refl; looks = looks_stay h.log (h.log ++ e ∷ []) (k.seen ++ e ∷ []) k (omega (arith, length-append h.log (e ∷ []))) (omega (arith, length-append k.seen (e ∷ []))) st.looks }, tt))
          (λ (p : (j ≢ id) × (get_elem? views j ≡ some u)). others_stand t.setting h.log e u
          (let two = count_two k.caller views id j (k ∷ []) u (λ e. p.0 (sym e)) at p.1 in let once = h.apart k.caller (subst (λ (c : ℕ). c < t.setting.callers) mine event.caller) in
          let me : weight (eqb k.caller k.caller) ≡ 1 = ap weight (eq-eqb k.caller k.caller refl) in
          let none : count_in k.caller u ≡ 0 = omega arith in subst (λ c. count_in c u ≡ 0) (sym mine) none)
          (h.known j u p.1))
          (at_set views id j (saw k e ∷ []) u at');
      apart = λ c below. let a = h.apart c below in let s = count_set c views id (k ∷ []) (saw k e ∷ []) at in omega arith;
    }
  where
    some_free : (r : IsRow t h.log words) → h.log ≡ k.seen → 0 < r.free
    some_free r all = let l = r.room in let w = ap length r.words_are in let s = ap length all in omega (arith, length-append (map word_of h.log) (replicate r.free 0), length-map h.log word_of, length-replicate {A = ℕ} r.free 0)

    put_at : (log : List Event) (free : ℕ) → 0 < free → set (map word_of log ++ replicate free 0) (length log) (word_of e) ≡ map word_of (log ++ e ∷ []) ++ replicate (free - 1) 0
    put_at log zero h = absurd (omega arith)
    put_at [] (suc n) h = ap (λ (m : ℕ). word_of e ∷ replicate m 0) (let p : n ≡ suc n - 1 = omega arith in p)
    put_at (x ∷ log) (suc n) h = ap (λ (l : List ℕ). word_of x ∷ l) (put_at log (suc n) h)

pub adds : {S : Type 0} (t : LogConfig) (slots id : ℕ) (k : CallerView) (c : List (ℕ × S)) (e : Event) → length k.seen < t.words → IsDeskEvent k.setting (state_from k.setting.plan k.seen) e → who_of e ≡ k.caller
    → Allows (holds {S = S} t) slots id (k ∷ [], c) (length k.seen) (λ n. either (eqb n 0) (word_of e) n) (adds_next (step slots (length k.seen) 0 (word_of e) none) (k ∷ [], c))
adds {S} t slots id k c e room event mine s h len at lt =
    let i : ℕ = length k.seen in
    let word : ℕ = word_of e in
    let found : ℕ = slice_index s.words i in
    let st = (h.known id (k ∷ []) at).0 in
    let next = at_next t h.log s.words k.seen st.rest h.row st.split in
    let Goal : ℕ → Type 0 = λ n. (w : List CallerView) × (a : Rattle.atomic_table.specs.Table.Act S) × Rattle.atomic_table.specs.Table.Valid s.homes c a × RowKept t (set s.words i n) (set s.views id w) × adds_next (step slots i 0 word none) (k ∷ [], c) found (w, Rattle.atomic_table.specs.Table.carried_after c a) in
    exchanged found 0 word Goal
    (λ zero_there. let end = is_end st.rest found zero_there next in (
      saw k e ∷ [],
      keeps,
      tt,
      adds_kept t s.words s.views h id k at st end room e (subst (λ n. IsDeskEvent n (state_from n.plan k.seen) e) st.terms event) mine,
      (
        refl,
        λ k' f. subst (λ (x : CallerView). AddsNext x word found (saw k e ∷ [])) (one_of k k' f) (record {
          won = λ d is none. ap (λ (x : Event). saw k x ∷ []) (same_some e d (sym (event_of_own_word e event.event) ∙ is));
          lost = λ d some. absurd (let none = ap event_of zero_there ∙ event_of_zero in cc);
        }),
      ),
    ))
    (λ some_there.
    let did = looks_kept t s.words s.views h id k at st found next in
    let same : set s.words i found ≡ s.words = set-get_or s.words i 0 in (
      did.0,
      keeps,
      tt,
      subst (λ ws. RowKept t ws (set s.views id did.0)) (sym same) did.1,
      (
        refl,
        λ k' f. subst (λ (x : CallerView). AddsNext x word found did.0) (one_of k k' f) (record {
          won = λ d is none. absurd (not_none st.rest (h.row.events) st.split some_there next none);
          lost = did.2.taken;
        }),
      ),
    ))
  where
    is_end : (rest : List Event) (found : ℕ) → found ≡ 0 → Next rest found → rest ≡ []
    is_end rest found z (inl p) = p.1
    is_end rest found z (inr p) = absurd (let filled = word_of_filled p.0 in let is = p.1 in omega arith)

    not_none : (rest : List Event) → AreLogged t.setting h.log → h.log ≡ k.seen ++ rest → slice_index s.words (length k.seen) ≢ 0 → Next rest (slice_index s.words (length k.seen)) → event_of (slice_index s.words (length k.seen)) ≢ None
    not_none rest events split filled (inl p) empty = filled p.0
    not_none rest events split filled (inr p) empty =
        let event = event_behind t.setting.callers t.setting.functions (start t.setting.plan) k.seen p.0 p.2.0 (subst (AreLogged t.setting) (split ∙ ap (λ l. k.seen ++ l) p.2.1) events) in
        let is : event_of (slice_index s.words (length k.seen)) ≡ Some p.0 = ap event_of p.1 ∙ event_of_own_word p.0 event.event in
        cc
