-- What follows from the rule of the row.
use Rattle.std.proofs.Common.{◌≡◌, ℕ, zero, suc, ◌+◌, ◌<◌, ◌≤◌, ◌≢◌, ◌⊎◌, ⊎_elim, Bool, true, false, cond, eqb, eq-eqb, Some, List, [], ◌∷◌, ◌++◌, map, length, slice_get, All, append-nil, length-append, sym, refl, ap, ◌∙◌, subst, arith}
use Rattle.std.specs.List.{Contains}
use Rattle.std.proofs.lemmas.Option.{none-some}
use Rattle.std.proofs.lemmas.List.Elements.{All-nil, All-cons, All-contains, All-head, Contains-append_cases, filter-append}
use Rattle.std.proofs.lemmas.List.{append_cancel_left, nil_from_length}
use mathlib.Core.Option.{some, some-ne-none}
use lib.ListN.{get_elem?}
use Rattle.atomic_table.proofs.Lists.{set_here}
use Rattle.cf_model.specs.declared.events.Event.{Event}
use Rattle.cf_model.specs.Calls.{who_of}
use Rattle.cf_desk.proofs.Lists.{none_of_both, same_rest}
use Rattle.cf_desk.specs.declared.row.DeskConfig.{DeskConfig}
use Rattle.cf_desk.specs.declared.row.LogConfig.{LogConfig}
use Rattle.cf_desk.specs.declared.row.CallerView.{CallerView}
use Rattle.cf_event.specs.Events.{own}
use Rattle.cf_desk.specs.Rule.{AllStand, IsLookOf, RowKept, count_in, weight, longest, with_seen}
use Rattle.cf_desk.specs.Rows.{RowGoesOn, LooksAtEnd, RowsHold, callers_of, older}
use Rattle.cf_desk.proofs.Keeps.{count_two, keeps_view, same_some}
use Rattle.cf_desk.proofs.Meets.{between, longest_begins, stand_levelled}

-- a caller of a seat is counted in it
counted : (v : List CallerView) (c : ℕ) → Contains (callers_of v) c → 0 < count_in c v
counted [] c h = absurd (let l = h.1 in omega arith)
counted (k ∷ ks) c h = ⊎_elim
    (λ (one : Contains (k.caller ∷ []) c).
    let same : c ≡ k.caller = All-contains (λ (y : ℕ). y ≡ k.caller) (k.caller ∷ []) c (All-cons (λ (y : ℕ). y ≡ k.caller) k.caller [] refl (All-nil (λ (y : ℕ). y ≡ k.caller))) one in
    let w : weight (eqb k.caller c) ≡ 1 = ap weight (eq-eqb k.caller c (sym same)) in
    omega arith)
    (λ (more : Contains (callers_of ks) c). let r = counted ks c more in omega arith)
    (Contains-append_cases (k.caller ∷ []) (callers_of ks) c h)

-- past what its passes have seen the log has no event of a seat's callers
past : (setting : DeskConfig) (log now rest : List Event) → log ≡ now ++ rest → (v : List CallerView) → AllStand setting log (map (with_seen now) v) → All (λ c. own c rest ≡ []) (callers_of v)
past setting log now rest e [] h = All-nil (λ c. own c rest ≡ [])
past setting log now rest e (k ∷ ks) h =
    let same : h.0.rest ≡ rest = same_rest now h.0.rest rest (sym h.0.split ∙ e) in
    All-cons (λ c. own c rest ≡ []) k.caller (callers_of ks) (ap (own k.caller) (sym same) ∙ h.0.none) (past setting log now rest e ks h.1)

pub past_longest : (setting : DeskConfig) (log : List Event) (v : List CallerView) → AllStand setting log v → (rest : List Event) × (log ≡ longest v ++ rest) × All (λ c. own c rest ≡ []) (callers_of v)
past_longest setting log v h =
    let b = longest_begins setting log v h in
    (b.0, b.1, past setting log (longest v) b.0 b.1 v (stand_levelled setting log v h).1)

tail_none : (c : ℕ) (x : Event) (xs : List Event) (b : Bool) → cond b (x ∷ own c xs) (own c xs) ≡ [] → own c xs ≡ []
tail_none c x xs true e = absurd cc
tail_none c x xs false e = e

not_there : (xs : List Event) (p : ℕ) (e : Event) → slice_get xs p ≡ Some e → own (who_of e) xs ≢ []
not_there [] p e at none = none-some e at
not_there (x ∷ xs) zero e at none =
    let same : who_of x ≡ who_of e = ap who_of (same_some x e at) in
    let found : x ∷ own (who_of e) xs ≡ [] = subst (λ (b : Bool). cond b (x ∷ own (who_of e) xs) (own (who_of e) xs) ≡ []) (eq-eqb (who_of x) (who_of e) same) none in
    cc
not_there (x ∷ xs) (suc p) e at none = not_there xs p e at (tail_none (who_of e) x xs (eqb (who_of x) (who_of e)) none)

seen_before : (xs rest : List Event) (p : ℕ) (e : Event) → slice_get (xs ++ rest) p ≡ Some e → own (who_of e) rest ≡ [] → p < length xs
seen_before [] rest p e at none = absurd (not_there rest p e at none)
seen_before (x ∷ xs) rest zero e at none = omega arith
seen_before (x ∷ xs) rest (suc p) e at none = let r = seen_before xs rest p e at none in omega arith

fronts_none : (more rest all : List Event) → all ≡ more ++ rest → (cs : List ℕ) → All (λ c. own c all ≡ []) cs → All (λ c. own c more ≡ []) cs
fronts_none more rest all e cs h c d lt = (none_of_both (own (at cs c d) more) (own (at cs c d) rest) (sym (filter-append (λ x. eqb (who_of x) (at cs c d)) more rest) ∙ ap (own (at cs c d)) (sym e) ∙ h c d lt)).0
  where
    at : List ℕ → ℕ → ℕ → ℕ
    at cs c d = Rattle.std.proofs.Common.get_or cs c d

goes_on : (setting : DeskConfig) (log : List Event) (v w : List CallerView) → AllStand setting log v → AllStand setting log w → length (longest v) ≤ length (longest w) → RowGoesOn v w
goes_on setting log v w h g le =
    let a = past_longest setting log v h in
    let b = longest_begins setting log w g in
    let m = between (longest v) a.0 (longest w) b.0 (sym a.1 ∙ b.1) le in
    (m.0, m.1, fronts_none m.0 b.0 a.0 m.2 (callers_of v) a.2)

front_stand : (setting : DeskConfig) (log : List Event) (v w : List CallerView) → AllStand setting log (v ++ w) → AllStand setting log v × AllStand setting log w
front_stand setting log [] w h = (tt, h)
front_stand setting log (k ∷ ks) w h = let r = front_stand setting log ks w h.1 in ((h.0, r.0), r.1)

within : (views : List (List CallerView)) (id : ℕ) (v : List CallerView) → get_elem? views id ≡ some v → id < length views
within [] id v e = absurd (some-ne-none v (sym e))
within (x ∷ xs) zero v e = omega arith
within (x ∷ xs) (suc id) v e = let r = within xs id v e in omega arith

looks_at_end : (t : LogConfig) (words : List ℕ) (views : List (List CallerView)) (h : RowKept t words views) → LooksAtEnd t words views h.log
looks_at_end t words views h = record {
  may_be = λ id k at.
      let st = (h.known id (k ∷ []) at).0 in
      keeps_view t words views h id (k ∷ []) (older (length h.log) k ∷ []) at
      (record { terms = st.terms; caller = st.caller; rest = st.rest; split = st.split; none = st.none; looks = record { filled = (omega arith); since = []; are = sym (append-nil k.looks); looks = All-nil (IsLookOf (length h.log) k.seen) } }, tt)
      (λ c. omega arith);
  end = λ id k n now at g.
      let with_look : CallerView = record (older (length h.log) k) { looks = k.looks ++ n ∷ [] } in
      let st = (h.known id (k ∷ []) at).0 in
      let l = (g.known id (with_look ∷ []) (set_here views id (with_look ∷ []) (within views id (k ∷ []) at))).0.looks in
      let one : l.since ≡ n ∷ [] = sym (append_cancel_left k.looks (n ∷ []) l.since l.are) in
      let look : IsLookOf (length h.log) k.seen n = All-head (IsLookOf (length h.log) k.seen) n [] (subst (All (IsLookOf (length h.log) k.seen)) one l.looks) in
      let low : length h.log ≤ n = look.0 in
      let high : n ≤ length k.seen = look.1 in
      let parts : length h.log ≡ length k.seen + length st.rest = ap length st.split ∙ length-append k.seen st.rest in
      let none : st.rest ≡ [] = nil_from_length st.rest (omega arith) in
      (st.split ∙ ap (λ (x : List Event). k.seen ++ x) none ∙ append-nil k.seen, omega arith);
}

pub rows_hold : RowsHold
rows_hold t words views h = record {
  log = h.log;
  filled = h.row;
  seen = λ id v at. longest_begins t.setting h.log v (h.known id v at);
  apart = λ i j v w c below other at_i at_j in_v in_w.
      let two = count_two c views i j v w other at_i at_j in
      let once = h.apart c below in
      let a = counted v c in_v in
      let b = counted w c in_w in
      omega arith;
  own_seen = λ id v p e at there mine.
      let past = past_longest t.setting h.log v (h.known id v at) in
      let none : own (who_of e) past.0 ≡ [] = All-contains (λ c. own c past.0 ≡ []) (callers_of v) (who_of e) past.2 mine in
      seen_before (longest v) past.0 p e (ap (λ (l : List Event). slice_get l p) (sym past.1) ∙ there) none;
  parts = λ id v w at.
      let both = front_stand t.setting h.log v w (h.known id (v ++ w) at) in
      (goes_on t.setting h.log v w both.0 both.1, goes_on t.setting h.log w v both.1 both.0);
  looks = looks_at_end t words views h;
}
