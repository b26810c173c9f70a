-- Calls of a request that are done one after another.
use Rattle.std.proofs.Common.{◌≡◌, ℕ, zero, suc, ◌+◌, ◌<◌, ◌≤◌, Option, Some, None, Result, Ok, Err, List, [], ◌∷◌, ◌++◌, drop, get_or, length, set, take, refl, ap, sym, ◌∙◌, arith, subst, inl, inr}
use Rattle.std.proofs.Math.Nat.{le-max_left}
use Rattle.std.proofs.Math.Seq.{drop-cons}
use Rattle.std.proofs.lemmas.List.{drop-drop, drop-set-lt, drop_all, length-set, set-get_or, take_more, take_more_set}
use Rattle.cf_request.specs.Machines.{Machine, OnlyFinds, free_in, most_words}
use Rattle.cf_c_handles.specs.RequestRows.{AreDone, DoesAs, DoesCall, DoesCalls, StopsAt, call_of}
use Rattle.cf_c_handles.specs.declared.code.Code.{Code}
use Rattle.cf_c_handles.specs.declared.request.row.Call.{Call}
use Rattle.cf_c_handles.specs.declared.request.row.Call.TheVariants.{Apply, Next as TakeNext, Follow, SetDeadline, Pass, Refuse, CancelAll}
use Rattle.cf_c_handles.specs.declared.values.call.CfRequestCall.{CfRequestCall}

pub finds_nothing : (old new : Machine) → new ≡ old → OnlyFinds old new
finds_nothing old new is = subst (OnlyFinds old) (sym is) (record { found = omega arith; few = le-max_left (free_in old) (most_words old); same = refl })

done_push : (m a b : Machine) (hads hases : List CfRequestCall) (had has : CfRequestCall) → AreDone m hads a hases → DoesCall a had (Ok tt) b has → AreDone m (hads ++ had ∷ []) b (hases ++ has ∷ [])
done_push m a b [] [] had has same h = (b, subst (λ (x : Machine). DoesCall x had (Ok tt) b has) same h, refl)
done_push m a b [] (y ∷ hases) had has none h = absurd none
done_push m a b (x ∷ hads) [] had has none h = absurd none
done_push m a b (x ∷ hads) (y ∷ hases) had has (next, first, rest) h = (next, first, done_push next a b hads hases had has rest h)

-- what stands at a place is the same in both, where what stands from there on is
nothing_at : (k : ℕ) (ys : List CfRequestCall) (d : CfRequestCall) → [] ≡ drop k ys → d ≡ get_or ys k d
nothing_at zero [] d h = refl
nothing_at zero (y ∷ ys) d h = cc
nothing_at (suc k) [] d h = refl
nothing_at (suc k) (y ∷ ys) d h = nothing_at k ys d h

same_at : (k : ℕ) (xs ys : List CfRequestCall) (d : CfRequestCall) → drop k xs ≡ drop k ys → get_or xs k d ≡ get_or ys k d
same_at zero [] [] d h = refl
same_at zero [] (y ∷ ys) d h = cc
same_at zero (x ∷ xs) [] d h = cc
same_at zero (x ∷ xs) (y ∷ ys) d h = cc
same_at (suc k) [] [] d h = refl
same_at (suc k) [] (y ∷ ys) d h = nothing_at k ys d h
same_at (suc k) (x ∷ xs) [] d h = sym (nothing_at k xs d (sym h))
same_at (suc k) (x ∷ xs) (y ∷ ys) d h = same_at k xs ys d h

-- what is refused leaves its row as it was
refused_same : (o : Option Call) (m : Machine) (had : CfRequestCall) (code : Code) (new : Machine) (has : CfRequestCall) → DoesAs o m had (Err code) new has → has ≡ had
refused_same (Some Apply) m had code new has (inl h) = h.3
refused_same (Some Apply) m had code new has (inr h) = h.1.2
refused_same (Some TakeNext) m had code new has (inl h) = h.3
refused_same (Some TakeNext) m had code new has (inr h) = h.1.2
refused_same (Some Follow) m had code new has h = h.2
refused_same (Some SetDeadline) m had code new has h = h.2
refused_same (Some Pass) m had code new has h = h.2
refused_same (Some Refuse) m had code new has (inl h) = h.3
refused_same (Some Refuse) m had code new has (inr h) = h.1.2
refused_same (Some CancelAll) m had code new has h = h.2
refused_same None m had code new has h = h.2

-- ---- a row of calls, the first k of which are done

pub record RowIs (m : Machine) (first : List CfRequestCall) (k : ℕ) (a : Machine) (now : List CfRequestCall) : Type 0 where
  pub reach : length now ≡ length first
  pub front : AreDone m (take k first) a (take k now)
  pub rest : drop k now ≡ drop k first

pub row_more : (m : Machine) (first : List CfRequestCall) (k : ℕ) (a b : Machine) (now : List CfRequestCall) (d has : CfRequestCall) → RowIs m first k a now → k < length now → DoesCall a (get_or now k d) (Ok tt) b has → RowIs m first (k + 1) b (set now k has)
row_more m first k a b now d has h l did =
    let size = h.reach in
    record {
      reach = length-set now k has ∙ h.reach;
      front = subst (λ (xs : List CfRequestCall). AreDone m xs b (take (k + 1) (set now k has))) (sym (take_more first k d (omega (arith, size, l))))
          (subst (λ (ys : List CfRequestCall). AreDone m (take k first ++ get_or first k d ∷ []) b ys) (sym (take_more_set now k has l))
          (done_push m a b (take k first) (take k now) (get_or first k d) has h.front (subst (λ (x : CfRequestCall). DoesCall a x (Ok tt) b has) (same_at k now first d h.rest) did)));
      rest = drop-set-lt (k + 1) now k has (omega arith) ∙ sym (drop-drop 1 k now) ∙ ap (drop 1) h.rest ∙ drop-drop 1 k first;
    }

pub row_done : (m : Machine) (first : List CfRequestCall) (k : ℕ) (a : Machine) (now : List CfRequestCall) → RowIs m first k a now → length now ≤ k → k ≤ length now → DoesCalls m first (Ok tt) a now (length now)
row_done m first k a now h past few =
    let size = h.reach in
    let same : k ≡ length now = omega arith in
    record {
      between = a;
      front = subst (λ (n : ℕ). AreDone m (take n first) a (take n now)) same h.front;
      stops = subst (λ (l : List CfRequestCall). StopsAt l a (Ok tt) a) (sym (drop_all (length now) first (omega (arith, size)))) (refl, refl);
      rest = subst (λ (n : ℕ). drop n now ≡ drop n first) same h.rest;
    }

pub row_refused : (m : Machine) (first : List CfRequestCall) (k : ℕ) (a b : Machine) (now : List CfRequestCall) (d has : CfRequestCall) (code : Code) → RowIs m first k a now → k < length now → DoesCall a (get_or now k d) (Err code) b has →
    DoesCalls m first (Err code) b (set now k has) k
row_refused m first k a b now d has code h l did =
    let size = h.reach in
    let had = get_or now k d in
    let same = refused_same (call_of had.call) a had code b has did in
    let kept : set now k has ≡ now = ap (set now k) same ∙ set-get_or now k d in
    let there = same_at k now first d h.rest in
    subst (λ (l : List CfRequestCall). DoesCalls m first (Err code) b l k) (sym kept) (record {
      between = a;
      front = h.front;
      stops = subst (λ (l : List CfRequestCall). StopsAt l a (Err code) b) (sym (drop-cons first k d (omega (arith, size, l))))
          (subst (λ (x : CfRequestCall). DoesCall a x (Err code) b x) there (subst (λ (x : CfRequestCall). DoesCall a had (Err code) b x) same did));
      rest = h.rest;
    })
