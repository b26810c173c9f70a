-- Where a worker's looks stand among its records.
use Rattle.std.proofs.Common.{◌≡◌, ℕ, ◌+◌, ◌<◌, ◌≤◌, ◌⊎◌, inl, inr, None, List, [], ◌∷◌, ◌++◌, length, sym, refl, ap, ◌∙◌, subst, append-nil, append_assoc, length-append, arith}
use Rattle.std.specs.List.{All}
use Rattle.std.proofs.lemmas.List.Elements.{All-append, All-cons, All-nil, All-weaker}
use Rattle.cf_model.specs.declared.events.Event.{Event}
use Rattle.cf_model.specs.States.{lowest_ready_of}
use Rattle.cf_model.specs.Events.{state_at}
use Rattle.cf_desk.specs.declared.calls.Rec.{Rec}
use Rattle.cf_desk.specs.declared.calls.Rec.TheVariants.{Did, Saw}
use Rattle.cf_desk.specs.Log.{state_from}
use Rattle.cf_desk.specs.Views.{Desk, Follows, IsBetween, IsLook, LooksOnce, Pass, state_of}
use Rattle.cf_desk.proofs.Passes.{follows_longer}
use Rattle.cf_event.proofs.Histories.{at_still, take_all}
use Rattle.cf_pool.specs.Waits.{Idles, IsEarlier, IsIdleAt, LooksBefore, last_place}

-- ---- the place of the last record

pub last_place-append : (n : ℕ) (xs ys : List Rec) → last_place n (xs ++ ys) ≡ last_place (last_place n xs) ys
last_place-append n [] ys = refl
last_place-append n (Did place call reply ∷ xs) ys = last_place-append place xs ys
last_place-append n (Saw place ask answer ∷ xs) ys = last_place-append place xs ys

pub last_place-mono : (m n : ℕ) (xs : List Rec) → m ≤ n → last_place m xs ≤ last_place n xs
last_place-mono m n [] h = h
last_place-mono m n (Did place call reply ∷ xs) h = omega arith
last_place-mono m n (Saw place ask answer ∷ xs) h = omega arith

-- ---- looks before it

pub looks_none : (n : ℕ) (looks : List ℕ) → LooksBefore n n looks looks
looks_none n looks = record { busy = []; is = sym (append-nil looks); earlier = All-nil (IsEarlier n n) }

-- more looks, and then more records, which came after all that had been seen
pub looks_on : (p q r : Pass) (from : ℕ) (looks : List ℕ) (more new : List Rec) → from ≤ length p.known.seen → last_place from more ≤ length p.known.seen → Follows p q → length q.known.seen < last_place (length q.known.seen) new → r.known.looks ≡ q.known.looks
    → LooksBefore from (last_place from more) looks p.known.looks → LooksBefore from (last_place from (more ++ new)) looks r.known.looks
looks_on p q r from looks more new low placed f later same l =
    let whole = last_place-append from more new in
    let first : last_place (length q.known.seen) new ≤ last_place (last_place from more) new = over new later in
    let longer = follows_longer p q f in
    let len : length q.known.seen ≡ length f.now = ap (λ (h : Pass). length h.known.seen) f.is in
    record {
      busy = l.busy ++ f.more;
      is = same ∙ ap (λ (h : Pass). h.known.looks) f.is ∙ ap (λ x. x ++ f.more) l.is ∙ append_assoc looks l.busy f.more;
      earlier = All-append (IsEarlier from (last_place from (more ++ new))) l.busy f.more
          (All-weaker (IsEarlier from (last_place from more)) (IsEarlier from (last_place from (more ++ new))) (λ n h. (let a = h.0 in omega arith, let b = h.1 in omega arith)) l.busy l.earlier)
          (All-weaker (IsBetween (length p.known.seen) (length f.now)) (IsEarlier from (last_place from (more ++ new))) (λ n h. (let a = h.0 in omega arith, let b = h.1 in omega arith)) f.more f.between);
    }
  where
    over : (rs : List Rec) → length q.known.seen < last_place (length q.known.seen) rs → last_place (length q.known.seen) rs ≤ last_place (last_place from more) rs
    over [] h = absurd (omega arith)
    over (Did place call reply ∷ rs) h = omega arith
    over (Saw place ask answer ∷ rs) h = omega arith

-- the same from an earlier place on, where the looks were the same
pub looks_from : (m n : ℕ) (more : List Rec) (xs ys zs : List ℕ) → m ≤ n → ys ≡ xs → LooksBefore n (last_place n more) ys zs → LooksBefore m (last_place m more) xs zs
looks_from m n [] xs ys zs le same l =
    record { busy = l.busy; is = l.is ∙ ap (λ x. x ++ l.busy) same; earlier = All-weaker (IsEarlier n n) (IsEarlier m m) (λ k h. absurd (let a = h.0 in let b = h.1 in omega arith)) l.busy l.earlier }
looks_from m n (Did place call reply ∷ more) xs ys zs le same l =
    record { busy = l.busy; is = l.is ∙ ap (λ x. x ++ l.busy) same; earlier = All-weaker (IsEarlier n (last_place place more)) (IsEarlier m (last_place place more)) (λ k h. (let a = h.0 in omega arith, h.1)) l.busy l.earlier }
looks_from m n (Saw place ask answer ∷ more) xs ys zs le same l =
    record { busy = l.busy; is = l.is ∙ ap (λ x. x ++ l.busy) same; earlier = All-weaker (IsEarlier n (last_place place more)) (IsEarlier m (last_place place more)) (λ k h. (let a = h.0 in omega arith, h.1)) l.busy l.earlier }

-- ---- looks that found nothing ready

pub idles_none : (d : Desk) (from : ℕ) (p : Pass) → Idles d 0 from p.known.looks p
idles_none d from p = record { idle = []; is = sym (append-nil p.known.looks); since = All-nil (λ n. from ≤ n); vain = All-nil (IsIdleAt p); patient = inl refl }

still_idle : (p q : Pass) (place : ℕ) → Follows p q → IsIdleAt p place → IsIdleAt q place
still_idle p q place f h =
    let longer = follows_longer p q f in (
      (let le = h.0 in omega arith),
      (λ i. lowest_ready_of (state_at (f.is i).known.setting.plan (f.is i).known.seen place)) ∙ ap (λ (l : List Event). lowest_ready_of (state_at p.known.setting.plan l place)) f.caught.joined
          ∙ ap lowest_ready_of (sym (at_still p.known.setting.plan p.known.seen f.caught.others place h.0)) ∙ h.1,
    )

idle_now : (q : Pass) → lowest_ready_of (state_of q.known) ≡ None → IsIdleAt q (length q.known.seen)
idle_now q none = (omega arith, ap (λ (l : List Event). lowest_ready_of (state_from q.known.setting.plan l)) (take_all q.known.seen) ∙ none)

look_idle : (d : Desk) (q : Pass) (look : List ℕ) → lowest_ready_of (state_of q.known) ≡ None → IsLook d q look → All (IsIdleAt q) look
look_idle d q look none (inl e) = subst (All (IsIdleAt q)) (sym e) (All-cons (IsIdleAt q) (length q.known.seen) [] (idle_now q none) (All-nil (IsIdleAt q)))
look_idle d q look none (inr h) = subst (All (IsIdleAt q)) (sym h.0) (All-nil (IsIdleAt q))

look_since : (d : Desk) (q : Pass) (from : ℕ) (look : List ℕ) → from ≤ length q.known.seen → IsLook d q look → All (λ n. from ≤ n) look
look_since d q from look le (inl e) = subst (All (λ n. from ≤ n)) (sym e) (All-cons (λ n. from ≤ n) (length q.known.seen) [] le (All-nil (λ n. from ≤ n)))
look_since d q from look le (inr h) = subst (All (λ n. from ≤ n)) (sym h.0) (All-nil (λ n. from ≤ n))

-- one look more in vain
once_more : (d : Desk) (n : ℕ) (p q : Pass) (idle look : List ℕ) → length p.known.seen ≤ length q.known.seen → (length idle ≡ n) ⊎ ((d.words ≤ length p.known.seen) × (length idle ≤ n)) → IsLook d q look
    → (length (idle ++ look) ≡ n + 1) ⊎ ((d.words ≤ length q.known.seen) × (length (idle ++ look) ≤ n + 1))
once_more d n p q idle look longer (inl a) (inl e) = inl (let l = ap length e in let s = length-append idle look in omega arith)
once_more d n p q idle look longer (inl a) (inr h) = inr ((let full = h.1 in omega arith), (let l = ap length h.0 in let s = length-append idle look in omega arith))
once_more d n p q idle look longer (inr a) (inl e) = inr ((let full = a.0 in omega arith), (let few = a.1 in let l = ap length e in let s = length-append idle look in omega arith))
once_more d n p q idle look longer (inr a) (inr h) = inr ((let full = a.0 in omega arith), (let few = a.1 in let l = ap length h.0 in let s = length-append idle look in omega arith))

pub idles_more : (d : Desk) (n from : ℕ) (looks : List ℕ) (p q : Pass) → from ≤ length p.known.seen → Follows p q → LooksOnce d p q → lowest_ready_of (state_of q.known) ≡ None → Idles d n from looks p → Idles d (n + 1) from looks q
idles_more d n from looks p q low f l none i =
    let longer = follows_longer p q f in record {
      idle = i.idle ++ l.look;
      is = l.is ∙ ap (λ x. x ++ l.look) i.is ∙ append_assoc looks i.idle l.look;
      since = All-append (λ m. from ≤ m) i.idle l.look i.since (look_since d q from l.look (omega arith) l.last);
      vain = All-append (IsIdleAt q) i.idle l.look (All-weaker (IsIdleAt p) (IsIdleAt q) (λ place h. still_idle p q place f h) i.idle i.vain) (look_idle d q l.look none l.last);
      patient = once_more d n p q i.idle l.look longer i.patient l.last;
    }

-- the same from an earlier place on
pub idles_since : (d : Desk) (n from since : ℕ) (looks : List ℕ) (q : Pass) → since ≤ from → Idles d n from looks q → Idles d n since looks q
idles_since d n from since looks q le i = record { idle = i.idle; is = i.is; since = All-weaker (λ m. from ≤ m) (λ m. since ≤ m) (λ m h. omega arith) i.idle i.since; vain = i.vain; patient = i.patient }
