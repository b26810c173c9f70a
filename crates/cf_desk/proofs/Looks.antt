-- What a pass has looked at.
use Rattle.std.proofs.Common.{◌≡◌, ℕ, ◌+◌, ◌<◌, ◌≤◌, ◌⊎◌, ◌≢◌, inl, inr, ⊎_elim, None, List, [], ◌∷◌, ◌++◌, length, sym, refl, ap, ◌∙◌, subst, append-nil, append_assoc, length-append, arith}
use Rattle.std.specs.List.{All}
use Rattle.std.proofs.lemmas.List.Elements.{All-nil, All-cons, All-append, All-weaker}
use Rattle.cf_model.specs.declared.events.Event.{Event}
use Rattle.cf_model.specs.States.{State, outcome_at}
use Rattle.cf_model.specs.Events.{state_at}
use Rattle.cf_desk.specs.declared.row.CallerView.{CallerView}
use Rattle.cf_desk.specs.Log.{state_from}
use Rattle.cf_desk.specs.Rule.{looked}
use Rattle.cf_desk.specs.Views.{Pass, Desk, Follows, SeesFull, IsLook, LooksOnce, IsUnsettledAt, LooksFor, state_of}
use Rattle.cf_event.proofs.Histories.{at_still, take_all}
use Rattle.cf_desk.proofs.Passes.{follows_longer}

-- one look: it met an empty word, or what was seen fills the log
pub looks_at_next : (d : Desk) (p q r : Pass) → q.known.looks ≡ p.known.looks → r ≡ record q { known = looked q.known } → LooksOnce d p r
looks_at_next d p q r same e = record {
  look = length r.known.seen ∷ [];
  is = ap (λ (h : Pass). h.known.looks) e ∙ (λ i. same i ++ length q.known.seen ∷ []) ∙ ap (λ (h : Pass). p.known.looks ++ length h.known.seen ∷ []) (sym e);
  last = inl refl;
}

pub looks_at_end : (d : Desk) (p q : Pass) → q.known.looks ≡ p.known.looks → SeesFull d q → LooksOnce d p q
looks_at_end d p q same full = record { look = []; is = same ∙ sym (append-nil p.known.looks); last = inr (refl, full) }

-- a look is at one place, or the log is full
one_place : (d : Desk) (p : Pass) (look : List ℕ) → IsLook d p look → (length look ≡ 1) ⊎ ((length look ≡ 0) × SeesFull d p)
one_place d p look (inl e) = inl (ap length e)
one_place d p look (inr h) = inr (ap length h.0, h.1)

pub at_most_one : (d : Desk) (p : Pass) (look : List ℕ) → IsLook d p look → length look ≤ 1
at_most_one d p look h = ⊎_elim (λ (e : length look ≡ 1). let l : length look ≡ 1 = e in omega arith) (λ (e : (length look ≡ 0) × SeesFull d p). let l = e.0 in omega arith) (one_place d p look h)

looks_first : (d : Desk) (stage : ℕ) (p q : Pass) → LooksOnce d p q → LooksFor d stage 1 p q
looks_first d stage p q l = record {
  earlier = [];
  look = l.look;
  is = l.is ∙ ap (λ x. x ++ l.look) (sym (append-nil p.known.looks));
  unsettled = All-nil (IsUnsettledAt q stage);
  last = l.last;
  at_most = (let one = at_most_one d q l.look l.last in omega arith);
  all = λ none. ⊎_elim (λ (e : length l.look ≡ 1). inl (let one : length l.look ≡ 1 = e in omega arith)) (λ (e : (length l.look ≡ 0) × SeesFull d q). inr e.1) (one_place d q l.look l.last);
}

-- a stage that wasn't settled at a place isn't settled there when more was seen
still_unsettled : (q r : Pass) (stage place : ℕ) → Follows q r → IsUnsettledAt q stage place → IsUnsettledAt r stage place
still_unsettled q r stage place f h =
    let longer = follows_longer q r f in (
      (let le = h.0 in omega arith),
      (λ i. outcome_at (state_at (f.is i).known.setting.plan (f.is i).known.seen place) stage) ∙ ap (λ (l : List Event). outcome_at (state_at q.known.setting.plan l place) stage) f.caught.joined
          ∙ ap (λ (s : State). outcome_at s stage) (sym (at_still q.known.setting.plan q.known.seen f.caught.others place h.0)) ∙ h.1,
    )

unsettled_now : (q : Pass) (stage : ℕ) → outcome_at (state_of q.known) stage ≡ None → IsUnsettledAt q stage (length q.known.seen)
unsettled_now q stage none = (omega arith, ap (λ (l : List Event). outcome_at (state_from q.known.setting.plan l) stage) (take_all q.known.seen) ∙ none)

last_unsettled : (d : Desk) (q : Pass) (stage : ℕ) (look : List ℕ) → outcome_at (state_of q.known) stage ≡ None → IsLook d q look → All (IsUnsettledAt q stage) look
last_unsettled d q stage look none (inl e) = subst (All (IsUnsettledAt q stage)) (sym e) (All-cons (IsUnsettledAt q stage) (length q.known.seen) [] (unsettled_now q stage none) (All-nil (IsUnsettledAt q stage)))
last_unsettled d q stage look none (inr h) = subst (All (IsUnsettledAt q stage)) (sym h.0) (All-nil (IsUnsettledAt q stage))

still_full : (d : Desk) (q r : Pass) → Follows q r → length r.known.seen ≤ d.words → SeesFull d q → SeesFull d r
still_full d q r f few full = let longer = follows_longer q r f in omega arith

looks_again : (d : Desk) (stage n : ℕ) (p q r : Pass) → LooksFor d stage n p q → outcome_at (state_of q.known) stage ≡ None → Follows q r → LooksOnce d q r → length r.known.seen ≤ d.words → LooksFor d stage (n + 1) p r
looks_again d stage n p q r l none f m few =
    let all : (length l.earlier + length l.look ≡ n) ⊎ SeesFull d q = l.all none in record {
      earlier = l.earlier ++ l.look;
      look = m.look;
      is = m.is ∙ ap (λ x. x ++ m.look) (l.is ∙ append_assoc p.known.looks l.earlier l.look);
      unsettled = All-weaker (IsUnsettledAt q stage) (IsUnsettledAt r stage) (λ place h. still_unsettled q r stage place f h) (l.earlier ++ l.look)
          (All-append (IsUnsettledAt q stage) l.earlier l.look l.unsettled (last_unsettled d q stage l.look none l.last));
      last = m.last;
      at_most = (let one = at_most_one d r m.look m.last in let so_far = l.at_most in omega (arith, length-append l.earlier l.look));
      all = λ still. ⊎_elim
          (λ (e : length l.earlier + length l.look ≡ n). ⊎_elim (λ (o : length m.look ≡ 1). inl (let a : length l.earlier + length l.look ≡ n = e in let b : length m.look ≡ 1 = o in omega (arith, length-append l.earlier l.look))) (λ (o : (length m.look ≡ 0) × SeesFull d r). inr o.1) (one_place d r m.look m.last))
          (λ (full : SeesFull d q). inr (still_full d q r f few full))
          all;
    }

-- so many looks were made, and each found the stage unsettled
abbrev pub LooksInVain : Desk → ℕ → ℕ → Pass → Pass → Type 0
LooksInVain d stage n p q = ((n ≡ 0) × (q ≡ p)) ⊎ (LooksFor d stage n p q × (outcome_at (state_of q.known) stage ≡ None))

pub looks_more : (d : Desk) (stage n : ℕ) (p q r : Pass) → LooksInVain d stage n p q → Follows q r → LooksOnce d q r → length r.known.seen ≤ d.words → LooksFor d stage (n + 1) p r
looks_more d stage n p q r (inl none) f m few =
    let one : 1 ≡ n + 1 = (let z = none.0 in omega arith) in
    subst (λ (k : ℕ). LooksFor d stage k p r) one (looks_first d stage p r (subst (λ (h : Pass). LooksOnce d h r) none.1 m))
looks_more d stage n p q r (inr l) f m few = looks_again d stage n p q r l.0 l.1 f m few

pub looks_all : (d : Desk) (stage n : ℕ) (p q : Pass) → 0 < n → LooksInVain d stage n p q → LooksFor d stage n p q
looks_all d stage n p q some (inl none) = absurd (let z = none.0 in omega arith)
looks_all d stage n p q some (inr l) = l.0

-- the stage was found settled
pub looks_found : (d : Desk) (stage n m : ℕ) (p q : Pass) → n ≤ m → (outcome_at (state_of q.known) stage ≢ None) → LooksFor d stage n p q → LooksFor d stage m p q
looks_found d stage n m p q le settled l = record {
  earlier = l.earlier;
  look = l.look;
  is = l.is;
  unsettled = l.unsettled;
  last = l.last;
  at_most = (let so_far = l.at_most in omega arith);
  all = λ none. absurd (settled none);
}

-- what a record adds leaves the looks
pub looks_told : (d : Desk) (p q r : Pass) → r.known ≡ q.known → LooksOnce d p q → LooksOnce d p r
looks_told d p q r same l = record {
  look = l.look;
  is = ap (λ (k : CallerView). k.looks) same ∙ l.is;
  last = subst (λ (k : CallerView). (l.look ≡ length k.seen ∷ []) ⊎ ((l.look ≡ []) × (length k.seen ≡ d.words))) (sym same) l.last;
}

pub looked_told : (d : Desk) (stage n : ℕ) (p q r : Pass) → r.known ≡ q.known → LooksFor d stage n p q → LooksFor d stage n p r
looked_told d stage n p q r same l = record {
  earlier = l.earlier;
  look = l.look;
  is = ap (λ (k : CallerView). k.looks) same ∙ l.is;
  unsettled = subst (λ (k : CallerView). All (λ place. (place ≤ length k.seen) × (outcome_at (state_at k.setting.plan k.seen place) stage ≡ None)) l.earlier) (sym same) l.unsettled;
  last = subst (λ (k : CallerView). (l.look ≡ length k.seen ∷ []) ⊎ ((l.look ≡ []) × (length k.seen ≡ d.words))) (sym same) l.last;
  at_most = l.at_most;
  all = subst (λ (k : CallerView). outcome_at (state_of k) stage ≡ None → (length l.earlier + length l.look ≡ n) ⊎ (length k.seen ≡ d.words)) (sym same) l.all;
}
