-- Words that a graph takes one after another.
use Rattle.std.proofs.Common.{◌≡◌, ℕ, zero, suc, ◌+◌, ◌-◌, ◌<◌, ◌≤◌, Bool, List, [], ◌∷◌, ◌++◌, length, length-append, drop, get_or, All, refl, ap, sym, ◌∙◌, subst, arith}
use Rattle.std.specs.Prelude.{Option, Some, None, ◌≢◌}
use Rattle.std.proofs.lemmas.List.{drop_more}
use Rattle.std.proofs.lemmas.List.Elements.{All-nil, All-cons}
use Rattle.cf_forms.specs.Plans.{Planned, PlannedStage, attached_stage}
use Rattle.cf_model.specs.declared.events.Event.{Event}
use Rattle.cf_model.specs.declared.events.Event.TheVariants.{Complete as Completes, Fail as Fails, FailAs as FailsAs, Cancel as Cancels, Claim as Claims, Finish as Finishes, Tick as Ticks, Attach as Attaches}
use Rattle.cf_model.specs.States.{State}
use Rattle.cf_model.specs.Events.{answered, attached_by as attached_as, state_after}
use Rattle.cf_model.specs.Ranges.{EventFits}
use Rattle.cf_model.proofs.Shape.{answered-shape}
use Rattle.cf_event.specs.Words.{IsEvent, word_of}
use Rattle.cf_event.specs.Decoding.{decoded, decoded_with, event_of}
use Rattle.std.specs.Bool.{OnFalse, OnTrue}
use Rattle.cf_ledger.specs.Ledgers.{AreTaken, HasRoomFor, IsTaken, Ledger, LedgerRefuses, roomier, state_of as ledger_state}
use Rattle.cf_ledger.specs.declared.faults.LedgerFault.{LedgerFault}
use Rattle.cf_ledger.specs.declared.faults.LedgerFault.TheVariants.{NoMemory, NoEvent, NoStage, NoRoom}
use Rattle.cf_ledger.proofs.Growth.{answered_more}
use Rattle.cf_row.specs.Rows.{Replica, ledger_of, stages_of}
use Rattle.cf_row.specs.Puts.{AreWordsBehind, AreWordsFor, IsWordFor, attached_by, who_at, who_by}

-- each word is that of an event which the graph takes as those before it leave it
abbrev pub AreFit : State → List ℕ → Type 0
AreFit s [] = Unit {0}
AreFit s (w ∷ ws) = (e : Event) × (event_of w ≡ Some e) × (word_of e ≡ w) × IsEvent e × IsTaken s e × AreFit ((answered s e).1) ws

-- ---- by how many stages there are

room_for : (s : State) (e : Event) → attached_by (Some e) ≤ s.plan.room → HasRoomFor s e
room_for s (Completes who i v) le = tt
room_for s (Fails who i code) le = tt
room_for s (FailsAs who i failure) le = tt
room_for s (Cancels who i) le = tt
room_for s (Claims who i) le = tt
room_for s (Finishes who i answer) le = tt
room_for s (Ticks who now) le = tt
room_for s (Attaches who form of function) le = omega arith

-- how many stages there are, and how many may still be attached, once an event is done
abbrev pub Counts : State → Event → Type 0
Counts s e = let t = (answered s e).1 in
    (length t.plan.stages ≡ length s.plan.stages + attached_by (Some e)) × (t.plan.room ≡ s.plan.room - attached_by (Some e))

attached_counts : (x : ℕ) (s : State) (new : PlannedStage) → s.plan.room ≡ x → 0 < x → let t = (attached_as x s new).1 in
    (length t.plan.stages ≡ length s.plan.stages + 1) × (t.plan.room ≡ s.plan.room - 1)
attached_counts zero s new is l = absurd (omega arith)
attached_counts (suc room) s new is l = (length-append s.plan.stages (new ∷ []), refl)

same_counts : (s t : State) → t.plan ≡ s.plan → (length t.plan.stages ≡ length s.plan.stages + 0) × (t.plan.room ≡ s.plan.room - 0)
same_counts s t is =
    let stages = ap (λ (p : Planned). length p.stages) is in
    let room = ap (λ (p : Planned). p.room) is in
    (omega (arith, stages), omega (arith, room))

counts : (s : State) (e : Event) → HasRoomFor s e → Counts s e
counts s (Completes who i v) room = same_counts s ((answered s (Completes who i v)).1) (answered-shape s (Completes who i v) refl).plan
counts s (Fails who i code) room = same_counts s ((answered s (Fails who i code)).1) (answered-shape s (Fails who i code) refl).plan
counts s (FailsAs who i failure) room = same_counts s ((answered s (FailsAs who i failure)).1) (answered-shape s (FailsAs who i failure) refl).plan
counts s (Cancels who i) room = same_counts s ((answered s (Cancels who i)).1) (answered-shape s (Cancels who i) refl).plan
counts s (Claims who i) room = same_counts s ((answered s (Claims who i)).1) (answered-shape s (Claims who i) refl).plan
counts s (Finishes who i answer) room = same_counts s ((answered s (Finishes who i answer)).1) (answered-shape s (Finishes who i answer) refl).plan
counts s (Ticks who now) room = same_counts s ((answered s (Ticks who now)).1) (answered-shape s (Ticks who now) refl).plan
counts s (Attaches who form of function) room = attached_counts s.plan.room s (attached_stage form of function) refl room

pub words_fit : (who : ℕ) (s : State) (ws : List ℕ) → AreWordsFor who (length s.plan.stages) s.plan.room ws → AreFit s ws
words_fit who s [] h = tt
words_fit who s (w ∷ ws) h =
    let e = h.0.event in
    let t = (answered s e).1 in
    let many : attached_by (event_of w) ≡ attached_by (Some e) = ap attached_by h.0.read in
    let le = h.0.left in
    let room : HasRoomFor s e = room_for s e (omega (arith, many, le)) in
    let now = counts s e room in
    let a = now.0 in
    let b = now.1 in
    let stages : length s.plan.stages + attached_by (event_of w) ≡ length t.plan.stages = omega (arith, many, a) in
    let left : s.plan.room - attached_by (event_of w) ≡ t.plan.room = omega (arith, many, b) in
    let next : AreWordsFor who (length t.plan.stages) t.plan.room ws =
    subst (λ (n : ℕ). AreWordsFor who (length t.plan.stages) n ws) left
    (subst (λ (n : ℕ). AreWordsFor who n (s.plan.room - attached_by (event_of w)) ws) stages h.1) in
    (e, h.0.read, h.0.named, h.0.is, record { fits = h.0.fits; room = room }, words_fit who t ws next)

pub words_who : (who stages room : ℕ) (ws : List ℕ) → AreWordsFor who stages room ws → All (λ (w : ℕ). who_at w ≡ who) ws
words_who who stages room [] h = All-nil (λ (w : ℕ). who_at w ≡ who)
words_who who stages room (w ∷ ws) h =
    All-cons (λ (v : ℕ). who_at v ≡ who) w ws (ap who_by h.0.read ∙ h.0.mine) (words_who who (stages + attached_by (event_of w)) (room - attached_by (event_of w)) ws h.1)

-- ---- where there is more room

room_more : (more : ℕ) (s : State) (e : Event) → HasRoomFor s e → HasRoomFor (roomier more s) e
room_more more s (Completes who i v) h = tt
room_more more s (Fails who i code) h = tt
room_more more s (FailsAs who i failure) h = tt
room_more more s (Cancels who i) h = tt
room_more more s (Claims who i) h = tt
room_more more s (Finishes who i answer) h = tt
room_more more s (Ticks who now) h = tt
room_more more s (Attaches who form of function) h = omega arith

pub fit_lift : (more : ℕ) (s : State) (ws : List ℕ) → AreFit s ws → AreFit (roomier more s) ws
fit_lift more s [] h = tt
fit_lift more s (w ∷ ws) h =
    let e = h.0 in
    let taken = h.4 in (
      e,
      h.1,
      h.2,
      h.3,
      record { fits = taken.fits; room = room_more more s e taken.room },
      subst (λ (t : State). AreFit t ws) (sym (ap (λ p. p.1) (answered_more more s e taken.room))) (fit_lift more ((answered s e).1) ws h.5),
    )

-- ---- what follows for their events

pub fit_state : (s : State) (w : ℕ) (ws : List ℕ) (e : Event) → event_of w ≡ Some e → decoded (w ∷ ws) ≡ e ∷ decoded ws
fit_state s w ws e is = ap (λ (o : Option Event). decoded_with o (decoded ws)) is

pub fit_append : (s : State) (ws vs : List ℕ) → AreFit s ws → AreFit (state_after s (decoded ws)) vs → AreFit s (ws ++ vs)
fit_append s [] vs h g = g
fit_append s (w ∷ ws) vs h g =
    (h.0, h.1, h.2, h.3, h.4, fit_append ((answered s h.0).1) ws vs h.5 (subst (λ (o : Option Event). AreFit (state_after s (decoded_with o (decoded ws))) vs) h.1 g))

pub fit_taken : (s : State) (ws : List ℕ) → AreFit s ws → AreTaken s (decoded ws)
fit_taken s [] h = tt
fit_taken s (w ∷ ws) h = subst (AreTaken s) (sym (fit_state s w ws h.0 h.1)) (h.4, fit_taken ((answered s h.0).1) ws h.5)

-- a word that the graph takes isn't refused
pub never_refused : (s : State) (w : ℕ) (ws : List ℕ) (why : LedgerFault) → AreFit s (w ∷ ws) → why ≢ NoMemory → LedgerRefuses s w why → ⊥
never_refused s w ws NoMemory h other u = other refl
never_refused s w ws NoEvent h other u = (let none : Some h.0 ≡ None = sym h.1 ∙ u in cc)
never_refused s w ws NoStage h other u =
    let same : u.0 ≡ h.0 = (let both : Some u.0 ≡ Some h.0 = sym u.1 ∙ h.1 in cc) in
    u.2 (subst (λ (e : Event). EventFits (length s.plan.stages) e) (sym same) h.4.fits)
never_refused s w ws NoRoom h other u =
    let same : u.0 ≡ h.0 = (let both : Some u.0 ≡ Some h.0 = sym u.1 ∙ h.1 in cc) in
    u.3 (subst (λ (e : Event). HasRoomFor s e) (sym same) h.4.room)

-- ---- words looked at one after another

-- what is left of them, once one more is looked at
pub rest_more : (who there left there2 left2 k more : ℕ) (words : List ℕ) → k < length words → more ≡ attached_by (event_of (get_or words k 0)) → there2 ≡ there + more → left2 ≡ left - more →
    AreWordsFor who there left (drop k words) → AreWordsFor who there2 left2 (drop (k + 1) words)
rest_more who there left there2 left2 k more words l is up down h =
    let w = get_or words k 0 in
    let both : AreWordsFor who there left (w ∷ drop (k + 1) words) = subst (AreWordsFor who there left) (drop_more words k 0 l) h in
    subst (λ (n : ℕ). AreWordsFor who n left2 (drop (k + 1) words)) (sym (up ∙ ap (λ (m : ℕ). there + m) is))
    (subst (λ (n : ℕ). AreWordsFor who (there + attached_by (event_of w)) n (drop (k + 1) words)) (sym (down ∙ ap (λ (m : ℕ). left - m) is)) both.1)

pub all_more : (who there left there2 left2 k more : ℕ) (words : List ℕ) → k < length words → IsWordFor who there left (get_or words k 0) → more ≡ attached_by (event_of (get_or words k 0)) → there2 ≡ there + more → left2 ≡ left - more →
    AreWordsFor who there2 left2 (drop (k + 1) words) → AreWordsFor who there left (drop k words)
all_more who there left there2 left2 k more words l one is up down h =
    let w = get_or words k 0 in
    subst (AreWordsFor who there left) (sym (drop_more words k 0 l)) (
      one,
      subst (λ (n : ℕ). AreWordsFor who n (left - attached_by (event_of w)) (drop (k + 1) words)) (up ∙ ap (λ (m : ℕ). there + m) is)
          (subst (λ (n : ℕ). AreWordsFor who there2 n (drop (k + 1) words)) (down ∙ ap (λ (m : ℕ). left - m) is) h),
    )

-- ---- by what the code's steps say

pub behind_by : (b : Bool) (r : Replica) (l : Ledger) (who stages room : ℕ) (words : List ℕ) → l ≡ ledger_of r → stages ≡ length (ledger_state l).plan.stages → room ≡ (ledger_state l).plan.room →
    OnTrue b (AreWordsFor who stages room words) → OnTrue b (AreWordsBehind r who words)
behind_by b r l who stages room words is many left h =
    subst (λ (n : ℕ). OnTrue b (AreWordsFor who (stages_of r) n words)) (left ∙ ap (λ (k : Ledger). (ledger_state k).plan.room) is)
    (subst (λ (n : ℕ). OnTrue b (AreWordsFor who n room words)) (many ∙ ap (λ (k : Ledger). length (ledger_state k).plan.stages) is) h)

pub not_behind_by : (b : Bool) (r : Replica) (l : Ledger) (who stages room : ℕ) (words : List ℕ) → l ≡ ledger_of r → stages ≡ length (ledger_state l).plan.stages → room ≡ (ledger_state l).plan.room →
    OnFalse b (¬ AreWordsFor who stages room words) → OnFalse b (¬ AreWordsBehind r who words)
not_behind_by b r l who stages room words is many left h =
    subst (λ (n : ℕ). OnFalse b (¬ AreWordsFor who (stages_of r) n words)) (left ∙ ap (λ (k : Ledger). (ledger_state k).plan.room) is)
    (subst (λ (n : ℕ). OnFalse b (¬ AreWordsFor who n room words)) (many ∙ ap (λ (k : Ledger). length (ledger_state k).plan.stages) is) h)
