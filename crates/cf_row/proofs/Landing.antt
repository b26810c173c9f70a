-- A put that stands can be replayed.
use Rattle.std.proofs.Common.{◌≡◌, ℕ, zero, suc, ◌≤◌, List, [], ◌∷◌, length, map, take, ap, sym, ◌∙◌, subst, arith}
use Rattle.std.specs.Prelude.{Some, slice_get}
use Rattle.std.proofs.lemmas.Option.{none-some}
use Rattle.cf_forms.specs.Plans.{Planned}
use Rattle.cf_model.specs.declared.events.Event.{Event}
use Rattle.cf_model.specs.States.{State, start}
use Rattle.cf_model.specs.Events.{answered, state_after}
use Rattle.cf_model.proofs.Histories.{state_after-append}
use Rattle.cf_event.specs.Words.{word_of}
use Rattle.cf_ledger.specs.declared.faults.LedgerFault.{LedgerFault}
use Rattle.cf_ledger.specs.declared.faults.LedgerFault.TheVariants.{NoMemory, NoEvent, NoStage, NoRoom}
use Rattle.cf_row.specs.declared.entry.Entry.{Entry}
use Rattle.cf_row.specs.Rows.{IsMisfit, Replays, Replica, history_of, state_of, words_in}
use Rattle.cf_row.specs.Puts.{IsPutOrNone}
use Rattle.cf_row.proofs.Own.{history_append}
use Rattle.cf_row.proofs.Fitting.{AreFit, fit_state, never_refused, words_fit}

fit_put : (r : Replica) (put : List Entry) → IsPutOrNone r put → AreFit (state_of r) (words_in put)
fit_put r [] h = tt
fit_put r (x ∷ put) h = let one = h (omega arith) in words_fit one.number (state_of r) (words_in (x ∷ put)) one.each

-- the words from a place on are taken as those before it leave the graph
fit_at : (s : State) (put : List Entry) (k : ℕ) (x : Entry) → AreFit s (words_in put) → slice_get put k ≡ Some x → (ws : List ℕ) × AreFit (state_after s (history_of (take k put))) (x.word ∷ ws)
fit_at s [] k x h is = absurd (none-some x is)
fit_at s (y ∷ put) zero x h is = let same : y ≡ x = cc in subst (λ (z : Entry). (ws : List ℕ) × AreFit s (z.word ∷ ws)) same (words_in put, h)
fit_at s (y ∷ put) (suc k) x h is =
    let rest = fit_at ((answered s h.0).1) put k x h.5 is in
    (rest.0, subst (λ (es : List Event). AreFit (state_after s es) (x.word ∷ rest.0)) (sym (fit_state s y.word (words_in (take k put)) h.0 h.1)) rest.1)

state_new : (old new : Replica) (entries : List Entry) → words_in old.seen ≡ map word_of (history_of old.seen) → Replays old entries new → state_of new ≡ state_after (state_of old) (history_of entries)
state_new old new entries named h =
    ap (λ (p : Planned). state_after (start p) (history_of new.seen)) h.plan ∙ ap (λ (l : List Entry). state_after (start old.plan) (history_of l)) h.seen
    ∙ ap (state_after (start old.plan)) (history_append old.seen entries named) ∙ state_after-append (start old.plan) (history_of old.seen) (history_of entries)

misfits_not : (old new : Replica) (put : List Entry) (place : ℕ) (why : LedgerFault) → AreFit (state_of old) (words_in put) → state_of new ≡ state_after (state_of old) (history_of (take place put)) → length put ≤ old.free →
    IsMisfit old put new place why → ⊥
misfits_not old new put place NoMemory fit state enough u = omega (arith, u.1)
misfits_not old new put place NoEvent fit state enough u =
    let f = fit_at (state_of old) put place u.0 fit u.1 in
    never_refused (state_of new) u.0.word f.0 NoEvent (subst (λ (s : State). AreFit s (u.0.word ∷ f.0)) (sym state) f.1) (λ e. cc) u.2
misfits_not old new put place NoStage fit state enough u =
    let f = fit_at (state_of old) put place u.0 fit u.1 in
    never_refused (state_of new) u.0.word f.0 NoStage (subst (λ (s : State). AreFit s (u.0.word ∷ f.0)) (sym state) f.1) (λ e. cc) u.2
misfits_not old new put place NoRoom fit state enough u =
    let f = fit_at (state_of old) put place u.0 fit u.1 in
    never_refused (state_of new) u.0.word f.0 NoRoom (subst (λ (s : State). AreFit s (u.0.word ∷ f.0)) (sym state) f.1) (λ e. cc) u.2

pub never_misfits : (old new : Replica) (put : List Entry) (place : ℕ) (why : LedgerFault) → words_in old.seen ≡ map word_of (history_of old.seen) → IsPutOrNone old put → length put ≤ old.free →
    Replays old (take place put) new → IsMisfit old put new place why → ⊥
never_misfits old new put place why named own enough front u =
    misfits_not old new put place why (fit_put old put own) (state_new old new (take place put) named front) enough u
