-- What callers were told stays one history where reads are left out.
use Rattle.std.proofs.Common.{◌≡◌, ℕ, ◌≤◌, List, [], ◌∷◌, inl, inr, length, ap, arith, sym, ◌∙◌, subst}
use Rattle.std.specs.Prelude.{Contains}
use Rattle.std.specs.List.{All}
use Rattle.std.proofs.lemmas.List.Elements.{All-nil, All-cons, All-head, All-tail}
use Rattle.cf_forms.specs.Plans.{Planned}
use Rattle.cf_model.specs.declared.events.Event.{Event}
use Rattle.cf_model.specs.Calls.{who_of}
use Rattle.cf_model.specs.States.{start}
use Rattle.cf_event.specs.declared.record.Record.{Record}
use Rattle.cf_event.specs.declared.record.Record.TheVariants.{Did, Saw}
use Rattle.cf_event.specs.Events.{AreEventsOf}
use Rattle.cf_event.specs.Histories.{AreRecordsOf, AreRecordsOfOne, InOrder, IsAnswered, dids, numbers_of}
use Rattle.cf_explore_laws.specs.Reads.{AreButReads, AreCallersBut}
use Rattle.cf_explore_laws.specs.Laws.{ReadsMayBeLeftOut}

but-dids : (fewer records : List Record) → AreButReads fewer records → dids fewer ≡ dids records
but-dids fewer [] h = ap dids h
but-dids fewer (Did place event reply ∷ records) h = ap dids h.1 ∙ ap (λ l. (place, event) ∷ l) (but-dids h.0 records h.2)
but-dids fewer (Saw place ask answer ∷ records) (inl h) = but-dids fewer records h
but-dids fewer (Saw place ask answer ∷ records) (inr h) = ap dids h.1 ∙ but-dids h.0 records h.2

but-all : (P : Record → Type 0) (fewer records : List Record) → AreButReads fewer records → All P records → All P fewer
but-all P fewer [] h all = subst (All P) (sym h) (All-nil P)
but-all P fewer (Did place event reply ∷ records) h all =
    let r : Record = Did place event reply in
    subst (All P) (sym h.1) (All-cons P r h.0 (All-head P r records all) (but-all P h.0 records h.2 (All-tail P r records all)))
but-all P fewer (Saw place ask answer ∷ records) (inl h) all = but-all P fewer records h (All-tail P (Saw place ask answer) records all)
but-all P fewer (Saw place ask answer ∷ records) (inr h) all =
    let r : Record = Saw place ask answer in
    subst (All P) (sym h.1) (All-cons P r h.0 (All-head P r records all) (but-all P h.0 records h.2 (All-tail P r records all)))

order-from : (a b : ℕ) (records : List Record) → a ≤ b → InOrder b records → InOrder a records
order-from a b [] le h = tt
order-from a b (Did place event reply ∷ records) le h = ((let l = h.0 in omega arith), h.1)
order-from a b (Saw place ask answer ∷ records) le h = ((let l = h.0 in omega arith), h.1)

but-order : (last : ℕ) (fewer records : List Record) → AreButReads fewer records → InOrder last records → InOrder last fewer
but-order last fewer [] h order = subst (InOrder last) (sym h) tt
but-order last fewer (Did place event reply ∷ records) h order = subst (InOrder last) (sym h.1) (order.0, but-order place h.0 records h.2 order.1)
but-order last fewer (Saw place ask answer ∷ records) (inl h) order = but-order last fewer records h (order-from last place records order.0 order.1)
but-order last fewer (Saw place ask answer ∷ records) (inr h) order = subst (InOrder last) (sym h.1) (order.0, but-order place h.0 records h.2 order.1)

but-each : (plan : Planned) (history : List Event) (fewer callers : List (ℕ × List Record)) → AreCallersBut fewer callers → All (AreRecordsOfOne plan history) callers → All (AreRecordsOfOne plan history) fewer
but-each plan history fewer [] h all = subst (All (AreRecordsOfOne plan history)) (sym h) (All-nil (AreRecordsOfOne plan history))
but-each plan history fewer (k ∷ callers) h all =
    let P = AreRecordsOfOne plan history in
    let one : AreRecordsOf plan k.0 history k.1 = All-head P k callers all in
    let less : AreRecordsOf plan k.0 history h.0 = record {
      did = but-dids h.0 k.1 h.3 ∙ one.did;
      answers = but-all (IsAnswered plan history) h.0 k.1 h.3 one.answers;
      order = but-order 0 h.0 k.1 h.3 one.order;
    } in
    subst (All P) (sym h.2) (All-cons P (k.0, h.0) h.1 less (but-each plan history h.1 callers h.4 (All-tail P k callers all)))

but-numbers : (fewer callers : List (ℕ × List Record)) → AreCallersBut fewer callers → numbers_of fewer ≡ numbers_of callers
but-numbers fewer [] h = ap numbers_of h
but-numbers fewer (k ∷ callers) h = ap numbers_of h.2 ∙ ap (λ (l : List ℕ). k.0 ∷ l) (but-numbers h.1 callers h.4)

but-length : (fewer callers : List (ℕ × List Record)) → AreCallersBut fewer callers → length fewer ≡ length callers
but-length fewer [] h = ap length h
but-length fewer (k ∷ callers) h = (let rest = but-length h.1 callers h.4 in let all = ap length h.2 in omega arith)

pub reads_may_be_left_out : ReadsMayBeLeftOut
reads_may_be_left_out plan functions history callers fewer one h = record {
  taken = subst (λ (n : ℕ). AreEventsOf n functions (start plan) history) (sym (but-length fewer callers h)) one.taken;
  each = but-each plan history fewer callers h one.each;
  no_other = subst (λ (ns : List ℕ). All (λ e. Contains ns (who_of e)) history) (sym (but-numbers fewer callers h)) one.no_other;
}
