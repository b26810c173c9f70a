use Rattle.std.proofs.Common.{◌≡◌, None, ℕ, ◌+◌, ◌++◌, ◌∷◌, [], length, length-append, sym, ap, ◌∙◌, subst, arith}
use Rattle.cf_model.specs.declared.events.Event.{Event}
use Rattle.cf_model.specs.declared.events.Reply.{Reply}
use Rattle.cf_model.specs.States.{State}
use Rattle.cf_model.specs.Events.{answered}
use Rattle.cf_model.specs.Calls.{event_by, who_of}
use Rattle.cf_desk.specs.declared.row.CallerView.{CallerView}
use Rattle.cf_desk.specs.Log.{IsDeskEvent}
use Rattle.cf_desk.specs.Rule.{saw, AddsNext, SeesOther}
use Rattle.cf_desk.specs.declared.calls.Rec.TheVariants.{Did}
use Rattle.cf_event.specs.Decoding.{event_of}
use Rattle.cf_model.specs.Graphs.{Graph}
use Rattle.cf_model.specs.Ranges.{EventFits}
use Rattle.cf_desk.specs.Views.{HasRedone, IsRedone, Pass, known_of, state_of}
use Rattle.cf_desk.proofs.Recs.{own_call}
use Rattle.cf_desk.proofs.Passes.{adds_at, one_known, short_more, agrees_own, on_plan}
use Rattle.cf_desk.proofs.Steps.{HasNext, has_next, if_some, kept_other, added_by_other}
use Rattle.cf_desk.proofs.desk.Desk.add.Goals as goal
use Rattle.cf_desk.proofs.desk.Desk.add.Goals.{After-event_by-event, After-compare_exchange-found, After-push_reserved, Else-is_redone, Then-is_redone}

-- the event is that of the pass's caller
event_is : (c : After-event_by-event) → c.event_by-event.result ≡ event_by (known_of c.p.inside.seat.me.0).caller c.args.call
event_is c = c.event_by-event.ensures ∙ ap (λ (n : ℕ). event_by n c.args.call) c.p.invariant.agrees.caller

of_pass : (c : After-event_by-event) → IsDeskEvent (known_of c.p.inside.seat.me.0).setting (state_of (known_of c.p.inside.seat.me.0)) (event_by (known_of c.p.inside.seat.me.0).caller c.args.call)
of_pass c =
    let known = ap (λ (h : Pass). h.known) c.p.view_is in
    subst (λ (x : CallerView). IsDeskEvent x.setting (state_of x) (event_by x.caller c.args.call)) (sym known) c.requires.event

of_desk : (c : After-event_by-event) → IsDeskEvent (known_of c.p.inside.seat.me.0).setting (state_of (known_of c.p.inside.seat.me.0)) c.event_by-event.result
of_desk c = subst (IsDeskEvent (known_of c.p.inside.seat.me.0).setting (state_of (known_of c.p.inside.seat.me.0))) (sym (event_is c)) (of_pass c)

pub encode-word-requires : goal.encode-word-requires
encode-word-requires c = (of_desk (goal.at.encode-word-requires c).After-event_by-event).event

pub compare_exchange-found-requires : goal.compare_exchange-found-requires
compare_exchange-found-requires c =
    let at = (goal.at.compare_exchange-found-requires c).After-event_by-event in
    let n = has_next _ _ _ _ c.p.invariant c.self.invariant c.p.view_is c.self.view_is c.requires.table c.requires.room in
    let k = known_of c.p.inside.seat.me.0 in (
      n.table,
      n.place,
      adds_at _ _ _ _ k c.p.inside.count c.encode-word.result c.event_by-event.result c.p.invariant.one c.p.invariant.agrees.count n.key c.encode-word.ensures.word (of_desk at) (ap who_of (event_is at) ∙ own_call k.caller c.args.call),
    )

told : (c : After-compare_exchange-found) → AddsNext (known_of c.p.inside.seat.me.0) c.encode-word.result c.compare_exchange-found.result c.compare_exchange-found.new.seat.me.0
told c = c.compare_exchange-found.ensures.2.1 (known_of c.p.inside.seat.me.0) (ap (λ m. m.0) c.p.invariant.one)

next : (c : After-compare_exchange-found) → HasNext c.p.inside c.self.inside
next c = has_next _ _ _ _ c.p.invariant c.self.invariant c.p.view_is c.self.view_is c.requires.table c.requires.room

redone : (c : Then-is_redone) → HasRedone c.compare_exchange-found.result c.p.inside.replica c.is_redone.new.replica
redone c = subst (λ b. IsRedone c.compare_exchange-found.result c.p.inside.replica b c.is_redone.new.replica) c.if-is_redone.true c.is_redone.ensures

lost : (c : Then-is_redone) → SeesOther (known_of c.p.inside.seat.me.0) (redone c).event c.compare_exchange-found.new.seat.me.0
lost c = (told (goal.at.Then-is_redone c).After-compare_exchange-found).lost (redone c).event (redone c).read

idle : (c : Else-is_redone) → (event_of c.compare_exchange-found.result ≡ None) × (c.is_redone.new.replica ≡ c.p.inside.replica)
idle c = subst (λ b. IsRedone c.compare_exchange-found.result c.p.inside.replica b c.is_redone.new.replica) c.if-is_redone.false c.is_redone.ensures

pub overflow_add-p : goal.overflow_add-p
overflow_add-p c = omega (arith, (next (goal.at.overflow_add-p c).After-compare_exchange-found).few)

more : (c : After-push_reserved) → c.push_reserved.new.self.items ≡ c.p.inside.records.items ++ Did (c.p.inside.count + 1) c.args.call c.apply-reply.result ∷ []
more c = c.push_reserved.ensures.items

pub apply-reply-requires : goal.apply-reply-requires
apply-reply-requires c =
    let at = goal.at.apply-reply-requires c in
    subst (λ (g : Graph). EventFits (length g.state.plan.stages) c.event_by-event.result) (sym (idle at.Else-is_redone).1)
    (on_plan (known_of c.p.inside.seat.me.0) _ _ c.p.invariant.agrees.state (of_desk at.After-event_by-event))

pub is_redone-requires : goal.is_redone-requires
is_redone-requires c =
    let t = told (goal.at.is_redone-requires c).After-compare_exchange-found in
    if_some (event_of c.compare_exchange-found.result) _ (λ e is. on_plan (known_of c.p.inside.seat.me.0) _ _ c.p.invariant.agrees.state (t.lost e is).1)

-- a won exchange makes the pass's event the next that it has seen
won : (c : After-push_reserved) → c.compare_exchange-found.new.seat.me.0 ≡ saw (known_of c.p.inside.seat.me.0) (event_by (known_of c.p.inside.seat.me.0).caller c.args.call) ∷ []
won c =
    (told (goal.at.After-push_reserved c).After-compare_exchange-found).won c.event_by-event.result c.encode-word.ensures.back (idle (goal.at.After-push_reserved c).Else-is_redone).0
    ∙ ap (λ (e : Event). saw (known_of c.p.inside.seat.me.0) e ∷ []) (event_is (goal.at.After-push_reserved c).After-event_by-event)

now : (c : After-push_reserved) → (c.apply-reply.result, c.apply-reply.new.g.state) ≡ answered c.p.inside.replica.state (event_by (known_of c.p.inside.seat.me.0).caller c.args.call)
now c =
    let at = goal.at.After-push_reserved c in
    c.apply-reply.ensures.told ∙ ap (λ (g : Graph). answered g.state c.event_by-event.result) (idle at.Else-is_redone).1 ∙ ap (answered c.p.inside.replica.state) (event_is at.After-event_by-event)

pub invariant_of-p-2 : goal.invariant_of-p-2
invariant_of-p-2 c =
    let at = (goal.at.invariant_of-p-2 c).After-compare_exchange-found in
    let won_at = (goal.at.invariant_of-p-2 c).After-push_reserved in
    let i = c.p.invariant in
    let is = won won_at in
    let calls = ap (λ (h : Pass). h.calls) c.p.view_is in
    let did = ap (λ (h : Pass). length h.records) c.p.view_is in
    let longer = ap length (more won_at) in record {
      one = one_known _ _ is (c.compare_exchange-found.ensures.2.0 ∙ ap (λ m. m.1) i.one);
      agrees = agrees_own _ _ _ _ _ _ _ _ _ c.args.call c.apply-reply.result (ap known_of is) (of_pass (goal.at.invariant_of-p-2 c).After-event_by-event) (now won_at) (more won_at) i.agrees;
      room = (let r = i.room in omega (arith, c.push_reserved.ensures.capacity));
      within = omega (arith, length-append c.p.inside.records.items (Did (c.p.inside.count + 1) c.args.call c.apply-reply.result ∷ []));
      short = short_more _ _ _ c.compare_exchange-found.ensures.0 (next at).left;
    }

pub returns : goal.returns
returns c =
    let won_at = (goal.at.returns c).After-push_reserved in
    let k = known_of c.p.inside.seat.me.0 in
    let is = won won_at in
    let a = c.p.invariant.agrees in
    rw (← c.p.view_is) (record {
      is = (λ i. record { table = c.compare_exchange-found.ensures.0 i; known = known_of (is i); records = more won_at i; calls = c.p.inside.calls })
          ∙ ap (λ (n : ℕ). record { table = c.p.inside.seat.table_id; known = saw k (event_by k.caller c.args.call); records = c.p.inside.records.items ++ Did (n + 1) c.args.call c.apply-reply.result ∷ []; calls = c.p.inside.calls }) a.count;
      replied = ap (λ (x : Reply × State). x.0) (now won_at) ∙ ap (λ (s : State). (answered s (event_by k.caller c.args.call)).0) a.state;
    })

pub invariant_of-p : goal.invariant_of-p
invariant_of-p c =
    let at = goal.at.invariant_of-p c in
    let r = redone at.Then-is_redone in
    kept_other _ _ _ r.event c.p.invariant (next at.After-compare_exchange-found).left c.compare_exchange-found.ensures.0 c.compare_exchange-found.ensures.2.0 (lost at.Then-is_redone) r.done

pub returns-then-is_redone : goal.returns-then-is_redone
returns-then-is_redone c =
    let at = (goal.at.returns-then-is_redone c).Then-is_redone in
    rw (← c.p.view_is) (added_by_other c.p.inside c.compare_exchange-found.new.seat (redone at).event c.compare_exchange-found.ensures.0 (lost at))
