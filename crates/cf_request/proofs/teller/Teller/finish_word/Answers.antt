use Rattle.std.proofs.Common.{◌≡◌, ◌-◌, ◌∙◌, ℕ, Contains, ap, refl, subst, sym, vec_capacity}
use Rattle.cf_ledger.specs.Ledgers.{stages_of, state_of}
use Rattle.cf_ledger.proofs.Words.{all_states}
use Rattle.cf_model.specs.declared.events.Event.TheVariants.{Finish as Finishes}
use Rattle.cf_model.specs.declared.events.Reply.TheVariants.{Finish as Told}
use Rattle.cf_request.specs.Ready.{AreFitBut, HasLanes, ReadySets, lanes_of, with_lane}
use Rattle.cf_request.specs.Telling.{IsKept, Teller, TellsWord}
use Rattle.cf_request.proofs.Sets.{fit_state, lanes_in, lanes_kept, lanes_seen, left_by, sets_stay}
use Rattle.cf_request.proofs.Telling.{kept_note, news_fit, news_room, tells_note, view_of}
use Rattle.cf_request.proofs.teller.Teller.finish_word.Goals as goal

pub note-requires-clause-there : goal.note-requires-clause-there
note-requires-clause-there c =
    news_fit c.self.inside.ledger c.finish.new.self c.args.word (c.len-place.result - 1) (Told c.in_ok-told.told) c.news-changed.result.now c.in_ok-told.ensures.done (ap (λ (n : ℕ). n - 1) c.len-place.ensures) c.news-changed.ensures
    (all_states c.self.inside.ledger.plan c.self.inside.ledger.events) (all_states c.finish.new.self.plan c.finish.new.self.events)

pub note-requires-clause-room : goal.note-requires-clause-room
note-requires-clause-room c =
    let t = c.self.inside in
    news_room t.ledger c.finish.new.self c.args.word (c.len-place.result - 1) (Told c.in_ok-told.told) t.order.items c.news-changed.result.now (vec_capacity t.order) t.count
    c.self.invariant.0 c.in_ok-told.ensures.done (ap (λ (n : ℕ). n - 1) c.len-place.ensures) c.news-changed.ensures (all_states c.finish.new.self.plan c.finish.new.self.events)

pub note-requires-clause-lanes : goal.note-requires-clause-lanes
note-requires-clause-lanes c =
    lanes_kept (Finishes c.args.who c.args.stage c.args.answer) c.self.inside.ledger c.finish.new.self c.args.word (Told c.in_ok-told.told) c.self.inside.lanes c.requires.read refl c.in_ok-told.ensures.done c.self.invariant.1

pub note-requires-clause-rest : goal.note-requires-clause-rest
note-requires-clause-rest c =
    let t = c.self.inside in
    let size = lanes_kept (Finishes c.args.who c.args.stage c.args.answer) t.ledger c.finish.new.self c.args.word (Told c.in_ok-told.told) t.lanes c.requires.read refl c.in_ok-told.ensures.done c.self.invariant.1 in
    subst (AreFitBut (Contains c.news-changed.result.now) (state_of c.finish.new.self).stages) (sym (sets_stay (stages_of c.finish.new.self) 0 t.lanes size))
    (left_by t.ledger c.finish.new.self c.args.word (c.len-place.result - 1) (stages_of c.finish.new.self) 0 (Told c.in_ok-told.told) c.news-changed.result.now t.lanes
    c.in_ok-told.ensures.done (ap (λ (n : ℕ). n - 1) c.len-place.ensures) c.news-changed.ensures (all_states c.self.inside.ledger.plan c.self.inside.ledger.events) c.self.invariant.1)

stays : (c : goal.After-note) (lane : ℕ) → c.self.inside.lanes ≡ (record c.self.inside.lanes { of = lanes_of (stages_of c.finish.new.self) lane c.self.inside.lanes.of })
stays c lane =
    let t = c.self.inside in
    sets_stay (stages_of c.finish.new.self) lane t.lanes
    (lanes_kept (Finishes c.args.who c.args.stage c.args.answer) t.ledger c.finish.new.self c.args.word (Told c.in_ok-told.told) t.lanes c.requires.read refl c.in_ok-told.ensures.done c.self.invariant.1)

-- the lanes once all is written
written : (c : goal.After-note) (lane : ℕ) → c.note.new.sets ≡ record c.self.inside.lanes { of = lanes_of (stages_of c.finish.new.self) lane c.self.inside.lanes.of; sets = c.note.new.sets.sets }
written c lane = c.note.ensures.same ∙ ap (λ (r : ReadySets). let x : ReadySets = record r { sets = c.note.new.sets.sets } in x) (stays c lane)

seen : (c : goal.After-note) (lane : ℕ) → lanes_in c.note.new.sets ≡ with_lane (stages_of c.finish.new.self) lane (lanes_in c.self.inside.lanes)
seen c lane = lanes_seen c.self.inside.lanes c.note.new.sets (stages_of c.finish.new.self) (stages_of c.finish.new.self) lane (written c lane) c.note.ensures.count refl

pub invariant_of-self-2 : goal.invariant_of-self-2
invariant_of-self-2 c =
    let t = c.self.inside in (
      subst (λ (places : ℕ). IsKept c.finish.new.self c.note.new.order.items places t.count) (sym c.note.ensures.room)
          (kept_note t.ledger c.finish.new.self c.args.word (c.len-place.result - 1) (Told c.in_ok-told.told) t.order.items c.note.new.order.items c.news-changed.result.now (vec_capacity t.order) t.count
          c.self.invariant.0 c.in_ok-told.ensures.done (ap (λ (n : ℕ). n - 1) c.len-place.ensures) c.news-changed.ensures c.note.ensures.noted),
      fit_state t.ledger c.finish.new.self c.args.word (stages_of c.finish.new.self) 0 (Told c.in_ok-told.told) t.lanes c.note.new.sets c.in_ok-told.ensures.done refl c.self.invariant.1 (written c 0) c.note.ensures.fit,
    )

pub returns-clause-done : goal.returns-clause-done
returns-clause-done c lane =
    let t = c.self.inside in
    subst (λ (x : Teller). TellsWord lane c.args.word x (Told c.in_ok-told.told) (view_of c.finish.new.self c.note.new.order.items t.count (lanes_in c.note.new.sets))) c.self.view_is
    (record {
      tells = tells_note t.ledger c.finish.new.self c.args.word (c.len-place.result - 1) (Told c.in_ok-told.told) t.order.items c.note.new.order.items c.news-changed.result.now (vec_capacity t.order) t.count (lanes_in t.lanes) (lanes_in c.note.new.sets)
          c.self.invariant.0 c.in_ok-told.ensures.done (ap (λ (n : ℕ). n - 1) c.len-place.ensures) c.news-changed.ensures c.note.ensures.noted;
      lanes = seen c lane;
    })

pub returns-clause-all : goal.returns-clause-all
returns-clause-all c = subst (λ (x : Teller). HasLanes (state_of x.ledger) x.lanes.of) c.self.view_is c.self.invariant.1.all
