use Rattle.std.proofs.Common.{◌≡◌, ◌-◌, ◌∙◌, ℕ, Contains, ap, length, refl, subst, sym, vec_capacity}
use Rattle.cf_ledger.specs.Ledgers.{stages_of, state_of}
use Rattle.cf_ledger.proofs.Words.{all_states}
use Rattle.cf_request.specs.Ready.{AreFitBut, HasLanes, IsLane, ReadySets, lanes_of, with_lane}
use Rattle.cf_request.specs.Telling.{IsKept, Teller, TellsWord}
use Rattle.cf_request.proofs.Sets.{fit_state, lanes_in, lanes_reached, lanes_seen, left_by, place_told, sets_told}
use Rattle.cf_request.proofs.Telling.{kept_note, news_fit, news_room, tells_note, view_of}
use Rattle.cf_request.proofs.teller.Teller.apply.Goals as goal

pub note-requires-clause-there : goal.note-requires-clause-there
note-requires-clause-there c =
    news_fit c.self.inside.ledger c.apply_other.new.self c.args.word (c.len-place.result - 1) c.in_ok-reply.reply c.news-news.result.now c.in_ok-reply.ensures.done (ap (λ (n : ℕ). n - 1) c.len-place.ensures) c.news-news.ensures
    (all_states c.self.inside.ledger.plan c.self.inside.ledger.events) (all_states c.apply_other.new.self.plan c.apply_other.new.self.events)

pub note-requires-clause-room : goal.note-requires-clause-room
note-requires-clause-room c =
    let t = c.self.inside in
    news_room t.ledger c.apply_other.new.self c.args.word (c.len-place.result - 1) c.in_ok-reply.reply t.order.items c.news-news.result.now (vec_capacity t.order) t.count
    c.self.invariant.0 c.in_ok-reply.ensures.done (ap (λ (n : ℕ). n - 1) c.len-place.ensures) c.news-news.ensures (all_states c.apply_other.new.self.plan c.apply_other.new.self.events)

pub add-requires-clause-lane : goal.add-requires-clause-lane
add-requires-clause-lane c = subst (λ (x : Teller). IsLane c.args.lane x.lanes.count) (sym c.self.view_is) c.requires

pub add-requires-clause-room : goal.add-requires-clause-room
add-requires-clause-room c =
    place_told c.self.inside.ledger c.apply_other.new.self c.args.word c.in_ok-reply.reply c.answers_attach-attached.result c.self.inside.lanes c.answers_attach-attached.ensures c.in_ok-reply.ensures.done c.self.invariant.1

pub note-requires-clause-lanes : goal.note-requires-clause-lanes
note-requires-clause-lanes c =
    let t = c.self.inside in
    subst (λ (r : ReadySets). HasLanes (state_of c.apply_other.new.self) r.of) (sym (c.add.ensures ∙ sets_told t.ledger c.apply_other.new.self c.args.word c.args.lane c.in_ok-reply.reply c.answers_attach-attached.result t.lanes c.answers_attach-attached.ensures c.in_ok-reply.ensures.done c.self.invariant.1))
    (lanes_reached t.ledger c.apply_other.new.self c.args.word (stages_of c.apply_other.new.self) c.args.lane c.in_ok-reply.reply t.lanes c.in_ok-reply.ensures.done refl c.self.invariant.1)

pub note-requires-clause-rest : goal.note-requires-clause-rest
note-requires-clause-rest c =
    let t = c.self.inside in
    subst (λ (r : ReadySets). AreFitBut (Contains c.news-news.result.now) (state_of c.apply_other.new.self).stages r) (sym (c.add.ensures ∙ sets_told t.ledger c.apply_other.new.self c.args.word c.args.lane c.in_ok-reply.reply c.answers_attach-attached.result t.lanes c.answers_attach-attached.ensures c.in_ok-reply.ensures.done c.self.invariant.1))
    (left_by t.ledger c.apply_other.new.self c.args.word (c.len-place.result - 1) (stages_of c.apply_other.new.self) c.args.lane c.in_ok-reply.reply c.news-news.result.now t.lanes
    c.in_ok-reply.ensures.done (ap (λ (n : ℕ). n - 1) c.len-place.ensures) c.news-news.ensures (all_states c.self.inside.ledger.plan c.self.inside.ledger.events) c.self.invariant.1)

-- the lanes once all is written
written : (c : goal.After-note) → c.note.new.sets ≡ record c.self.inside.lanes { of = lanes_of (stages_of c.apply_other.new.self) c.args.lane c.self.inside.lanes.of; sets = c.note.new.sets.sets }
written c =
    let t = c.self.inside in
    c.note.ensures.same ∙ ap (λ (r : ReadySets). let x : ReadySets = record r { sets = c.note.new.sets.sets } in x) (c.add.ensures ∙ sets_told t.ledger c.apply_other.new.self c.args.word c.args.lane c.in_ok-reply.reply c.answers_attach-attached.result t.lanes c.answers_attach-attached.ensures c.in_ok-reply.ensures.done c.self.invariant.1)

seen : (c : goal.After-note) → lanes_in c.note.new.sets ≡ with_lane (stages_of c.apply_other.new.self) c.args.lane (lanes_in c.self.inside.lanes)
seen c =
    let t = c.self.inside in
    lanes_seen t.lanes c.note.new.sets (stages_of c.apply_other.new.self) (stages_of c.apply_other.new.self) c.args.lane (written c) (c.note.ensures.count ∙ ap (λ (r : ReadySets). length r.sets) c.add.ensures) refl

pub invariant_of-self-2 : goal.invariant_of-self-2
invariant_of-self-2 c =
    let t = c.self.inside in (
      subst (λ (places : ℕ). IsKept c.apply_other.new.self c.note.new.order.items places t.count) (sym c.note.ensures.room)
          (kept_note t.ledger c.apply_other.new.self c.args.word (c.len-place.result - 1) c.in_ok-reply.reply t.order.items c.note.new.order.items c.news-news.result.now (vec_capacity t.order) t.count
          c.self.invariant.0 c.in_ok-reply.ensures.done (ap (λ (n : ℕ). n - 1) c.len-place.ensures) c.news-news.ensures c.note.ensures.noted),
      fit_state t.ledger c.apply_other.new.self c.args.word (stages_of c.apply_other.new.self) c.args.lane c.in_ok-reply.reply t.lanes c.note.new.sets c.in_ok-reply.ensures.done refl c.self.invariant.1 (written c) c.note.ensures.fit,
    )

pub returns-clause-done : goal.returns-clause-done
returns-clause-done c =
    let t = c.self.inside in
    subst (λ (x : Teller). TellsWord c.args.lane c.args.word x c.in_ok-reply.reply (view_of c.apply_other.new.self c.note.new.order.items t.count (lanes_in c.note.new.sets))) c.self.view_is
    (record {
      tells = tells_note t.ledger c.apply_other.new.self c.args.word (c.len-place.result - 1) c.in_ok-reply.reply t.order.items c.note.new.order.items c.news-news.result.now (vec_capacity t.order) t.count (lanes_in t.lanes) (lanes_in c.note.new.sets)
          c.self.invariant.0 c.in_ok-reply.ensures.done (ap (λ (n : ℕ). n - 1) c.len-place.ensures) c.news-news.ensures c.note.ensures.noted;
      lanes = seen c;
    })

pub returns-clause-all : goal.returns-clause-all
returns-clause-all c = subst (λ (x : Teller). HasLanes (state_of x.ledger) x.lanes.of) c.self.view_is c.self.invariant.1.all
