use Rattle.std.proofs.Common.{◌≡◌, ◌<◌, ◌∙◌, ℕ, ap, false, length, refl, subst, sym, vec_capacity}
use Rattle.cf_model.specs.declared.events.Event.TheVariants.{Claim as Claims}
use Rattle.cf_model.specs.declared.events.Reply.TheVariants.{Claim as Told}
use Rattle.cf_model.specs.declared.replies.Claimed.{Claimed}
use Rattle.cf_model.specs.declared.replies.Claimed.TheVariants.{Granted}
use Rattle.cf_model.specs.Graphs.{stage_in}
use Rattle.cf_model.specs.States.{State, is_ready}
use Rattle.cf_ledger.specs.Ledgers.{Does, stages_of, state_of}
use Rattle.cf_ledger.proofs.Words.{all_states}
use Rattle.cf_request.specs.Ready.{AreFitBut, HasLanes, IsFit, ReadySets, lanes_of, with_lane}
use Rattle.cf_request.specs.Telling.{Teller, TellsWord}
use Rattle.cf_request.proofs.Claims.{granted_claim, kept_claim, left_claim, refused_claim, tells_claim, there_claim}
use Rattle.cf_request.proofs.Sets.{Marks, fit_state, lanes_in, lanes_kept, lanes_seen, marks_more, sets_stay}
use Rattle.cf_request.proofs.Telling.{view_of}
use Rattle.cf_request.proofs.teller.Teller.claim_word.Goals as goal

-- ---- where it is granted

there : (c : goal.After-write) → c.args.stage < stages_of c.claim.new.self
there c = there_claim c.self.inside.ledger c.claim.new.self c.args.word c.args.who c.args.stage (Told c.in_ok-told.told) c.in_ok-told.ensures.done c.requires.read

size : (c : goal.After-write) → length c.self.inside.lanes.of ≡ stages_of c.claim.new.self
size c = lanes_kept (Claims c.args.who c.args.stage) c.self.inside.ledger c.claim.new.self c.args.word (Told c.in_ok-told.told) c.self.inside.lanes c.requires.read refl c.in_ok-told.ensures.done c.self.invariant.1

stays : (c : goal.After-write) (lane : ℕ) → c.self.inside.lanes ≡ (record c.self.inside.lanes { of = lanes_of (stages_of c.claim.new.self) lane c.self.inside.lanes.of })
stays c lane = sets_stay (stages_of c.claim.new.self) lane c.self.inside.lanes (size c)

-- all stages but the claimed one fit before that is written
before : (c : goal.After-write) → Marks (λ j. j ≡ c.args.stage) (state_of c.claim.new.self).stages c.self.inside.lanes c.self.inside.lanes
before c =
    let t = c.self.inside in
    record {
      rest = subst (AreFitBut (λ j. j ≡ c.args.stage) (state_of c.claim.new.self).stages) (sym (stays c 0))
          (left_claim t.ledger c.claim.new.self c.args.word c.args.who c.args.stage (stages_of c.claim.new.self) (Told c.in_ok-told.told) t.lanes c.in_ok-told.ensures.done c.requires.read (all_states c.self.inside.ledger.plan c.self.inside.ledger.events) c.self.invariant.1);
      count = refl;
      same = refl;
    }

unready : (c : goal.After-write) → false ≡ is_ready (stage_in (state_of c.claim.new.self).stages c.args.stage)
unready c = sym (granted_claim c.self.inside.ledger c.claim.new.self c.args.word c.args.who c.args.stage c.in-Granted.field-0
    (subst (λ (told : Claimed). Does c.args.word c.self.inside.ledger (Told told) c.claim.new.self) c.in-Granted.is c.in_ok-told.ensures.done) c.requires.read)

after : (c : goal.After-write) → Marks (λ j. ⊥) (state_of c.claim.new.self).stages c.self.inside.lanes c.write.new.self
after c =
    let t = c.self.inside in
    marks_more (λ j. j ≡ c.args.stage) (λ j. ⊥) (state_of c.claim.new.self).stages t.lanes t.lanes c.write.new.self c.args.stage false (before c) c.write.ensures.sets
    (subst (λ (n : ℕ). c.args.stage < n) (sym (size c)) (there c)) (unready c) c.write.ensures.written (λ j differs not. differs)

written : (c : goal.After-write) (lane : ℕ) → c.write.new.self ≡ record c.self.inside.lanes { of = lanes_of (stages_of c.claim.new.self) lane c.self.inside.lanes.of; sets = c.write.new.self.sets }
written c lane = (after c).same ∙ ap (λ (r : ReadySets). let x : ReadySets = record r { sets = c.write.new.self.sets } in x) (stays c lane)

pub write-requires : goal.write-requires
write-requires c =
    let t = c.self.inside in
    subst (λ (n : ℕ). c.args.stage < n) (sym (lanes_kept (Claims c.args.who c.args.stage) t.ledger c.claim.new.self c.args.word (Told c.in_ok-told.told) t.lanes c.requires.read refl c.in_ok-told.ensures.done c.self.invariant.1))
    (there_claim t.ledger c.claim.new.self c.args.word c.args.who c.args.stage (Told c.in_ok-told.told) c.in_ok-told.ensures.done c.requires.read)

pub invariant_of-self-in-Granted : goal.invariant_of-self-in-Granted
invariant_of-self-in-Granted c =
    let t = c.self.inside in (
      kept_claim t.ledger c.claim.new.self c.args.word c.args.who c.args.stage (Told c.in_ok-told.told) t.order.items (vec_capacity t.order) t.count c.self.invariant.0 c.in_ok-told.ensures.done c.requires.read,
      fit_state t.ledger c.claim.new.self c.args.word (stages_of c.claim.new.self) 0 (Told c.in_ok-told.told) t.lanes c.write.new.self c.in_ok-told.ensures.done refl c.self.invariant.1 (written c 0)
          (λ i. (after c).rest.rest i (λ no. no)),
    )

seen : (c : goal.After-write) (lane : ℕ) → lanes_in c.write.new.self ≡ with_lane (stages_of c.claim.new.self) lane (lanes_in c.self.inside.lanes)
seen c lane = lanes_seen c.self.inside.lanes c.write.new.self (stages_of c.claim.new.self) (stages_of c.claim.new.self) lane (written c lane) (after c).count refl

pub returns-in-Granted-clause-done : goal.returns-in-Granted-clause-done
returns-in-Granted-clause-done c lane =
    let t = c.self.inside in
    subst (λ (x : Teller). TellsWord lane c.args.word x (Told c.in_ok-told.told) (view_of c.claim.new.self t.order.items t.count (lanes_in c.write.new.self))) c.self.view_is
    (record {
      tells = tells_claim t.ledger c.claim.new.self c.args.word c.args.who c.args.stage (Told c.in_ok-told.told) t.order.items t.count (lanes_in t.lanes) (lanes_in c.write.new.self) c.in_ok-told.ensures.done c.requires.read;
      lanes = seen c lane;
    })

pub returns-in-Granted-clause-all : goal.returns-in-Granted-clause-all
returns-in-Granted-clause-all c = subst (λ (x : Teller). HasLanes (state_of x.ledger) x.lanes.of) c.self.view_is c.self.invariant.1.all

-- ---- where it is refused

same : (c : goal.In-Settled) → state_of c.claim.new.self ≡ state_of c.self.inside.ledger
same c = refused_claim c.self.inside.ledger c.claim.new.self c.args.word c.args.who c.args.stage c.in_ok-told.told c.in_ok-told.ensures.done c.requires.read c.in-Settled.is

fits : (c : goal.In-Settled) (i : ℕ) → IsFit (state_of c.claim.new.self).stages c.self.inside.lanes i
fits c i = subst (λ (s : State). IsFit s.stages c.self.inside.lanes i) (sym (same c)) (c.self.invariant.1.fit i)

left : (c : goal.In-Settled) (lane : ℕ) → c.self.inside.lanes ≡ record c.self.inside.lanes { of = lanes_of (stages_of c.claim.new.self) lane c.self.inside.lanes.of; sets = c.self.inside.lanes.sets }
left c lane =
    let t = c.self.inside in
    sets_stay (stages_of c.claim.new.self) lane t.lanes
    (lanes_kept (Claims c.args.who c.args.stage) t.ledger c.claim.new.self c.args.word (Told c.in_ok-told.told) t.lanes c.requires.read refl c.in_ok-told.ensures.done c.self.invariant.1)

pub invariant_of-self-in-Settled : goal.invariant_of-self-in-Settled
invariant_of-self-in-Settled c =
    let t = c.self.inside in (
      kept_claim t.ledger c.claim.new.self c.args.word c.args.who c.args.stage (Told c.in_ok-told.told) t.order.items (vec_capacity t.order) t.count c.self.invariant.0 c.in_ok-told.ensures.done c.requires.read,
      fit_state t.ledger c.claim.new.self c.args.word (stages_of c.claim.new.self) 0 (Told c.in_ok-told.told) t.lanes t.lanes c.in_ok-told.ensures.done refl c.self.invariant.1 (left c 0) (fits c),
    )

unseen : (c : goal.In-Settled) (lane : ℕ) → lanes_in c.self.inside.lanes ≡ with_lane (stages_of c.claim.new.self) lane (lanes_in c.self.inside.lanes)
unseen c lane = lanes_seen c.self.inside.lanes c.self.inside.lanes (stages_of c.claim.new.self) (stages_of c.claim.new.self) lane (left c lane) refl refl

pub returns-in-Settled-clause-done : goal.returns-in-Settled-clause-done
returns-in-Settled-clause-done c lane =
    let t = c.self.inside in
    subst (λ (x : Teller). TellsWord lane c.args.word x (Told c.in_ok-told.told) (view_of c.claim.new.self t.order.items t.count (lanes_in t.lanes))) c.self.view_is
    (record {
      tells = tells_claim t.ledger c.claim.new.self c.args.word c.args.who c.args.stage (Told c.in_ok-told.told) t.order.items t.count (lanes_in t.lanes) (lanes_in t.lanes) c.in_ok-told.ensures.done c.requires.read;
      lanes = unseen c lane;
    })

pub returns-in-Settled-clause-all : goal.returns-in-Settled-clause-all
returns-in-Settled-clause-all c = subst (λ (x : Teller). HasLanes (state_of x.ledger) x.lanes.of) c.self.view_is c.self.invariant.1.all
