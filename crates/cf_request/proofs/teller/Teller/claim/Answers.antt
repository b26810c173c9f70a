use Rattle.std.proofs.Common.{◌≡◌, ◌<◌, ◌∙◌, ℕ, ap, length, refl, subst, sym, vec_capacity}
use Rattle.cf_model.specs.declared.events.Event.TheVariants.{Claim as Claims}
use Rattle.cf_model.specs.declared.events.Reply.TheVariants.{Claim as Told}
use Rattle.cf_model.specs.States.{is_ready}
use Rattle.cf_ledger.specs.Ledgers.{stages_of, state_of}
use Rattle.cf_ledger.proofs.Words.{all_states}
use Rattle.cf_request.specs.Ready.{AreFitBut, HasLanes, ReadySets, lanes_of, with_lane}
use Rattle.cf_request.specs.Telling.{Teller, TellsWord}
use Rattle.cf_request.proofs.Claims.{kept_claim, left_claim, tells_claim, there_claim}
use Rattle.cf_request.proofs.Sets.{Marks, fit_state, lanes_in, lanes_kept, lanes_seen, marks_more, sets_stay}
use Rattle.cf_request.proofs.Telling.{view_of}
use Rattle.cf_request.proofs.Words.{word_told}
use Rattle.cf_request.proofs.teller.Teller.claim.Goals as goal

pub stage-requires : goal.stage-requires
stage-requires c = there_claim c.self.inside.ledger c.claim_found-told.new.self c.args.word c.args.who c.args.stage (Told c.claim_found-told.result) c.claim_found-told.ensures c.requires.read

size : (c : goal.After-write) → length c.self.inside.lanes.of ≡ stages_of c.claim_found-told.new.self
size c = lanes_kept (Claims c.args.who c.args.stage) c.self.inside.ledger c.claim_found-told.new.self c.args.word (Told c.claim_found-told.result) c.self.inside.lanes c.requires.read refl c.claim_found-told.ensures c.self.invariant.1

stays : (c : goal.After-write) (lane : ℕ) → c.self.inside.lanes ≡ (record c.self.inside.lanes { of = lanes_of (stages_of c.claim_found-told.new.self) lane c.self.inside.lanes.of })
stays c lane = sets_stay (stages_of c.claim_found-told.new.self) lane c.self.inside.lanes (size c)

-- all stages but the claimed one fit before that is written
before : (c : goal.After-write) → Marks (λ j. j ≡ c.args.stage) (state_of c.claim_found-told.new.self).stages c.self.inside.lanes c.self.inside.lanes
before c =
    let t = c.self.inside in
    record {
      rest = subst (AreFitBut (λ j. j ≡ c.args.stage) (state_of c.claim_found-told.new.self).stages) (sym (stays c 0))
          (left_claim t.ledger c.claim_found-told.new.self c.args.word c.args.who c.args.stage (stages_of c.claim_found-told.new.self) (Told c.claim_found-told.result) t.lanes c.claim_found-told.ensures c.requires.read (all_states c.self.inside.ledger.plan c.self.inside.ledger.events) c.self.invariant.1);
      count = refl;
      same = refl;
    }

after : (c : goal.After-write) → Marks (λ j. ⊥) (state_of c.claim_found-told.new.self).stages c.self.inside.lanes c.write.new.self
after c =
    let t = c.self.inside in
    let there = there_claim t.ledger c.claim_found-told.new.self c.args.word c.args.who c.args.stage (Told c.claim_found-told.result) c.claim_found-told.ensures c.requires.read in
    marks_more (λ j. j ≡ c.args.stage) (λ j. ⊥) (state_of c.claim_found-told.new.self).stages t.lanes t.lanes c.write.new.self c.args.stage c.is_ready.result (before c) c.write.ensures.sets
    (subst (λ (n : ℕ). c.args.stage < n) (sym (size c)) there) (c.is_ready.ensures ∙ ap is_ready c.stage.ensures) c.write.ensures.written (λ j differs not. differs)

written : (c : goal.After-write) (lane : ℕ) → c.write.new.self ≡ record c.self.inside.lanes { of = lanes_of (stages_of c.claim_found-told.new.self) lane c.self.inside.lanes.of; sets = c.write.new.self.sets }
written c lane = (after c).same ∙ ap (λ (r : ReadySets). let x : ReadySets = record r { sets = c.write.new.self.sets } in x) (stays c lane)

pub invariant_of-self : goal.invariant_of-self
invariant_of-self c =
    let t = c.self.inside in (
      kept_claim t.ledger c.claim_found-told.new.self c.args.word c.args.who c.args.stage (Told c.claim_found-told.result) t.order.items (vec_capacity t.order) t.count c.self.invariant.0 c.claim_found-told.ensures c.requires.read,
      fit_state t.ledger c.claim_found-told.new.self c.args.word (stages_of c.claim_found-told.new.self) 0 (Told c.claim_found-told.result) t.lanes c.write.new.self c.claim_found-told.ensures refl c.self.invariant.1 (written c 0)
          (λ i. (after c).rest.rest i (λ no. no)),
    )

seen : (c : goal.After-write) (lane : ℕ) → lanes_in c.write.new.self ≡ with_lane (stages_of c.claim_found-told.new.self) lane (lanes_in c.self.inside.lanes)
seen c lane = lanes_seen c.self.inside.lanes c.write.new.self (stages_of c.claim_found-told.new.self) (stages_of c.claim_found-told.new.self) lane (written c lane) (after c).count refl

pub returns : goal.returns
returns c =
    word_told (Claims c.args.who c.args.stage) c.args.self.now (view_of c.claim_found-told.new.self c.self.inside.order.items c.self.inside.count (lanes_in c.write.new.self)) (Told c.claim_found-told.result) c.args.word c.requires.read c.requires.named refl
    (subst (λ (x : Teller). HasLanes (state_of x.ledger) x.lanes.of) c.self.view_is c.self.invariant.1.all)
    (λ lane.
    let t = c.self.inside in
    subst (λ (x : Teller). TellsWord lane c.args.word x (Told c.claim_found-told.result) (view_of c.claim_found-told.new.self t.order.items t.count (lanes_in c.write.new.self))) c.self.view_is
    (record {
      tells = tells_claim t.ledger c.claim_found-told.new.self c.args.word c.args.who c.args.stage (Told c.claim_found-told.result) t.order.items t.count (lanes_in t.lanes) (lanes_in c.write.new.self) c.claim_found-told.ensures c.requires.read;
      lanes = seen c lane;
    })
    )
