use Rattle.std.proofs.Common.{◌≤◌, List, None, length, set, ap, subst, sym, ◌∙◌, arith}
use Rattle.cf_row.specs.Rows.{Replica, stages_of}
use Rattle.cf_part.specs.declared.progress.Progress.{Progress}
use Rattle.cf_part.specs.declared.progress.Progress.TheVariants.{Runs}
use Rattle.cf_part.specs.Parts.{Part, places_of}
use Rattle.cf_part.specs.Steps.{Calls, IsGrantedWith, IsToCall}
use Rattle.cf_part.proofs.Places.{no_fault, stages_have_places}
use Rattle.cf_part.proofs.part.Part.next.Goals as goal

pub to_call-requires : goal.to_call-requires
to_call-requires c =
    let places = c.self.invariant.sound.of_calls ∙ ap (λ (r : Replica). places_of r.plan) (sym c.replica-replica.ensures) in
    record { places = stages_have_places c.replica-replica.result.now (length c.deref-3.result.now) c.ledger.ensures.taken (ap length c.deref-3.ensures.value ∙ places) }

pub index_mut-requires-2 : goal.index_mut-requires-2
index_mut-requires-2 c =
    let places = c.self.invariant.sound.of_calls ∙ ap (λ (r : Replica). places_of r.plan) (sym c.replica-replica.ensures) in
    let all : stages_of c.replica-replica.result.now ≤ length c.deref-3.result.now =
    stages_have_places c.replica-replica.result.now (length c.deref-3.result.now) c.ledger.ensures.taken (ap length c.deref-3.ensures.value ∙ places) in
    let len = c.deref-3.ensures.len in
    let there = c.in_ok-stage.ensures.there in
    omega (arith, all, len, there)

pub index_mut-requires-3 : goal.index_mut-requires-3
index_mut-requires-3 c =
    let i = c.self.inside in
    let places = c.self.invariant.sound.of_owed ∙ ap (λ (r : Replica). places_of r.plan) (sym c.replica-replica.ensures) in
    let all : stages_of c.replica-replica.result.now ≤ length i.owed.items = stages_have_places c.replica-replica.result.now (length i.owed.items) c.ledger.ensures.taken places in
    let there = c.in_ok-stage.ensures.there in
    omega (arith, all, i.owed.ok.0, there)

pub returns-clause-step : goal.returns-clause-step
returns-clause-step c =
    let places = c.self.invariant.sound.of_calls ∙ ap (λ (r : Replica). places_of r.plan) (sym c.replica-replica.ensures) in
    let all : stages_of c.replica-replica.result.now ≤ length c.deref-3.result.now =
    stages_have_places c.replica-replica.result.now (length c.deref-3.result.now) c.ledger.ensures.taken (ap length c.deref-3.ensures.value ∙ places) in
    let count = ap length c.deref-3.ensures.value in
    let there = c.in_ok-stage.ensures.there in
    let seen = ap length (c.seen.ensures ∙ ap (λ (r : Replica). r.seen) c.replica-replica.ensures) in
    let unseen = c.if-seen-self.false in
    let calls = subst (λ (p : Part). Calls p c.in_ok-stage.stage c.args_for-args.result) c.self.view_is (record {
      sound = no_fault c.self.inside.fault c.is_some-2.result c.is_some-2.ensures c.if-is_some.false;
      all_seen = omega (arith, seen, unseen);
      there = omega (arith, all, count, there);
      is = subst (λ (l : List Progress). IsToCall l c.self.inside.row.replica c.in_ok-stage.stage) c.deref-3.ensures.value
          (subst (λ (r : Replica). IsToCall c.deref-3.result.now r c.in_ok-stage.stage) c.replica-replica.ensures c.in_ok-stage.ensures.is);
      granted = subst (λ (r : Replica). IsGrantedWith r.records c.in_ok-stage.stage c.args_for-args.result) c.replica-replica.ensures c.args_for-args.ensures;
    }) in
    (calls, ap (λ (p : Part). let q : Part = record p { calls = set p.calls c.in_ok-stage.stage Runs; owed = set p.owed c.in_ok-stage.stage None } in q) c.self.view_is)
