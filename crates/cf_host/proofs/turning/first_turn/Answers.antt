use Rattle.std.proofs.Common.{◌<◌, ◌∙◌, arith, length, subst, sym}
use Rattle.cf_turn.specs.Turns.{Turns, moment_of}
use Rattle.cf_turn.specs.Works.{Work}
use Rattle.cf_host.specs.declared.request.Request.{Request}
use Rattle.cf_host.specs.Hosts.{RestsIn}
use Rattle.cf_host.specs.Requests.{OnWork}
use Rattle.cf_host.proofs.Effects.{length_set}
use Rattle.cf_host.proofs.Turned.{rested, rested_others, turned}
use Rattle.cf_host.proofs.turning.first_turn.Goals as goal

pub returns-in-Some-clause-turns : goal.returns-in-Some-clause-turns
returns-in-Some-clause-turns c =
    let at = moment_of c.args.now c.args.watch.now c.args.clock c.args.may_claim in
    let mid = c.loop-place.requests in
    let place = c.loop-place.place in
    let so_far = c.loop-place.invariant in
    let count = so_far.count in
    let there : place < length mid = omega (arith, count) in
    turned at c.args.requests.now mid place c.index-requests-place.result c.turn.new.self c.index-requests-place-in-Some.result c.in-Some.turn there c.index-requests-place.is so_far.count
    so_far.rest so_far.others
    (subst (λ (r : Request). OnWork (λ (w v : Work). Turns w at c.in-Some.turn v) r c.turn.new.self) (sym c.index-requests-place.is) c.in-Some.ensures.turns)

pub loop-place-preserved : goal.loop-place-preserved
loop-place-preserved c =
    let at = moment_of c.args.now c.args.watch.now c.args.clock c.args.may_claim in
    let mid = c.loop-place.requests in
    let place = c.loop-place.place in
    let so_far = c.loop-place.invariant in
    let count = so_far.count in
    let there : place < length mid = omega (arith, count) in
    record {
      count = length_set mid place c.turn.new.self ∙ so_far.count;
      rest = rested at c.args.requests.now mid place c.index-requests-place.result c.turn.new.self there c.index-requests-place.is so_far.rest so_far.others
          (subst (λ (r : Request). RestsIn at r c.turn.new.self) (sym c.index-requests-place.is) c.in_default.ensures.rests);
      others = rested_others c.args.requests.now mid place c.turn.new.self so_far.others;
    }
