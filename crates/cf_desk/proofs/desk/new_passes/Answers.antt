use Rattle.std.proofs.Common.{◌≡◌, ◌-◌, [], map, ap, ◌∙◌, arith}
use Rattle.cf_desk.proofs.Closing.{passes_next}
use Rattle.cf_desk.specs.Openings.{setting_of}
use Rattle.cf_desk.specs.Rule.{fresh}
use Rattle.cf_desk.specs.Views.{new_pass}
use Rattle.cf_desk.proofs.desk.new_passes.Goals as goal

pub loop-caller-init : goal.loop-caller-init
loop-caller-init c = record {
  table = c.requires.row.0;
  seat = c.requires.seat ∙ ap (λ n. (fresh (setting_of c.args.opening.now) 0 n, [])) (let e : c.args.opening.now.sizes.callers ≡ c.args.opening.now.sizes.callers - 0 = omega arith in e);
  left = (let n = c.in_ok-passes.ensures.len in let r = c.in_ok-passes.ensures.capacity in omega arith);
  passes = c.in_ok-passes.ensures.items;
}

pub new_pass-requires-clause-row : goal.new_pass-requires-clause-row
new_pass-requires-clause-row c = (c.loop-caller.invariant.table, c.requires.row.1)

pub new_pass-requires-clause-seat : goal.new_pass-requires-clause-seat
new_pass-requires-clause-seat c = c.loop-caller.invariant.seat

pub push_reserved-requires : goal.push_reserved-requires
push_reserved-requires c = (let l = c.loop-caller.invariant.left in let t = c.loop-caller-test.true in omega arith)

pub loop-caller-preserved : goal.loop-caller-preserved
loop-caller-preserved c =
    let i = c.loop-caller.invariant in
    record {
      table = c.in_ok-new_pass.ensures.table ∙ i.table;
      seat = c.in_ok-new_pass.ensures.seat;
      left = (let l = i.left in let t = c.loop-caller-test.true in omega (arith, c.push_reserved.ensures.len, c.push_reserved.ensures.capacity));
      passes = passes_next _ _ _ _ _ _ _ i.passes c.push_reserved.ensures.items c.in_ok-new_pass.ensures.pass;
    }

pub returns : goal.returns
returns c =
    let all : c.loop-caller.caller ≡ c.args.opening.now.sizes.callers = (let t = c.loop-caller-test.false in omega arith) in
    c.loop-caller.invariant.passes ∙ ap (λ n. map (new_pass c.args.row.now.shared.table_id c.args.opening.now.sizes.calls) (fresh (setting_of c.args.opening.now) 0 n)) all
