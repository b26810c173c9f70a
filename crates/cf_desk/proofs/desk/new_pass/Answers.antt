use Rattle.std.proofs.Common.{◌≡◌, ◌∷◌, [], length, refl, ap, ◌∙◌, arith}
use Rattle.cf_desk.specs.Openings.{setting_of}
use Rattle.cf_desk.specs.Rule.{blank}
use Rattle.cf_desk.specs.Views.{known_of}
use Rattle.cf_desk.proofs.Meets.{gives_first}
use Rattle.cf_desk.proofs.Closing.{split_rest, new_one, agrees_new}
use Rattle.cf_desk.proofs.Passes.{one_known}
use Rattle.cf_desk.proofs.desk.new_pass.Goals as goal
use Rattle.cf_desk.proofs.desk.new_pass.Goals.{After-split_seat}

pub split_seat-requires : goal.split_seat-requires
split_seat-requires c = (c.requires.row.0, c.requires.row.1, gives_first _ _ _)

mine : (c : After-split_seat) → c.split_seat.result.me ≡ (blank (setting_of c.args.opening.now) c.args.caller ∷ [], [])
mine c = new_one _ _ _ _ c.requires.callers.0 c.requires.seat c.split_seat.ensures.4

pub invariant_of-result : goal.invariant_of-result
invariant_of-result c =
    let me = mine c in
    let none = c.in_ok-records.ensures.items in record {
      one = one_known _ (blank (setting_of c.args.opening.now) c.args.caller) (ap (λ m. m.0) me) (ap (λ m. m.1) me);
      agrees = agrees_new _ _ _ _ _ _ c.requires.callers.0 c.requires.callers.1 refl me c.in_ok-replica.ensures.start none;
      room = (let r = c.in_ok-records.ensures.capacity in omega arith);
      within = (let e = ap length none in omega arith);
      short = omega arith;
    }

pub returns-clause-pass : goal.returns-clause-pass
returns-clause-pass c =
    let s = c.split_seat.ensures in
    (λ i. record { table = (s.3 ∙ c.requires.row.0) i; known = known_of (mine c i).0; records = c.in_ok-records.ensures.items i; calls = c.args.opening.now.sizes.calls })

pub returns-clause-seat : goal.returns-clause-seat
returns-clause-seat c = split_rest _ _ _ _ c.requires.callers.0 c.requires.seat c.split_seat.ensures.2
