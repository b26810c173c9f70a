use Rattle.std.proofs.Common.{arith, sym, false}
use Rattle.std.proofs.lemmas.Option.{get_or_from_slice_get}
use Rattle.cf_request.proofs.Behind.{flag_past}
use Rattle.cf_request.proofs.relays.is_followed.Goals as goal

pub returns-then-i-bound : goal.returns-then-i-bound
returns-then-i-bound c = sym (flag_past c.args.followed.now c.args.i (omega (arith, c.bound.ensures.bound, c.if-i-bound.true)))

pub returns : goal.returns
returns c = sym (get_or_from_slice_get c.args.followed.now c.args.i c.contains.result false c.contains.ensures)
