use Rattle.std.proofs.Common.{◌≤◌, [], arith, ap, is_some, length, sym}
use Rattle.std.specs.Prelude.{slice_get, unwrap_or}
use Rattle.std.proofs.lemmas.Option.{slice_get_past}
use Rattle.cf_core.proofs.Keeping.LinkLemmas.{has_listed, length-lists_of}
use Rattle.cf_core.proofs.links.Links.has.Goals as goal

pub returns-then-target-len : goal.returns-then-target-len
returns-then-target-len c =
    let links = c.self.inside in
    rw (← c.self.view_is) (has_listed links.next.items links.heads.items c.args.target c.index.result.now (omega (arith, c.if-target-len.true, c.len.ensures)) c.index.ensures)

pub returns-else-target-len : goal.returns-else-target-len
returns-else-target-len c =
    let links = c.self.inside in
    let past : length c.args.self.now ≤ c.args.target = omega (arith, c.if-target-len.false, c.len.ensures, length-lists_of links.next.items links.heads.items, ap length c.self.view_is) in
    sym (ap (λ x. is_some (slice_get (unwrap_or x []) 0)) (slice_get_past c.args.self.now c.args.target past))
