use Rattle.std.proofs.Common.{◌≤◌, [], arith, ap, length, sym}
use Rattle.std.proofs.lemmas.List.{set_past}
use Rattle.cf_core.proofs.Keeping.LinkLemmas.{AreLinks-clear, length-lists_of, lists_of-clear}
use Rattle.cf_core.proofs.links.Links.clear.Goals as goal

pub invariant_of-self : goal.invariant_of-self
invariant_of-self c = AreLinks-clear c.self.inside.next.items c.self.inside.heads.items c.args.target c.self.invariant

pub returns-then-target-len : goal.returns-then-target-len
returns-then-target-len c = rw (← c.self.view_is) (lists_of-clear c.self.inside.next.items c.self.inside.heads.items c.args.target)

pub returns-else-target-len : goal.returns-else-target-len
returns-else-target-len c =
    let links = c.self.inside in
    let past : length c.args.self.now ≤ c.args.target = omega (arith, c.if-target-len.false, c.len.ensures, links.heads.ok.0, length-lists_of links.next.items links.heads.items, ap length c.self.view_is) in
    sym (set_past c.args.self.now c.args.target [] past)
