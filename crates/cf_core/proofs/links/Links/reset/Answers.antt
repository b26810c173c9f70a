use Rattle.std.proofs.Common.{◌≡◌, ◌∙◌, [], ap, arith, length, replicate}
use Rattle.std.specs.Vec.{vec_len}
use Rattle.cf_core.proofs.Keeping.LinkLemmas.{AreLinks-empty, length-lists_of, lists_of-empty}
use Rattle.cf_core.proofs.links.Links.reset.Goals as goal

pub invariant_of-self : goal.invariant_of-self
invariant_of-self c =
    let links = c.self.inside in
    rw (c.fill.ensures.items (λ y e. e)) (AreLinks-empty links.next.items _ (omega (arith, links.heads.ok.0, c.self.invariant.all_heads)))

pub returns : goal.returns
returns c =
    let links = c.self.inside in
    let all : vec_len links.heads ≡ length c.args.self.now = omega (arith, links.heads.ok.0, length-lists_of links.next.items links.heads.items, ap length c.self.view_is) in
    rw (c.fill.ensures.items (λ y e. e)) (lists_of-empty links.next.items _ ∙ ap (λ n. replicate n []) all)
