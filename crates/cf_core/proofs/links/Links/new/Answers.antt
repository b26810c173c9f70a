use Rattle.std.proofs.Common.{replicate, sym}
use Rattle.std.proofs.lemmas.List.{length-replicate}
use Rattle.cf_core.proofs.Keeping.LinkLemmas.{AreLinks-empty, lists_of-empty}
use Rattle.cf_core.proofs.links.Links.new.Goals as goal

pub invariant_of-result : goal.invariant_of-result
invariant_of-result c = rw (c.in_ok-heads.ensures, c.in_ok-next.ensures) (AreLinks-empty (replicate c.args.count 0) c.args.count (sym (length-replicate c.args.count 0)))

pub returns : goal.returns
returns c = rw (c.in_ok-heads.ensures, c.in_ok-next.ensures) (lists_of-empty (replicate c.args.count 0) c.args.count)
