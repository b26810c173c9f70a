use Rattle.std.proofs.Common.{All}
use Rattle.std.specs.Vec.Iter.{into_iter_len}
use Rattle.cf_explain.specs.Remarks.{IsOfWriting}
use Rattle.cf_explain.proofs.written.remarks_of.Given as goal

abbrev pub invariant-next : goal.invariant-next
invariant-next l = All IsOfWriting l.remarks.items

abbrev pub decreases-next : goal.decreases-next
decreases-next l = into_iter_len l.rest
