use Rattle.std.proofs.Common.{◌+◌, arith, drop, get_or, subst, sym}
use Rattle.std.proofs.lemmas.List.{drop_more}
use Rattle.cf_c_handles.proofs.Histories.{AreRead, read_more, read_none}
use Rattle.cf_c_handles.proofs.history.texts_of.Goals as goal

pub returns-in-Err : goal.returns-in-Err
returns-in-Err c =
    let text = c.args.text.now in
    let ends = c.args.ends.now in
    let k = c.each.k in
    let left = subst (λ l. AreRead text ends c.each.from l c.each.texts.items) (drop_more ends k 0 (omega arith)) c.each.invariant in
    read_none text ends c.each.from (get_or ends k 0) (drop (k + 1) ends) c.each.texts.items c.in-Err.code c.in-Err.ensures left

pub each-preserved : goal.each-preserved
each-preserved c =
    let text = c.args.text.now in
    let ends = c.args.ends.now in
    let k = c.each.k in
    let left = subst (λ l. AreRead text ends c.each.from l c.each.texts.items) (drop_more ends k 0 (omega arith)) c.each.invariant in
    let read = c.in-Ok.ensures in
    subst (AreRead text ends (get_or ends k 0) (drop (k + 1) ends)) (sym c.in_ok-push-in-Ok.ensures)
    (read_more text ends c.each.from (get_or ends k 0) (drop (k + 1) ends) c.each.texts.items c.in-Ok.own read.0 read.1 left)
