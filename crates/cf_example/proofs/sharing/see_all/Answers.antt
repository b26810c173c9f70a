use Rattle.std.proofs.Common.{◌≡◌, drop, length, List, ap, ◌∙◌}
use Rattle.cf_row.specs.declared.entry.Entry.{Entry}
use Rattle.cf_row.specs.Rows.{Replica}
use Rattle.cf_example.proofs.TwoSessions.{saw_behind}
use Rattle.cf_example.proofs.sharing.see_all.Goals as goal

pub returns : goal.returns
returns c =
    let row = c.args.store.now in
    let seen = c.args.row.now.replica.seen in
    let known : c.seen-place.result.now ≡ seen = c.seen-place.ensures ∙ ap (λ (r : Replica). r.seen) c.replica.ensures in
    let behind : c.read.result.now ≡ drop (length seen) row = c.read.ensures ∙ ap (λ (l : List Entry). drop (length l) row) known in
    saw_behind row c.args.row.now c.saw_all.new.self c.read.result.now c.saw_all.result c.requires behind c.saw_all.ensures.all c.saw_all.ensures.front c.saw_all.ensures.put
