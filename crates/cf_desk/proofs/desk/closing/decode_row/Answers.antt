use Rattle.std.proofs.Common.{◌+◌, ◌++◌, ◌∷◌, [], drop, sym, ap, ◌∙◌, append-nil, append_assoc, arith}
use Rattle.cf_event.specs.Decoding.{decoded}
use Rattle.cf_desk.proofs.Closing.{decoded_stop, decoded_more}
use Rattle.cf_desk.proofs.desk.closing.decode_row.Goals as goal

pub returns-in-None : goal.returns-in-None
returns-in-None c =
    let h = c.loop-place.history in
    sym (c.loop-place.invariant.so_far ∙ ap (λ l. h.items ++ l) (decoded_stop c.args.row.now.words.items c.loop-place.place _ c.word.ensures (sym c.in-None.ensures)) ∙ append-nil h.items)

pub loop-place-preserved : goal.loop-place-preserved
loop-place-preserved c =
    let i = c.loop-place.invariant in
    let h = c.loop-place.history in
    let items = c.push_reserved.ensures.items in
    let len = c.push_reserved.ensures.len in record {
      so_far = i.so_far ∙ ap (λ l. h.items ++ l) (decoded_more c.args.row.now.words.items c.loop-place.place _ c.in-Some.event c.word.ensures (sym c.in-Some.ensures)) ∙ sym (append_assoc h.items (c.in-Some.event ∷ []) (decoded (drop (c.loop-place.place + 1) c.args.row.now.words.items))) ∙ ap (λ l. l ++ decoded (drop (c.loop-place.place + 1) c.args.row.now.words.items)) (sym items);
      count = len ∙ ap (λ n. n + 1) i.count;
      room = (let r = i.room in omega (arith, c.push_reserved.ensures.capacity));
    }
