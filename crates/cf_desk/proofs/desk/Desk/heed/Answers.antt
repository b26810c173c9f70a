use Rattle.std.proofs.Common.{sym, ap, ◌∙◌, rules}
use Rattle.cf_desk.specs.Views.{Pass, known_of, longer_of}
use Rattle.cf_desk.proofs.Passes.{longer_either, longest_count, one_known, agrees_levelled}
use Rattle.cf_desk.proofs.desk.Desk.heed.Goals as goal

pub invariant_of-p : goal.invariant_of-p
invariant_of-p c =
    let i = c.p.invariant in
    let s = c.catch_up.ensures.same in
    let lv = c.level.ensures.level in
    let me = s.1 ∙ lv.left in record {
      one = one_known _ _ (ap (λ m. m.0) me) (ap (λ m. m.1) me);
      agrees = agrees_levelled _ _ _ _ _ _ _ _ _ _ _ lv.left s.1 lv.begins_left lv.logged_left (longest_count (known_of c.p.inside.seat.me.0) (known_of c.notice.inside.seat.me.0) _ _ _ i.agrees.count c.notice.invariant.count c.max-to.ensures) c.catch_up.ensures.replica i.agrees;
      room = i.room;
      within = i.within;
      short = search rules;
    }

pub returns-clause-heeds : goal.returns-clause-heeds
returns-clause-heeds c =
    let k = known_of c.p.inside.seat.me.0 in
    let l = known_of c.notice.inside.seat.me.0 in
    let v = c.level.ensures in
    let lv = v.level in
    let s = c.catch_up.ensures.same in
    let table = s.0 ∙ v.table.0 ∙ sym (ap (λ (h : Pass). h.table) c.p.view_is ∙ c.requires.table.0) in
    let known = ap known_of (ap (λ m. m.0) (s.1 ∙ lv.left)) in
    rw (← c.p.view_is, ← c.notice.view_is) (record {
      all = longer_of k l;
      either = longer_either k l;
      is = λ i. record { table = table i; known = known i; records = c.p.inside.records.items; calls = c.p.inside.calls };
      caught = lv.begins_left;
      begins = (lv.begins_right.others, ap (λ h. h.seen) known ∙ lv.begins_right.joined);
    })
