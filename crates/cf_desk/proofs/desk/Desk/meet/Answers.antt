use Rattle.std.proofs.Common.{sym, ap, ◌∙◌, rules}
use Rattle.cf_desk.specs.Views.{Pass, known_of, longer_of}
use Rattle.cf_desk.proofs.Recs.{fits_more}
use Rattle.cf_desk.proofs.Passes.{longer_either, longest_count, one_known, agrees_levelled}
use Rattle.cf_desk.proofs.desk.Desk.meet.Goals as goal

pub invariant_of-p : goal.invariant_of-p
invariant_of-p c =
    let i = c.p.invariant in
    let s = c.catch_up.ensures.same in
    let lv = c.level.ensures.level in
    let me = s.1 ∙ lv.left in record {
      one = one_known _ _ (ap (λ m. m.0) me) (ap (λ m. m.1) me);
      agrees = agrees_levelled _ _ _ _ _ _ _ _ _ _ _ lv.left s.1 lv.begins_left lv.logged_left (longest_count (known_of c.p.inside.seat.me.0) (known_of c.q.inside.seat.me.0) _ _ _ c.p.invariant.agrees.count c.q.invariant.agrees.count c.max-to.ensures) c.catch_up.ensures.replica i.agrees;
      room = i.room;
      within = i.within;
      short = search rules;
    }

pub invariant_of-q : goal.invariant_of-q
invariant_of-q c =
    let i = c.q.invariant in
    let s = c.catch_up-2.ensures.same in
    let lv = c.level.ensures.level in
    let me = s.1 ∙ lv.right in record {
      one = one_known _ _ (ap (λ m. m.0) me) (ap (λ m. m.1) me);
      agrees = agrees_levelled _ _ _ _ _ _ _ _ _ _ _ lv.right s.1 lv.begins_right lv.logged_right (longest_count (known_of c.p.inside.seat.me.0) (known_of c.q.inside.seat.me.0) _ _ _ c.p.invariant.agrees.count c.q.invariant.agrees.count c.max-to.ensures) c.catch_up-2.ensures.replica i.agrees;
      room = i.room;
      within = i.within;
      short = search rules;
    }

pub returns-clause-level : goal.returns-clause-level
returns-clause-level c =
    let k = known_of c.p.inside.seat.me.0 in
    let l = known_of c.q.inside.seat.me.0 in
    let v = c.level.ensures in
    let lv = v.level in
    let s = c.catch_up.ensures.same in
    let r = c.catch_up-2.ensures.same in
    let tp = s.0 ∙ v.table.0 ∙ sym (ap (λ (h : Pass). h.table) c.p.view_is ∙ c.requires.table.0) in
    let tq = r.0 ∙ v.table.1 ∙ sym (ap (λ (h : Pass). h.table) c.q.view_is ∙ c.requires.table.1) in
    rw (← c.p.view_is, ← c.q.view_is) (record {
      all = longer_of k l;
      either = longer_either k l;
      left = λ i. record { table = tp i; known = known_of ((s.1 ∙ lv.left) i).0; records = c.p.inside.records.items; calls = c.p.inside.calls };
      right = λ i. record { table = tq i; known = known_of ((r.1 ∙ lv.right) i).0; records = c.q.inside.records.items; calls = c.q.inside.calls };
      begins_left = lv.begins_left;
      begins_right = lv.begins_right;
      fits_left = fits_more _ _ _ _ _ lv.begins_left c.p.invariant.agrees.fits;
      fits_right = fits_more _ _ _ _ _ lv.begins_right c.q.invariant.agrees.fits;
    })
