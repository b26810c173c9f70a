use Rattle.std.proofs.Common.{◌≡◌, ◌∷◌, ◌∙◌, [], List, Some, ap, arith, length, length-append, length-set, subst, sym, ℕ}
use Rattle.std.specs.Prelude.{position, count_by}
use Rattle.cf_core.proofs.Keeping.Marking.{count-set_false}
use Rattle.cf_core.proofs.Keeping.Places.{lowest_marked}
use Rattle.cf_core.proofs.Keeping.Flags.{Taken, taken_all, taken_more}
use Rattle.cf_core.proofs.graph.telling.drain.Goals as goal

pub push_reserved-requires : goal.push_reserved-requires
push_reserved-requires c =
    let h = c.loop-i.invariant in
    let lowest = lowest_marked c.loop-i.flags c.in-Some.i (sym c.lowest.ensures ∙ c.in-Some.is) in
    let count = count-set_false c.loop-i.flags c.in-Some.i lowest in
    let fits = h.fits in
    omega (arith, count, fits)

pub loop-i-smaller : goal.loop-i-smaller
loop-i-smaller c =
    let lowest = lowest_marked c.loop-i.flags c.in-Some.i (sym c.lowest.ensures ∙ c.in-Some.is) in
    let count = count-set_false c.loop-i.flags c.in-Some.i lowest in
    let is = ap (count_by (λ b. b)) c.remove.ensures in
    omega (arith, count, is)

pub loop-i-preserved : goal.loop-i-preserved
loop-i-preserved c =
    let h = c.loop-i.invariant in
    let first : position (λ b. b) c.loop-i.flags ≡ Some c.in-Some.i = sym c.lowest.ensures ∙ c.in-Some.is in
    let lowest = lowest_marked c.loop-i.flags c.in-Some.i first in
    let count = count-set_false c.loop-i.flags c.in-Some.i lowest in
    let is = ap (count_by (λ b. b)) c.remove.ensures in
    let more = ap (λ (xs : List ℕ). length xs) c.push_reserved.ensures.items ∙ length-append c.loop-i.news.items (c.in-Some.i ∷ []) in
    let fits = h.fits in
    let room = c.push_reserved.ensures.capacity in
    record {
      taken = subst (λ flags. Taken c.args.flags.now flags c.args.news.now.items c.push_reserved.new.self.items) (sym c.remove.ensures)
          (subst (Taken c.args.flags.now _ c.args.news.now.items) (sym c.push_reserved.ensures.items)
          (taken_more c.args.flags.now c.loop-i.flags c.args.news.now.items c.loop-i.news.items c.in-Some.i first h.taken));
      room = c.push_reserved.ensures.capacity ∙ h.room;
      fits = omega (arith, count, is, more, fits, room);
      flags = ap length c.remove.ensures ∙ length-set c.loop-i.flags c.in-Some.i _ ∙ h.flags;
    }

pub returns-clause-drained : goal.returns-clause-drained
returns-clause-drained c =
    taken_all c.args.flags.now c.loop-i.flags c.args.news.now.items c.loop-i.news.items (sym c.lowest.ensures ∙ c.in_default.is) c.loop-i.invariant.taken
