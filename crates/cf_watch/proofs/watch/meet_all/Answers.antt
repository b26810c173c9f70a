use Rattle.std.proofs.Common.{◌+◌, ◌<◌, not, Some, List, [], ◌∷◌, ◌∙◌, ap, arith, get_or, length, length-append, length-drop, subst, sym, take}
use Rattle.std.specs.Prelude.{is_some}
use Rattle.cf_watch.specs.Watches.{AreMet, sight_of}
use Rattle.cf_watch.specs.declared.beat.Beat.{Beat}
use Rattle.cf_watch.specs.declared.sight.Known.{Known}
use Rattle.cf_watch.specs.declared.sight.Sight.TheVariants.{Seen}
use Rattle.cf_watch.proofs.Finding.{met_more_kept, met_more_pushed}
use Rattle.cf_watch.proofs.watch.meet_all.Goals.{then-is_none, else-is_none}
use Rattle.cf_watch.proofs.watch.meet_all.Goals as goal

pub loop-beat-preserved : goal.loop-beat-preserved
loop-beat-preserved c =
    let beats = c.args.beats.now in
    let i = c.loop-beat.beat-index in
    let none : Beat = record { session = 0; count = 0 } in
    let b = get_or beats i none in
    let old = c.args.known.now.items in
    let mid = c.loop-beat.known.items in
    let there : i < length beats = omega arith in
    let found = ap is_some (sym (c.sight_of.ensures ∙ ap (λ (ks : List Known). sight_of b.session ks) c.deref.ensures.value)) ∙ c.is_none.ensures in
    elim c.if-is_none.branch [
      | then-is_none w ↦ rw w.known-is (record {
        met = subst (λ (ks : List Known). AreMet c.args.lease (take (i + 1) beats) old ks) (sym w.push_reserved.ensures.items)
            (met_more_pushed c.args.lease beats i none old mid there c.loop-beat.invariant.met (found ∙ ap not w.if-is_none.true));
        places =
            let one = ap (λ (ks : List Known). length ks) w.push_reserved.ensures.items ∙ length-append mid ((record { session = b.session; sight = Seen (Some b.count) (Some c.args.lease) }) ∷ []) in
            let capacity = w.push_reserved.ensures.capacity in
            let before = c.loop-beat.invariant.places in
            omega (arith, one, capacity, before, length-drop i beats, length-drop (i + 1) beats);
      })
      | else-is_none w ↦ rw w.known-is (record {
        met = met_more_kept c.args.lease beats i none old mid there c.loop-beat.invariant.met (found ∙ ap not w.if-is_none.false);
        places =
            let before = c.loop-beat.invariant.places in
            omega (arith, before, length-drop i beats, length-drop (i + 1) beats);
      })
    ]
