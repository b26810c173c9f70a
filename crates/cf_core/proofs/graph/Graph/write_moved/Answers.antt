use Rattle.std.proofs.Common.{◌∷◌, ◌∙◌, [], Some, arith, length, length-append, subst, sym, ap}
use Rattle.std.specs.Prelude.{vec_capacity}
use Rattle.cf_core.specs.Keeping.Changes.{AreWritten, HasPlaces}
use Rattle.cf_core.proofs.Keeping.Written.{places_after, places_for, written_news, written_none, written_not, written_on}
use Rattle.cf_core.proofs.graph.Graph.write_moved.Goals.{then-rank-before, else-rank-before}
use Rattle.cf_core.proofs.graph.Graph.write_moved.Goals as goal

pub push_reserved-requires : goal.push_reserved-requires
push_reserved-requires c =
    let there = c.rank.ensures.there (let more = c.if-rank-before.true in omega (arith, more)) in
    let room = c.requires.places in
    omega (arith, there, room)

pub write_rest-requires : goal.write_rest-requires
write_rest-requires c =
    let s = c.args.self.now in
    let count = length s.state.plan.stages in
    let row = c.args.news.now in
    let room : HasPlaces count s.left (length c.if-rank-before.news.items) (vec_capacity c.if-rank-before.news) = elim c.if-rank-before.branch [
      | then-rank-before w ↦ (let there = c.rank.ensures.there (let more = w.if-rank-before.true in omega (arith, more)) in
          let more = ap length w.push_reserved.ensures.items ∙ length-append row.items (c.args.d ∷ []) in
          subst (λ news. HasPlaces count s.left (length news.items) (vec_capacity news)) (sym w.news-is)
          (subst (HasPlaces count s.left (length w.push_reserved.new.self.items)) (sym w.push_reserved.ensures.capacity)
          (subst (λ n. HasPlaces count s.left n (vec_capacity row)) (sym more) (places_after count c.args.d (length row.items) (vec_capacity row) s.left there c.requires.places c.requires.above))))
      | else-rank-before w ↦ subst (λ news. HasPlaces count s.left (length news.items) (vec_capacity news)) (sym w.news-is) (places_for count (length row.items) (vec_capacity row) s.left c.requires.places)
    ] in
    record { places = room }

pub returns-clause-told : goal.returns-clause-told
returns-clause-told c old alone before =
    let s = c.args.self.now in
    let d = c.args.d in
    let row = c.args.news.now.items in
    let is = c.rank.ensures.rank in
    let none = written_none old (Some d) row in
    let t = c.write_rest.ensures.told in
    written_news old _ _ row _ (t old row (elim c.if-rank-before.branch [
      | then-rank-before w ↦ (let more = w.if-rank-before.true in
          subst (λ news. AreWritten old s.kept s.left row news.items) (sym w.news-is)
          (subst (AreWritten old s.kept s.left row) (sym w.push_reserved.ensures.items)
          (written_on old old s.kept d s.left row row none alone (omega (arith, is, before, more)) c.requires.above)))
      | else-rank-before w ↦ (let less = w.if-rank-before.false in
          subst (λ news. AreWritten old s.kept s.left row news.items) (sym w.news-is)
          (written_not old old s.kept d s.left row row none alone (omega (arith, is, before, less)) c.requires.above))
    ]))
