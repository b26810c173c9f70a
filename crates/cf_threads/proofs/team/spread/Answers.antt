use Rattle.std.proofs.Common.{◌≡◌, [], sym, subst, rules}
use Rattle.crossbeam_utils.specs.Seq.{cell_view}
use Rattle.cf_threads.specs.Slips.{slip}
use Rattle.cf_threads.specs.Teams.{BelongsTo, HasEnded, Slip}
use Rattle.cf_threads.proofs.Dealt.{zip_at}
use Rattle.cf_threads.proofs.team.spread.Goals as goal

pub map_vec-requires-after_bounds : goal.map_vec-requires-after_bounds
map_vec-requires-after_bounds g c = λ κs within i x less is. (
  c.requires.cell,
  (c.requires.place, subst (λ (y : g.row.F.Denot × Slip). BelongsTo g.B.Room.table y.1 × (cell_view y.1 ≡ slip [])) (sym is) (c.requires.jobs i x less)),
)

pub returns : goal.returns
returns g c = record {
  each = zip_at (HasEnded g.F.Functions.calls g.B.Room.table) c.args.jobs.items c.in_ok-ended.ended.items (let n = c.in_ok-ended.ensures.len in search rules)
      (λ i d less. let k = (c.in_ok-ended.ensures.each i d less).1 in (k.job, k.job_is, k.call.met));
}
