use Rattle.std.proofs.Common.{◌∙◌, ap, map, refl, sym}
use Rattle.cf_core.specs.declared.kept.KeptStage.{KeptStage}
use Rattle.cf_core.specs.Keeping.Cells.{kept_of}
use Rattle.cf_core.specs.Keeping.Sound.{kept_at}
use Rattle.cf_core.specs.Keeping.Treatment.{became}
use Rattle.cf_core.proofs.Keeping.CellLemmas.{map_written, takes_none, takes_one}
use Rattle.cf_core.proofs.Keeping.Places.{kept_put}
use Rattle.cf_core.proofs.cells.Cells.take_one.Goals as goal

pub returns-in-Settled-clause-kept : goal.returns-in-Settled-clause-kept
returns-in-Settled-clause-kept c =
    let source = rw (← c.self.view_is) at c.requires.source in
    let stage = rw (← c.self.view_is) at c.requires.stage in
    let is = takes_one c.args.form c.self.inside.cells.items c.args.j c.args.m c.index-from.result.now source stage c.index-from.ensures c.index_mut.result.now c.take_one.new.self c.in-Settled.is c.index_mut.ensures.value in
    rw (← c.self.view_is) (is c.take_one.ensures.kept)

pub returns-in-Settled-clause-told : goal.returns-in-Settled-clause-told
returns-in-Settled-clause-told c =
    let stage = rw (← c.self.view_is) at c.requires.stage in
    let cells = c.self.inside.cells.items in
    let here = kept_put (map kept_of cells) c.args.m (kept_of c.take_one.new.self) stage in
    c.take_one.ensures.told
    ∙ sym (ap (λ kept. became ((kept_at kept c.args.m).stage)) (map_written cells c.args.m c.take_one.new.self) ∙ ap (λ (k : KeptStage). became k.stage) here)

pub returns-in_default : goal.returns-in_default
returns-in_default c =
    let source = rw (← c.self.view_is) at c.requires.source in
    let stage = rw (← c.self.view_is) at c.requires.stage in
    let pending = rw (← c.self.view_is) at c.requires.pending in
    record {
      kept = rw (← c.self.view_is) (takes_none c.args.form c.self.inside.cells.items c.args.j c.args.m c.index-from.result.now source stage c.index-from.ensures c.in_default.not-Settled pending);
      told = rw (← c.self.view_is) (sym (ap became pending));
      room = refl;
    }
