use Rattle.std.proofs.Common.{List, Some, arith, true, false, refl, ap, ◌∙◌, subst, length, length-append, ◌≡◌, ◌∷◌, [], None}
use Rattle.std.proofs.lemmas.List.{length-replicate}
use Rattle.cf_explore.specs.declared.layer.Entry.{Entry}
use Rattle.cf_explore.specs.declared.search.Search.{Search}
use Rattle.cf_explore.specs.declared.step.Move.TheVariants as moving
use Rattle.cf_explore.specs.declared.trail.Trace.{Trace}
use Rattle.cf_explore.specs.Layers.{IsAdded}
use Rattle.cf_explore.proofs.Beginning.{begun}
use Rattle.cf_explore.proofs.program.Program.begin.Goals as goal

pub returns-clause-search : goal.returns-clause-search
returns-clause-search c = λ m.
    let search : Search = record {
      layer = c.add.new.self;
      found = record { ends = c.new.result; decisions = c.in_ok-decisions.decisions; moves = 0; whole = false; trail = c.push.new.self };
      is_on = true;
    } in
    let added : IsAdded [] c.add.new.self.entries.items c.in_ok-start.start 1 (Some 0) c.in_ok-_new._new =
    subst (λ (old : List Entry). IsAdded old c.add.new.self.entries.items c.in_ok-start.start 1 (Some 0) c.in_ok-_new._new) c.new-layer.ensures c.in_ok-_new.ensures in
    let one : Trace = record { before = 0; by = moving.Tick } in
    let alone : length c.push.new.self.items ≡ 1 = omega (arith, ap length c.in_ok-push.ensures.items, length-append c.new-trail.result.items (one ∷ []), ap length c.new-trail.ensures.items) in
    begun m c.args.self.now c.args.conditions.now search c.in_ok-start.start c.in_ok-_new._new alone refl added c.in_ok-start.ensures c.new.ensures.items
    c.in_ok-decisions.ensures (ap length c.in_ok-decisions.ensures ∙ length-replicate (length c.args.conditions.now) None) refl refl
