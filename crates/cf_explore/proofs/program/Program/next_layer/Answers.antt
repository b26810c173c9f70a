use Rattle.std.proofs.Common.{◌≡◌, List, [], arith, length, sym, subst, true}
use Rattle.cf_forms.specs.Meanings.{meanings_of}
use Rattle.cf_explore.specs.declared.layer.Entry.{Entry}
use Rattle.cf_explore.specs.Layers.{AreNumbered}
use Rattle.cf_explore.proofs.Spreading.{NextUpTo, leads-past, longer-both, numbered-none, next-start, next-step, next-end}
use Rattle.cf_explore.proofs.program.Program.next_layer.Goals as goal

pub loop-entry-init : goal.loop-entry-init
loop-entry-init g c =
    let m = meanings_of g.F.StageFn.meaning c.args.functions.now in (
      subst (λ (es : List Entry). NextUpTo m c.args.self.now [] c.args.trail.now.items es c.args.trail.now.items) (sym c.new-next.ensures) (next-start m c.args.self.now c.args.trail.now.items),
      λ few. few,
      subst (λ (es : List Entry). AreNumbered (length c.args.trail.now.items) c.args.trail.now.items es) (sym c.new-next.ensures) (numbered-none c.args.trail.now.items),
    )

pub loop-entry-preserved : goal.loop-entry-preserved
loop-entry-preserved g c =
    let whole : c.in_ok-all.all ≡ true = c.if-not-all.false in (
      next-step (meanings_of g.F.StageFn.meaning c.args.functions.now) c.args.self.now c.args.entries.now c.loop-entry.entry-index c.args.trail.now.items c.loop-entry.next.entries.items c.loop-entry.trail.items c.entry-item.result c.spread.new.next.entries.items c.spread.new.trail.items c.loop-entry-test.true c.entry-item.is c.loop-entry.invariant.0 (c.in_ok-all.ensures.spread whole) c.in_ok-all.ensures.led c.in_ok-all.ensures.longer,
      λ few. c.in_ok-all.ensures.within (c.loop-entry.invariant.1 few),
      c.in_ok-all.ensures.numbered (length c.args.trail.now.items) c.loop-entry.invariant.2,
    )

pub returns-clause-next : goal.returns-clause-next
returns-clause-next g c =
    let h = next-end (meanings_of g.F.StageFn.meaning c.args.functions.now) c.args.self.now c.args.entries.now c.loop-entry.entry-index c.args.trail.now.items c.loop-entry.next.entries.items c.loop-entry.trail.items (omega arith) c.loop-entry.invariant.0 in
    h.next

pub returns-clause-led : goal.returns-clause-led
returns-clause-led g c =
    let h = next-end (meanings_of g.F.StageFn.meaning c.args.functions.now) c.args.self.now c.args.entries.now c.loop-entry.entry-index c.args.trail.now.items c.loop-entry.next.entries.items c.loop-entry.trail.items (omega arith) c.loop-entry.invariant.0 in
    h.led

pub returns-clause-longer : goal.returns-clause-longer
returns-clause-longer g c = c.loop-entry.invariant.0.grows

pub returns-then-not-all-clause-longer : goal.returns-then-not-all-clause-longer
returns-then-not-all-clause-longer g c = longer-both c.args.trail.now.items c.loop-entry.trail.items c.spread.new.trail.items c.loop-entry.invariant.0.grows c.in_ok-all.ensures.longer

pub returns-then-not-all-clause-within : goal.returns-then-not-all-clause-within
returns-then-not-all-clause-within g c = λ few. c.in_ok-all.ensures.within (c.loop-entry.invariant.1 few)

pub returns-clause-within : goal.returns-clause-within
returns-clause-within g c = c.loop-entry.invariant.1

pub returns-clause-numbered : goal.returns-clause-numbered
returns-clause-numbered g c = c.loop-entry.invariant.2

pub returns-then-not-all-clause-full : goal.returns-then-not-all-clause-full
returns-then-not-all-clause-full g c = c.in_ok-all.ensures.full c.if-not-all.true

pub returns-then-not-all-clause-past : goal.returns-then-not-all-clause-past
returns-then-not-all-clause-past g c =
    leads-past (meanings_of g.F.StageFn.meaning c.args.functions.now) c.args.self.now c.args.trail.now.items c.args.entries.now c.loop-entry.entry-index c.loop-entry.next.entries.items c.loop-entry.trail.items c.entry-item.result c.spread.new.next.entries.items c.spread.new.trail.items c.loop-entry-test.true c.entry-item.is c.loop-entry.invariant.0 c.in_ok-all.ensures.led c.in_ok-all.ensures.longer (c.in_ok-all.ensures.numbered (length c.args.trail.now.items) c.loop-entry.invariant.2) (c.in_ok-all.ensures.past c.if-not-all.true)
