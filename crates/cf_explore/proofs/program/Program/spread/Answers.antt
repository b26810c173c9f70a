use Rattle.std.proofs.Common.{◌≡◌, arith, sym, true}
use Rattle.std.proofs.lemmas.Bool.{false≢true}
use Rattle.cf_forms.specs.Meanings.{meanings_of}
use Rattle.cf_explore.specs.Moves.{moves}
use Rattle.cf_explore.proofs.Spreading.{can-move, longer-both, spread-start, spread-step, spread-end, spread-led}
use Rattle.cf_explore.proofs.program.Program.spread.Goals as goal

pub loop-by-init : goal.loop-by-init
loop-by-init g c =
    (spread-start (meanings_of g.F.StageFn.meaning c.args.functions.now) c.args.self.now c.args.entry.now c.args.next.now.entries.items c.args.trail.now.items, λ few. few, λ base before. before)

pub loop-by-preserved : goal.loop-by-preserved
loop-by-preserved g c =
    let all : c.deref-by-items.result.now ≡ moves c.args.self.now c.args.entry.now.situation = cc (c.deref-by-items.ensures.value, c.in_ok-moves.ensures) in
    let whole : c.in_ok-all.all ≡ true = c.if-not-all.false in (
      spread-step (meanings_of g.F.StageFn.meaning c.args.functions.now) c.args.self.now c.args.entry.now c.args.next.now.entries.items c.args.trail.now.items c.loop-by.next.entries.items c.loop-by.trail.items c.deref-by-items.result.now c.loop-by.by-index _ c.add_move.new.next.entries.items c.add_move.new.trail.items (omega arith) all c.loop-by.invariant.0 (c.in_ok-all.ensures.weighs whole) c.in_ok-all.ensures.led c.in_ok-all.ensures.longer,
      λ few. c.in_ok-all.ensures.within (c.loop-by.invariant.1 few),
      λ base before. c.in_ok-all.ensures.numbered base (c.loop-by.invariant.2 base before),
    )

pub returns-then-not-all-clause-spread : goal.returns-then-not-all-clause-spread
returns-then-not-all-clause-spread g c = λ wrong. absurd (false≢true wrong)

pub returns-then-not-all-clause-led : goal.returns-then-not-all-clause-led
returns-then-not-all-clause-led g c =
    let all : c.deref-by-items.result.now ≡ moves c.args.self.now c.args.entry.now.situation = cc (c.deref-by-items.ensures.value, c.in_ok-moves.ensures) in
    spread-led (meanings_of g.F.StageFn.meaning c.args.functions.now) c.args.self.now c.args.entry.now c.args.next.now.entries.items c.args.trail.now.items c.loop-by.next.entries.items c.loop-by.trail.items c.deref-by-items.result.now c.loop-by.by-index _ c.add_move.new.next.entries.items c.add_move.new.trail.items (omega arith) all c.loop-by.invariant.0 c.in_ok-all.ensures.led

pub returns-then-not-all-clause-longer : goal.returns-then-not-all-clause-longer
returns-then-not-all-clause-longer g c = longer-both c.args.trail.now.items c.loop-by.trail.items c.add_move.new.trail.items c.loop-by.invariant.0.grows c.in_ok-all.ensures.longer

pub returns-then-not-all-clause-numbered : goal.returns-then-not-all-clause-numbered
returns-then-not-all-clause-numbered g c = λ base before. c.in_ok-all.ensures.numbered base (c.loop-by.invariant.2 base before)

pub returns-then-not-all-clause-full : goal.returns-then-not-all-clause-full
returns-then-not-all-clause-full g c = λ stopped. c.in_ok-all.ensures.full c.if-not-all.true

pub returns-then-not-all-clause-past : goal.returns-then-not-all-clause-past
returns-then-not-all-clause-past g c = λ stopped.
    let all : c.deref-by-items.result.now ≡ moves c.args.self.now c.args.entry.now.situation = cc (c.deref-by-items.ensures.value, c.in_ok-moves.ensures) in
    (_, can-move c.args.self.now c.args.entry.now c.deref-by-items.result.now c.loop-by.by-index _ (omega arith) all, c.in_ok-all.ensures.past c.if-not-all.true)

pub returns-then-not-all-clause-within : goal.returns-then-not-all-clause-within
returns-then-not-all-clause-within g c = λ few. c.in_ok-all.ensures.within (c.loop-by.invariant.1 few)

pub returns-clause-spread : goal.returns-clause-spread
returns-clause-spread g c = λ yes.
    let all : c.deref-by-items.result.now ≡ moves c.args.self.now c.args.entry.now.situation = cc (c.deref-by-items.ensures.value, c.in_ok-moves.ensures) in
    spread-end (meanings_of g.F.StageFn.meaning c.args.functions.now) c.args.self.now c.args.entry.now c.args.next.now.entries.items c.args.trail.now.items c.loop-by.next.entries.items c.loop-by.trail.items c.deref-by-items.result.now c.loop-by.by-index (omega arith) all c.loop-by.invariant.0

pub returns-clause-led : goal.returns-clause-led
returns-clause-led g c = c.loop-by.invariant.0.led

pub returns-clause-longer : goal.returns-clause-longer
returns-clause-longer g c = c.loop-by.invariant.0.grows

pub returns-clause-numbered : goal.returns-clause-numbered
returns-clause-numbered g c = c.loop-by.invariant.2

pub returns-clause-full : goal.returns-clause-full
returns-clause-full g c = λ wrong. absurd (false≢true (sym wrong))

pub returns-clause-past : goal.returns-clause-past
returns-clause-past g c = λ wrong. absurd (false≢true (sym wrong))

pub returns-clause-within : goal.returns-clause-within
returns-clause-within g c = c.loop-by.invariant.1
