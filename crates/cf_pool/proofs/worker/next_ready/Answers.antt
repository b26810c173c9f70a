use Rattle.std.proofs.Common.{◌≡◌, ℕ, false, Option, Some, None, refl, sym, ◌∙◌, is_some, arith}
use Rattle.cf_desk.proofs.Passes.{follows_itself, follows_longer, follows_then}
use Rattle.cf_pool.proofs.Waiting.{idles_more, idles_none}
use Rattle.cf_pool.proofs.worker.next_ready.Goals as goal

pub looks-init : goal.looks-init
looks-init c = record { seen = follows_itself _; idles = idles_none _ _ _; none = λ h. absurd (omega arith) }

nothing : (x : Option ℕ) → is_some x ≡ false → x ≡ None
nothing None e = refl
nothing (Some i) e = cc

pub looks-preserved : goal.looks-preserved
looks-preserved c =
    let i = c.looks.invariant in
    let e = c.ready-ready.ensures in
    let none = sym e.told ∙ nothing c.ready-ready.result (sym c.is_some.ensures ∙ c.if-is_some.false) in
    record {
      seen = follows_then c.args.pass.now c.looks.pass c.ready-ready.new.p i.seen e.seen;
      idles = idles_more c.args.desk.now c.looks.counter _ _ c.looks.pass c.ready-ready.new.p (follows_longer c.args.pass.now c.looks.pass i.seen) e.seen e.looks none i.idles;
      none = λ h. none;
    }
