-- A step that finishes something writes a word.
use Rattle.std.proofs.Common.{◌≡◌, ℕ, ◌+◌, ◌<◌, ◌≤◌, ◌∷◌, [], Option, Some, None, IfSome, length, length-append, ap, arith, ◌∙◌}
use Rattle.cf_model.specs.declared.events.Reply.{Reply}
use Rattle.cf_ledger.specs.declared.step.Finish.{Finish}
use Rattle.cf_ledger.specs.declared.step.Held.{Held}
use Rattle.cf_ledger.specs.declared.step.Step.{Step}
use Rattle.cf_ledger.specs.declared.step.Taken.{Taken}
use Rattle.cf_ledger.specs.Ledgers.{Does, Ledger}
use Rattle.cf_ledger.specs.Steps.{Finishes, Steps, Takes}

does_longer : (w : ℕ) (old : Ledger) (reply : Reply) (new : Ledger) → Does w old reply new → length new.events ≡ length old.events + 1
does_longer w old reply new d = ap (λ (l : Ledger). length l.events) d.written ∙ length-append old.events (d.event ∷ [])

takes_longer : (who from : ℕ) (old : Ledger) (taken : Option Taken) (new : Ledger) → Takes who from old taken new → length old.events ≤ length new.events
takes_longer who from old None new h = (let same = ap (λ (l : Ledger). length l.events) h.1 in omega (arith, same))
takes_longer who from old (Some t) new h = (let more = does_longer t.word old _ new h.done in omega (arith, more))

finishes_longer : (who : ℕ) (held : Option Held) (old : Ledger) (finish : Option Finish) (new : Ledger) (n : ℕ) → length new.events ≤ n → Finishes who held old finish new → IfSome finish (λ f. length old.events < n)
finishes_longer who None old None new n l h = tt
finishes_longer who (Some x) old None new n l h = tt
finishes_longer who None old (Some f) new n l h = absurd h
finishes_longer who (Some x) old (Some f) new n l h = (let more = does_longer f.word old _ new h.1 in omega (arith, more, l))

pub steps_longer : (who from : ℕ) (held : Option Held) (old : Ledger) (step : Step) (new : Ledger) → Steps who held from old step new → IfSome step.finish (λ f. length old.events < length new.events)
steps_longer who from held old step new s =
    finishes_longer who held old step.finish s.between (length new.events) (takes_longer who from s.between step.taken new s.takes) s.finishes
