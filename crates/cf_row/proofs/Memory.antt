-- Memory for entries to come, and what is kept beside it.
use Rattle.std.proofs.Common.{◌≡◌, ℕ, ◌+◌, ◌-◌, ◌≤◌, Bool, true, false, cond, List, [], ◌∷◌, ◌++◌, length, length-append, ap, ◌∙◌, arith, append-nil}
use Rattle.cf_event.specs.declared.record.Record.{Record}
use Rattle.cf_model.specs.declared.events.Reply.{Reply}
use Rattle.cf_ledger.specs.Ledgers.{Does, Ledger}

-- the memory of one word is taken
pub spends : (word : ℕ) (old new : Ledger) (reply : Reply) → Does word old reply new → new.free ≡ old.free - 1
spends word old new reply does = ap (λ (l : Ledger). l.free) does.written

-- one record more, or none
pub note_count : (b : Bool) (rs rs2 : List Record) (r : Record) → rs2 ≡ rs ++ cond b (r ∷ []) [] → length rs2 ≤ length rs + 1
note_count true rs rs2 r is = let size = ap (λ (l : List Record). length l) is ∙ length-append rs (r ∷ []) in omega (arith, size)
note_count false rs rs2 r is = let size = ap (λ (l : List Record). length l) (is ∙ append-nil rs) in omega (arith, size)
