-- Records without some of the reads.
use Rattle.std.specs.Prelude.{◌≡◌, ℕ, ◌∷◌, [], ◌⊎◌, List}
use Rattle.cf_event.specs.declared.record.Record.{Record}
use Rattle.cf_event.specs.declared.record.Record.TheVariants.{Did, Saw}

-- fewer records, which are these but for some reads
abbrev pub AreButReads : List Record → List Record → Type 0
AreButReads fewer [] = fewer ≡ []
AreButReads fewer (Did place event reply ∷ records) =
    (others : List Record) × (fewer ≡ Did place event reply ∷ others) × AreButReads others records
AreButReads fewer (Saw place ask answer ∷ records) =
    AreButReads fewer records ⊎ ((others : List Record) × (fewer ≡ Saw place ask answer ∷ others) × AreButReads others records)

-- the same callers, each without some of its reads
abbrev pub AreCallersBut : List (ℕ × List Record) → List (ℕ × List Record) → Type 0
AreCallersBut fewer [] = fewer ≡ []
AreCallersBut fewer (k ∷ callers) =
    (records : List Record) × (others : List (ℕ × List Record)) × (fewer ≡ (k.0, records) ∷ others) × AreButReads records k.1 × AreCallersBut others callers
