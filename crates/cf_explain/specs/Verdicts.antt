-- What the verdict on a script is, and what is said of one that is refused.
use Rattle.std.specs.Prelude.{◌≡◌, List, [], ◌∷◌, Option, Some, None, Result, Err, IsOk}
use Rattle.cf_script_reading.specs.declared.fault.ReadingFault.{ReadingFault}
use Rattle.cf_script_reading.specs.Scripts.{Script}
use Rattle.cf_explain.specs.declared.verdict.Refusal.{Refusal}
use Rattle.cf_explain.specs.declared.verdict.Verdict.{Verdict}
use Rattle.cf_explain.specs.declared.verdict.Verdict.TheVariants.{Right, Refused, Odd}
use Rattle.cf_explain.specs.Places.{area_of}

-- A refusal is told exactly where reading says a fault, and then it has that fault and a place in the part that the fault
-- names; none is told where reading reads a script.
abbrev pub ExplainTells : {A : Type 0} → Option Refusal → Result A ReadingFault → Type 0
ExplainTells None said = IsOk said
ExplainTells (Some refusal) said = (said ≡ Err refusal.fault) × (refusal.place.area ≡ area_of refusal.fault)

-- what bytes say that are refused for this fault
abbrev pub refused_for : ReadingFault → Result Script ReadingFault
refused_for fault = Err fault

-- the verdict, by the refusal and by what is remarked
abbrev pub verdict_of : {A B : Type 0} → Option A → List B → Verdict
verdict_of (Some refusal) remarks = Refused
verdict_of None [] = Right
verdict_of None (remark ∷ remarks) = Odd
