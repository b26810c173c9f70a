-- Laws of what is due.
use Rattle.std.specs.Prelude.{◌≢◌, ℕ, List}
use Rattle.cf_row.specs.Numbers.{HaveOneEach}
use Rattle.cf_row.specs.Puts.{IsNoPut, pairs_of}
use Rattle.cf_row.specs.Rows.{Replica}
use Rattle.cf_row.specs.declared.faults.PutFault.{PutFault}
use Rattle.cf_row.specs.declared.faults.PutFault.TheVariants.{NoWord}
use Rattle.cf_due.specs.Due.{FitBehind}

-- where no session has two numbers in a row, words that fit there are refused for want of tokens or of memory alone
abbrev pub FittingWordsArePlanned : Type 0
FittingWordsArePlanned =
    (r : Replica) (next : ℕ) (words : List ℕ) (fault : PutFault) → HaveOneEach (pairs_of r.seen) → FitBehind r words → IsNoPut r next words fault → fault ≢ NoWord
