use Rattle.std.proofs.Common.{◌+◌, ◌≤◌, ◌++◌, ℕ, List, length, take, Option, arith, vec_items}
use Rattle.std.proofs.lemmas.List.{length-append, length-take}
use Rattle.std.proofs.KnownBytes.{Consumes-trans}
use Rattle.std.specs.Io.KnownBytes.{Consumes}
use Rattle.cf_script_reading.specs.Input.{TakesAtMost}
use Rattle.cf_script_reading.proofs.input.read_input.Goals as goal

-- one read more
taken_more : (a b c : Option (List ℕ)) (found piece : List ℕ) (n most : ℕ) → Consumes a b found → Consumes b c (take n piece) → length found + n ≤ most → TakesAtMost most a c
taken_more a b c found piece n most so_far more few =
    let whole = length-append found (take n piece) in
    let part = length-take n piece in
    (found ++ take n piece, Consumes-trans a b c found (take n piece) so_far more, omega arith)

pub returns-in_err-extend_from_slice-clause-taken : goal.returns-in_err-extend_from_slice-clause-taken
returns-in_err-extend_from_slice-clause-taken g c =
    let room = length-take c.min.result c.pieces.piece in
    let few : length (vec_items c.pieces.found) + c.in-Ok.n ≤ 1048577 = omega (arith, c.in-Ok.ensures.bound.0) in
    taken_more _ _ _ (vec_items c.pieces.found) c.read.new.buf c.in-Ok.n _ c.pieces.invariant.so_far c.in-Ok.ensures.bytes.0 few
