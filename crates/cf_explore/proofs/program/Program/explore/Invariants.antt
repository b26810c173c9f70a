use Rattle.std.specs.Prelude.{◌≡◌, true}
use Rattle.cf_forms.specs.Meanings.{meanings_of}
use Rattle.cf_explore.specs.Found.{IsOver, IsSearch, IsWithin}
use Rattle.cf_explore.proofs.program.Program.explore.Given as goal

-- it is true of the search so far, which has gone on in each turn
abbrev pub invariant-loop-turn : goal.invariant-loop-turn
invariant-loop-turn g l =
    IsSearch (meanings_of g.F.StageFn.meaning l.functions) l.self l.conditions l.search × IsOver l.bound l.search × IsWithin l.bound l.search
    × (l.search.is_on ≡ true → l.search.found.moves ≡ l.turn)
