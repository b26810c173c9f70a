use Rattle.cf_threads.proofs.slips.note.Given as goal

abbrev pub ghosts-take_turn : goal.ghosts-take_turn
ghosts-take_turn g a = record { turn = a.turn.now }
