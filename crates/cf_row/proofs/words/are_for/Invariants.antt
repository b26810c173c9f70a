use Rattle.std.proofs.Common.{◌+◌, ◌≤◌, drop}
use Rattle.cf_row.specs.Puts.{AreWordsFor}
use Rattle.cf_row.proofs.words.are_for.Given as goal

-- the words that are left are such words just where all are
abbrev pub invariant-loop-word : goal.invariant-loop-word
invariant-loop-word l = record {
  few : l.there + l.left ≤ 4096;
  all : AreWordsFor l.who l.there l.left (drop l.word-index l.words) → AreWordsFor l.who l.stages l.room l.words;
  rest : AreWordsFor l.who l.stages l.room l.words → AreWordsFor l.who l.there l.left (drop l.word-index l.words);
}
