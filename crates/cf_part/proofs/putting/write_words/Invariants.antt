use Rattle.std.proofs.Common.{◌≡◌, ◌≤◌, length, take, vec_capacity}
use Rattle.cf_part.specs.Parts.{words_wanted}
use Rattle.cf_part.proofs.putting.write_words.Given as goal

-- the words so far are written
abbrev pub invariant-loop-want : goal.invariant-loop-want
invariant-loop-want l = record {
  written : l.words.items ≡ words_wanted (take l.want-index l.wants);
  count : length l.words.items ≡ l.want-index;
  room : length l.wants ≤ vec_capacity l.words;
  kept : vec_capacity l.words ≡ vec_capacity l.initial.words;
}
