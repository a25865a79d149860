use Rattle.std.proofs.Common.{◌≡◌, ◌*◌, ◌≤◌, take}
use Rattle.std.specs.List.{sum_by}
use Rattle.reel_qc.specs.Counts.{blue_of, green_of, red_of}
use Rattle.reel_qc.proofs.sheet.boxes.sums_of.Given as goal

-- the words before are added
abbrev pub invariant-loop-word : goal.invariant-loop-word
invariant-loop-word l = record {
  red : l.red ≡ sum_by red_of (take l.word-index l.words);
  green : l.green ≡ sum_by green_of (take l.word-index l.words);
  blue : l.blue ≡ sum_by blue_of (take l.word-index l.words);
  red_most : l.red ≤ 1023 * l.word-index;
  green_most : l.green ≤ 1023 * l.word-index;
  blue_most : l.blue ≤ 1023 * l.word-index;
}
