-- The words that were found are counted.
use Rattle.std.proofs.Common.{arith, take}
use Rattle.std.proofs.lemmas.List.{length-take}
use Rattle.reel_qc.proofs.Adds.{front_small}
use Rattle.reel_qc.proofs.table.counting.count_part.Goals as goal

pub returns-clause-added : goal.returns-clause-added
returns-clause-added g c = record {
  words = take c.in_ok-found.found c.read_words.new.words;
  told = λ told. c.in_ok-found.ensures.words told;
  read = c.in_ok-found.ensures.calls;
  few = omega (arith, length-take c.in_ok-found.found c.read_words.new.words, c.in_ok-found.ensures.few);
  small = front_small c.in_ok-found.found c.read_words.new.words c.in_ok-found.ensures.small;
  added = c.in_ok-add_counts.ensures.added;
}
