-- The words are those that were yielded, and behind them come those that are left.
use Rattle.std.proofs.Common.{◌≡◌, ◌++◌}
use Rattle.outside.proofs.words_behind.Given as goal

abbrev pub invariant-loop-word : goal.invariant-loop-word
invariant-loop-word l = l.words.items ++ l.word-iterator.rest.items ≡ l.initial.word-iterator.rest.items
