-- The words so far are the first ones.
use Rattle.std.proofs.Common.{◌≡◌, ◌≤◌, length, map, take}
use Rattle.std.specs.String.{string_bytes}
use Rattle.conform.proofs.words_of.Given as goal

abbrev pub invariant-loop-word : goal.invariant-loop-word
invariant-loop-word l = record { within : l.word-index ≤ length l.owned; texts : map (λ word. word.now) l.words.items ≡ map string_bytes (take l.word-index l.owned) }
