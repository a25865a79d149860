use Rattle.std.proofs.Common.{◌≡◌, ℕ, ◌<◌, get_or}
use Rattle.demo.specs.Pictures.{source_word}
use Rattle.demo.proofs.picture.fill_words.Given as goal

-- the words so far stand in their places
abbrev pub invariant-loop-x : goal.invariant-loop-x
invariant-loop-x l = (k : ℕ) → k < l.x → get_or l.out k 0 ≡ source_word l.reel l.frame k l.y
