use Rattle.std.proofs.Common.{◌≡◌, ◌++◌}
use Rattle.std.specs.List.{flat_map, range_with_len}
use Rattle.demo.specs.Texts.{head_text, reel_text}
use Rattle.demo.proofs.texts.project_text.Given as goal

-- the reels so far stand behind the head
abbrev pub invariant-loop-reel : goal.invariant-loop-reel
invariant-loop-reel l = l.project.items ≡ head_text ++ flat_map (reel_text l.frames) (range_with_len 0 l.reel)
