use Rattle.std.proofs.Common.{◌≡◌, ◌++◌}
use Rattle.std.specs.List.{flat_map, range_with_len}
use Rattle.demo.specs.Pictures.{source_line}
use Rattle.demo.proofs.picture.put_picture.Given as goal

-- the lines so far are appended
abbrev pub invariant-loop-y : goal.invariant-loop-y
invariant-loop-y l = l.file.items ≡ l.initial.file.items ++ flat_map (source_line l.reel l.frame) (range_with_len 0 l.y)
