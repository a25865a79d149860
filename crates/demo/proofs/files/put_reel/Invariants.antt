use Rattle.std.proofs.Common.{◌≡◌, ◌+◌, ◌++◌, map}
use Rattle.std.specs.List.{range_with_len}
use Rattle.demo.specs.Files.{kept, source_entry}
use Rattle.demo.specs.Texts.{hour}
use Rattle.demo.proofs.files.put_reel.Given as goal

-- the files so far are appended
abbrev pub invariant-loop-k : goal.invariant-loop-k
invariant-loop-k l = kept l.files.items ≡ kept l.initial.files.items ++ map (λ k. source_entry l.reel (hour + k)) (range_with_len 0 l.k)
