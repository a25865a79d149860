use Rattle.std.proofs.Common.{◌≡◌, ◌∷◌, ◌++◌, take}
use Rattle.std.specs.Prelude.{decimal}
use Rattle.std.specs.List.{flat_map}
use Rattle.reel_qc.proofs.table.put_row.Given as goal

-- the first counts
abbrev pub invariant-loop-count : goal.invariant-loop-count
invariant-loop-count l = l.text.items ≡ l.fn.text.items ++ decimal l.frame ++ flat_map (λ n. 32 ∷ decimal n) (take l.count-index l.counts)
