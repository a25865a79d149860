use Rattle.std.proofs.Common.{◌≡◌, ◌∷◌, ◌++◌, take, codes}
use Rattle.std.specs.List.{flat_map}
use Rattle.reel_qc.specs.Table.{kind_word}
use Rattle.reel_qc.proofs.table.put_kinds.Given as goal

-- the words of the first probes
abbrev pub invariant-loop-probe : goal.invariant-loop-probe
invariant-loop-probe g l = l.text.items ≡ l.fn.text.items ++ codes "qc" ++ flat_map (λ p. 32 ∷ kind_word p.kind) (take l.probe-index l.probes)
