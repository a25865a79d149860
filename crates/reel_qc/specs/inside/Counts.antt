-- What is counted over a picture's words: words of private clauses.
use Rattle.std.specs.Prelude.{ℕ, ◌*◌, ◌/◌, ◌%◌, List, drop, length, slice_index, take}
use Rattle.reel_qc.specs.declared.table.probe.ProbeKind.{ProbeKind}
use Rattle.reel_qc.specs.Counts.{counts_of}

-- the n-th of the blocks of 16,384 words, of which the last may be shorter
abbrev pub block_of : List ℕ → ℕ → List ℕ
block_of words n = take 16384 (drop (n * 16384) words)

-- the counts of the blocks, one after another, each by all kinds
abbrev pub cell_of : List ProbeKind → List ℕ → ℕ → ℕ
cell_of kinds words i = slice_index (counts_of kinds (block_of words (i / length kinds))) (i % length kinds)
