-- The bytes are the sheet's, and the peak is that of the greatest mean.
use Rattle.std.proofs.Common.{ℕ, ◌<◌, ◌≤◌, arith, subst, sym}
use Rattle.reel_qc.proofs.SheetLaws.{greatest_small, sheet_bytes, sheet_code, sheet_drawn, some_lines}
use Rattle.reel_qc.proofs.sheet.sheet_of.Goals as goal

pub at-requires : goal.at-requires
at-requires g c = greatest_small _ _ _ _ _ c.in_ok-drawing.ensures.drawn.drawn

pub returns-clause-drawn : goal.returns-clause-drawn
returns-clause-drawn g c =
    let planned = c.recall.ensures.job.planned in
    let high = some_lines c.args.job.now c.in_ok-frames.frames.items c.in_ok-frames.ensures.frames c.in_ok-frames.ensures.some planned.some_height in
    sheet_drawn _ _ _ _ _ _ _ _ _ c.at.ensures.table (omega (arith, planned.some_width)) high c.in_ok-drawing.ensures.drawn c.at.ensures.value

pub returns-clause-bytes : goal.returns-clause-bytes
returns-clause-bytes g c told = sheet_bytes _ _ _ _ _ _ _ _ (returns-clause-drawn g c) told

pub returns-clause-peak : goal.returns-clause-peak
returns-clause-peak g c told = sheet_code _ _ _ _ _ _ _ _ (returns-clause-drawn g c) told

below : (n : ℕ) → n ≤ 1023 → n < 1024
below n most = omega (arith, most)

pub returns-clause-code : goal.returns-clause-code
returns-clause-code g c =
    subst (λ n. n ≤ 1023) (sym c.at.ensures.value) (c.at.ensures.table.codes _ (below _ (greatest_small _ _ _ _ _ c.in_ok-drawing.ensures.drawn.drawn)))
