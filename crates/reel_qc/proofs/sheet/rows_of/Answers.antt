-- Eight cells make a row, and as many rows fit as the cells leave room for.
use Rattle.std.proofs.Common.{ℕ, ◌+◌, ◌*◌, ◌/◌, ◌≤◌, List, length, arith, ap, subst, sym}
use Rattle.std.proofs.Math.Nat.{div-mul-le_self, mul-le-mul}
use Rattle.std.proofs.lemmas.List.{length-take}
use Rattle.conform_job.specs.Job.{JobData}
use Rattle.reel_qc.specs.Sheet.{cell_height, first_frames, most_cells, sheet_rows}
use Rattle.reel_qc.proofs.sheet.rows_of.Goals as goal

rows_fit : (job : JobData) → sheet_rows job * cell_height job ≤ 4096
rows_fit job =
    let few = length-take (most_cells job) (first_frames job) in
    let rows : sheet_rows job ≤ 4096 / cell_height job = omega (arith, few) in
    let same : cell_height job ≤ cell_height job = omega arith in
    let lines = mul-le-mul rows same in
    let all = div-mul-le_self 4096 (cell_height job) in
    omega (arith, lines, all)

pub returns-clause-rows : goal.returns-clause-rows
returns-clause-rows c = ap (λ (l : List ℕ). (length l + 7) / 8) c.requires.frames

pub returns-clause-fit : goal.returns-clause-fit
returns-clause-fit c =
    subst (λ n. n * cell_height c.args.job.now ≤ 4096) (sym (ap (λ (l : List ℕ). (length l + 7) / 8) c.requires.frames)) (rows_fit c.args.job.now)

pub returns-clause-wide : goal.returns-clause-wide
returns-clause-wide c = let planned = c.recall.ensures.job.planned in omega (arith, planned.some_width)
