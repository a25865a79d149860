-- One block after another is added.
use Rattle.std.proofs.Common.{◌≡◌, ℕ, List, ◌∙◌, ◌+◌, ◌*◌, ◌-◌, arith, length, map, take, drop, sym, subst}
use Rattle.std.proofs.lemmas.List.{length-map, take-append-le, take_all}
use Rattle.std.proofs.Math.Nat.{add-mul}
use Rattle.reel_qc.specs.Counts.{HasAdded}
use Rattle.reel_qc.proofs.Adds.{block_added, nothing_added, row_counts}
use Rattle.reel_qc.proofs.table.blocks.add_forked.Goals as goal

pub loop-n-init : goal.loop-n-init
loop-n-init g c = nothing_added (map (λ p. p.kind) c.args.probes.now) c.args.counts.now c.type_inv.counts

pub loop-n-preserved : goal.loop-n-preserved
loop-n-preserved g c =
    let probes = c.args.probes.now in
    let words = c.args.words.now in
    let kinds = map (λ p. p.kind) probes in
    let n : ℕ = c.loop-n.n in
    let width : ℕ = length probes in
    let cells : List ℕ = c.count_cells.new.cells in
    let long : length cells ≡ c.in_ok-cells.cells.len = omega (arith, c.count_cells.ensures.size, c.deref_mut.ensures.len) in
    let same : c.deref.result.now ≡ cells =
    c.deref.ensures.value ∙ take-append-le c.in_ok-cells.cells.len cells _ (omega (arith, long)) ∙ take_all c.in_ok-cells.cells.len cells (omega (arith, long)) in
    let cut : (n + 1) * width - n * width ≡ width = omega (arith, add-mul n 1 width) in
    let row = row_counts kinds words cells (take ((n + 1) * width - n * width) (drop (n * width) c.deref.result.now)) n c.div_ceil-blocks.result width
    (sym (length-map probes (λ p. p.kind))) (long ∙ c.in_ok-cells.ensures.len ∙ c.in-Some.ensures.1) c.loop-n-test.true
    (λ i lt. c.count_cells.ensures.cells i (omega (arith, lt, c.count_cells.ensures.size))) (λ t. take (cut t) (drop (n * width) (same t))) in
    block_added kinds words c.args.counts.now c.loop-n.counts c.add_row.new.counts n c.loop-n.invariant
    (subst (λ l. HasAdded l c.loop-n.counts c.add_row.new.counts) row c.add_row.ensures)
