-- The probe of the cell counts the block of the cell.
use Rattle.std.proofs.Common.{◌≡◌, ◌∙◌, ◌/◌, ◌%◌, arith, length, map, ap, sym, get_or}
use Rattle.std.proofs.lemmas.List.{get_or-map, length-map}
use Rattle.std.proofs.Math.Nat.{mod-lt}
use Rattle.reel_qc.specs.inside.Counts.{block_of}
use Rattle.reel_qc.proofs.Adds.{cell_is}
use Rattle.reel_qc.proofs.table.blocks.count_cell.Goals as goal

pub returns : goal.returns
returns g c =
    let probes = c.args.probes.now in
    let i = c.args.i in
    let kinds = map (λ p. p.kind) probes in
    let probe = c.index-probes-i.result in
    let long : length kinds ≡ length probes = length-map probes (λ p. p.kind) in
    cell_is kinds c.args.words.now c.block_of.result.now i c.run.result probe.kind (omega (arith, long, c.requires.some))
    (c.block_of.ensures.block ∙ ap (λ n. block_of c.args.words.now (i / n)) (sym long))
    (ap (λ p. p.kind) c.index-probes-i.is ∙ sym (get_or-map (λ p. p.kind) probes (i % length probes) probe probe.kind (mod-lt i c.requires.some))
    ∙ ap (λ n. get_or kinds (i % n) probe.kind) (sym long))
    c.run.ensures
