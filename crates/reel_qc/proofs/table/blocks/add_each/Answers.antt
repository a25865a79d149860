-- One probe after another counts.
use Rattle.std.proofs.Common.{◌∙◌, arith, map, ap, sym}
use Rattle.std.proofs.lemmas.List.{get_or-map, length-map}
use Rattle.reel_qc.specs.Counts.{count_of}
use Rattle.reel_qc.proofs.Adds.{all_added, none_added, probe_added}
use Rattle.reel_qc.proofs.table.blocks.add_each.Goals as goal

pub loop-k-init : goal.loop-k-init
loop-k-init g c = none_added _ c.args.counts.now

pub loop-k-preserved : goal.loop-k-preserved
loop-k-preserved g c =
    let kinds = map (λ p. p.kind) c.args.probes.now in
    let long = length-map c.args.probes.now (λ p. p.kind) in
    probe_added kinds c.args.words.now _ c.loop-k.counts c.loop-k.k c.run.result c.index-probes-k.result.kind
    (omega (arith, long, c.loop-k-test.true)) (omega (arith, long, c.loop-k.auto.counts, c.requires.size))
    (ap (λ p. p.kind) c.index-probes-k.is ∙ sym (get_or-map (λ p. p.kind) c.args.probes.now c.loop-k.k c.index-probes-k.result c.index-probes-k.result.kind c.loop-k-test.true))
    c.run.ensures c.loop-k.invariant

pub returns : goal.returns
returns g c =
    let kinds = map (λ p. p.kind) c.args.probes.now in
    let long = length-map c.args.probes.now (λ p. p.kind) in
    let counted = length-map kinds (λ kind. count_of kind c.args.words.now) in
    all_added _ _ _ _ (omega (arith, long, counted, c.requires.size)) (omega (arith, c.loop-k-test.false, c.requires.size)) c.loop-k.invariant
