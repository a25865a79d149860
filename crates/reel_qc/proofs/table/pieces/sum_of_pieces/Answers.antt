use Rattle.std.proofs.Common.{max, arith, ap, ◌∙◌, lit<}
use Rattle.std.specs.List.{fold}
use Rattle.rayon.specs.Lists.{chunks_of}
use Rattle.rayon.proofs.ToStd.{chunks_of-All, slice-map}
use Rattle.reel_qc.specs.Counts.{count_of}
use Rattle.reel_qc.proofs.Cutting.{whole_of_pieces, count_fits}
use Rattle.reel_qc.proofs.table.pieces.sum_of_pieces.Goals as goal

-- the pieces are short
pub sum-requires-clause-ready : goal.sum-requires-clause-ready
sum-requires-clause-ready g c κs within =
    let pieces = chunks_of-All 512 c.args.words.now (lit< tt) in
    rw (c.map.ensures.base, c.map.ensures.f, c.par_chunks.ensures.slice, c.par_chunks.ensures.size) (λ k d lt x e.
    let short = (pieces k d lt).1 in
    (rw e (omega arith), λ y p. tt))

-- the pieces' counts add up to the count of the whole, which fits
pub sum-requires-clause-fits : goal.sum-requires-clause-fits
sum-requires-clause-fits g c κs within =
    let cut = ap (λ it. chunks_of (max it.size 1) it.slice.now) c.map.ensures.base
    ∙ (λ i. chunks_of (max (c.par_chunks.ensures.size i) 1) (c.par_chunks.ensures.slice i)) in
    let kind = c.args.probe.now.kind in
    let words = c.args.words.now in
    rw c.map.ensures.f (λ ys h.
    rw (slice-map h.0 (chunks_of 512 words) (h.1 ∙ cut) (count_of kind) ys h.2, whole_of_pieces kind 512 words (lit< tt))
    (count_fits kind words c.type_inv.words c.requires))

pub returns : goal.returns
returns g c =
    let cut = ap (λ it. chunks_of (max it.size 1) it.slice.now) c.map.ensures.base
    ∙ (λ i. chunks_of (max (c.par_chunks.ensures.size i) 1) (c.par_chunks.ensures.slice i)) in
    let kind = c.args.probe.now.kind in
    let words = c.args.words.now in
    let done = rw c.map.ensures.f at c.sum.ensures in
    done.2 ∙ ap (fold _ 0) (slice-map done.1.0 (chunks_of 512 words) (done.1.1 ∙ cut) (count_of kind) done.0 done.1.2)
    ∙ whole_of_pieces kind 512 words (lit< tt)
