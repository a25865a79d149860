-- The counts begin at 0.
use Rattle.std.proofs.Common.{◌≡◌, ◌∙◌, List, ℕ, arith, length, map, true, ap, refl, sym, take, drop, ◌++◌, replicate}
use Rattle.std.proofs.lemmas.List.{length-map, take-append-le, take_all}
use Rattle.reel_disk.specs.Disk.{view_of}
use Rattle.reel_qc.specs.Words.{words_in}
use Rattle.reel_qc.proofs.Adds.{counted_as, whole_counted}
use Rattle.reel_qc.proofs.Asking.{frame_asked}
use Rattle.reel_qc.proofs.table.counting.count_frame.Goals as goal

pub returns-clause-counted : goal.returns-clause-counted
returns-clause-counted g c =
    let probes = c.args.counting.now.probes.now in
    let kinds = map (λ p. p.kind) probes in
    let files = view_of (g.D.Disk.state c.args.disk.now).history in
    let new : List ℕ = c.count_file.new.counts in
    let has = c.in_ok-count_file.ensures.added in
    let zeros = c.deref_mut-3.ensures.value ∙ c.in_ok-counts.ensures.items_if_clones_equal (λ y same. same) ∙ ap (λ n. replicate n 0) (sym (length-map probes (λ p. p.kind))) in
    let long : length new ≡ c.in_ok-counts.counts.len = omega (arith, has.added.size, c.deref_mut-3.ensures.len) in
    let same : take c.in_ok-counts.counts.len (new ++ drop (length new) c.in_ok-counts.counts.items) ≡ new =
    take-append-le c.in_ok-counts.counts.len new _ (omega (arith, long)) ∙ take_all c.in_ok-counts.counts.len new (omega (arith, long)) in
    counted_as kinds (g.D.Disk.tells ≡ true) _ _ _ _ new _ (λ t. words_in 0 (c.pixels_of-most.ensures.count t) (files (c.file_of-id.ensures t)))
    (λ words read. frame_asked c.args.job.now c.args.i _ _ words words _ _ c.file_of-id.ensures c.pixels_of-most.ensures.count refl read) same
    (whole_counted kinds (g.D.Disk.tells ≡ true) _ _ c.deref_mut-3.result.now new c.pixels_of-most.result c.pixels_of-most.ensures.most zeros has)
