-- Each turn chooses one line more.
use Rattle.std.proofs.Common.{◌≡◌, ℕ, ◌+◌, ◌-◌, ◌*◌, ◌≤◌, length, arith}
use borrow.Rule.Slice.PartMut.{mid_of}
use Rattle.trans_mix.specs.Wipe.{is_incoming}
use Rattle.band_kernels.proofs.ChosenLines.{chosen_at, line_fits, line_of_place, lines_more}
use Rattle.band_kernels.proofs.wipe.wipe_band.Goals as goal

pub loop-n-preserved : goal.loop-n-preserved
loop-n-preserved c =
    let a = c.args in
    let n : ℕ = c.loop-n.n in
    let k : ℕ = n * a.wipe.width + a.wipe.width - n * a.wipe.width in
    let fits : n * a.wipe.width + a.wipe.width ≤ length a.out.now = line_fits n a.wipe.width (length a.out.now) (omega arith) a.wipe.some in
    let room : n * a.wipe.width + a.wipe.width ≤ length c.loop-n.out = omega (arith, fits, c.loop-n.auto.out) in
    let wide : k ≡ a.wipe.width = omega arith in
    let long : length c.choose.new.out ≡ a.wipe.width = omega (arith, c.choose.auto.out, room) in
    lines_more (λ x m. is_incoming a.wipe.code x (a.y + m) a.wipe.width a.wipe.height a.wipe.k a.wipe.d) a.wipe.width n k a.old.now a.new.now c.loop-n.out c.choose.new.out wide room long c.loop-n.invariant
    (chosen_at (λ x. is_incoming a.wipe.code x (a.y + n) a.wipe.width a.wipe.height a.wipe.k a.wipe.d) a.wipe.width c.columns_of-columns.result.from c.columns_of-columns.result.to
    (mid_of (n * a.wipe.width) k a.old.now) (mid_of (n * a.wipe.width) k a.new.now) c.choose.new.out
    c.columns_of-columns.ensures.incoming c.choose.ensures.inside c.choose.ensures.before c.choose.ensures.behind)

pub returns : goal.returns
returns c = λ x n x_in place_in.
    c.loop-n.invariant x n x_in
    (let below = line_of_place x n c.args.wipe.width (length c.args.out.now) c.args.wipe.some c.requires.whole (omega (arith, place_in, c.loop-n.auto.out)) in
    omega (arith, below, c.loop-n-test.false))
