-- Each turn writes one band more.
use Rattle.std.proofs.Common.{◌≡◌, ℕ, ◌+◌, ◌-◌, ◌*◌, ◌/◌, ◌<◌, ◌≤◌, List, length, drop, take, sym, ap, ◌∙◌, arith, rules}
use Rattle.std.proofs.Math.Nat.{mul-le-mul_right}
use Rattle.std.proofs.lemmas.List.{length-take-le, length-drop}
use Rattle.std.specs.Option.{option_copied}
use Rattle.frame_render.specs.inside.Lines.{lines_from}
use Rattle.frame_render.proofs.Bands.{band_order, band_within, first_band, last_band, by_lines, band_fits}
use Rattle.frame_render.proofs.Lines.{no_lines, band_written, all_lines, picture_is}
use Rattle.frame_render.proofs.picture.Picture.render_bands.Goals as goal

ends_behind : (first end n h b : ℕ) → first ≡ n * h / b → end ≡ (n + 1) * h / b → 0 < b → first ≤ end
ends_behind first end n h b is_first is_end some = rw (is_first, is_end) (band_order n h b some)

ends_within : (end n h b : ℕ) → end ≡ (n + 1) * h / b → n < b → end ≤ h
ends_within end n h b is_end below = rw is_end (band_within (n + 1) h b (omega arith))

pub slice_bounds-band-count : goal.slice_bounds-band-count
slice_bounds-band-count c =
    mul-le-mul_right (4 * c.width.result)
    (ends_behind _ _ c.loop-n.n c.height-height.result c.bands-bands.result c.first_line-first.ensures.first c.first_line-end.ensures.first (omega arith))

pub slice_bounds-band-start : goal.slice_bounds-band-start
slice_bounds-band-start c =
    mul-le-mul_right (4 * c.width.result)
    (ends_behind _ _ c.loop-n.n c.height-height.result c.bands-bands.result c.first_line-first.ensures.first c.first_line-end.ensures.first (omega arith))

pub slice_bounds-band-end : goal.slice_bounds-band-end
slice_bounds-band-end c =
    let long : length c.loop-n.out ≡ 4 * (c.width.result * c.height-height.result) = search rules in
    band_fits c.first_line-end.result c.width.result c.height-height.result (length c.loop-n.out)
    (ends_within _ c.loop-n.n c.height-height.result c.bands-bands.result c.first_line-end.ensures.first c.loop-n-test.true) long

pub render_lines-requires-clause-within : goal.render_lines-requires-clause-within
render_lines-requires-clause-within c =
    let order = ends_behind _ _ c.loop-n.n c.height-height.result c.bands-bands.result c.first_line-first.ensures.first c.first_line-end.ensures.first (omega arith) in
    let within = ends_within _ c.loop-n.n c.height-height.result c.bands-bands.result c.first_line-end.ensures.first c.loop-n-test.true in
    omega (arith, order, within, c.height-height.ensures)

band_long : (first end n w h b : ℕ) (out : List ℕ) → first ≡ n * h / b → end ≡ (n + 1) * h / b → 0 < b → n < b → length out ≡ 4 * (w * h)
    → length (take (end * (4 * w) - first * (4 * w)) (drop (first * (4 * w)) out)) ≡ (end - first) * (4 * w)
band_long first end n w h b out is_first is_end some below long =
    let order = ends_behind first end n h b is_first is_end some in
    let fits = band_fits end w h (length out) (ends_within end n h b is_end below) long in
    let rest = length-drop (first * (4 * w)) out in
    length-take-le (end * (4 * w) - first * (4 * w)) (drop (first * (4 * w)) out) (omega (arith, fits, rest)) ∙ by_lines first end (4 * w) order

pub render_lines-requires-clause-room : goal.render_lines-requires-clause-room
render_lines-requires-clause-room c =
    let long : length c.loop-n.out ≡ 4 * (c.width.result * c.height-height.result) = search rules in
    band_long _ _ c.loop-n.n c.width.result c.height-height.result c.bands-bands.result c.loop-n.out c.first_line-first.ensures.first c.first_line-end.ensures.first (omega arith) c.loop-n-test.true long
    ∙ ap (λ w. (c.first_line-end.result - c.first_line-first.result) * (4 * w)) c.width.ensures

pub loop-n-init : goal.loop-n-init
loop-n-init c =
    let none : 0 * c.height-height.result / c.bands-bands.result ≡ 0 = first_band c.height-height.result c.bands-bands.result in
    rw none (no_lines c.args.self.now.job.now c.args.self.now.shot (option_copied c.args.self.now.old) (option_copied c.args.self.now.new) 0 (4 * c.width.result) c.args.out.now)

pub loop-n-preserved : goal.loop-n-preserved
loop-n-preserved c =
    let n : ℕ = c.loop-n.n in
    let w : ℕ = c.width.result in
    let h : ℕ = c.height-height.result in
    let b : ℕ = c.bands-bands.result in
    let some : 0 < b = omega arith in
    let is_first = c.first_line-first.ensures.first in
    let is_end = c.first_line-end.ensures.first in
    let long : length c.loop-n.out ≡ 4 * (w * h) = search rules in
    let made : length c.render_lines.new.out ≡ (c.first_line-end.result - c.first_line-first.result) * (4 * w)
    = c.render_lines.auto.out ∙ band_long _ _ n w h b c.loop-n.out is_first is_end some c.loop-n-test.true long in
    band_written c.args.self.now.job.now c.args.self.now.shot (option_copied c.args.self.now.old) (option_copied c.args.self.now.new) c.first_line-first.result c.first_line-end.result (n * h / b) ((n + 1) * h / b) (4 * w) _
    c.loop-n.out c.render_lines.new.out is_first is_end (band_order n h b some) c.loop-n.invariant c.render_lines.ensures made
    (band_fits ((n + 1) * h / b) w h (length c.loop-n.out) (band_within (n + 1) h b (omega arith)) long)

pub returns : goal.returns
returns c =
    let w : ℕ = c.width.result in
    let h : ℕ = c.height-height.result in
    let b : ℕ = c.bands-bands.result in
    let some : 0 < b = omega arith in
    let end : c.loop-n.n ≡ b = omega (arith, c.loop-n-test.false, c.loop-n.auto.n-end) in
    let last : c.loop-n.n * h / b ≡ h = rw end (last_band h b some) in
    let long : length c.loop-n.out ≡ 4 * (w * h) = search rules in
    all_lines c.args.self.now.job.now c.args.self.now.shot (option_copied c.args.self.now.old) (option_copied c.args.self.now.new) 0 (c.loop-n.n * h / b) h (4 * w) c.loop-n.out c.loop-n.invariant last (omega (arith, long))
    ∙ ap (lines_from c.args.self.now.job.now c.args.self.now.shot (option_copied c.args.self.now.old) (option_copied c.args.self.now.new) 0) c.height-height.ensures
    ∙ sym (picture_is c.args.self.now.job.now c.args.self.now.shot (option_copied c.args.self.now.old) (option_copied c.args.self.now.new))
