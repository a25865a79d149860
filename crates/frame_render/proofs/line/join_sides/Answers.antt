-- Each kernel's words have the colours of the transition.
use Rattle.std.proofs.Common.{◌≡◌, ◌+◌, length, slice_index, ap, ◌∙◌, arith}
use Rattle.dpx_pack.specs.Pixels.{word_codes}
use Rattle.trans_mix.specs.Wipe.{is_incoming}
use Rattle.frame_render.proofs.Colours.{mixed_codes, wiped_codes}
use Rattle.frame_render.proofs.line.join_sides.Goals as goal

pub returns-in-Dissolve : goal.returns-in-Dissolve
returns-in-Dissolve c =
    let long : length c.blend_band.new.out ≡ c.args.job.now.parts.project.width = omega (arith, c.blend_band.auto.out, c.requires.room) in
    rw c.in-Dissolve.is
    (record {
      wide = long;
      each = λ x lt.
          ap word_codes (c.blend_band.ensures x (omega (arith, long, lt)))
          ∙ mixed_codes c.args.frame.k c.args.frame.d (slice_index c.args.old.now x) (slice_index c.args.new.now x) c.args.frame.within;
    })

pub returns-in-Wipe : goal.returns-in-Wipe
returns-in-Wipe c =
    let a = c.args in
    let long : length c.wipe_band.new.out ≡ c.width.result = omega (arith, c.wipe_band.auto.out, c.requires.room, c.width.ensures) in
    let none : a.y + 0 ≡ a.y = omega arith in
    rw c.in-Wipe.is
    (record {
      wide = long ∙ c.width.ensures;
      each = λ x lt.
          let codes = wiped_codes (λ x n. is_incoming c.in-Wipe.code x (a.y + n) c.width.result c.height.result a.frame.k a.frame.d)
          c.width.result x a.old.now a.new.now c.wipe_band.new.out c.wipe_band.ensures (omega (arith, lt, c.width.ensures)) long in
          rw (none, c.width.ensures, c.height.ensures) at codes;
    })
