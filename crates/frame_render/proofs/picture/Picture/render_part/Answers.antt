-- The part has whole lines.
use Rattle.std.proofs.Common.{◌≡◌, ℕ, ◌+◌, ◌-◌, ◌*◌, ◌/◌, ◌<◌, ◌≤◌, length, min, slice_index, ap, ◌∙◌, arith}
use Rattle.std.specs.Option.{option_copied}
use Rattle.conform_job.specs.Job.{JobData, ArePlanned}
use Rattle.frame_render.specs.Frame.{picture, pixel_count}
use Rattle.frame_render.specs.inside.Lines.{stride}
use Rattle.frame_render.proofs.Bands.{IsLines, part_lines}
use Rattle.frame_render.proofs.Lines.{place_from}
use Rattle.frame_render.proofs.picture.Picture.render_part.Goals as goal
use Rattle.std.specs.Prelude.{◌%◌}

lines_of : (job : JobData) (start len lines : ℕ) → ArePlanned job.parts → start % (lines * stride job) ≡ 0
    → len ≡ min (lines * stride job) (4 * pixel_count job - start) → start + len ≤ 4 * pixel_count job
    → IsLines start len (stride job) job.parts.project.height
lines_of job start len lines planned multiple is within =
    let all : 4 * pixel_count job ≡ job.parts.project.height * stride job = omega arith in
    let some : 0 < stride job = omega (arith, planned.some_width) in
    part_lines start len lines (stride job) job.parts.project.height some multiple (rw all at is) (rw all at within)

pub render_lines-requires-clause-within : goal.render_lines-requires-clause-within
render_lines-requires-clause-within c =
    let lines = lines_of c.args.self.now.job.now c.args.start (length c.args.out.now) c.args.lines c.requires.picture.planned c.requires.start c.requires.length c.requires.within in
    rw c.width.ensures lines.within

pub render_lines-requires-clause-room : goal.render_lines-requires-clause-room
render_lines-requires-clause-room c =
    let lines = lines_of c.args.self.now.job.now c.args.start (length c.args.out.now) c.args.lines c.requires.picture.planned c.requires.start c.requires.length c.requires.within in
    rw c.width.ensures lines.of_lines

pub returns : goal.returns
returns c = λ i lt.
    let job = c.args.self.now.job.now in
    let s : ℕ = 4 * c.width.result in
    let first : ℕ = c.args.start / s in
    let count : ℕ = length c.args.out.now / s in
    let lines = lines_of job c.args.start (length c.args.out.now) c.args.lines c.requires.picture.planned c.requires.start c.requires.length c.requires.within in
    let wide : s ≡ stride job = ap (λ w. 4 * w) c.width.ensures in
    let within : first + count ≤ job.parts.project.height = rw wide lines.within in
    let from : c.args.start ≡ first * stride job = rw wide lines.from_lines in
    let of : length c.args.out.now ≡ count * stride job = rw wide lines.of_lines in
    let place : first * stride job + i ≡ c.args.start + i = omega (arith, from) in
    ap (λ bytes. slice_index bytes i) c.render_lines.ensures
    ∙ place_from job c.args.self.now.shot (option_copied c.args.self.now.old) (option_copied c.args.self.now.new) first count i within (omega (arith, lt, of, c.render_lines.auto.out))
    ∙ ap (slice_index (picture job c.args.self.now.shot (option_copied c.args.self.now.old) (option_copied c.args.self.now.new))) place
