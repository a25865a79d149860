-- The header is the frame's own, and the pixels are those that were there.
use Rattle.std.proofs.Common.{◌≡◌, ◌*◌, ◌++◌, length, length-drop, take, drop, sym, ap, ◌∙◌, arith}
use Rattle.std.proofs.lemmas.List.{take-append-drop}
use Rattle.dpx_header.specs.Writing.{header_of}
use Rattle.conform_job.specs.Job.{JobData}
use Rattle.frame_render.specs.Frame.{out_head, pixel_count}
use Rattle.frame_render.proofs.Filled.{reheaded}
use Rattle.frame_render.proofs.reheaded.rehead.Goals as goal

pub returns-clause-made : goal.returns-clause-made
returns-clause-made g c =
    let new = c.put_header.new.out in
    let head : take 2048 new ≡ header_of (out_head g.N.Work.job c.args.i) =
    c.put_header.ensures.header ∙ ap (λ (job : JobData). header_of (out_head job c.args.i)) c.requires.job in
    sym (take-append-drop 2048 new) ∙ ap (λ rest. take 2048 new ++ rest) c.put_header.ensures.behind ∙ ap (λ front. front ++ drop 2048 c.args.file.now) head

pub returns-clause-file : goal.returns-clause-file
returns-clause-file g c =
    let new = c.put_header.new.out in
    let pixels = drop 2048 c.args.file.now in
    let size = c.requires.size in
    let count : length pixels ≡ 4 * pixel_count g.N.Work.job = omega (arith, size, length-drop 2048 c.args.file.now) in
    reheaded g.N.Work.job g.N.Work.files c.args.i pixels new (c.put_header.ensures.size ∙ size) count (returns-clause-made g c) c.requires.pixels
