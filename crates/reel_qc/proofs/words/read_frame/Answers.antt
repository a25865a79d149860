-- As many words are kept as were found.
use Rattle.std.proofs.Common.{◌≡◌, ◌∙◌, arith, length}
use Rattle.frame_render.specs.Frame.{pixel_count}
use Rattle.reel_disk.specs.Disk.{view_of}
use Rattle.reel_qc.specs.Words.{words_in}
use Rattle.reel_qc.proofs.Asking.{frame_asked}
use Rattle.reel_qc.proofs.Reading.{kept}
use Rattle.reel_qc.proofs.words.read_frame.Goals as goal

pub returns-clause-words : goal.returns-clause-words
returns-clause-words g c told =
    let read = c.in_ok-count in
    let room : length c.deref_mut-2.result.now ≡ pixel_count c.args.job.now = omega (arith, c.deref_mut-2.ensures.len, c.in_ok-resize.ensures.len, c.pixels_of.ensures.count) in
    c.truncate.ensures.items
    ∙ kept read.count c.resize.new.self.len c.read_words.new.words _ (omega (arith, read.ensures.few, c.deref_mut-2.ensures.len)) (omega (arith, read.ensures.few, read.ensures.size))
    ∙ read.ensures.words told
    ∙ (λ t. words_in 0 (room t) (view_of (g.D.Disk.state c.args.disk.now).history (c.file_of.ensures t)))

pub returns-clause-calls : goal.returns-clause-calls
returns-clause-calls g c =
    let read = c.in_ok-count in
    let room : length c.deref_mut-2.result.now ≡ pixel_count c.args.job.now = omega (arith, c.deref_mut-2.ensures.len, c.in_ok-resize.ensures.len, c.pixels_of.ensures.count) in
    frame_asked c.args.job.now c.args.i _ _ _ _ _ _ c.file_of.ensures room
    (c.truncate.ensures.items
    ∙ kept read.count c.resize.new.self.len c.read_words.new.words _ (omega (arith, read.ensures.few, c.deref_mut-2.ensures.len)) (omega (arith, read.ensures.few, read.ensures.size)))
    read.ensures.calls
