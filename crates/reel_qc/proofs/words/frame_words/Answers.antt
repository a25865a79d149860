-- As many words are kept as were taken behind the header.
use Rattle.std.proofs.Common.{◌≡◌, ◌∙◌, ℕ, arith, length}
use Rattle.frame_render.specs.Frame.{pixel_count}
use Rattle.reel_qc.specs.Words.{words_from}
use Rattle.reel_qc.proofs.Reading.{behind, kept}
use Rattle.reel_qc.proofs.words.frame_words.Goals as goal

pub returns : goal.returns
returns c =
    let taken = c.take_words-found in
    let count : ℕ = taken.result in
    let room : length c.deref_mut.result.now ≡ pixel_count c.args.job.now = omega (arith, c.deref_mut.ensures.len, c.in-Ok.ensures.len, c.pixels_of.ensures.count) in
    c.truncate.ensures.items
    ∙ kept count c.resize.new.self.len taken.new.words _ (omega (arith, taken.ensures.few, c.deref_mut.ensures.len)) (omega (arith, taken.ensures.few, taken.ensures.size))
    ∙ taken.ensures.taken ∙ (λ t. words_from 0 (room t) (c.image_of.ensures t))
    ∙ behind 2048 (pixel_count c.args.job.now) c.args.file.now
