use Rattle.std.proofs.Common.{◌≡◌, length, ◌∙◌, ap, rules}
use Rattle.frame_render.specs.Frame.{frame_size}
use Rattle.frame_render.proofs.Filled.{refilled}
use Rattle.frame_render.proofs.file.render_forked.Goals as goal

pub record_frame-requires : goal.record_frame-requires
record_frame-requires g c =
    let room : length c.buf.inside.bytes.items ≡ c.buf.inside.bytes.len = search rules in
    let kept : length c.render_file_forked.new.out ≡ c.buf.inside.bytes.len = search rules in
    let size : length c.render_file_forked.new.out ≡ frame_size g.N.Work.job = search rules in
    let same = refilled c.buf.inside.bytes.len c.render_file_forked.new.out c.buf.inside.bytes.items room kept in
    record {
      job = c.requires.job;
      sides = c.requires.sides;
      old = c.words_of.ensures.defined;
      new = c.words_of-2.ensures.defined;
      bytes = same ∙ (rw (c.requires.job, c.words_of.ensures.words, c.words_of-2.ensures.words) at c.render_file_forked.ensures);
      size = ap length same ∙ size;
    }
