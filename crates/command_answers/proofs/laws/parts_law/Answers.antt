-- A frame is in the folder of its part.
use Rattle.reel_writer.specs.Reel.{frames_of}
use Rattle.command_answers.proofs.laws.parts_law.Goals as goal

pub returns : goal.returns
returns c = record {
  parts = λ job world parts folder some whole i within.
      let at = c.part_laws.ensures.partition.cover parts (frames_of job) i some within in
      let has = whole at.0 at.1 at.2 in
      (at.0, at.1, at.2, has.there i at.3, has.acked i at.3);
}
