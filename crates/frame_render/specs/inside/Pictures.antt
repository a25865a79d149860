-- A picture that is to be made: words of private clauses.
--     IsPicture      what it is made of: a planned job, one of its shots, and a word for each pixel of a side
--     picture_of, lines_of, words_of_line      its bytes, those of some of its lines, and the words of one
use Rattle.std.specs.Prelude.{ℕ, List}
use Rattle.std.specs.Option.{option_copied}
use Rattle.record_timeline.specs.Shots.{IsShotIn}
use Rattle.conform_job.specs.Job.{ArePlanned}
use Rattle.frame_render.specs.Frame.{line_words, picture}
use Rattle.frame_render.specs.inside.Frame.{HasWords}
use Rattle.frame_render.specs.inside.Lines.{lines_from}
use Rattle.frame_render.specs.declared.picture.Picture.{Picture}

pub record IsPicture (made : Picture) : Type 0 where
  pub planned : ArePlanned made.job.now.parts
  pub fits : IsShotIn made.job.now.parts.timeline.events made.shot
  pub old : HasWords made.job.now (option_copied made.old)
  pub new : HasWords made.job.now (option_copied made.new)

abbrev pub picture_of : Picture → List ℕ
picture_of made = picture made.job.now made.shot (option_copied made.old) (option_copied made.new)

abbrev pub lines_of : Picture → (first count : ℕ) → List ℕ
lines_of made first count = lines_from made.job.now made.shot (option_copied made.old) (option_copied made.new) first count

abbrev pub words_of_line : Picture → ℕ → List ℕ
words_of_line made y = line_words made.job.now made.shot (option_copied made.old) (option_copied made.new) y
