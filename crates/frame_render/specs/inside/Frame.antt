-- One frame of the reel, pixel by pixel: what each pixel shows, and the bytes of the frame's file: words of private clauses.
use Rattle.std.specs.Prelude.{◌≡◌, ℕ, List, length, Option, IfSome}
use Rattle.conform_job.specs.Job.{JobData}
use Rattle.conform_job.specs.Refusals.{Files}
use Rattle.frame_render.specs.Frame.{KeyWords, pixel_count, words_of_key}

-- a side's words, where there are any, are one for each pixel
abbrev pub HasWords : JobData → Option (List ℕ) → Type 0
HasWords job words = IfSome words (λ ws. length ws ≡ pixel_count job)

-- what was decoded is the key's file
abbrev pub IsDecoded : JobData → Files → Option KeyWords → Type 0
IsDecoded job files decoded = IfSome decoded (λ d. d.words ≡ words_of_key job files d.key)
