-- Which reads of a file were made, and the words that they gave: known over every disk. All of it is this project's own rule.
-- * words that were read: a file's words were asked for in their order, each once and with no other call, and these are the words
--   that the answers gave
--     words_given calls      the words that reads gave, as the calls have them
--     ReadsWords id first most words before after      of a file, from the `first`-th word on: it was asked for so many
--     ReadsFrame job i words before after      of a frame's file: it was asked for as many as the frame has pixels
use Rattle.std.specs.Prelude.{◌≡◌, ℕ, ◌+◌, ◌*◌, ◌/◌, ◌<◌, List, [], ◌∷◌, ◌++◌, length, take}
use Rattle.cf_base.specs.declared.limits.TheConstants.{HEADER}
use Rattle.cf_base.specs.declared.file.FileId.{FileId}
use Rattle.reel_disk.specs.declared.disk.Got.{Got}
use Rattle.reel_disk.specs.declared.disk.Got.TheVariants.{Bytes}
use Rattle.reel_disk.specs.Call.{Call, Read}
use Rattle.conform_job.specs.Job.{JobData, file_of}
use Rattle.frame_render.specs.Frame.{pixel_count}
use Rattle.reel_qc.specs.Words.{words_from}

-- the whole words of what one read gave; an absent file gives none
abbrev pub words_got : Got → List ℕ → List ℕ
words_got (Bytes n) into = words_from 0 (length into / 4) (take n into)
words_got got into = []

-- the words that reads gave, those of the oldest first; the calls have the newest first
abbrev pub words_given : List Call → List ℕ
words_given [] = []
words_given (Read id start into got ∷ older) = words_given older ++ words_got got into
words_given (call ∷ older) = words_given older

-- Reads of one file, and no other calls: they ask for its words from the `first`-th on, so many, in their order and each once.
abbrev pub AsksInTurn : FileId → (first most : ℕ) → List Call → Type 0
AsksInTurn id first most [] = most ≡ 0
AsksInTurn id first most (Read of start into got ∷ older) =
    (before : ℕ) × (count : ℕ) × (0 < count) × (most ≡ before + count) × (of ≡ id)
    × (start ≡ HEADER + 4 * (first + before)) × (length into ≡ 4 * count) × AsksInTurn id first before older
AsksInTurn id first most (call ∷ older) = ⊥

-- Words of a file were read, from the `first`-th on: it was asked for so many of them, and gave these.
pub record ReadsWords (id : FileId) (first most : ℕ) (words : List ℕ) (before after : List Call) : Type 0 where
  pub since : List Call
  pub made : after ≡ since ++ before
  pub asks : AsksInTurn id first most since
  pub words_are : words ≡ words_given since

-- The words of a frame's file were read: it was asked for as many as the frame has pixels, and gave these.
abbrev pub ReadsFrame : JobData → ℕ → List ℕ → (before after : List Call) → Type 0
ReadsFrame job i words before after = ReadsWords (file_of job i) 0 (pixel_count job) words before after
