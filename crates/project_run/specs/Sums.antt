-- The command `sums`: a line for each frame that the reel folder acknowledges and of which the ledger keeps the SHA-256. No frame
-- is read. All of it is this project's own rule; the text is what `sha256sum -c` and BagIt's manifests take.
-- * `sums`: a line for each frame that is acknowledged and has a record: the digest in hexadecimal digits, two blanks, the name
--   of its file
--     IsSumsReply      the project came to a job, and the folder was looked at, or it came to none
use Rattle.std.specs.Prelude.{◌≡◌, ◌⊎◌, ℕ, List, [], ◌∷◌, ◌++◌, codes, Option, Some, None}
use Rattle.std.specs.List.{flat_map, range_with_len}
use Rattle.hex.specs.Hex.{encode_lower}
use Rattle.scan_source.specs.World.{World}
use Rattle.reel_disk.specs.Names.{file_name}
use Rattle.conform_job.specs.Job.{JobData, file_of}
use Rattle.resume_ledger.specs.Look.{ViewState, hash_at}
use Rattle.reel_writer.specs.Reel.{frames_of}
use Rattle.outcome.specs.declared.Outcome.{Outcome}
use Rattle.outcome.specs.declared.Outcome.TheVariants as outcome
use Rattle.project_run.specs.Look.{HasSeen, IsLookReply}
use Rattle.reel_disk.specs.State.{FolderState}

-- the digest of a frame's file in 64 hexadecimal digits, two blanks, and the file's name; nothing, where there is no record
abbrev pub sum_line_of : JobData → ℕ → Option (List ℕ) → List ℕ
sum_line_of job i (Some hash) = encode_lower hash ++ codes "  " ++ file_name (file_of job i) ++ 10 ∷ []
sum_line_of job i None = []

abbrev pub sum_line : JobData → ViewState → ℕ → List ℕ
sum_line job view i = sum_line_of job i (hash_at view i)

-- the lines of all frames, in order
abbrev pub sums_text : JobData → ViewState → List ℕ
sums_text job view = flat_map (sum_line job view) (range_with_len 0 (frames_of job))

-- The lines of what the ledger has were put, or memory ran out.
pub record AreSums (job : JobData) (view : ViewState) (reached : Outcome) (output : List ℕ) : Type 0 where
  pub kind : (reached ≡ outcome.Done) ⊎ (reached ≡ outcome.NoMemory)
  pub form : reached ≡ outcome.Done → output ≡ sums_text job view

-- The ledger was looked at, and at no moment was the folder changed.
abbrev pub IsSummed : JobData → FolderState → FolderState → Outcome → List ℕ → Type 0
IsSummed job disk disk_after reached output = HasSeen job disk disk_after reached (λ view. AreSums job view reached output)

abbrev pub IsSumsReply : List ℕ → Option World → (loads loads_after : ℕ) → (disk disk_after : FolderState) → Outcome → List ℕ → Type 0
IsSumsReply path told loads loads_after disk disk_after reached output =
    IsLookReply told path disk disk_after loads loads_after reached (λ job. IsSummed job disk disk_after reached output)
