-- Which frame of an old reel serves a frame of a new job. All of it is this project's own rule.
-- * donor, intact: of alike jobs the least frame of the old one that its folder acknowledges and whose plan is equal; its file
--   has the length of a frame's and, where the folder keeps its SHA-256, that digest
--     IsDonor      the least frame of the old job that is acknowledged and has an equal plan
--     IsIntactFile      its file is what was written, as far as that can be known
--     HasIntactDonor      both
use Rattle.std.specs.Prelude.{◌≡◌, ◌≢◌, ℕ, ◌<◌, Bool, true, false, List, length, slice_index_or, Option, Some, IfSome}
use Rattle.sha2.specs.Sha256.{sha256}
use Rattle.conform_job.specs.Job.{JobData, file_of}
use Rattle.frame_render.specs.Frame.{frame_size}
use Rattle.reel_disk.specs.Disk.{Files}
use Rattle.resume_ledger.specs.Look.{ViewState, hash_at}
use Rattle.reel_writer.specs.Reel.{frames_of}
use Rattle.reconform.specs.Plan.{AreAlike, plan_at}

-- Of alike jobs, frame j of the old one is the least that is acknowledged and has the plan of frame i of the new one.
pub record IsDonor (new old : JobData) (acked : List Bool) (i j : ℕ) : Type 0 where
  pub alike : AreAlike new old
  pub within : j < frames_of old
  pub done : slice_index_or acked j false ≡ true
  pub plan : plan_at old j ≡ plan_at new i
  pub least : (k : ℕ) → k < j → slice_index_or acked k false ≡ true → plan_at old k ≢ plan_at new i

-- the bytes have the SHA-256 (FIPS 180-4) that was kept, if one was
abbrev pub IsOfHash : Option (List ℕ) → List ℕ → Type 0
IsOfHash kept bytes = IfSome kept (λ hash. hash ≡ sha256 bytes)

-- The file has that length, and, where there is a record, the SHA-256 that it keeps.
pub record IsIntactFile (size : ℕ) (kept : Option (List ℕ)) (content : Option (List ℕ)) : Type 0 where
  pub bytes : List ℕ
  pub there : content ≡ Some bytes
  pub long : length bytes ≡ size
  pub hash : IsOfHash kept bytes

abbrev pub IsIntact : JobData → ViewState → Files → ℕ → Type 0
IsIntact old view files j = IsIntactFile (frame_size old) (hash_at view j) (files (file_of old j))

-- The frame of the new job has a donor, whose file in the old folder is intact.
pub record HasIntactDonor (new old : JobData) (view : ViewState) (files : Files) (i : ℕ) : Type 0 where
  pub donor : ℕ
  pub is : IsDonor new old view.gates i donor
  pub intact : IsIntact old view files donor

-- The rest is said of the map in which plans are looked up.
