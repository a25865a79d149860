-- The command `verify`: whether the file of each frame that the reel folder acknowledges is still the one of which the ledger
-- keeps the SHA-256. All of it is this project's own rule.
-- * `verify`: the first damaged frame of what the ledger has, or how many files were compared; behind the look files of frames with a
--   record were read, and no others
--     IsVerifyReply      the project came to a job, and the folder was checked, or it came to none
use Rattle.std.specs.Prelude.{◌≡◌, ◌≢◌, ◌⊎◌, ℕ, true, List, [], ◌∷◌, ◌++◌, codes, decimal, count_by, Option, Result, Ok, Err}
use Rattle.scan_source.specs.World.{World}
use Rattle.reel_disk.specs.Call.{Call}
use Rattle.reel_disk.specs.Disk.{view_of}
use Rattle.conform_job.specs.Job.{JobData}
use Rattle.resume_ledger.specs.Calls.{Looks}
use Rattle.resume_ledger.specs.Look.{ViewState}
use Rattle.reel_writer.specs.Reel.{frames_of, IsSoundReel}
use Rattle.reel_writer.specs.Damage.{HasChecked, IsCheckFor, ReadsReel, record_count}
use Rattle.reel_writer.specs.declared.damage.CheckFault.{CheckFault}
use Rattle.reel_writer.specs.declared.damage.CheckFault.TheVariants as faults
use Rattle.printed_text.specs.Text.{spaced_line}
use Rattle.outcome.specs.declared.Outcome.{Outcome}
use Rattle.outcome.specs.declared.Outcome.TheVariants as outcome
use Rattle.project_run.specs.Look.{HasSeen, IsLookReply, IsOfLook}
use Rattle.reel_disk.specs.State.{FolderState}

-- the frames of the reel, those that the folder acknowledges, and those whose files were compared with their records
abbrev pub verify_text : (frames acked verified : ℕ) → List ℕ
verify_text frames acked verified =
    spaced_line (codes "frames" ∷ decimal frames ∷ [])
    ++ spaced_line (codes "acknowledged" ∷ decimal acked ∷ [])
    ++ spaced_line (codes "verified" ∷ decimal verified ∷ [])

-- the outcome of a check of the files
abbrev pub outcome_of_check : Result ℕ CheckFault → Outcome
outcome_of_check (Ok records) = outcome.Done
outcome_of_check (Err (faults.Damaged frame kept found)) = outcome.Damaged frame kept found
outcome_of_check (Err faults.DiskFault) = outcome.DiskFault
outcome_of_check (Err faults.NoMemory) = outcome.NoMemory

-- The files were checked against the records of what the ledger has: it came to the first damaged frame, or to their number. The
-- calls of the check are those behind the calls `looked`.
pub record IsChecked (job : JobData) (view : ViewState) (looked : List Call) (disk disk_after : FolderState) (reached : Outcome)
    (output : List ℕ) : Type 0 where
  pub answer : Result ℕ CheckFault
  pub checked : disk.tells ≡ true → HasChecked job view (view_of disk.history) answer
  pub known : IsCheckFor job view answer
  pub read : ReadsReel job view answer looked disk_after.calls
  pub reached_is : (reached ≡ outcome_of_check answer) ⊎ (reached ≡ outcome.NoMemory)
  pub form : reached ≡ outcome.Done → output ≡ verify_text (frames_of job) (count_by (λ gate. gate) view.gates) (record_count view)
  -- a folder that is sound has no damaged frame
  pub intact : disk.tells ≡ true → (world : World) → IsSoundReel job world (view_of disk.history)
      → (frame : ℕ) (kept found : List ℕ) → reached ≢ outcome.Damaged frame kept found

-- the same, behind the calls of the look that gave the view
pub record IsCheckedBehindLook (job : JobData) (view : ViewState) (disk disk_after : FolderState) (reached : Outcome)
    (output : List ℕ) : Type 0 where
  pub behind : List Call
  pub looks : Looks job.parts.digest (frames_of job) (Ok view) disk.calls behind
  pub checked : IsChecked job view behind disk disk_after reached output

-- The ledger was looked at and the files were checked, and at no moment was the folder changed.
abbrev pub IsVerified : JobData → FolderState → FolderState → Outcome → List ℕ → Type 0
IsVerified job disk disk_after reached output =
    HasSeen job disk disk_after reached (λ view. IsCheckedBehindLook job view disk disk_after reached output)

abbrev pub IsVerifyReply : List ℕ → Option World → (loads loads_after : ℕ) → (disk disk_after : FolderState) → Outcome → List ℕ → Type 0
IsVerifyReply path told loads loads_after disk disk_after reached output =
    IsLookReply told path disk disk_after loads loads_after reached (λ job. IsVerified job disk disk_after reached output)

-- the outcomes that it may come to in place of Done
abbrev pub IsOfVerify : Outcome → Type 0
IsOfVerify (outcome.Damaged frame kept found) = Unit {0}
IsOfVerify other = IsOfLook other
