-- The command `qc`: counts over the file of each frame that the reel folder acknowledges. All of it is this project's own rule.
-- * `qc`: the quality table of what the ledger has, over the files of the folder
--     IsQcReply      the project came to a job, and the folder's frames were counted, or it came to none
use Rattle.std.specs.Prelude.{◌≡◌, ℕ, true, List, Option}
use Rattle.scan_source.specs.World.{World}
use Rattle.reel_disk.specs.Disk.{view_of}
use Rattle.conform_job.specs.Job.{JobData}
use Rattle.resume_ledger.specs.Look.{ViewState}
use Rattle.reel_writer.specs.Reel.{IsSoundReel}
use Rattle.reel_qc.specs.Table.{IsTable, defined_table, quality_table}
use Rattle.reel_qc.specs.declared.table.probe.ProbeKind.{ProbeKind}
use Rattle.outcome.specs.declared.Outcome.{Outcome}
use Rattle.outcome.specs.declared.Outcome.TheVariants as outcome
use Rattle.project_run.specs.Look.{HasSeen, IsBehind, IsBehindLook, IsLookReply}
use Rattle.reel_disk.specs.State.{FolderState}

-- The frames of what the ledger has were counted, each kind in its column: it came to their table, over the files of the folder.
pub record IsCounted (kinds : List ProbeKind) (job : JobData) (view : ViewState) (disk disk_after : FolderState)
    (reached : Outcome) (output : List ℕ) : Type 0 where
  pub kind : IsBehindLook reached
  pub form : reached ≡ outcome.Done → disk.tells ≡ true → output ≡ quality_table kinds job view (view_of disk.history)
  -- of a folder that is sound it is the table over the definition's files
  pub sound : reached ≡ outcome.Done → disk.tells ≡ true → (world : World) → IsSoundReel job world (view_of disk.history)
      → output ≡ defined_table kinds job world view
  -- over every disk, the files of the acknowledged frames were read, each once and no other, and it counts what they gave
  pub known : reached ≡ outcome.Done → IsTable kinds job view disk.calls disk_after.calls output

-- The ledger was looked at and the frames were counted, and at no moment was the folder changed.
abbrev pub IsTabled : List ProbeKind → JobData → FolderState → FolderState → Outcome → List ℕ → Type 0
IsTabled kinds job disk disk_after reached output = HasSeen job disk disk_after reached
    (λ view. IsBehind job disk view (λ behind. IsCounted kinds job view behind disk_after reached output))

abbrev pub IsQcReply : List ProbeKind → List ℕ → Option World → (loads loads_after : ℕ) → (disk disk_after : FolderState)
    → Outcome → List ℕ → Type 0
IsQcReply kinds path told loads loads_after disk disk_after reached output =
    IsLookReply told path disk disk_after loads loads_after reached (λ job. IsTabled kinds job disk disk_after reached output)
