-- What is asked of the old folder, step by step: words of private clauses.
--     AnyFile      any file
--     AsksFrom      donors' files were asked for from one frame on
--     end_of      how far frames were passed over
use Rattle.std.specs.Prelude.{ℕ, List, Option, Some, None, Result, Ok, Err}
use Rattle.cf_base.specs.declared.file.FileId.{FileId}
use Rattle.conform_job.specs.Job.{JobData}
use Rattle.reel_disk.specs.Call.{Call}
use Rattle.reel_disk.specs.declared.disk.DiskFault.{DiskFault}
use Rattle.resume_ledger.specs.Look.{ViewState}
use Rattle.reel_writer.specs.Reel.{frames_of}
use Rattle.reconform.specs.Taken.{AsksForDonors}

abbrev pub AnyFile : FileId → Type 0
AnyFile q = Unit {0}

-- Donors' files were asked for from one frame on, up to what the answer names as the next, or to the end where a disk failed.
abbrev pub AsksFrom : {T : Type 0} → (next : T → ℕ) → JobData → JobData → ViewState → ℕ → Result T DiskFault
    → (before after : List Call) → Type 0
AsksFrom next new old view from (Ok to) before after = AsksForDonors new old view from (next to) before after
AsksFrom next new old view from (Err fault) before after = AsksForDonors new old view from (frames_of new) before after

-- up to the frame that was found, or to the end
abbrev pub end_of : ℕ → Option (ℕ × ℕ) → ℕ
end_of count None = count
end_of count (Some found) = found.0
