-- Which files a run over a range writes.
use Rattle.std.proofs.Common.{◌≡◌, inl, inr, ℕ, ◌<◌, ◌≤◌, Bool, true, false, List, get_or, ◌∙◌, ap}
use Rattle.std.specs.Prelude.{◌↔◌, Option, Err}
use Rattle.scan_source.specs.World.{World}
use Rattle.resume_ledger.specs.Attach.{OpeningMayWrite}
use Rattle.resume_ledger.specs.declared.attach.OpenFault.{OpenFault}
use Rattle.resume_ledger.specs.declared.attach.OpenFault.TheVariants as open_fault
use Rattle.frame_fetch.specs.declared.run_end.RunEnd.{RunEnd}
use Rattle.frame_fetch.specs.declared.run_end.RunEnd.TheVariants.{Done, OtherJob, BadLedger, Changed, SourceFault, DiskFault, NoMemory}
use Rattle.cf_base.specs.declared.file.FileId.{FileId}
use Rattle.conform_job.specs.Job.{JobData, file_of}
use Rattle.reel_disk.specs.Disk.{Files}
use Rattle.reel_writer.specs.Changes.{HasKept}
use Rattle.reel_writer.specs.Reel.{IsRunFile, IsWrittenFile}
use Rattle.run_alone.specs.Ends.{IsEnd, refused_by}
use Rattle.run_alone.specs.Run.{IsOwnFileOf, IsUnkeptOf, MayWriteOf, RunMayWrite}
use Rattle.run_alone.specs.inside.Run.{IsRangeFile}

-- what a finish of a frame of the range writes is the run's
pub range_file : (job : JobData) (low high : ℕ) (gates : List Bool) (i : ℕ) → low ≤ i → i < high → get_or gates i false ≡ false → (q : FileId) → IsWrittenFile (file_of job i) q → IsRangeFile job low high gates q
range_file job low high gates i late within closed q (inl is) = inr (i, late, within, closed, is)
range_file job low high gates i late within closed q (inr body) = inl body

-- what a finish of frame i writes
pub frame_written : (job : JobData) (i index : ℕ) → index ≡ i → (q : FileId) → IsWrittenFile (file_of job index) q → IsWrittenFile (file_of job i) q
frame_written job i index same q (inl is) = inl (is ∙ ap (file_of job) same)
frame_written job i index same q (inr body) = inr body

module _ (job : JobData) (low high : ℕ) (gates : List Bool) (before : Files) (opening : (k : ℕ) → (get_or gates k false ≡ true) ↔ HasKept job k before) (q : FileId) where
  unkept : (i : ℕ) × (low ≤ i) × (i < high) × (get_or gates i false ≡ false) × (q ≡ file_of job i) → IsUnkeptOf job low high before q
  unkept frame =
      (frame.0, frame.1, frame.2, λ kept. let opened : get_or gates frame.0 false ≡ true = (opening frame.0).1 kept in let shut : get_or gates frame.0 false ≡ false = frame.3 in cc, frame.4)

  -- what a run writes once the folder is open is its own
  pub own_of : IsRangeFile job low high gates q → IsOwnFileOf job low high before q
  own_of (inl body) = inl (inr (inr (inr body)))
  own_of (inr frame) = inr (unkept frame)

  pub written_of : IsRangeFile job low high gates q → MayWriteOf job low high before q
  written_of (inl body) = inl (inr body)
  written_of (inr frame) = inr (unkept frame)

-- what a run may write by its end: once the folder is open, and where it isn't opened
module _ (job : JobData) (low high : ℕ) (q : FileId) where
  pub may_run : (told : Option World) (end : RunEnd) → IsEnd job told end → IsRunFile job low high q → RunMayWrite job low high end q
  may_run told Done is own = own
  may_run told (OtherJob kept wanted) is own = absurd is
  may_run told (BadLedger len) is own = absurd is
  may_run told (Changed key was now) is own = own
  may_run told SourceFault is own = own
  may_run told DiskFault is own = own
  may_run told NoMemory is own = own

  pub may_open : (fault : OpenFault) → OpeningMayWrite (Err fault) q → RunMayWrite job low high (refused_by fault) q
  may_open (open_fault.OtherJob kept wanted) own = absurd own
  may_open (open_fault.BadLedger len) own = absurd own
  may_open open_fault.DiskFault own = inl own
  may_open open_fault.NoMemory own = absurd own
