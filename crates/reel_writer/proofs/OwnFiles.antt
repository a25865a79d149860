-- Which files a run over some of the frames writes.
--     frame_of_run      what a finish of one of these frames writes
--     opening_of_run      what the opening writes
use Rattle.std.proofs.Common.{inl, inr, ℕ, ◌<◌, ◌≤◌}
use Rattle.std.specs.Prelude.{Result, Ok, Err}
use Rattle.cf_base.specs.declared.file.FileId.{FileId}
use Rattle.conform_job.specs.Job.{JobData, file_of}
use Rattle.resume_ledger.specs.Attach.{OpeningMayWrite}
use Rattle.resume_ledger.specs.Ledger.{LedgerState}
use Rattle.resume_ledger.specs.declared.attach.OpenFault.{OpenFault}
use Rattle.resume_ledger.specs.declared.attach.OpenFault.TheVariants.{OtherJob, BadLedger, DiskFault, NoMemory}
use Rattle.reel_writer.specs.Reel.{IsRunFile, IsWrittenFile}

module _ (job : JobData) (low high : ℕ) where
  pub frame_of_run : (i : ℕ) → low ≤ i → i < high → (q : FileId) → IsWrittenFile (file_of job i) q → IsRunFile job low high q
  frame_of_run i from below q (inl is) = inr (i, from, below, is)
  frame_of_run i from below q (inr body) = inl (inr body)

  pub opening_of_run : (result : Result LedgerState OpenFault) (q : FileId) → OpeningMayWrite result q → IsRunFile job low high q
  opening_of_run (Ok ledger) q own = inl own
  opening_of_run (Err (OtherJob kept wanted)) q none = absurd none
  opening_of_run (Err (BadLedger len)) q none = absurd none
  opening_of_run (Err DiskFault) q own = inl own
  opening_of_run (Err NoMemory) q none = absurd none
