-- What a run keeps that ends with the opening of its folder.
use Rattle.std.proofs.Common.{◌≡◌, inl, Bool, true, Option}
use Rattle.scan_source.specs.World.{World}
use Rattle.conform_job.specs.Job.{JobData}
use Rattle.frame_fetch.specs.declared.run_end.RunEnd.{RunEnd}
use Rattle.frame_fetch.specs.declared.run_end.RunEnd.TheVariants.{Done}
use Rattle.frame_range.specs.declared.range.FrameRange.{FrameRange}
use Rattle.reel_disk.specs.Call.{OnlyWrites}
use Rattle.reel_disk.specs.Disk.{Files, view_of}
use Rattle.reel_disk.specs.State.{DiskState, folder_state}
use Rattle.reel_disk.proofs.Sparing.{spares_wider}
use Rattle.reel_writer.specs.Reel.{HasFrameFiles, IsSafeBeginning, IsSoundReel}
use Rattle.reel_writer.proofs.Writing.{writes_wider}
use Rattle.resume_ledger.specs.Ledger.{IsLedgerFile, IsWrittenLedgerFile}
use Rattle.run_alone.specs.Run.{IsOwnFileOf, MayWriteOf, RunMayWrite}
use Rattle.run_alone.specs.Safe.{IsSafeRun}

pub opening_keeps : (job : JobData) (range : FrameRange) (told : Option World) (tells : Bool) (before after : DiskState) (end : RunEnd) → (end ≡ Done → ⊥)
    → (tells ≡ true → IsSafeBeginning job told before.history after.history) → ((world : World) (files : Files) → IsSoundReel job world files → HasFrameFiles job files)
    → OnlyWrites (RunMayWrite job range.low range.high end) before.calls after.calls → IsSafeRun job range told end (folder_state tells before) (folder_state tells after)
opening_keeps job range told tells before after end never safe sound_has own = record {
  run = λ is. (safe is).run;
  acked = λ done. absurd (never done);
  whole = λ done. absurd (never done);
  sound_has = sound_has;
  spares = λ is. spares_wider _ _ IsLedgerFile (IsOwnFileOf job range.low range.high (view_of before.history)) (λ q ledger. inl ledger) (safe is).spares;
  writes = λ is. writes_wider _ _ IsWrittenLedgerFile (MayWriteOf job range.low range.high (view_of before.history)) (λ q ledger. inl ledger) (safe is).writes;
  own = own;
}
