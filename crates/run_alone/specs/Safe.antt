-- What every run of a job keeps, on one thread or by a crew. All of it is this project's own rule.
-- * safe run: at every moment of it whatever a crash leaves acknowledges only frames that are the definition's, and no
--   acknowledgement is lost; at Done the folder has all frames of the range; which files it may change, and which it writes
--     IsSafeRun      what a run that ended so keeps
use Rattle.std.specs.Prelude.{◌≡◌, true, Option}
use Rattle.frame_fetch.specs.declared.run_end.RunEnd.{RunEnd}
use Rattle.frame_fetch.specs.declared.run_end.RunEnd.TheVariants as ends
use Rattle.frame_range.specs.declared.range.FrameRange.{FrameRange}
use Rattle.scan_source.specs.World.{World}
use Rattle.conform_job.specs.Job.{JobData}
use Rattle.reel_disk.specs.Call.{OnlyWrites}
use Rattle.reel_disk.specs.Disk.{Files, moment_of, view_of}
use Rattle.reel_disk.specs.Runs.{Spares}
use Rattle.reel_disk.specs.State.{FolderState}
use Rattle.resume_ledger.specs.Sound.{WritesOnly}
use Rattle.reel_writer.specs.Reel.{HasFrameFiles, IsReelRun, IsSoundReel}
use Rattle.run_alone.specs.Run.{AreAllAcked, HasWhole, IsOwnFileOf, MayWriteOf, RunMayWrite}

-- What a run that ended so keeps: at every moment of it each frame that a crash leaves acknowledged is the definition's, and no
-- acknowledgement is lost; at Done the folder has all frames of the range.
pub record IsSafeRun (job : JobData) (range : FrameRange) (told : Option World) (how : RunEnd)
    (disk disk_after : FolderState) : Type 0 where
  pub run : disk.tells ≡ true → IsReelRun job told disk.history disk_after.history
  pub acked : how ≡ ends.Done → disk.tells ≡ true → AreAllAcked job range.low range.high (moment_of disk_after.history)
  pub whole : how ≡ ends.Done → disk.tells ≡ true → HasWhole job range.low range.high told disk.history disk_after.history
  -- sound files lose none
  pub sound_has : (world : World) (files : Files) → IsSoundReel job world files → HasFrameFiles job files
  -- what it may have changed: the ledger's files, and those of frames of the range that the folder didn't acknowledge
  pub spares : disk.tells ≡ true → Spares disk.history disk_after.history (IsOwnFileOf job range.low range.high (view_of disk.history))
  -- what it wrote: of the ledger's files those of version 2 alone
  pub writes : disk.tells ≡ true → WritesOnly disk.history disk_after.history (MayWriteOf job range.low range.high (view_of disk.history))
  -- by its calls, also where the disk tells nothing: no file but these, and none where the folder was refused
  pub own : OnlyWrites (RunMayWrite job range.low range.high how) disk.calls disk_after.calls
