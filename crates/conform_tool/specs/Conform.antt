-- What the top call answers to the words of a run with several workers.
-- * top call: the words of a run with several workers, and the answer to them over all scans; all other words are answered as
--   above
--     IsAlone words      the words are no such run
--     IsFirst scans scan      the scan is the first of them
--     AnsweredByCrew      the answer to them, over all scans
use Rattle.std.specs.Prelude.{◌≡◌, ◌≢◌, ◌⊎◌, ℕ, ◌≤◌, List, slice_get, Some}
use Rattle.cf_base.specs.Count.{HasRisen}
use Rattle.cf_base.specs.Sink.{SinkState}
use Rattle.scan_source.specs.State.{ScanState}
use Rattle.frame_range.specs.declared.range.Extent.{Extent}
use Rattle.command_words.specs.Commands.{Spells}
use Rattle.command_words.specs.declared.command.Command.TheVariants as commands
use Rattle.printed_lines.specs.Lines.{line_of}
use Rattle.outcome.specs.declared.Outcome.{Outcome}
use Rattle.outcome.specs.declared.Outcome.TheVariants.{Done, SourceFault, DiskFault, NoMemory}
use Rattle.project_crew.specs.Crew.{HasFailed, IsCrewReply}
use Rattle.reel_disk.specs.State.{FolderState}
use Rattle.project_run.specs.Run.{IsOfRun}
use Rattle.command_answers.specs.Answer.{IsPut}

abbrev pub IsAlone : List (List ℕ) → Type 0
IsAlone words = (path : List ℕ) (extent : Extent) (workers share : ℕ) → Spells words (commands.Run path extent workers share) → workers ≤ 1

abbrev pub IsFirst : {S : Type 0} → List S → S → Type 0
IsFirst scans scan = slice_get scans 0 ≡ Some scan

module _ {S : Type 0} (state : S → ScanState) where
  -- The run came to this outcome with this output, and each fault has its cause.
  pub record IsCausedByCrew (path : List ℕ) (extent : Extent) (workers share : ℕ) (scans scans_after : List S)
      (disk disk_after : FolderState) (reached : Outcome) (output : List ℕ) : Type 0 where
    pub reply : IsCrewReply state path extent workers share scans scans_after disk disk_after reached output
    pub line : reached ≢ Done → output ≡ line_of reached
    pub kind : (reached ≡ Done) ⊎ IsOfRun reached
    pub source_fault : reached ≡ SourceFault → HasFailed state scans scans_after
    pub disk_fault : reached ≡ DiskFault → HasRisen disk.faults disk_after.faults
    pub disk_later : disk.faults ≤ disk_after.faults

  -- No memory was left to read the words, and nothing was read.
  pub record WereUnread (scans scans_after : List S) (disk disk_after : FolderState) (reached : Outcome) (output : List ℕ) : Type 0 where
    pub reached_is : reached ≡ NoMemory
    pub line : output ≡ line_of NoMemory
    pub untouched_scans : scans_after ≡ scans
    pub untouched_disk : disk_after ≡ disk

  pub record AnsweredByCrew (path : List ℕ) (extent : Extent) (workers share : ℕ) (scans scans_after : List S)
      (disk disk_after : FolderState) (sink sink_after : SinkState) (result : Outcome) : Type 0 where
    pub reached : Outcome
    pub output : List ℕ
    pub put : IsPut sink sink_after reached output result
    pub crewed : IsCausedByCrew path extent workers share scans scans_after disk disk_after reached output
        ⊎ WereUnread scans scans_after disk disk_after reached output
