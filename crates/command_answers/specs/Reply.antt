-- What a command that was spelled comes to.
-- * reply: what a command that was spelled comes to: what its record has of it, with its line, its causes and what it asked of
--   the scan; the calls on the folders that it makes, and the outcomes that it may come to
--     CallsDisk, CallsOld command      it makes calls on the folder of the reel, on that of an old reel
--     IsKindOf command outcome      the outcomes that it may come to
--     IsReplyOverScan command before after reached output      the command came to this outcome with this output
--     IsReplyOverFolders house      the same, with what it did to the folders, in this house
use Rattle.std.specs.Prelude.{◌≡◌, ◌≢◌, ◌≤◌, ℕ, List}
use Rattle.cf_base.specs.Count.{HasRisen}
use Rattle.scan_source.specs.State.{HasFailedLast, ScanState}
use Rattle.printed_lines.specs.Lines.{line_of}
use Rattle.command_words.specs.declared.command.Command.{Command}
use Rattle.outcome.specs.declared.Outcome.{Outcome}
use Rattle.outcome.specs.declared.Outcome.TheVariants.{Done, Usage, Refused as IsRefused, OldRefused, OldOtherJob, OldBadLedger, Damaged, Changed, SourceFault, DiskFault, SinkFault, NoMemory}
use Rattle.command_answers.specs.Commands.{meaning_of}
use Rattle.command_answers.specs.Meaning.{Makes}
use Rattle.command_answers.specs.States.{Folders, House}

-- the command makes calls on the folder of the reel
abbrev pub CallsDisk : Command → Type 0
CallsDisk command = Makes (meaning_of command).calls.on_reel

-- it makes calls on the folder of an old reel too
abbrev pub CallsOld : Command → Type 0
CallsOld command = Makes (meaning_of command).calls.on_old

-- The outcomes that a command may come to, whatever the scan and the folders tell. A folder's state and a fault of a disk are
-- outcomes of those commands alone that make calls on it.
abbrev pub IsKindOf : Command → Outcome → Type 0
IsKindOf command Done = Unit {0}
IsKindOf command (IsRefused refusal) = Unit {0}
IsKindOf command SourceFault = Unit {0}
IsKindOf command NoMemory = Unit {0}
IsKindOf command Usage = ⊥
IsKindOf command (SinkFault instead) = ⊥
IsKindOf command (Changed reel key was now) = Makes (meaning_of command).calls.loads_frames
IsKindOf command (Damaged frame kept found) = Makes (meaning_of command).calls.checks_frames
IsKindOf command (OldRefused refusal) = CallsOld command
IsKindOf command (OldOtherJob kept wanted) = CallsOld command
IsKindOf command (OldBadLedger len) = CallsOld command
IsKindOf command other = CallsDisk command

pub record IsReplyOverScan (command : Command) (before after : ScanState) (reached : Outcome) (output : List ℕ) : Type 0 where
  pub right : (meaning_of command).IsRight reached output before after
  pub line : reached ≢ Done → output ≡ line_of reached
  -- causes
  pub kind : IsKindOf command reached
  pub source_fault : reached ≡ SourceFault → HasRisen before.faults after.faults
  -- the call of the scan that failed is the last that was made
  pub last : reached ≡ SourceFault → HasFailedLast before after
  -- the scan: it fails in no other case
  pub steady : reached ≢ SourceFault → after.faults ≡ before.faults
  pub later : before.faults ≤ after.faults
  pub loads : (meaning_of command).HasLoaded before after reached
  pub heads : (meaning_of command).LooksAtHeads before after reached
  pub world : after.world ≡ before.world

-- The reply of a command, with what it did to the folders, whose fault has its cause.
pub record IsReplyOverFolders (house : House) (command : Command) (before after : ScanState)
    (folders folders_after : Folders) (reached : Outcome) (output : List ℕ) : Type 0 where
  pub reply : IsReplyOverScan command before after reached output
  pub folder : (meaning_of command).UsesDisk house before after folders folders_after reached output
  pub old_folder : (CallsOld command → ⊥) → folders_after.old ≡ folders.old
  pub disk_fault : reached ≡ DiskFault → (meaning_of command).HasFailedDisk folders folders_after
  pub disk_steady : reached ≢ DiskFault → folders_after.reel.faults ≡ folders.reel.faults
  pub old_steady : reached ≢ DiskFault → folders_after.old.faults ≡ folders.old.faults
  pub disk_later : folders.reel.faults ≤ folders_after.reel.faults
  pub old_later : folders.old.faults ≤ folders_after.old.faults
