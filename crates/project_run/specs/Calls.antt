-- What a call of a command comes to, and what it makes of the scan and of the disk that it is lent. All of it is this project's
-- own rule.
-- * what a call came to [project_adopt/specs/Adopt.antt]: its output where it is done, or an outcome with its line; what it made
--   of a folder, of which something is so before the call and after it, or of both folders of an adoption; what a refusal leaves
--   alone; what a command of a project leaves of the scan and of the folder
--     Replies result IsReply      what it came to is such a reply
--     WasOnlyRead before after      the folder was read, and nothing was written or synced, whether its disk tells or not
--     OverScan      over which scan
--     IsLeftAlone before after reached      where a project is refused, it left this alone
--     LeavesScanFor, LeavesDiskFor      what a command of a project leaves of the scan and of the disk
use Rattle.std.specs.Prelude.{◌≡◌, ℕ, true, List, Option, Result, Err, IfErr, MatchResult, Vec}
use Rattle.std.specs.declared.alloc.Global.{Global}
use Rattle.reel_disk.specs.Call.{writes_in}
use Rattle.reel_disk.specs.Disk.{IsStill}
use Rattle.reel_disk.specs.State.{DiskState, FolderState, LeavesDisk}
use Rattle.scan_source.specs.State.{LeavesScan, ScanState}
use Rattle.scan_source.specs.World.{World}
use Rattle.printed_lines.specs.Lines.{line_of}
use Rattle.outcome.specs.declared.Outcome.{Outcome}
use Rattle.outcome.specs.declared.Outcome.TheVariants as outcome
use Rattle.project_job.specs.Asked.{AreHeadsFor}

-- what it came to: its output, or an outcome with its line
abbrev pub Replies : Result (Vec ℕ Global) Outcome → (Outcome → List ℕ → Type 0) → Type 0
Replies result IsReply = MatchResult result (λ output. IsReply outcome.Done output.items) (λ reached. IsReply reached (line_of reached))

-- It was read and nothing else: at no moment was it changed, and no write and no sync was made on it.
pub record WasOnlyRead (before after : FolderState) : Type 0 where
  pub still : before.tells ≡ true → IsStill before.history after.history
  pub writes : writes_in after.calls ≡ writes_in before.calls

-- what it made over what a scan tells, and by the loads before and after
abbrev pub OverScan : {A : Type 1} → (before after : ScanState) → (Option World → ℕ → ℕ → A) → A
OverScan before after Made = Made before.world before.loads after.loads

-- a project is refused, the new one or an old one
abbrev pub IsRefusal : Outcome → Type 0
IsRefusal (outcome.Refused refusal) = Unit {0}
IsRefusal (outcome.OldRefused refusal) = Unit {0}
IsRefusal other = ⊥

-- no call is made on what is left alone where a project is refused
abbrev pub IsLeftAlone : {A : Type 0} → A → A → Outcome → Type 0
IsLeftAlone before after reached = IsRefusal reached → after ≡ before

-- Of a refused project no more heads were asked for than its refusal determines, and behind a plan one of each needed frame.
pub record LeavesScanFor (path : List ℕ) (result : Result (Vec ℕ Global) Outcome) (before after : ScanState) : Type 0 where
  pub lent : LeavesScan (result ≡ Err outcome.SourceFault) before after
  pub heads : MatchResult result (λ output. AreHeadsFor before.world path before.heads after.heads outcome.Done)
      (AreHeadsFor before.world path before.heads after.heads)

pub record LeavesDiskFor {D : Type 0} (state : D → DiskState) (result : Result (Vec ℕ Global) Outcome) (before after : D) : Type 0 where
  pub lent : LeavesDisk (result ≡ Err outcome.DiskFault) (state before) (state after)
  pub untouched : IfErr result (IsLeftAlone before after)
