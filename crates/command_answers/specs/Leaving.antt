-- What an answer leaves of the two folders' disks, as the very values that they are.
-- * what a command leaves of both folders: where a project is refused, the disks as they were; each lent as it was; and where the
--   words spell no command that makes calls on one, that one as it was
--     LeavesFolders state result      where a project is refused, and how they are lent
--     LeavesUncalled words      where no call is made on one
use Rattle.std.specs.Prelude.{◌≡◌, ℕ, List}
use Rattle.reel_disk.specs.State.{DiskState}
use Rattle.outcome.specs.declared.Outcome.{Outcome}
use Rattle.project_run.specs.Calls.{IsLeftAlone}
use Rattle.command_answers.specs.Answer.{IsUncalled}
use Rattle.command_answers.specs.Reply.{CallsDisk, CallsOld}

pub record LeavesFolders {D : Type 0} (state : D → DiskState) (result : Outcome) (before after old_before old_after : D) : Type 0 where
  pub reel : IsLeftAlone before after result
  pub old : IsLeftAlone old_before old_after result
  pub reel_lent : (state after).loans ≡ (state before).loans
  pub old_lent : (state old_after).loans ≡ (state old_before).loans

pub record LeavesUncalled {D : Type 0} (words : List (List ℕ)) (before after old_before old_after : D) : Type 0 where
  pub reel : IsUncalled CallsDisk words → after ≡ before
  pub old : IsUncalled CallsOld words → old_after ≡ old_before
