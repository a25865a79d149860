-- From what a command came to over the scan to its whole reply. Of one that makes no call on a folder both folders are as they
-- were; what an adoption did to both is said by it, and so is what another command did to the folder of the reel.
use Rattle.std.proofs.Common.{◌≡◌, ℕ, Bool, List, Vec, Global, refl, sym, subst, arith}
use Rattle.std.specs.Prelude.{MatchResult, Option, Result, Ok, Err}
use Rattle.scan_source.specs.State.{ScanState}
use Rattle.reel_disk.specs.State.{DiskState, FolderState, OnDisk}
use Rattle.scan_source.specs.World.{World}
use Rattle.reconform.specs.Adopt.{LeavesBoth}
use Rattle.project_adopt.specs.Adopt.{IsAdoptReply, OnDisks}
use Rattle.command_words.specs.declared.command.Command.{Command}
use Rattle.command_words.specs.declared.command.Command.TheVariants as commands
use Rattle.printed_lines.specs.Lines.{line_of}
use Rattle.outcome.specs.declared.Outcome.{Outcome}
use Rattle.outcome.specs.declared.Outcome.TheVariants as outcomes
use Rattle.project_run.specs.Calls.{LeavesDiskFor, LeavesScanFor, OverScan, Replies}
use Rattle.command_answers.specs.ByFolder.{reel_meaning}
use Rattle.command_answers.specs.ByJob.{AreJobHeads}
use Rattle.command_answers.specs.Commands.{meaning_of}
use Rattle.command_answers.specs.Meaning.{Calls, Meaning}
use Rattle.command_answers.specs.Reply.{IsKindOf, IsReplyOverScan, IsReplyOverFolders}
use Rattle.command_answers.specs.States.{Folders, House, folders_of}
use Rattle.command_answers.proofs.Replies.{error_of, outcome_of, replied_over}

module _ (house : House) (kind : Command) (scan scan_after : ScanState) (folders : Folders) (no_disk : IsKindOf kind outcomes.DiskFault → ⊥)
    (leaves : (reached : Outcome) (output : List ℕ) → (meaning_of kind).UsesDisk house scan scan_after folders folders reached output) where
  unmoved : (reached : Outcome) (output : List ℕ) → IsReplyOverScan kind scan scan_after reached output → IsReplyOverFolders house kind scan scan_after folders folders reached output
  unmoved reached output reply = record {
    reply = reply;
    folder = leaves reached output;
    old_folder = λ _. refl;
    disk_fault = λ same. absurd (no_disk (subst (IsKindOf kind) same reply.kind));
    disk_steady = λ _. refl;
    old_steady = λ _. refl;
    disk_later = omega arith;
    old_later = omega arith;
  }

  reached_unmoved : (result : Result (Vec ℕ Global) Outcome) → Replies result (IsReplyOverScan kind scan scan_after) → Replies result (IsReplyOverFolders house kind scan scan_after folders folders)
  reached_unmoved (Ok text) reply = unmoved outcomes.Done text.items reply
  reached_unmoved (Err outcome) reply = unmoved outcome (line_of outcome) reply

  -- of a command that is of this kind
  replied_unmoved : (command : Command) (result : Result (Vec ℕ Global) Outcome) → command ≡ kind
      → Replies result (IsReplyOverScan kind scan scan_after) → Replies result (IsReplyOverFolders house command scan scan_after folders folders)
  replied_unmoved command result same reply =
      subst (λ c. Replies result (IsReplyOverFolders house c scan scan_after folders folders)) (sym same) (reached_unmoved result reply)

pub plan_replied : (house : House) (command : Command) (path : List ℕ) (scan scan_after : ScanState) (folders : Folders) (result : Result (Vec ℕ Global) Outcome) → command ≡ commands.Plan path
    → Replies result (IsReplyOverScan (commands.Plan path) scan scan_after) → Replies result (IsReplyOverFolders house command scan scan_after folders folders)
plan_replied house command path scan scan_after folders = replied_unmoved house (commands.Plan path) scan scan_after folders (λ none. none) (λ reached output. refl) command

pub pull_replied : (house : House) (command : Command) (path : List ℕ) (margin : ℕ) (scan scan_after : ScanState) (folders : Folders) (result : Result (Vec ℕ Global) Outcome) → command ≡ commands.Pull path margin
    → Replies result (IsReplyOverScan (commands.Pull path margin) scan scan_after) → Replies result (IsReplyOverFolders house command scan scan_after folders folders)
pull_replied house command path margin scan scan_after folders = replied_unmoved house (commands.Pull path margin) scan scan_after folders (λ none. none) (λ reached output. refl) command

module _ (house : House) (command : Command) (path old_path : List ℕ) (scan scan_after : ScanState) (tells : Bool) (old old_after disk disk_after : DiskState) where
  adopted : (result : Result (Vec ℕ Global) Outcome)
      → Replies result (IsReplyOverScan (commands.Adopt path old_path) scan scan_after)
      → Replies result (OnDisks tells old old_after disk disk_after (OverScan scan scan_after (IsAdoptReply path old_path)))
      → LeavesBoth (result ≡ Err outcomes.DiskFault) old old_after disk disk_after
      → Replies result (IsReplyOverFolders house (commands.Adopt path old_path) scan scan_after (folders_of tells disk old) (folders_of tells disk_after old_after))
  adopted (Ok text) reply made leaves = record {
    reply = reply;
    folder = made;
    old_folder = λ none. absurd (none tt);
    disk_fault = λ same. absurd (cc);
    disk_steady = λ other. leaves.steady (λ same. cc);
    old_steady = λ other. leaves.old_steady (λ same. cc);
    disk_later = leaves.cause.later;
    old_later = leaves.cause.old_later;
  }
  adopted (Err outcome) reply made leaves = record {
    reply = reply;
    folder = made;
    old_folder = λ none. absurd (none tt);
    disk_fault = λ same. leaves.cause.failed (error_of _ _ same);
    disk_steady = λ other. leaves.steady (λ same. other (outcome_of _ _ same));
    old_steady = λ other. leaves.old_steady (λ same. other (outcome_of _ _ same));
    disk_later = leaves.cause.later;
    old_later = leaves.cause.old_later;
  }

  -- an adoption, with what it did to both folders
  pub adopt_replied : (result : Result (Vec ℕ Global) Outcome) → command ≡ commands.Adopt path old_path
      → Replies result (IsReplyOverScan (commands.Adopt path old_path) scan scan_after)
      → Replies result (OnDisks tells old old_after disk disk_after (OverScan scan scan_after (IsAdoptReply path old_path)))
      → LeavesBoth (result ≡ Err outcomes.DiskFault) old old_after disk disk_after
      → Replies result (IsReplyOverFolders house command scan scan_after (folders_of tells disk old) (folders_of tells disk_after old_after))
  adopt_replied result same reply made leaves =
      subst (λ c. Replies result (IsReplyOverFolders house c scan scan_after (folders_of tells disk old) (folders_of tells disk_after old_after))) (sym same) (adopted result reply made leaves)

-- A command that makes calls on the folder of the reel alone. What it made of that and of the scan is what the command means.
module _ {D : Type 0} (house : House) (kind : Command) (path : List ℕ) (calls : Calls) (Uses : House → Option World → (loads loads_after : ℕ) → (disk disk_after : FolderState) → Outcome → List ℕ → Type 0)
    (IsDone : Outcome → Type 0) (means : meaning_of kind ≡ reel_meaning path calls Uses IsDone) {Kind : Outcome → Type 0} (kinds : (reached : Outcome) → Kind reached → IsKindOf kind reached)
    (before after : ScanState)
    (tells : Bool) (state : D → DiskState) (disk disk_after old : D) where
  abbrev folders : Folders
  folders = folders_of tells (state disk) (state old)

  abbrev folders_after : Folders
  folders_after = folders_of tells (state disk_after) (state old)

  as_meant : (P : Meaning → Type 0) → P (reel_meaning path calls Uses IsDone) → P (meaning_of kind)
  as_meant P holds = subst P (sym means) holds

  over_scan : (result : Result (Vec ℕ Global) Outcome) → MatchResult result (λ text. Unit {0}) Kind → LeavesScanFor path result before after
      → Replies result (IsReplyOverScan kind before after)
  over_scan result kind_is left = replied_over kind before after kinds (λ reached output. as_meant (λ m. m.IsRight reached output before after) tt) (λ reached. as_meant (λ m. m.HasLoaded before after reached) tt)
      result kind_is left.lent (looked result left.heads)
    where
      looked : (result : Result (Vec ℕ Global) Outcome) → MatchResult result (λ output. AreJobHeads path before after outcomes.Done) (AreJobHeads path before after)
          → MatchResult result (λ output. (meaning_of kind).LooksAtHeads before after outcomes.Done) ((meaning_of kind).LooksAtHeads before after)
      looked (Ok text) heads = as_meant (λ m. m.LooksAtHeads before after outcomes.Done) heads
      looked (Err reached) heads = as_meant (λ m. m.LooksAtHeads before after reached) heads

  on_reel : (result : Result (Vec ℕ Global) Outcome) → Replies result (OnDisk tells (state disk) (state disk_after) (OverScan before after (Uses house)))
      → LeavesDiskFor state result disk disk_after → Replies result (IsReplyOverScan kind before after) → Replies result (IsReplyOverFolders house kind before after folders folders_after)
  on_reel (Ok text) made leaves reply = record {
    reply = reply;
    folder = as_meant (λ m. m.UsesDisk house before after folders folders_after outcomes.Done text.items) made;
    old_folder = λ none. refl;
    disk_fault = λ is. absurd (cc);
    disk_steady = λ other. leaves.lent.counts.steady (λ is. cc);
    old_steady = λ other. refl;
    disk_later = leaves.lent.counts.cause.later;
    old_later = omega arith;
  }
  on_reel (Err reached) made leaves reply = record {
    reply = reply;
    folder = as_meant (λ m. m.UsesDisk house before after folders folders_after reached (line_of reached)) made;
    old_folder = λ none. refl;
    disk_fault = λ is. as_meant (λ m. m.HasFailedDisk folders folders_after) (leaves.lent.counts.cause.failed (error_of _ _ is));
    disk_steady = λ other. leaves.lent.counts.steady (λ is. other (outcome_of _ _ is));
    old_steady = λ other. refl;
    disk_later = leaves.lent.counts.cause.later;
    old_later = omega arith;
  }

  pub reel_replied : (command : Command) (result : Result (Vec ℕ Global) Outcome) → command ≡ kind → Replies result (OnDisk tells (state disk) (state disk_after) (OverScan before after (Uses house)))
      → MatchResult result (λ text. Unit {0}) Kind → LeavesScanFor path result before after → LeavesDiskFor state result disk disk_after
      → Replies result (IsReplyOverFolders house command before after folders folders_after)
  reel_replied command result is made kind_is scanned left =
      subst (λ c. Replies result (IsReplyOverFolders house c before after folders folders_after)) (sym is) (on_reel result made left (over_scan result kind_is scanned))
