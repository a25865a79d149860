-- All scans are handed in, and the first alone is used.
use Rattle.std.proofs.Common.{◌≡◌, ◌∙◌, ℕ, ◌≤◌, List, [], ◌∷◌, length, Some, refl, sym, subst, arith}
use Rattle.std.specs.Prelude.{slice_get}
use Rattle.cf_base.specs.Sink.{SinkState}
use Rattle.cf_base.specs.Count.{HasRisen}
use Rattle.scan_source.specs.State.{ScanState}
use Rattle.scan_source.specs.World.{World}
use Rattle.conform_job.specs.Job.{JobData}
use Rattle.reel_disk.specs.Disk.{view_of}
use Rattle.project_job.specs.Laws.{OneJob}
use Rattle.project_crew.specs.Crew.{HasFailed, told_by}
use Rattle.reel_writer.specs.Reel.{frames_of}
use Rattle.frame_range.specs.Parts.{range_of}
use Rattle.frame_range.specs.declared.range.Extent.{Extent}
use Rattle.frame_range.specs.declared.range.Extent.TheVariants.{Whole}
use Rattle.command_words.specs.Commands.{Spells}
use Rattle.command_words.specs.declared.command.Command.{Command}
use Rattle.outcome.specs.declared.Outcome.{Outcome}
use Rattle.command_answers.specs.States.{Folders, House}
use Rattle.command_answers.specs.Answer.{Answered}
use Rattle.command_answers.specs.Complete.{IsAccepted, HasNotRisen, IsComplete, IsUnfailed}
use Rattle.command_answers.specs.Adoption.{AdoptsJob}
use Rattle.command_answers.specs.Headline.{RunsJob, KeepsItsPromise, HasEnded}
use Rattle.command_answers.proofs.Completes.{answered_complete, answered_unfailed}
use Rattle.command_answers.proofs.Headlines.{answered_adoption, answered_promise}

module _ (house : House) {S : Type 0} (state : S → ScanState) (words : List (List ℕ)) (folders folders_after : Folders) (sink sink_after : SinkState) (result : Outcome) where
  -- the answer is that of the first scan, which tells what all tell, and whose fault is one of a scan
  pub record FirstAnswered (scans scans_after : List S) : Type 0 where
    pub first : S
    pub last : S
    pub tells : told_by state scans ≡ (state first).world
    pub answered : Answered house words (state first) (state last) folders folders_after sink sink_after result
    pub failed : HasRisen (state first).faults (state last).faults → HasFailed state scans scans_after

  pub first_answered : (scans scans_after : List S) → 1 ≤ length scans → length scans_after ≡ length scans
      → ((first last : S) → slice_get scans 0 ≡ Some first → slice_get scans_after 0 ≡ Some last → Answered house words (state first) (state last) folders folders_after sink sink_after result)
      → FirstAnswered scans scans_after
  first_answered [] scans_after some size answered = absurd (omega (arith, some))
  first_answered (first ∷ rest) [] some size answered = absurd (omega (arith, size))
  first_answered (first ∷ rest) (last ∷ others) some size answered = record {
    first = first;
    last = last;
    tells = refl;
    answered = answered first last refl refl;
    failed = λ risen. (0, omega (arith, some), λ scan. risen);
  }

  module _ (scans scans_after : List S) (one : FirstAnswered scans scans_after) where
    pub alone_promise : OneJob → (world : World) (job : JobData) (extent : Extent) → RunsJob words (told_by state scans) folders.reel.tells world job extent → KeepsItsPromise job (range_of extent (frames_of job)) world folders.reel.history folders_after.reel.history (HasEnded result)
    alone_promise laws world job extent runs =
        answered_promise laws words (state one.first) (state one.last) folders folders_after sink sink_after result one.answered world job extent
        (subst (λ told. RunsJob words told folders.reel.tells world job extent) one.tells runs)

    pub alone_adoption : OneJob → (world : World) (job : JobData) → AdoptsJob words (told_by state scans) folders.reel.tells world (view_of folders.old.history) job → KeepsItsPromise job (range_of Whole (frames_of job)) world folders.reel.history folders_after.reel.history (HasEnded result)
    alone_adoption laws world job adopts =
        answered_adoption laws words (state one.first) (state one.last) folders folders_after sink sink_after result one.answered world job
        (subst (λ told. AdoptsJob words told folders.reel.tells world (view_of folders.old.history) job) one.tells adopts)

    pub alone_complete : OneJob → (command : Command) (world : World) → Spells words command → told_by state scans ≡ Some world → IsAccepted command world folders
        → (HasFailed state scans scans_after → ⊥) → HasNotRisen folders.reel.faults folders_after.reel.faults → HasNotRisen folders.old.faults folders_after.old.faults → HasNotRisen sink.faults sink_after.faults → IsComplete command result
    alone_complete laws command world spells is accepted scans_steady =
        answered_complete laws words (state one.first) (state one.last) folders folders_after sink sink_after result one.answered
        command world spells (sym one.tells ∙ is) accepted (λ risen. scans_steady (one.failed risen))

    pub alone_unfailed : (command : Command) → Spells words command
        → (HasFailed state scans scans_after → ⊥) → HasNotRisen folders.reel.faults folders_after.reel.faults → HasNotRisen folders.old.faults folders_after.old.faults → HasNotRisen sink.faults sink_after.faults → IsUnfailed command result
    alone_unfailed command spells scans_steady =
        answered_unfailed words (state one.first) (state one.last) folders folders_after sink sink_after result one.answered
        command spells (λ risen. scans_steady (one.failed risen))
