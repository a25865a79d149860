-- From the reply of a crew to the headline, and from its causes to completeness.
use Rattle.std.proofs.Common.{◌≡◌, ◌≢◌, ℕ, true, List, Option, Some, None, Ok, sym, ap, subst, ◌∙◌, inl, inr, Bool, min, length, MatchOption}
use Rattle.std.specs.Prelude.{◌⊎◌}
use Rattle.cf_base.specs.Sink.{SinkState}
use Rattle.scan_source.specs.State.{ScanState}
use Rattle.scan_source.specs.World.{World, file_at}
use Rattle.conform_job.specs.Job.{JobData}
use Rattle.reel_disk.specs.Disk.{History, view_of}
use Rattle.resume_ledger.specs.Ledger.{IsFit}
use Rattle.reel_writer.specs.Reel.{frames_of}
use Rattle.frame_fetch.specs.declared.run_end.RunEnd.{RunEnd}
use Rattle.frame_fetch.specs.declared.run_end.RunEnd.TheVariants as ends
use Rattle.project_job.specs.Jobs.{ComesTo}
use Rattle.project_job.specs.Laws.{OneJob}
use Rattle.reel_disk.specs.State.{FolderState}
use Rattle.project_run.specs.Run.{outcome_of_end}
use Rattle.project_crew.specs.Crew.{IsCrewReply, told_by, HasFailed}
use Rattle.frame_range.specs.declared.range.Extent.{Extent}
use Rattle.frame_range.specs.Parts.{range_of}
use Rattle.command_words.specs.declared.command.Command.TheVariants as commands
use Rattle.outcome.specs.declared.Outcome.{Outcome}
use Rattle.outcome.specs.declared.Outcome.TheVariants as outcomes
use Rattle.conform_tool.specs.Conform.{AnsweredByCrew}
use Rattle.command_answers.specs.Headline.{KeepsItsPromise, HasEnded}
use Rattle.frame_share.specs.declared.step.ShareStep.{ShareStep}
use Rattle.render_board.specs.declared.step.Step.{Step}
use Rattle.run_crew.specs.Crews.{TookSteps, TookNoSteps}
use Rattle.run_alone.specs.declared.report.Report.{Report}
use Rattle.command_words.specs.declared.command.Command.{Command}
use Rattle.command_answers.specs.ByFolder.{HasFitFolder}
use Rattle.command_answers.specs.Meaning.{IsThrough}
use Rattle.command_answers.specs.Complete.{HasNotRisen, IsComplete, IsUnfailed}
use Rattle.command_answers.proofs.Headlines.{at_world, run_promise, how_done, still_promise, job_not_done, memory_not_done, of_run_not_sink, reached_done}
use Rattle.command_answers.proofs.Completes.{refused_complete, opened_complete, by_end, fit_for, planned_complete, put_complete, put_unfailed, unfailed, run_kind}

-- ---- the headline

module _ (laws : OneJob) (job : JobData) (world : World) (path : List ℕ) (extent : Extent) (comes : ComesTo (file_at world) path (Ok job.parts)) where
  crew_promise : {S : Type 0} (state : S → ScanState) (workers share : ℕ) (scans scans_after : List S) (disk disk_after : FolderState) (reached : Outcome) (output : List ℕ) (Ended : Type 0)
      → told_by state scans ≡ Some world → disk.tells ≡ true → (Ended → reached ≡ outcomes.Done) → IsCrewReply state path extent workers share scans scans_after disk disk_after reached output
      → KeepsItsPromise job (range_of extent (frames_of job)) world disk.history disk_after.history Ended
  crew_promise state workers share scans scans_after disk disk_after reached output Ended is tells done (inl has) =
      run_promise job has.job extent (told_by state scans) world disk.history disk_after.history Ended is
      (laws.one (file_at world) path has.job.parts job.parts (at_world (told_by state scans) world (λ w. ComesTo (file_at w) path (Ok has.job.parts)) is has.comes.told) comes)
      (has.ran.keeps.run tells) has.ran.keeps.sound_has (λ ended. has.ran.keeps.acked (how_done _ _ _ (done ended) has.ran.reply.reached_is) tells)
  crew_promise state workers share scans scans_after disk disk_after reached output Ended is tells done (inr none) =
      subst (λ (after : FolderState). KeepsItsPromise job (range_of extent (frames_of job)) world disk.history after.history Ended) (sym none.untouched)
      (still_promise job (range_of extent (frames_of job)) world disk.history Ended (λ ended. job_not_done reached none.kind (done ended)))

-- by the answer of a crew
pub crew_answered_promise : (laws : OneJob) {S : Type 0} (state : S → ScanState) (path : List ℕ) (extent : Extent) (workers share : ℕ) (scans scans_after : List S) (disk disk_after : FolderState) (sink sink_after : SinkState) (result : Outcome)
    → AnsweredByCrew state path extent workers share scans scans_after disk disk_after sink sink_after result
    → (world : World) (job : JobData) → told_by state scans ≡ Some world → disk.tells ≡ true → ComesTo (file_at world) path (Ok job.parts)
    → KeepsItsPromise job (range_of extent (frames_of job)) world disk.history disk_after.history (HasEnded result)
crew_answered_promise laws state path extent workers share scans scans_after disk disk_after sink sink_after result answered world job is tells comes = elim answered.crewed [
  | inl crewed ↦ crew_promise laws job world path extent comes state workers share scans scans_after disk disk_after answered.reached answered.output (HasEnded result) is tells
      (reached_done sink sink_after answered.reached answered.output result answered.put (of_run_not_sink answered.reached crewed.kind)) crewed.reply
  | inr unread ↦ subst (λ (after : FolderState). KeepsItsPromise job (range_of extent (frames_of job)) world disk.history after.history (HasEnded result)) (sym unread.untouched_disk)
      (still_promise job (range_of extent (frames_of job)) world disk.history (HasEnded result) (λ ended. memory_not_done sink sink_after answered.reached answered.output result answered.put unread.reached_is ended))
]

-- ---- completeness

steps_complete : (world : World) (told : Option World) (is : told ≡ Some world) (log : List ShareStep) (count share low high : ℕ) (job : JobData) (old new : History) (how : RunEnd) (report : Report) (tells : Bool) (steps : Option (List Step)) → tells ≡ true → IsFit job.parts.digest (frames_of job) (view_of old)
    → MatchOption steps (TookNoSteps job tells old new how report log) (λ all. TookSteps job low high told count share tells old new all how report log)
    → how ≢ ends.SourceFault → how ≢ ends.DiskFault → (how ≡ ends.Done) ⊎ (how ≡ ends.NoMemory)
steps_complete world told is log count share low high job old new how report tells None tell fit (inl refused) none_source none_disk = refused_complete job tells old new how tell fit refused.why none_disk
steps_complete world told is log count share low high job old new how report tells None tell fit (inr unmade) none_source none_disk = inr unmade.no_memory
steps_complete world told is log count share low high job old new how report tells (Some all) tell fit crewed none_source none_disk = opened_complete job told world how is crewed.is_end none_source none_disk

module _ (laws : OneJob) {S : Type 0} (state : S → ScanState) (path : List ℕ) (extent : Extent) (workers share : ℕ) (scans scans_after : List S) (disk disk_after : FolderState) (world : World) (is : told_by state scans ≡ Some world) (place : HasFitFolder world path disk) where
  crew_complete : (reached : Outcome) (output : List ℕ) → IsCrewReply state path extent workers share scans scans_after disk disk_after reached output
      → reached ≢ outcomes.SourceFault → reached ≢ outcomes.DiskFault → IsThrough reached
  crew_complete reached output (inl has) no_source no_disk = elim has.ran.reply.reached_is [
    | inl reached_is ↦
        let reels = has.job.parts.reels in
        by_end reels has.ran.how reached reached_is
        (steps_complete world (told_by state scans) is has.ran.log (min workers (length has.planned)) share _ _ has.job disk.history disk_after.history has.ran.how has.ran.report disk.tells has.ran.steps place.tells
        (fit_for laws world path disk place (told_by state scans) is has.job has.comes.told) has.ran.ran
        (λ source. no_source (reached_is ∙ ap (outcome_of_end reels) source)) (λ failed. no_disk (reached_is ∙ ap (outcome_of_end reels) failed)))
    | inr memory ↦ inr memory
  ]
  crew_complete reached output (inr none) no_source no_disk = planned_complete laws (told_by state scans) world path reached is (place.job, place.comes) none.why.told none.kind no_source

  pub crew_answered_complete : (sink sink_after : SinkState) (result : Outcome) → AnsweredByCrew state path extent workers share scans scans_after disk disk_after sink sink_after result
      → (HasFailed state scans scans_after → ⊥) → HasNotRisen disk.faults disk_after.faults → HasNotRisen sink.faults sink_after.faults → IsComplete (commands.Run path extent workers share) result
  crew_answered_complete sink sink_after result answered scans_steady disk_steady sink_steady =
      put_complete (commands.Run path extent workers share) sink sink_after answered.reached answered.output result answered.put sink_steady (elim answered.crewed [
        | inl crewed ↦ crew_complete answered.reached answered.output crewed.reply (λ source. scans_steady (crewed.source_fault source)) (λ failed. disk_steady (crewed.disk_fault failed))
        | inr unread ↦ inr unread.reached_is
      ])

pub crew_unfailed : {S : Type 0} (state : S → ScanState) (path : List ℕ) (extent : Extent) (workers share : ℕ) (scans scans_after : List S) (disk disk_after : FolderState) (sink sink_after : SinkState) (result : Outcome)
    → AnsweredByCrew state path extent workers share scans scans_after disk disk_after sink sink_after result
    → (command : Command) → command ≡ commands.Run path extent workers share
    → (HasFailed state scans scans_after → ⊥) → HasNotRisen disk.faults disk_after.faults → HasNotRisen sink.faults sink_after.faults → IsUnfailed command result
crew_unfailed state path extent workers share scans scans_after disk disk_after sink sink_after result answered command is scans_steady disk_steady sink_steady =
    subst (λ k. IsUnfailed k result) (sym is)
    (put_unfailed (commands.Run path extent workers share) sink sink_after answered.reached answered.output result answered.put sink_steady (elim answered.crewed [
      | inl crewed ↦ unfailed (commands.Run path extent workers share) answered.reached (run_kind path extent workers share answered.reached crewed.kind) (λ source. scans_steady (crewed.source_fault source)) (λ failed. disk_steady (crewed.disk_fault failed))
      | inr unread ↦ subst (IsUnfailed (commands.Run path extent workers share)) (sym unread.reached_is) tt
    ]))
