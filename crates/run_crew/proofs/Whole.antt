-- A crew's run over the whole reel is the range from 0 up to the number of its frames: what is said of a range says then what is
-- said of the reel.
use Rattle.std.proofs.Common.{◌≡◌, ℕ, ◌+◌, ◌<◌, Bool, true, List, arith}
use Rattle.std.specs.Prelude.{Option}
use Rattle.scan_source.specs.World.{World}
use Rattle.conform_job.specs.Job.{JobData}
use Rattle.frame_share.specs.declared.step.ShareStep.{ShareStep}
use Rattle.reel_disk.specs.Disk.{History}
use Rattle.render_board.specs.Board.{is_done}
use Rattle.render_board.specs.declared.step.Step.{Step}
use Rattle.reel_writer.specs.Reel.{frames_of}
use Rattle.run_alone.specs.declared.report.Report.{Report}
use Rattle.frame_fetch.specs.declared.run_end.RunEnd.{RunEnd}
use Rattle.frame_fetch.specs.declared.run_end.RunEnd.TheVariants.{Done}
use Rattle.run_alone.proofs.Closing.{kept_in_all}
use Rattle.run_crew.specs.Crews.{TookSteps, log_of}

module _ (job : JobData) (told : Option World) (workers share : ℕ) (tells : Bool) (old new : History) (steps : List Step) (end : RunEnd) (report : Report) (log : List ShareStep)
    (took : TookSteps job 0 (frames_of job) told workers share tells old new steps end report log) (done : end ≡ Done) where
  pub rest_of_crew : report.kept + report.rendered ≡ frames_of job
  rest_of_crew =
      let rest = took.rest done in
      let kept = took.kept in
      let all = kept_in_all took.gates (frames_of job) took.size in
      omega (arith, rest, kept, all)

  pub all_of_crew : (i : ℕ) → i < frames_of job → is_done (log_of took.gates 0 (frames_of job) workers steps) i ≡ true
  all_of_crew i within = took.all done i (omega arith) within
