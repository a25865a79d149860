-- The key of a file that the job has is of a reel in the table.
use Rattle.frame_fetch.proofs.Asking.{needed_of_info}
use Rattle.project_run.proofs.report.changed.Goals as goal

pub name_of-requires : goal.name_of-requires
name_of-requires c =
    rw c.reels.ensures
    (c.recall.ensures.keys c.args.key (needed_of_info c.args.job.now.parts c.args.job.now.infos c.recall.ensures.job c.args.key c.args.was c.requires))
