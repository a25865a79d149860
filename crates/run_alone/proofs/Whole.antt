-- A run over the whole reel is the range from 0 up to the number of its frames: what is said of a range says then what is said
-- of the reel.
use Rattle.std.proofs.Common.{◌≡◌, ℕ, ◌+◌, ◌-◌, ◌<◌, Bool, false, not, List, get_or, ap, arith}
use Rattle.std.specs.Prelude.{filter, Option, Some}
use Rattle.std.specs.List.{range_with_len}
use Rattle.scan_source.specs.World.{World, file_at}
use Rattle.conform_job.specs.Job.{JobData, file_of}
use Rattle.frame_render.specs.Frame.{frame_file}
use Rattle.frame_share.specs.declared.step.ShareStep.{ShareStep}
use Rattle.reel_disk.specs.Disk.{Moment, History}
use Rattle.reel_disk.specs.Runs.{Surely}
use Rattle.reel_writer.specs.Reel.{frames_of, HasAcked}
use Rattle.run_alone.specs.Asks.{closed_frames}
use Rattle.run_alone.specs.Run.{AreAllAcked, IsWhole, WasOpened}
use Rattle.run_alone.specs.declared.report.Report.{Report}
use Rattle.frame_fetch.specs.declared.run_end.RunEnd.{RunEnd}
use Rattle.frame_fetch.specs.declared.run_end.RunEnd.TheVariants.{Done}
use Rattle.run_alone.proofs.Closing.{kept_in_all}

pub closed_of_reel : (gates : List Bool) (count : ℕ) → closed_frames gates 0 count ≡ filter (λ i. not (get_or gates i false)) (range_with_len 0 count)
unfolding closed_frames
closed_of_reel gates count =
    let all : count - 0 ≡ count = omega arith in
    ap (λ n. filter (λ i. not (get_or gates i false)) (range_with_len 0 n)) all

pub rest_of_reel : (job : JobData) (told : Option World) (capacity : ℕ) (tells : Bool) (old new : History) (end : RunEnd) (report : Report) (log : List ShareStep)
    → WasOpened job 0 (frames_of job) told capacity tells old new end report log → end ≡ Done → report.kept + report.rendered ≡ frames_of job
rest_of_reel job told capacity tells old new end report log was done =
    let rest = was.rest done in
    let kept = was.kept in
    let all = kept_in_all was.gates (frames_of job) was.size in
    omega (arith, rest, kept, all)

pub acked_of_reel : (job : JobData) (moment : Moment) → AreAllAcked job 0 (frames_of job) moment → (i : ℕ) → i < frames_of job → Surely moment (HasAcked job i)
acked_of_reel job moment all i within = all.each i (omega arith) within

pub whole_of_reel : (job : JobData) (world : World) (moment : Moment) → IsWhole job 0 (frames_of job) world moment → (i : ℕ) → i < frames_of job → moment.view (file_of job i) ≡ Some (frame_file job (file_at world) i)
whole_of_reel job world moment whole i within = whole i (omega arith) within
