use Rattle.std.proofs.Common.{◌≡◌, ℕ, false, get_or, refl, ◌∙◌, ap, arith}
use Rattle.conform_job.specs.Job.{file_of, need_at}
use Rattle.frame_render.specs.Frame.{FrameBytes}
use Rattle.reel_disk.proofs.Leaving.{disk_as, disk_done}
use Rattle.reel_disk.proofs.Writing.{writing_wider}
use Rattle.reel_disk.proofs.Sparing.{spares_wider}
use Rattle.reel_writer.specs.Reel.{IsWrittenFile}
use Rattle.reel_writer.specs.View.{ReelView}
use Rattle.run_alone.proofs.Ranging.{frame_written}
use Rattle.frame_fetch.specs.Asks.{keys_of_need}
use Rattle.frame_fetch.proofs.Logs.{asked_is_tried}
use Rattle.run_alone.proofs.Closing.{others_acked}
use Rattle.run_alone.proofs.Running.{unmade, unrendered_stop}
use Rattle.run_alone.proofs.Stepping.{past_finished}
use Rattle.run_alone.proofs.frames.run_frame.Goals as goal

-- it could not be made
pub returns-in-Err-clause-reel : goal.returns-in-Err-clause-reel
returns-in-Err-clause-reel g c = unmade c.args.i g.N.Work.job g.N.Work.files g.D.Disk.tells g.D.Disk.state c.in-Err.end c.args.reel.now c.in-Err.ensures.stop c.requires.fresh c.requires.is_open

pub returns-in-Err-clause-stop : goal.returns-in-Err-clause-stop
returns-in-Err-clause-stop g c = unrendered_stop g.N.Work.job g.N.Work.files c.in-Err.end c.in-Err.ensures.stop

-- it is finished: the gate was closed, and is open now
pub finish-requires-clause-fresh : goal.finish-requires-clause-fresh
finish-requires-clause-fresh g c =
    let same : c.of-hashed.result.index ≡ c.args.i = ap (λ (f : FrameBytes). f.index) c.of-hashed.ensures ∙ c.in-Ok.ensures.index in
    ap (λ (n : ℕ). get_or c.args.reel.now.ledger.gates n false) same ∙ c.requires.fresh

pub returns-in-Ok-finish-clause-reel : goal.returns-in-Ok-finish-clause-reel
returns-in-Ok-finish-clause-reel g c =
    let old = c.args.reel.now in
    let same : c.of-hashed.result.index ≡ c.args.i = ap (λ (f : FrameBytes). f.index) c.of-hashed.ensures ∙ c.in-Ok.ensures.index in
    let within = c.requires.index in
    let size = c.requires.reel.size in
    let past = past_finished old c.args.i c.of-hashed.result.index c.finish.new.self.disk c.finish.new.self c.in-Ok-finish.ensures.finished same c.requires.fresh (omega (arith, within, size)) c.requires.is_open in
    record {
      fresh = c.requires.fresh;
      past = past;
      unfinished = tt;
      stays_open = λ _. past.is_open;
      failed = λ _ failed. cc;
      run = λ told. (c.finish.ensures.safe told).run;
      none_lost = λ told. (c.finish.ensures.safe told).none_lost;
      spares = λ told.
          spares_wider _ _ (IsWrittenFile (file_of g.N.Work.job c.of-hashed.result.index)) (IsWrittenFile (file_of g.N.Work.job c.args.i))
          (frame_written g.N.Work.job c.args.i c.of-hashed.result.index same) (c.finish.ensures.safe told).spares;
      own = writing_wider (frame_written g.N.Work.job c.args.i c.of-hashed.result.index same) c.finish.ensures.own;
      disk = disk_done (λ is. cc) (λ is. cc) c.in-Ok-finish.ensures.disk;
    }

pub returns-in-Ok-finish-clause-asked : goal.returns-in-Ok-finish-clause-asked
returns-in-Ok-finish-clause-asked g c = c.in-Ok.ensures.asked

-- its finish failed: all other frames are acknowledged as their gates say
pub returns-in-Err-finish-clause-reel : goal.returns-in-Err-finish-clause-reel
returns-in-Err-finish-clause-reel g c =
    let old = c.args.reel.now in
    let of = c.requires.reel in
    let same : c.of-hashed.result.index ≡ c.args.i = ap (λ (f : FrameBytes). f.index) c.of-hashed.ensures ∙ c.in-Ok.ensures.index in
    let closed = c.in-Err-finish.ensures.closed in
    record {
      fresh = c.requires.fresh;
      past = tt;
      unfinished = record {
        gates = ap (λ (r : ReelView _). r.ledger.gates) closed;
        acks = ap (λ (r : ReelView _). r.acks) closed;
        kept = ap (λ (r : ReelView _). r.kept) closed;
      };
      stays_open = λ other. absurd (other refl);
      failed = λ told _ k other.
          others_acked g.N.Work.job g.D.Disk.tells g.D.Disk.state old of (of.agrees c.requires.is_open told) c.of-hashed.result.index (g.D.Disk.state c.finish.new.self.disk).history (c.finish.ensures.safe told).run.extends.later (c.finish.ensures.safe told).others k
          (λ is. other (is ∙ same));
      run = λ told. (c.finish.ensures.safe told).run;
      none_lost = λ told. (c.finish.ensures.safe told).none_lost;
      spares = λ told.
          spares_wider _ _ (IsWrittenFile (file_of g.N.Work.job c.of-hashed.result.index)) (IsWrittenFile (file_of g.N.Work.job c.args.i))
          (frame_written g.N.Work.job c.args.i c.of-hashed.result.index same) (c.finish.ensures.safe told).spares;
      own = writing_wider (frame_written g.N.Work.job c.args.i c.of-hashed.result.index same) c.finish.ensures.own;
      disk = disk_as (λ _. refl) (λ _. refl) c.in-Err-finish.ensures.disk;
    }

pub returns-in-Err-finish-clause-tried : goal.returns-in-Err-finish-clause-tried
returns-in-Err-finish-clause-tried g c = asked_is_tried c.args.share.now c.make.new.share (keys_of_need (need_at g.N.Work.job c.args.i)) c.in-Ok.ensures.asked

-- nothing is said of this where the disk failed
pub returns-in-Err-finish-clause-asked : goal.returns-in-Err-finish-clause-asked
returns-in-Err-finish-clause-asked g c = tt
