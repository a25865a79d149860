use Rattle.std.proofs.Common.{◌≡◌, ◌≢◌, ℕ, rules, false, get_or, length, take, true, sym, ◌∙◌, ap, subst}
use Rattle.std.specs.Prelude.{Contains, ◌⊎◌, ◌↔◌}
use Rattle.reel_disk.specs.Call.{OnlyWrites}
use Rattle.reel_disk.specs.Disk.{view_of, moment_of}
use Rattle.reel_disk.specs.Runs.{Spares}
use Rattle.reel_writer.specs.Reel.{HasAcked, IsReelRun, IsRunFile}
use Rattle.run_alone.specs.Asks.{IsNext, closed_frames}
use Rattle.run_alone.specs.Ran.{WereFinished}
use Rattle.run_alone.specs.Run.{AreAllAcked}
use Rattle.run_alone.specs.inside.Run.{IsRangeFile}
use Rattle.run_alone.specs.declared.report.Report.{Report}
use Rattle.frame_fetch.specs.declared.run_end.RunEnd.{RunEnd}
use Rattle.frame_fetch.specs.declared.run_end.RunEnd.TheVariants as run_end
use Rattle.run_alone.proofs.Closing.{rose_by, images_acked, exit_of, all_done}
use Rattle.run_alone.proofs.alone.run_opened.Goals as goal

pub returns-clause-ran : goal.returns-clause-ran
returns-clause-ran g c =
    let low : ℕ = c.args.task.now.range.low in
    let high : ℕ = c.args.task.now.range.high in
    let gates = c.args.reel.ledger.gates in
    let new = c.run_shared-end.new.reel in
    let all = closed_frames gates low high in
    let of = c.report_of-report.ensures.reel in
    let rendered = ap (λ (r : Report). r.rendered) c.report_of-report.ensures.report in
    let over = c.run_shared-end.ensures.reel in
    let before = g.D.Disk.state c.args.reel.disk in
    record {
      is_end = over.is_end;
      finished = subst (λ (n : ℕ). WereFinished g.N.Work.job low high gates c.run_shared-end.result.0 n c.run_shared-end.result.1) (sym rendered) c.run_shared-end.ensures.finished;
      shared = record { legal = c.run_shared-end.ensures.legal; determined = c.run_shared-end.ensures.determined; misses = search rules; loads = search rules };
      exit = λ told k other.
          let listed = over.acks ∙ ap (λ (n : ℕ). take n all) (sym rendered) in
          subst (λ d. HasAcked g.N.Work.job k (view_of (g.D.Disk.state d).history) ↔ ((get_or gates k false ≡ true) ⊎ Contains (take c.report_of-report.result.rendered all) k)) (sym c.close.ensures)
          (exit_of g.N.Work.job g.D.Disk.tells g.D.Disk.state new of gates over.gates (take c.report_of-report.result.rendered all) listed k c.run_shared-end.result.0
          (λ steady. of.agrees (over.stays_open steady) told)
          (λ failed. over.failed told failed k (λ next. other failed (subst (λ n. IsNext gates low high n k) (sym rendered) next))));
      acked = λ done told.
          let steady : c.run_shared-end.result.0 ≢ run_end.DiskFault = λ same. let is = sym done ∙ same in cc in
          let finished = subst (λ (e : RunEnd). WereFinished g.N.Work.job low high gates e (length new.acks) c.run_shared-end.result.1) done c.run_shared-end.ensures.finished in
          subst (λ d. AreAllAcked g.N.Work.job low high (moment_of (g.D.Disk.state d).history)) (sym c.close.ensures) (record {
            each = λ i late lt.
                images_acked g.N.Work.job g.D.Disk.tells g.D.Disk.state new of (of.agrees (over.stays_open steady) told) i
                ((over.gates i).1 (all_done g.N.Work.job low high gates new.acks (length new.acks) c.run_shared-end.result.1 c.requires.task.ordered finished over.acks i late lt));
          });
      run = λ told. subst (λ d. IsReelRun g.N.Work.job g.N.Work.files before.history (g.D.Disk.state d).history) (sym c.close.ensures) (over.run told);
      spares = λ told. subst (λ d. Spares before.history (g.D.Disk.state d).history (IsRangeFile g.N.Work.job low high gates)) (sym c.close.ensures) (over.spares told);
      own = subst (λ d. OnlyWrites (IsRunFile g.N.Work.job low high) before.calls (g.D.Disk.state d).calls) (sym c.close.ensures) over.own;
    }

pub returns-clause-changed : goal.returns-clause-changed
returns-clause-changed g c change = rose_by _ _ _ (c.run_shared-end.ensures.changed change) c.run_shared-end.ensures.scan.scanned.asked
