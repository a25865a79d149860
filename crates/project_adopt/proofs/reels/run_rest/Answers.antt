-- The rest is run as the command `run` does.
use Rattle.std.proofs.Common.{ℕ, List, refl, subst}
use Rattle.outcome.specs.declared.Outcome.{Outcome}
use Rattle.reel_disk.specs.State.{folder_state}
use Rattle.frame_range.specs.Parts.{range_of}
use Rattle.frame_range.specs.declared.range.Extent.TheVariants.{Whole}
use Rattle.project_run.specs.Run.{run_text}
use Rattle.run_alone.specs.Safe.{IsSafeRun}
use Rattle.run_alone.specs.Run.{WasRun}
use Rattle.project_run.proofs.Runs.{is_known, match_each}
use Rattle.project_adopt.specs.Adopt.{IsRest, share_count}
use Rattle.project_adopt.specs.inside.Adopt.{ReportsAdoption}
use Rattle.project_adopt.proofs.reels.run_rest.Goals as goal

pub reply_of-requires : goal.reply_of-requires
reply_of-requires g c = is_known _ _ _ _ _ _ _ c.run_alone-end.ensures.ran

pub returns-clause-ran : goal.returns-clause-ran
returns-clause-ran g c =
    let run = c.run_alone-end.ensures in
    let end = c.run_alone-end.result.0 in
    let report = c.run_alone-end.result.1 in
    let at = λ (d : _). folder_state g.D.Disk.tells (g.D.Disk.state d) in
    let by : (reached : Outcome) (output : List ℕ) → ReportsAdoption c.args.job.now c.args.done end report reached output
    → IsRest c.args.job.now c.args.done (g.S.Scans.state c.args.scan.now).world (g.S.Scans.state c.args.scan.now).loads (g.S.Scans.state c.run_alone-end.new.scan).loads (at c.args.disk.now) (at c.run_alone-end.new.disk) reached output =
    λ reached output reply. record {
      run_output = run_text report;
      run = record {
        how = end;
        report = report;
        reply = record { reached_is = reply.reached_is; form = λ done. refl };
        frames = run.frames;
        log = c.run_alone-end.result.2;
        ran = subst (λ (n : ℕ). WasRun c.args.job.now 0 n (g.S.Scans.state c.args.scan.now).world share_count g.D.Disk.tells (g.D.Disk.state c.args.disk.now).history (g.D.Disk.state c.run_alone-end.new.disk).history end report c.run_alone-end.result.2) c.count.ensures.count run.ran;
        keeps = subst (λ (n : ℕ). IsSafeRun c.args.job.now (range_of Whole n) (g.S.Scans.state c.args.scan.now).world end (at c.args.disk.now) (at c.run_alone-end.new.disk)) c.count.ensures.count run.keeps;
        loaded = run.scan.scanned.asked;
        changed = run.changed;
      };
      form = reply.form;
    } in
    match_each _ _ _ _ _ c.reply_of.ensures.reply (λ text reply. by _ _ reply) (λ outcome reply. by _ _ reply)
