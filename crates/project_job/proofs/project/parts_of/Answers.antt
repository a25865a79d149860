-- The steps to the parts of a job, one after another; the list and the cube are loaded.
use Rattle.std.proofs.Common.{◌∙◌, refl, arith}
use Rattle.project_job.proofs.Projects.{loaded_both, loaded_list, err_as, no_err, no_reels, no_list, no_timeline, no_look, all_parts}
use Rattle.scan_source.proofs.Leaving.{leaves_as, leaves_done, leaves_still, leaves_then}
use Rattle.project_job.proofs.Loading.{loaded_behind, look_behind, stage_texts}
use Rattle.project_job.proofs.project.parts_of.Goals as goal

pub returns-in-Err-clause-read : goal.returns-in-Err-clause-read
returns-in-Err-clause-read g c = no_reels (g.S.Scans.state c.args.scan.now).world c.args.text.now c.args.project c.in-Err.outcome c.in-Err.ensures.table

pub returns-in-Err-list_in-clause-read : goal.returns-in-Err-list_in-clause-read
returns-in-Err-list_in-clause-read g c =
    no_list (g.S.Scans.state c.args.scan.now).world c.args.text.now c.args.project c.in-Ok.reels c.in-Ok.ensures.table c.in-Err-list_in.outcome c.in-Err-list_in.ensures.read

pub returns-in-Err-timeline_of-clause-read : goal.returns-in-Err-timeline_of-clause-read
returns-in-Err-timeline_of-clause-read g c =
    no_timeline (g.S.Scans.state c.args.scan.now).world c.args.text.now c.args.project c.in-Ok.reels c.in-Ok.ensures.table c.in-Ok-list_in.read c.in-Ok-list_in.ensures.read c.in-Err-timeline_of.outcome c.in-Err-timeline_of.ensures.timeline

pub returns-in-Err-look_in-clause-read : goal.returns-in-Err-look_in-clause-read
returns-in-Err-look_in-clause-read g c =
    no_look (g.S.Scans.state c.args.scan.now).world c.args.text.now c.args.project c.in-Ok.reels c.in-Ok.ensures.table c.in-Ok-list_in.read c.in-Ok-list_in.ensures.read c.in-Ok-timeline_of.timeline c.in-Ok-timeline_of.ensures.timeline
    c.in-Err-look_in.outcome (rw c.in-Ok-list_in.ensures.scan.told at c.in-Err-look_in.ensures.read)

pub returns-in-Err-look_in-clause-loads : goal.returns-in-Err-look_in-clause-loads
returns-in-Err-look_in-clause-loads g c =
    loaded_both c.args.project.cube (g.S.Scans.state c.args.scan.now).loads _ _ c.in-Ok-list_in.ensures.loads c.in-Err-look_in.ensures.loads

pub returns-clause-read : goal.returns-clause-read
returns-clause-read g c =
    all_parts (g.S.Scans.state c.args.scan.now).world c.args.text.now c.args.project c.in-Ok.reels c.in-Ok.ensures.table c.in-Ok-list_in.read c.in-Ok-list_in.ensures.read c.in-Ok-timeline_of.timeline c.in-Ok-timeline_of.ensures.timeline
    c.in-Ok-look_in.read c.job_digest.result (rw (c.as_deref.ensures.value, c.deref.ensures.value) at c.job_digest.ensures) (rw c.in-Ok-list_in.ensures.scan.told at c.in-Ok-look_in.ensures.read)

pub returns-clause-loads : goal.returns-clause-loads
returns-clause-loads g c =
    loaded_both c.args.project.cube (g.S.Scans.state c.args.scan.now).loads _ _ c.in-Ok-list_in.ensures.loads c.in-Ok-look_in.ensures.loads

pub returns-in-Err-clause-refused : goal.returns-in-Err-clause-refused
returns-in-Err-clause-refused g c =
    loaded_behind c.args.project.cube c.in-Err.outcome 0 (g.S.Scans.state c.args.scan.now).loads _ c.in-Err.ensures.stage refl

pub returns-in-Err-list_in-clause-refused : goal.returns-in-Err-list_in-clause-refused
returns-in-Err-list_in-clause-refused g c =
    loaded_behind c.args.project.cube c.in-Err-list_in.outcome 1 (g.S.Scans.state c.args.scan.now).loads _ c.in-Err-list_in.ensures.stage c.in-Err-list_in.ensures.loads

pub returns-in-Err-timeline_of-clause-refused : goal.returns-in-Err-timeline_of-clause-refused
returns-in-Err-timeline_of-clause-refused g c =
    loaded_behind c.args.project.cube c.in-Err-timeline_of.outcome 1 (g.S.Scans.state c.args.scan.now).loads _ c.in-Err-timeline_of.ensures.stage c.in-Ok-list_in.ensures.loads

pub returns-in-Err-look_in-clause-refused : goal.returns-in-Err-look_in-clause-refused
returns-in-Err-look_in-clause-refused g c =
    look_behind c.args.project.cube c.in-Err-look_in.outcome (g.S.Scans.state c.args.scan.now).loads _ _ c.in-Err-look_in.ensures.stage c.in-Err-look_in.ensures.named c.in-Ok-list_in.ensures.loads c.in-Err-look_in.ensures.loads

pub returns-in-Err-clause-texts : goal.returns-in-Err-clause-texts
returns-in-Err-clause-texts g c = stage_texts _ c.in-Err.outcome c.in-Err.ensures.stage

pub returns-in-Err-list_in-clause-texts : goal.returns-in-Err-list_in-clause-texts
returns-in-Err-list_in-clause-texts g c = stage_texts _ c.in-Err-list_in.outcome c.in-Err-list_in.ensures.stage

pub returns-in-Err-timeline_of-clause-texts : goal.returns-in-Err-timeline_of-clause-texts
returns-in-Err-timeline_of-clause-texts g c = stage_texts _ c.in-Err-timeline_of.outcome c.in-Err-timeline_of.ensures.stage

pub returns-in-Err-look_in-clause-texts : goal.returns-in-Err-look_in-clause-texts
returns-in-Err-look_in-clause-texts g c = stage_texts _ c.in-Err-look_in.outcome c.in-Err-look_in.ensures.stage

-- How many files were loaded: none, the list, and the list and the cube.
pub returns-in-Err-clause-loads : goal.returns-in-Err-clause-loads
returns-in-Err-clause-loads g c = (0, omega arith, omega arith, refl)

pub returns-in-Err-list_in-clause-loads : goal.returns-in-Err-list_in-clause-loads
returns-in-Err-list_in-clause-loads g c = (1, omega arith, omega arith, c.in-Err-list_in.ensures.loads)

pub returns-in-Err-timeline_of-clause-loads : goal.returns-in-Err-timeline_of-clause-loads
returns-in-Err-timeline_of-clause-loads g c = (1, omega arith, omega arith, c.in-Ok-list_in.ensures.loads)

pub returns-clause-loaded : goal.returns-clause-loaded
returns-clause-loaded g c = loaded_list c.args.project.cube (g.S.Scans.state c.args.scan.now).loads _ _ c.in-Ok-list_in.ensures.loads c.in-Ok-look_in.ensures.loads

-- The rest holds from call to call.
pub returns-clause-planned : goal.returns-clause-planned
returns-clause-planned g c = record {
  reels = c.in-Ok.ensures.entries;
  rate = c.in-Ok-timeline_of.ensures.rate;
  some_width = c.requires.width.0;
  most_width = c.requires.width.1;
  some_height = c.requires.height.0;
  most_height = c.requires.height.1;
  some_bands = c.requires.bands.0;
  most_bands = c.requires.bands.1;
  cuts = c.requires.cuts;
}

pub returns-in-Err-look_in-clause-heads : goal.returns-in-Err-look_in-clause-heads
returns-in-Err-look_in-clause-heads g c = c.in-Err-look_in.ensures.heads ∙ c.in-Ok-list_in.ensures.heads

pub returns-clause-heads : goal.returns-clause-heads
returns-clause-heads g c = c.in-Ok-look_in.ensures.heads ∙ c.in-Ok-list_in.ensures.heads

pub returns-in-Err-clause-scan : goal.returns-in-Err-clause-scan
returns-in-Err-clause-scan g c =
    leaves_still (λ e. c.in-Err.ensures.not_the_scan (err_as _ _ e))

pub returns-in-Err-list_in-clause-scan : goal.returns-in-Err-list_in-clause-scan
returns-in-Err-list_in-clause-scan g c =
    leaves_as (err_as _ _) (err_as _ _) c.in-Err-list_in.ensures.scan

pub returns-in-Err-timeline_of-clause-scan : goal.returns-in-Err-timeline_of-clause-scan
returns-in-Err-timeline_of-clause-scan g c =
    leaves_done (no_err _ _) (λ e. c.in-Err-timeline_of.ensures.not_the_scan (err_as _ _ e)) c.in-Ok-list_in.ensures.scan

pub returns-in-Err-look_in-clause-scan : goal.returns-in-Err-look_in-clause-scan
returns-in-Err-look_in-clause-scan g c =
    leaves_then (no_err _ _) c.in-Ok-list_in.ensures.scan (leaves_as (err_as _ _) (err_as _ _) c.in-Err-look_in.ensures.scan)

pub returns-clause-scan : goal.returns-clause-scan
returns-clause-scan g c =
    leaves_then (no_err _ _) c.in-Ok-list_in.ensures.scan (leaves_done (no_err _ _) (no_err _ _) c.in-Ok-look_in.ensures.scan)
