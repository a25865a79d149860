-- The project, its list, its cube and its frames come to the job.
use Rattle.std.proofs.Common.{◌+◌, sym, ap, ◌∙◌, arith}
use Rattle.conform_job.specs.Answers.{count_after}
use Rattle.conform_job.specs.declared.parts.JobParts.{JobParts}
use Rattle.project_file.specs.declared.Project.{Project}
use Rattle.project_job.specs.Jobs.{cube_count}
use Rattle.project_job.proofs.Counted.{counted_job}
use Rattle.project_job.proofs.Projects.{no_project, no_parts, no_job, a_job, loaded_first, loaded_all, err_as, no_err, scan_of_job, job_of_scan}
use Rattle.scan_source.proofs.Leaving.{leaves_as, leaves_done, leaves_then}
use Rattle.project_job.proofs.Loading.{project_loaded, parts_loaded, job_loaded, unasked, job_asked, judged, stage_texts}
use Rattle.project_job.proofs.Reaching.{read_none, read_part, read_lines, read_job}
use Rattle.project_job.proofs.project.planned.Goals as goal

-- What is said over files that are told, and by the texts over any.
pub returns-in-Err-clause-told : goal.returns-in-Err-clause-told
returns-in-Err-clause-told g c = no_project (g.S.Scans.state c.args.scan.now).world c.args.path.now c.in-Err.outcome c.in-Err.ensures.read

pub returns-in-Err-clause-read : goal.returns-in-Err-clause-read
returns-in-Err-clause-read g c = read_none (g.S.Scans.state c.args.scan.now).world c.args.path.now c.in-Err.outcome c.in-Err.ensures.read

pub returns-in-Err-parts_of-clause-told : goal.returns-in-Err-parts_of-clause-told
returns-in-Err-parts_of-clause-told g c =
    no_parts (g.S.Scans.state c.args.scan.now).world c.args.path.now c.in-Ok.read c.in-Ok.ensures.read c.in-Err-parts_of.outcome
    (rw (c.in-Ok.ensures.scan.told, c.deref.ensures.value) at c.in-Err-parts_of.ensures.read)

pub returns-in-Err-parts_of-clause-read : goal.returns-in-Err-parts_of-clause-read
returns-in-Err-parts_of-clause-read g c =
    read_part (g.S.Scans.state c.args.scan.now).world c.args.path.now c.in-Ok.read c.in-Ok.ensures.read c.in-Err-parts_of.outcome
    (rw (c.in-Ok.ensures.scan.told, c.deref.ensures.value) at c.in-Err-parts_of.ensures.read) c.in-Err-parts_of.ensures.texts

pub returns-in-Ok-plan-clause-told : goal.returns-in-Ok-plan-clause-told
returns-in-Ok-plan-clause-told g c =
    a_job (g.S.Scans.state c.args.scan.now).world c.args.path.now c.in-Ok.read c.in-Ok.ensures.read c.in-Ok-parts_of.parts
    (rw (c.in-Ok.ensures.scan.told, c.deref.ensures.value) at c.in-Ok-parts_of.ensures.read) c.in-Ok-plan.job
    (rw (c.in-Ok-parts_of.ensures.scan.told, c.in-Ok.ensures.scan.told) at c.in-Ok-plan.ensures.told)
    c.in-Ok-plan.ensures.job.0

pub returns-in-Ok-plan-clause-read : goal.returns-in-Ok-plan-clause-read
returns-in-Ok-plan-clause-read g c =
    read_job (g.S.Scans.state c.args.scan.now).world c.args.path.now c.in-Ok.read c.in-Ok.ensures.read c.in-Ok-parts_of.parts
    (rw (c.in-Ok.ensures.scan.told, c.deref.ensures.value) at c.in-Ok-parts_of.ensures.read) c.in-Ok-plan.job c.in-Ok-plan.ensures.job.0 c.in-Ok-plan.ensures.lines

pub returns-clause-told : goal.returns-clause-told
returns-clause-told g c =
    rw c.refused_job.ensures (no_job (g.S.Scans.state c.args.scan.now).world c.args.path.now c.in-Ok.read c.in-Ok.ensures.read c.in-Ok-parts_of.parts
    (rw (c.in-Ok.ensures.scan.told, c.deref.ensures.value) at c.in-Ok-parts_of.ensures.read) c.in-Err-plan.fault
    (rw (c.in-Ok-parts_of.ensures.scan.told, c.in-Ok.ensures.scan.told) at c.in-Err-plan.ensures.told))

pub returns-clause-read : goal.returns-clause-read
returns-clause-read g c =
    read_lines (g.S.Scans.state c.args.scan.now).world c.args.path.now c.in-Ok.read c.in-Ok.ensures.read c.in-Ok-parts_of.parts
    (rw (c.in-Ok.ensures.scan.told, c.deref.ensures.value) at c.in-Ok-parts_of.ensures.read) c.in-Err-plan.fault c.refused_job.result c.refused_job.ensures c.in-Err-plan.ensures.lines

pub returns-in-Err-parts_of-clause-loads : goal.returns-in-Err-parts_of-clause-loads
returns-in-Err-parts_of-clause-loads g c = loaded_first (g.S.Scans.state c.args.scan.now).loads _ _ c.in-Ok.ensures.loads c.in-Err-parts_of.ensures.loads

pub returns-in-Ok-plan-clause-loads : goal.returns-in-Ok-plan-clause-loads
returns-in-Ok-plan-clause-loads g c =
    loaded_first (g.S.Scans.state c.args.scan.now).loads _ _ c.in-Ok.ensures.loads (rw (sym c.in-Ok-plan.ensures.loads) at c.in-Ok-parts_of.ensures.loads)

pub returns-clause-loads : goal.returns-clause-loads
returns-clause-loads g c =
    loaded_first (g.S.Scans.state c.args.scan.now).loads _ _ c.in-Ok.ensures.loads (rw (sym c.in-Err-plan.ensures.loads) at c.in-Ok-parts_of.ensures.loads)

pub returns-in-Ok-plan-clause-loaded : goal.returns-in-Ok-plan-clause-loaded
returns-in-Ok-plan-clause-loaded g c = loaded_all c.in-Ok-plan.job.parts.project.cube (g.S.Scans.state c.args.scan.now).loads _ _ c.in-Ok.ensures.loads
    (c.in-Ok-plan.ensures.loads ∙ c.in-Ok-parts_of.ensures.loaded ∙ ap (λ (parts : JobParts). count_after (1 + cube_count parts.project.cube) (g.S.Scans.state c.project_in.new.scan).loads) (sym c.in-Ok-plan.ensures.job.0))

pub returns-in-Ok-plan-clause-counted : goal.returns-in-Ok-plan-clause-counted
returns-in-Ok-plan-clause-counted g c =
    counted_job c.in-Ok-plan.job.parts c.in-Ok-parts_of.parts c.in-Ok.read.project c.in-Ok-plan.ensures.job.0 c.in-Ok-parts_of.ensures.project c.in-Ok-parts_of.ensures.planned c.in-Ok.ensures.counted

pub returns-in-Err-clause-refused : goal.returns-in-Err-clause-refused
returns-in-Err-clause-refused g c =
    project_loaded (g.S.Scans.state c.args.scan.now).world c.args.path.now c.in-Err.outcome _ _ c.in-Err.ensures.stage c.in-Err.ensures.read c.in-Err.ensures.loads

pub returns-in-Err-parts_of-clause-refused : goal.returns-in-Err-parts_of-clause-refused
returns-in-Err-parts_of-clause-refused g c =
    parts_loaded (g.S.Scans.state c.args.scan.now).world c.args.path.now c.in-Ok.read c.in-Ok.ensures.read c.in-Err-parts_of.outcome (g.S.Scans.state c.args.scan.now).loads _ _ c.in-Ok.ensures.loads c.in-Err-parts_of.ensures.refused

pub returns-clause-refused : goal.returns-clause-refused
returns-clause-refused g c =
    job_loaded (g.S.Scans.state c.args.scan.now).world c.args.path.now c.in-Ok.read c.in-Ok.ensures.read c.in-Err-plan.fault c.refused_job.result _ _ c.refused_job.ensures
    (loaded_all c.in-Ok.read.project.cube (g.S.Scans.state c.args.scan.now).loads _ _ c.in-Ok.ensures.loads
    (c.in-Err-plan.ensures.loads ∙ c.in-Ok-parts_of.ensures.loaded ∙ ap (λ (project : Project). count_after (1 + cube_count project.cube) (g.S.Scans.state c.project_in.new.scan).loads) c.in-Ok-parts_of.ensures.project))

pub returns-in-Err-clause-refused_heads : goal.returns-in-Err-clause-refused_heads
returns-in-Err-clause-refused_heads g c =
    unasked (g.S.Scans.state c.args.scan.now).world c.args.path.now c.in-Err.outcome _ _ (stage_texts _ c.in-Err.outcome c.in-Err.ensures.stage) c.in-Err.ensures.heads

pub returns-in-Err-parts_of-clause-refused_heads : goal.returns-in-Err-parts_of-clause-refused_heads
returns-in-Err-parts_of-clause-refused_heads g c =
    unasked (g.S.Scans.state c.args.scan.now).world c.args.path.now c.in-Err-parts_of.outcome _ _ c.in-Err-parts_of.ensures.texts (c.in-Err-parts_of.ensures.heads ∙ c.in-Ok.ensures.heads)

pub returns-clause-refused_heads : goal.returns-clause-refused_heads
returns-clause-refused_heads g c =
    job_asked (g.S.Scans.state c.args.scan.now).world c.args.path.now c.in-Err-plan.fault c.refused_job.result _ _ c.refused_job.ensures
    (judged (g.S.Scans.state c.args.scan.now).world (g.S.Scans.state c.parts_of.new.scan).world c.args.path.now c.in-Ok.read c.in-Ok-parts_of.parts c.in-Err-plan.fault
    (g.S.Scans.state c.args.scan.now).heads (g.S.Scans.state c.parts_of.new.scan).heads _ (c.in-Ok-parts_of.ensures.scan.told ∙ c.in-Ok.ensures.scan.told) (c.in-Ok-parts_of.ensures.heads ∙ c.in-Ok.ensures.heads)
    c.in-Ok.ensures.read (rw (c.in-Ok.ensures.scan.told, c.deref.ensures.value) at c.in-Ok-parts_of.ensures.read) c.in-Err-plan.ensures.asked)

-- A project that isn't had costs its own load.
pub returns-in-Err-clause-loads : goal.returns-in-Err-clause-loads
returns-in-Err-clause-loads g c = (1, omega arith, omega arith, c.in-Err.ensures.loads)

pub returns-in-Ok-plan-clause-heads : goal.returns-in-Ok-plan-clause-heads
returns-in-Ok-plan-clause-heads g c = rw (c.in-Ok-parts_of.ensures.heads, c.in-Ok.ensures.heads) at c.in-Ok-plan.ensures.heads

pub returns-in-Err-clause-scan : goal.returns-in-Err-clause-scan
returns-in-Err-clause-scan g c =
    leaves_as (err_as _ _) (err_as _ _) c.in-Err.ensures.scan

pub returns-in-Err-parts_of-clause-scan : goal.returns-in-Err-parts_of-clause-scan
returns-in-Err-parts_of-clause-scan g c =
    leaves_then (no_err _ _) c.in-Ok.ensures.scan (leaves_as (err_as _ _) (err_as _ _) c.in-Err-parts_of.ensures.scan)

pub returns-in-Ok-plan-clause-scan : goal.returns-in-Ok-plan-clause-scan
returns-in-Ok-plan-clause-scan g c =
    leaves_then (no_err _ _) c.in-Ok.ensures.scan (leaves_then (no_err _ _) c.in-Ok-parts_of.ensures.scan
    (leaves_done (no_err _ _) (no_err _ _) c.in-Ok-plan.ensures.scan))

pub returns-clause-scan : goal.returns-clause-scan
returns-clause-scan g c =
    leaves_then (no_err _ _) c.in-Ok.ensures.scan (leaves_then (no_err _ _) c.in-Ok-parts_of.ensures.scan
    (leaves_as (scan_of_job c.in-Err-plan.fault _ c.refused_job.ensures) (job_of_scan c.in-Err-plan.fault _ c.refused_job.ensures)
    c.in-Err-plan.ensures.scan))
