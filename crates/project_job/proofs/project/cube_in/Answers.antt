-- The front of the cube's file stands for the file.
use Rattle.std.proofs.Common.{◌≡◌, Ok, Err, refl, subst}
use Rattle.project_job.specs.Jobs.{look_of_text}
use Rattle.project_job.specs.inside.Jobs.{itself, Reaches}
use Rattle.project_job.proofs.Projects.{err_as, no_err, cube_had, cube_refused, cube_missing}
use Rattle.scan_source.proofs.Leaving.{leaves_as, leaves_done}
use Rattle.project_job.proofs.Loading.{load_stage}
use Rattle.outcome.specs.declared.Which.TheVariants as which
use Rattle.project_job.proofs.project.cube_in.Goals as goal

pub returns-in-Ok-look_of-clause-read : goal.returns-in-Ok-look_of-clause-read
returns-in-Ok-look_of-clause-read g c =
    cube_had (g.S.Scans.state c.args.scan.now).world c.args.path.now c.in-Ok.front c.in-Ok-look_of.look c.in-Ok.ensures.read
    (subst (λ text. look_of_text text ≡ Ok c.in-Ok-look_of.look) c.deref.ensures.value c.in-Ok-look_of.ensures.look)

pub returns-in-Err-look_of-clause-read : goal.returns-in-Err-look_of-clause-read
returns-in-Err-look_of-clause-read g c =
    cube_refused (g.S.Scans.state c.args.scan.now).world c.args.path.now c.in-Ok.front c.in-Err-look_of.outcome c.in-Ok.ensures.read
    (subst (λ text. Reaches itself (Err c.in-Err-look_of.outcome) (look_of_text text)) c.deref.ensures.value c.in-Err-look_of.ensures.look)

pub returns-in-Err-clause-read : goal.returns-in-Err-clause-read
returns-in-Err-clause-read g c = cube_missing (g.S.Scans.state c.args.scan.now).world c.args.path.now c.in-Err.outcome c.in-Err.ensures.read

pub returns-in-Err-clause-stage : goal.returns-in-Err-clause-stage
returns-in-Err-clause-stage g c = load_stage which.Cube 3 c.in-Err.outcome (λ cube. refl) c.in-Err.ensures.kind

pub returns-in-Err-clause-scan : goal.returns-in-Err-clause-scan
returns-in-Err-clause-scan g c =
    leaves_as (err_as _ _) (err_as _ _) c.in-Err.ensures.scan

pub returns-in-Ok-look_of-clause-scan : goal.returns-in-Ok-look_of-clause-scan
returns-in-Ok-look_of-clause-scan g c =
    leaves_done (no_err _ _) (no_err _ _) c.in-Ok.ensures.scan

pub returns-in-Err-look_of-clause-scan : goal.returns-in-Err-look_of-clause-scan
returns-in-Err-look_of-clause-scan g c =
    leaves_done (no_err _ _) (λ e. c.in-Err-look_of.ensures.not_the_scan (err_as _ _ e)) c.in-Ok.ensures.scan
