-- What a load leaves of the scan: a file that was got, and one that is absent, are no failure.
use Rattle.std.proofs.Common.{◌≢◌, ℕ, Result, Err, refl}
use Rattle.scan_source.proofs.Leaving.{leaves_as, leaves_by, leaves_done}
use Rattle.scan_source.specs.declared.scans.Loaded.TheVariants as loaded
use Rattle.outcome.specs.declared.Outcome.{Outcome}
use Rattle.outcome.specs.declared.Outcome.TheVariants as outcomes
use Rattle.outcome.specs.declared.Refused.TheVariants as refused
use Rattle.outcome.specs.declared.Which.{Which}
use Rattle.project_job.proofs.Projects.{no_err}
use Rattle.project_job.proofs.Reading.{any_file, got_file, no_file}
use Rattle.project_job.specs.declared.loads.Front.{Front}
use Rattle.project_job.proofs.loads.load.Goals as goal

got_unfailed : (len : ℕ) → loaded.Got len ≢ loaded.Failed
got_unfailed len is = cc

absent_unfailed : loaded.Absent ≢ loaded.Failed
absent_unfailed is = cc

absent_no_fault : (absent : Which) → ◌≢◌ {A = Result Front Outcome} (Err (outcomes.Refused (refused.NoFile absent))) (Err outcomes.SourceFault)
absent_no_fault absent is = cc

pub returns-in-Got-clause-scan : goal.returns-in-Got-clause-scan
returns-in-Got-clause-scan g c = leaves_done (got_unfailed _) (no_err _ _)
    (leaves_by c.in-Got.ensures.fault c.in-Got.ensures.plan c.in-Got.ensures.world c.in-Got.ensures.same)

pub returns-in-Absent-clause-scan : goal.returns-in-Absent-clause-scan
returns-in-Absent-clause-scan g c = leaves_done absent_unfailed (absent_no_fault c.args.absent)
    (leaves_by c.in-Absent.ensures.fault c.in-Absent.ensures.plan c.in-Absent.ensures.world c.in-Absent.ensures.same)

pub returns-in-Failed-clause-scan : goal.returns-in-Failed-clause-scan
returns-in-Failed-clause-scan g c = leaves_as (λ _. refl) (λ _. refl)
    (leaves_by c.in-Failed.ensures.fault c.in-Failed.ensures.plan c.in-Failed.ensures.world c.in-Failed.ensures.same)

pub returns-in-NoMemory-clause-scan : goal.returns-in-NoMemory-clause-scan
returns-in-NoMemory-clause-scan g c = leaves_done (λ is. cc) (λ is. cc)
    (leaves_by c.in-NoMemory.ensures.fault c.in-NoMemory.ensures.plan c.in-NoMemory.ensures.world c.in-NoMemory.ensures.same)

-- What was read is a file, also where the scan tells none.
pub returns-in-Got-clause-read : goal.returns-in-Got-clause-read
returns-in-Got-clause-read g c = got_file (g.S.Scans.state c.args.scan.now).world c.args.path.now c.args.most _ _ c.in-Got.ensures.told c.in-Got.ensures.fills

pub returns-in-Absent-clause-read : goal.returns-in-Absent-clause-read
returns-in-Absent-clause-read g c = no_file (g.S.Scans.state c.args.scan.now).world c.args.path.now c.args.absent c.in-Absent.ensures.told

pub returns-in-Failed-clause-read : goal.returns-in-Failed-clause-read
returns-in-Failed-clause-read g c = any_file (g.S.Scans.state c.args.scan.now).world c.args.path.now _ (λ file. tt)

pub returns-in-NoMemory-clause-read : goal.returns-in-NoMemory-clause-read
returns-in-NoMemory-clause-read g c = any_file (g.S.Scans.state c.args.scan.now).world c.args.path.now _ (λ file. tt)
