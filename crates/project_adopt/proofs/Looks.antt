-- Jobs of projects over one world have one look where they have one cube.
use Rattle.std.proofs.Common.{◌≡◌, List, ℕ, sym, ap, subst, ◌∙◌}
use Rattle.std.specs.Prelude.{Option, Some, None, IfSome, Result, Ok}
use Rattle.cf_base.proofs.StepLaws.{bind_ok}
use Rattle.scan_source.specs.World.{World, file_at}
use Rattle.conform_job.specs.Job.{JobData}
use Rattle.conform_job.specs.Refusals.{Files, first_refusal}
use Rattle.conform_job.specs.declared.parts.JobFault.{JobFault}
use Rattle.conform_job.specs.declared.parts.JobParts.{JobParts}
use Rattle.project_file.specs.declared.Project.{Project}
use Rattle.project_file.specs.declared.fault.ProjectFault.{ProjectFault}
use Rattle.record_timeline.specs.Accepted.{timeline_of}
use Rattle.source_reels.specs.Reels.{table_of}
use Rattle.tetra_look.specs.Look.{Lattice}
use Rattle.outcome.specs.declared.Refused.{Refused}
use Rattle.outcome.specs.declared.Refused.TheVariants as refused
use Rattle.project_job.specs.Jobs.{FileComesTo, job_of, list_in, look_in, parts_of, unless_job, unless_refused}
use Rattle.reconform.specs.Adopt.{HaveOneLook}
use Rattle.project_adopt.specs.inside.Adopt.{IsJobOver}

ok_same : {A E : Type 0} {a b : A} → ◌≡◌ {A = Result A E} (Ok a) (Ok b) → a ≡ b
ok_same e = cc

-- the look of a cube, if the project names one
abbrev HasLook : Files → JobParts → Type 0
HasLook files parts = (text : Option (List ℕ)) × (look_in files parts.project.cube ≡ Ok (text, parts.look))

parts_look : (files : Files) (text : List ℕ) (project : Project) (parts : JobParts) → parts_of files text project ≡ Ok parts → HasLook files parts
parts_look files text project parts is =
    let reels = bind_ok (unless_refused refused.Reels (table_of project.reels)) _ parts is in
    let edl = bind_ok (list_in project.rate (files project.edl)) _ parts reels.2 in
    let timeline = bind_ok (unless_refused refused.Timeline (timeline_of project.rate edl.0.1)) _ parts edl.2 in
    let cube = bind_ok (look_in files project.cube) _ parts timeline.2 in
    subst (HasLook files) (ok_same cube.2) (cube.0.0, cube.1)

job_parts : (parts job : JobParts) (fault : Option JobFault) → unless_job parts fault ≡ Ok job → parts ≡ job
job_parts parts job None is = ok_same is
job_parts parts job (Some fault) is = absurd (cc)

job_look : (files : Files) (text : List ℕ) (read : Result Project ProjectFault) (job : JobParts) → job_of files text read ≡ Ok job → HasLook files job
job_look files text read job is =
    let project = bind_ok (unless_refused refused.Project read) _ job is in
    let parts = bind_ok (parts_of files text project.0) _ job project.2 in
    subst (HasLook files) (job_parts parts.0 job (first_refusal parts.0 files) parts.2) (parts_look files text project.0 parts.0 parts.1)

file_look : (files : Files) (file : Option (List ℕ)) (job : JobParts) → FileComesTo files file (Ok job) → HasLook files job
file_look files None job is = absurd (cc)
file_look files (Some text) job come = job_look files text come.0 job (sym come.2)

same_look : (files : Files) (new old : JobData) → HasLook files new.parts → HasLook files old.parts → HaveOneLook new old
same_look files new old look old_look cube =
    let both : ◌≡◌ {A = Result (Option (List ℕ) × Option Lattice) Refused} (Ok (look.0, new.parts.look)) (Ok (old_look.0, old.parts.look)) = sym look.1 ∙ ap (look_in files) cube ∙ old_look.1 in
    ap (λ (p : Option (List ℕ) × Option Lattice). p.1) (ok_same both)

pub one_look : (told : Option World) (new old : JobData) → IsJobOver told new → IsJobOver told old → IfSome told (λ world. HaveOneLook new old)
one_look None new old over old_over = tt
one_look (Some world) new old over old_over =
    same_look (file_at world) new old (file_look (file_at world) (file_at world over.0) new.parts over.1) (file_look (file_at world) (file_at world old_over.0) old.parts old_over.1)
