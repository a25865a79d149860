-- From the steps of a project to what its texts come to, whether the scan tells its files or not.
use Rattle.std.proofs.Common.{◌≡◌, ℕ, List, Option, Some, None, Result, Ok, Err, IsSomeAnd, IfSome, refl, sym, ap, subst}
use Rattle.scan_source.specs.World.{World, file_at}
use Rattle.conform_job.specs.Job.{IsByLines, JobData}
use Rattle.conform_job.specs.Refusals.{told_refusal}
use Rattle.conform_job.specs.declared.parts.JobFault.{JobFault}
use Rattle.conform_job.specs.declared.parts.JobFault.TheVariants as faults
use Rattle.conform_job.specs.declared.parts.JobParts.{JobParts}
use Rattle.project_file.specs.Projects.{Means}
use Rattle.project_file.specs.declared.fault.ProjectFault.{ProjectFault}
use Rattle.outcome.specs.declared.Outcome.{Outcome}
use Rattle.outcome.specs.declared.Outcome.TheVariants as outcomes
use Rattle.outcome.specs.declared.Refused.{Refused}
use Rattle.outcome.specs.declared.Refused.TheVariants as refused
use Rattle.project_job.specs.inside.Asked.{IsOfTexts}
use Rattle.project_job.specs.inside.Jobs.{itself, outcome_of_fault, MeansFile, Reaches}
use Rattle.project_job.specs.Jobs.{FileComesBy, FilesRead, parts_from, unchanged}
use Rattle.project_job.specs.Texts.{ByFiles, IsByTexts, IsTextRefusal, job_of_texts, TextsComeTo}
use Rattle.project_job.specs.declared.project.ProjectText.{ProjectText}
use Rattle.project_job.proofs.Reading.{joined, joined_told}

-- a refusal that is none of a source frame is that of the texts
refused_by : (files : FilesRead) (path : List ℕ) (refusal : Refused) → ((fault : JobFault) → refusal ≡ refused.Job fault → ⊥) → TextsComeTo files path (Err refusal) → IsTextRefusal files path refusal
refused_by files path (refused.NoFile absent) none comes = comes
refused_by files path (refused.Project fault) none comes = comes
refused_by files path (refused.Reels fault) none comes = comes
refused_by files path (refused.List fault) none comes = comes
refused_by files path (refused.Timeline fault) none comes = comes
refused_by files path (refused.Cube fault) none comes = comes
refused_by files path (refused.Job fault) none comes = absurd (none fault refl)
refused_by files path (refused.Frame fault) none comes = comes

faulty : (files : FilesRead) (file : Option (List ℕ)) (fault : ProjectFault) → IsSomeAnd file (λ text. Means text (Err fault)) → FileComesBy (job_of_texts files) file (Err (refused.Project fault))
faulty files None fault is = absurd is
faulty files (Some text) fault is = (Err fault, is, refl)

-- no project
without : (files : FilesRead) (path : List ℕ) (outcome : Outcome) → MeansFile (files.project path) (Err outcome) → IsByTexts files path (Err outcome)
without files path (outcomes.Refused (refused.NoFile absent)) is = rw (is.1, is.0) refl
without files path (outcomes.Refused (refused.Project fault)) is = faulty files (files.project path) fault is
without files path outcomes.SourceFault is = tt
without files path outcomes.NoMemory is = tt
without files path outcomes.Done is = absurd is
without files path outcomes.Usage is = absurd is
without files path (outcomes.OtherJob kept wanted) is = absurd is
without files path (outcomes.BadLedger len) is = absurd is
without files path (outcomes.OldRefused refusal) is = absurd is
without files path (outcomes.OldOtherJob kept wanted) is = absurd is
without files path (outcomes.OldBadLedger len) is = absurd is
without files path (outcomes.Damaged frame kept found) is = absurd is
without files path (outcomes.Changed reel key was now) is = absurd is
without files path outcomes.DiskFault is = absurd is
without files path (outcomes.SinkFault instead) is = absurd is
without files path (outcomes.Refused (refused.Reels fault)) is = absurd is
without files path (outcomes.Refused (refused.List fault)) is = absurd is
without files path (outcomes.Refused (refused.Timeline fault)) is = absurd is
without files path (outcomes.Refused (refused.Cube fault)) is = absurd is
without files path (outcomes.Refused (refused.Job fault)) is = absurd is
without files path (outcomes.Refused (refused.Frame fault)) is = absurd is

pub read_none : (told : Option World) (path : List ℕ) (outcome : Outcome) → ByFiles told (λ files. MeansFile (files.project path) (Err outcome)) → ByFiles told (λ files. IsByTexts files path (Err outcome))
read_none told path outcome read = (read.0, read.1, without read.0 path outcome read.2)

-- Of a project that was read.
module _ (files : FilesRead) (path : List ℕ) (read : ProjectText) (means : MeansFile (files.project path) (Ok read)) where
  -- what its text comes to, the texts come to
  by_text : (answer : Result JobParts Refused) → answer ≡ job_of_texts files read.text.items (Ok read.project) → TextsComeTo files path answer
  by_text answer is = subst (λ file. FileComesBy (job_of_texts files) file answer) (sym means.0) (Ok read.project, means.1, is)

  in_part : (outcome : Outcome) → Reaches (itself {A = JobParts}) (Err outcome) (parts_from files read.text.items read.project) → IsOfTexts outcome → IsByTexts files path (Err outcome)
  in_part (outcomes.Refused refusal) is texts = refused_by files path refusal (λ fault same. texts fault (ap outcomes.Refused same)) (by_text (Err refusal) (rw is refl))
  in_part outcomes.SourceFault is texts = tt
  in_part outcomes.NoMemory is texts = tt
  in_part outcomes.Done is texts = absurd is
  in_part outcomes.Usage is texts = absurd is
  in_part (outcomes.OtherJob kept wanted) is texts = absurd is
  in_part (outcomes.BadLedger len) is texts = absurd is
  in_part (outcomes.OldRefused refusal) is texts = absurd is
  in_part (outcomes.OldOtherJob kept wanted) is texts = absurd is
  in_part (outcomes.OldBadLedger len) is texts = absurd is
  in_part (outcomes.Damaged frame kept found) is texts = absurd is
  in_part (outcomes.Changed reel key was now) is texts = absurd is
  in_part outcomes.DiskFault is texts = absurd is
  in_part (outcomes.SinkFault instead) is texts = absurd is

  module _ (parts : JobParts) (is : parts_from files read.text.items read.project ≡ Ok parts) where
    unrefused : told_refusal parts ≡ None → TextsComeTo files path (Ok parts)
    unrefused none = by_text (Ok parts) (rw (is, none) refl)

    by_lines : (fault : JobFault) → IsByLines fault (told_refusal parts) → IsByTexts files path (Err (outcome_of_fault fault))
    by_lines faults.SourceFault lines = tt
    by_lines faults.NoMemory lines = tt
    by_lines (faults.BadCut cut) lines = by_text (Err (refused.Job (faults.BadCut cut))) (rw (is, lines) refl)
    by_lines (faults.UnknownReel line) lines = by_text (Err (refused.Job (faults.UnknownReel line))) (rw (is, lines) refl)
    by_lines (faults.MissingFrame line reel source) lines = (parts, unrefused lines)
    by_lines (faults.BadFrame line reel source bad) lines = (parts, unrefused lines)
    by_lines (faults.Geometry line reel source) lines = (parts, unrefused lines)

-- The project's text as it was at its load, the list and the cube as they were at theirs.
module _ (told : Option World) (path : List ℕ) (read : ProjectText) (means : ByFiles told (λ files. MeansFile (files.project path) (Ok read))) where
  pub read_part : (outcome : Outcome) → ByFiles told (λ files. Reaches (itself {A = JobParts}) (Err outcome) (parts_from files read.text.items read.project)) → IsOfTexts outcome
      → ByFiles told (λ files. IsByTexts files path (Err outcome))
  read_part outcome stops texts = (
    joined means.0 stops.0 stops.0,
    joined_told told means.0 stops.0 stops.0 means.1 stops.1 stops.1,
    in_part (joined means.0 stops.0 stops.0) path read means.2 outcome stops.2 texts,
  )

  module _ (parts : JobParts) (comes : ByFiles told (λ files. parts_from files read.text.items read.project ≡ Ok parts)) where
    abbrev files : FilesRead
    files = joined means.0 comes.0 comes.0

    told_so : IfSome told (λ world. files ≡ unchanged (file_at world))
    told_so = joined_told told means.0 comes.0 comes.0 means.1 comes.1 comes.1

    pub read_lines : (fault : JobFault) (outcome : Outcome) → outcome ≡ outcome_of_fault fault → IsByLines fault (told_refusal parts) → ByFiles told (λ files. IsByTexts files path (Err outcome))
    read_lines fault outcome is lines = (files, told_so, subst (λ o. IsByTexts files path (Err o)) (sym is) (by_lines files path read means.2 parts comes.2 fault lines))

    pub read_job : (job : JobData) → job.parts ≡ parts → told_refusal parts ≡ None → ByFiles told (λ files. IsByTexts files path (Ok job))
    read_job job same none = (files, told_so, subst (λ p. TextsComeTo files path (Ok p)) (sym same) (unrefused files path read means.2 parts comes.2 none))
