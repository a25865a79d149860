-- Of which step a refusal is, and how many files were loaded by then.
use Rattle.std.proofs.Common.{◌≡◌, ◌∙◌, ℕ, ◌+◌, List, Option, Some, None, Ok, Err, refl, sym, ap, subst, [], arith}
use Rattle.scan_source.specs.World.{World}
use Rattle.conform_job.proofs.Heads.{count_sum}
use Rattle.conform_job.specs.Answers.{count_after}
use Rattle.conform_job.specs.Ended.{HasAsked}
use Rattle.conform_job.specs.declared.parts.JobParts.{JobParts}
use Rattle.conform_job.specs.declared.parts.JobFault.{JobFault}
use Rattle.conform_job.specs.declared.parts.JobFault.TheVariants as faults
use Rattle.outcome.specs.declared.Outcome.{Outcome}
use Rattle.outcome.specs.declared.Outcome.TheVariants as outcomes
use Rattle.outcome.specs.declared.Refused.{Refused}
use Rattle.outcome.specs.declared.Refused.TheVariants as refused
use Rattle.outcome.specs.declared.Which.{Which}
use Rattle.project_job.specs.Asked.{loads_of, FileHasParts, FileNames, HasInspectedFor, HasLoadedFor, WereInspected, WereJudged}
use Rattle.project_job.specs.inside.Asked.{ComesBehind, HasLoadedBehind, IsOfTexts}
use Rattle.project_job.specs.Jobs.{cube_count, FilesRead, parts_from}
use Rattle.project_job.specs.Texts.{ByFiles}
use Rattle.project_job.specs.inside.Jobs.{MeansFile, outcome_of_fault}
use Rattle.project_job.specs.Load.{IsOfLoad}
use Rattle.project_job.specs.declared.project.ProjectText.{ProjectText}
use Rattle.project_job.proofs.Reading.{joined, joined_told}

one_refusal : (a b : Refused) → outcomes.Refused a ≡ outcomes.Refused b → a ≡ b
one_refusal a b is = cc

no_memory : (refusal : Refused) → outcomes.NoMemory ≡ outcomes.Refused refusal → ⊥
no_memory refusal is = cc

-- ---- the step of a refusal

pub own_stage : (count : ℕ) (own : Refused) → ((cube : Option (List ℕ)) → loads_of own cube ≡ count) → ComesBehind count (outcomes.Refused own)
own_stage count own at refusal is cube = subst (λ r. loads_of r cube ≡ count) (one_refusal own refusal is) (at cube)

pub memory_stage : (count : ℕ) → ComesBehind count outcomes.NoMemory
memory_stage count refusal is = absurd (no_memory refusal is)

gone_stage : (absent : Which) (count : ℕ) (refusal : Refused) → ((cube : Option (List ℕ)) → loads_of (refused.NoFile absent) cube ≡ count)
    → IsOfLoad absent (outcomes.Refused refusal) → (cube : Option (List ℕ)) → loads_of refusal cube ≡ count
gone_stage absent count (refused.NoFile other) at kind cube = subst (λ w. loads_of (refused.NoFile w) cube ≡ count) (sym kind) (at cube)
gone_stage absent count (refused.Project fault) at kind cube = absurd kind
gone_stage absent count (refused.Reels fault) at kind cube = absurd kind
gone_stage absent count (refused.List fault) at kind cube = absurd kind
gone_stage absent count (refused.Timeline fault) at kind cube = absurd kind
gone_stage absent count (refused.Cube fault) at kind cube = absurd kind
gone_stage absent count (refused.Job fault) at kind cube = absurd kind
gone_stage absent count (refused.Frame fault) at kind cube = absurd kind

-- of a load
pub load_stage : (absent : Which) (count : ℕ) (reached : Outcome) → ((cube : Option (List ℕ)) → loads_of (refused.NoFile absent) cube ≡ count)
    → IsOfLoad absent reached → ComesBehind count reached
load_stage absent count reached at kind refusal is = gone_stage absent count refusal at (subst (IsOfLoad absent) is kind)

-- ---- the loads until then

pub loaded_behind : (cube : Option (List ℕ)) (reached : Outcome) (more before after : ℕ) → ComesBehind (more + 1) reached → after ≡ count_after more before
    → HasLoadedBehind cube before after reached
loaded_behind cube reached more before after stage loads refusal is first behind =
    loads ∙ ap (count_after more) behind ∙ count_sum more 1 first ∙ ap (λ n. count_after n first) (sym (stage refusal is cube))

-- with the cube behind the list
pub look_behind : (cube : Option (List ℕ)) (reached : Outcome) (before between after : ℕ) → ComesBehind 3 reached → cube_count cube ≡ 1 → between ≡ count_after 1 before
    → after ≡ count_after (cube_count cube) between → HasLoadedBehind cube before after reached
look_behind cube reached before between after stage one list look =
    loaded_behind cube reached 2 before after stage (look ∙ ap (λ n. count_after n between) one ∙ ap (count_after 1) list)

names_none : (file : Option (List ℕ)) (refusal : Refused) → MeansFile file (Err (outcomes.Refused refusal)) → FileNames file None
names_none None refusal is = tt
names_none (Some text) (refused.NoFile absent) is = absurd (let gone : ◌≡◌ {A = Option (List ℕ)} (Some text) None = is.1 in cc)
names_none (Some text) (refused.Project fault) is = (Err fault, is, tt)
names_none (Some text) (refused.Reels fault) is = absurd is
names_none (Some text) (refused.List fault) is = absurd is
names_none (Some text) (refused.Timeline fault) is = absurd is
names_none (Some text) (refused.Cube fault) is = absurd is
names_none (Some text) (refused.Job fault) is = absurd is
names_none (Some text) (refused.Frame fault) is = absurd is

names_own : (file : Option (List ℕ)) (read : ProjectText) → MeansFile file (Ok read) → FileNames file read.project.cube
names_own file read is = subst (λ f. FileNames f read.project.cube) (sym is.0) (Ok read.project, is.1, refl)

module _ (told : Option World) (path : List ℕ) where
  pub project_loaded : (reached : Outcome) (before after : ℕ) → ComesBehind 1 reached → ByFiles told (λ files. MeansFile (files.project path) (Err reached))
      → after ≡ count_after 1 before → HasLoadedFor told path before after reached
  project_loaded reached before after stage means loads refusal is = record {
    cube = None;
    named = (means.0, means.1, names_none (means.0.project path) refusal (subst (λ r. MeansFile (means.0.project path) (Err r)) is means.2));
    loads = loads ∙ ap (λ n. count_after n before) (sym (stage refusal is None));
  }

  module _ (read : ProjectText) (means : ByFiles told (λ files. MeansFile (files.project path) (Ok read))) where
    pub parts_loaded : (reached : Outcome) (before between after : ℕ) → between ≡ count_after 1 before → HasLoadedBehind read.project.cube between after reached
        → HasLoadedFor told path before after reached
    parts_loaded reached before between after project behind refusal is = record {
      cube = read.project.cube;
      named = (means.0, means.1, names_own (means.0.project path) read means.2);
      loads = behind refusal is before project;
    }

    pub job_loaded : (fault : JobFault) (reached : Outcome) (before after : ℕ) → reached ≡ outcome_of_fault fault → after ≡ count_after (2 + cube_count read.project.cube) before
        → HasLoadedFor told path before after reached
    job_loaded fault reached before after of_fault loads refusal is = record {
      cube = read.project.cube;
      named = (means.0, means.1, names_own (means.0.project path) read means.2);
      loads = loads ∙ ap (λ n. count_after n before) (sym (job_loads fault refusal read.project.cube (sym of_fault ∙ is)));
    }
      where
        job_loads : (fault : JobFault) (refusal : Refused) (cube : Option (List ℕ)) → outcome_of_fault fault ≡ outcomes.Refused refusal → loads_of refusal cube ≡ 2 + cube_count cube
        job_loads faults.SourceFault refusal cube is = cc
        job_loads faults.NoMemory refusal cube is = cc
        job_loads (faults.BadCut cut) refusal cube is = subst (λ r. loads_of r cube ≡ 2 + cube_count cube) (one_refusal _ refusal is) refl
        job_loads (faults.UnknownReel line) refusal cube is = subst (λ r. loads_of r cube ≡ 2 + cube_count cube) (one_refusal _ refusal is) refl
        job_loads (faults.MissingFrame line reel source) refusal cube is = subst (λ r. loads_of r cube ≡ 2 + cube_count cube) (one_refusal _ refusal is) refl
        job_loads (faults.BadFrame line reel source bad) refusal cube is = subst (λ r. loads_of r cube ≡ 2 + cube_count cube) (one_refusal _ refusal is) refl
        job_loads (faults.Geometry line reel source) refusal cube is = subst (λ r. loads_of r cube ≡ 2 + cube_count cube) (one_refusal _ refusal is) refl

-- ---- the heads

pub unasked : (told : Option World) (path : List ℕ) (reached : Outcome) (before after : ℕ) → IsOfTexts reached → after ≡ before → HasInspectedFor told path before after reached
unasked told path reached before after texts none refusal is = each refusal is
  where
    each : (refusal : Refused) → reached ≡ outcomes.Refused refusal → WereInspected told path before after refusal
    each (refused.Job fault) is = absurd (texts fault is)
    each (refused.NoFile absent) is = none
    each (refused.Project fault) is = none
    each (refused.Reels fault) is = none
    each (refused.List fault) is = none
    each (refused.Timeline fault) is = none
    each (refused.Cube fault) is = none
    each (refused.Frame fault) is = none

-- a job's refusal comes behind the cube, or behind none
pub stage_texts : (count : ℕ) (reached : Outcome) → ComesBehind count reached → IsOfTexts reached
stage_texts count reached stage fault is =
    let without : 2 ≡ count = stage (refused.Job fault) is None in
    let with_one : 3 ≡ count = stage (refused.Job fault) is (Some []) in
    absurd (omega (arith, without, with_one))

has_parts : (files : FilesRead) (file : Option (List ℕ)) (read : ProjectText) (parts : JobParts) → MeansFile file (Ok read) → parts_from files read.text.items read.project ≡ Ok parts → FileHasParts files file parts
has_parts files file read parts means is = subst (λ f. FileHasParts files f parts) (sym means.0) (read.project, means.1, is)

pub judged : (told here : Option World) (path : List ℕ) (read : ProjectText) (parts : JobParts) (fault : JobFault) (before between after : ℕ) → here ≡ told → between ≡ before
    → ByFiles told (λ files. MeansFile (files.project path) (Ok read)) → ByFiles told (λ files. parts_from files read.text.items read.project ≡ Ok parts)
    → HasAsked parts here between after fault → WereJudged told path before after fault
judged told here path read parts fault before between after same heads means is asked = record {
  parts = parts;
  comes = (
    joined means.0 is.0 is.0,
    joined_told told means.0 is.0 is.0 means.1 is.1 is.1,
    has_parts (joined means.0 is.0 is.0) (means.0.project path) read parts means.2 is.2,
  );
  heads = subst (λ t. HasAsked parts t before after fault) same (subst (λ n. HasAsked parts here n after fault) heads asked);
}

pub job_asked : (told : Option World) (path : List ℕ) (fault : JobFault) (reached : Outcome) (before after : ℕ) → reached ≡ outcome_of_fault fault
    → WereJudged told path before after fault → HasInspectedFor told path before after reached
job_asked told path fault reached before after of_fault asked refusal is = each fault asked (sym of_fault ∙ is)
  where
    each : (fault : JobFault) → WereJudged told path before after fault → outcome_of_fault fault ≡ outcomes.Refused refusal → WereInspected told path before after refusal
    each faults.SourceFault asked is = cc
    each faults.NoMemory asked is = cc
    each (faults.BadCut cut) asked is = subst (WereInspected told path before after) (one_refusal _ refusal is) asked
    each (faults.UnknownReel line) asked is = subst (WereInspected told path before after) (one_refusal _ refusal is) asked
    each (faults.MissingFrame line reel source) asked is = subst (WereInspected told path before after) (one_refusal _ refusal is) asked
    each (faults.BadFrame line reel source bad) asked is = subst (WereInspected told path before after) (one_refusal _ refusal is) asked
    each (faults.Geometry line reel source) asked is = subst (WereInspected told path before after) (one_refusal _ refusal is) asked
