-- The files of the names of both jobs: told where the old folder is told and sound over them.
use Rattle.std.proofs.Common.{◌≡◌, inl, inr, Bool, true, false, refl}
use Rattle.std.specs.Prelude.{Option, Some, None, IfSome}
use Rattle.conform_job.specs.Job.{JobData}
use Rattle.conform_job.specs.Names.{Tells}
use Rattle.scan_source.specs.World.{World, file_at}
use Rattle.reel_disk.specs.Disk.{Files}
use Rattle.reel_writer.specs.Reel.{frames_of, reel_of}
use Rattle.reconform.specs.Adopt.{CanServe, HaveOneLook}
use Rattle.outcome.specs.declared.Outcome.{Outcome}
use Rattle.reel_disk.specs.State.{FolderState}
use Rattle.project_adopt.specs.Adopt.{IsOldSound, IsPromised}
use Rattle.project_adopt.proofs.Deciding.{Decision, decide_sound}

pub decide_old : (old : JobData) (world : World) (files : Files) → Decision (IsOldSound old world files)
decide_old old world files = decide_sound old.parts.digest (frames_of old) (reel_of old (file_at world)) files

abbrev pub told_where : {P : Type 0} → Decision P → World → Option World
told_where (inl is) world = Some world
told_where (inr not) world = None

abbrev pub lent : Bool → Option World → JobData → Files → Option World
lent false told old files = None
lent true None old files = None
lent true (Some world) old files = told_where (decide_old old world files) world

module _ (old : JobData) (files : Files) where
  -- they are those that the scan tells
  pub lent_tells : (tells : Bool) (told : Option World) → Tells (lent tells told old files) told
  lent_tells false told = tt
  lent_tells true None = tt
  lent_tells true (Some world) = by (decide_old old world files)
    where
      by : {P : Type 0} (decision : Decision P) → Tells (told_where decision world) (Some world)
      by (inl is) = refl
      by (inr not) = tt

  -- where they are told, the old folder can serve
  pub lent_serves : (new : JobData) (tells : Bool) (told : Option World) → IfSome told (λ world. HaveOneLook new old) → IfSome (lent tells told old files) (λ world. CanServe new old world tells files)
  lent_serves new false told look = tt
  lent_serves new true None look = tt
  lent_serves new true (Some world) look = by (decide_old old world files)
    where
      by : (decision : Decision (IsOldSound old world files)) → IfSome (told_where decision world) (λ world. CanServe new old world true files)
      by (inl is) = record { told = refl; sound = is; look = look }
      by (inr not) = tt

  module _ (job : JobData) (disk disk_after : FolderState) (reached : Outcome) where
    -- what is promised by any files is promised by none
    untold : (told : Option World) → IsPromised job told disk disk_after reached → IsPromised job None disk disk_after reached
    untold told promised = record {
      run = record { extends = promised.run.extends; keeps = promised.run.keeps; sound = tt };
      whole = λ done. record { shown = tt };
    }

    pub promised_untold : (tells : Bool) (told : Option World) → IsPromised job (lent tells told old files) disk disk_after reached → IsPromised job None disk disk_after reached
    promised_untold tells told promised = untold (lent tells told old files) promised

    -- where the old folder is sound they are all told
    pub promised_told : (tells : Bool) (told : Option World) → tells ≡ true → IfSome told (λ world. IsOldSound old world files)
        → IsPromised job (lent tells told old files) disk disk_after reached → IsPromised job told disk disk_after reached
    promised_told false told none sound promised = absurd (cc)
    promised_told true None all sound promised = promised
    promised_told true (Some world) all sound promised = by (decide_old old world files) promised
      where
        by : (decision : Decision (IsOldSound old world files)) → IsPromised job (told_where decision world) disk disk_after reached → IsPromised job (Some world) disk disk_after reached
        by (inl is) here = here
        by (inr not) here = absurd (not sound)
