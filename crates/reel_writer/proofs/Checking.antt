-- One frame after another is checked.
use Rattle.std.proofs.Common.{◌≡◌, ℕ, ◌+◌, ◌≤◌, inl, inr, Bool, true, false, cond, List, map, sym, ◌∙◌, ap, subst, arith}
use Rattle.std.specs.Prelude.{count_by, is_some, Some, IfSome, Err}
use Rattle.std.specs.List.{range_with_len}
use Rattle.std.proofs.lemmas.Bool.{cases_lt}
use Rattle.std.proofs.lemmas.Option.{IfSome_then}
use Rattle.std.proofs.lemmas.List.FromFn.{sum_by-map-range_with_len_more}
use Rattle.cf_base.specs.declared.file.FileId.{FileId}
use Rattle.reel_disk.specs.Call.{Call}
use Rattle.reel_disk.specs.Disk.{Files}
use Rattle.conform_job.specs.Job.{JobData, file_of}
use Rattle.scan_source.specs.World.{World, file_at}
use Rattle.sha2.specs.Sha256.{sha256}
use Rattle.frame_render.specs.Frame.{frame_file}
use Rattle.resume_ledger.specs.Body.{record_of}
use Rattle.resume_ledger.specs.Hash.{digest_of_file}
use Rattle.resume_ledger.specs.Look.{ViewState, hash_at, IsRecordIn, IsViewOf}
use Rattle.resume_ledger.proofs.Bodies.{some_same}
use Rattle.reel_writer.specs.Reel.{frames_of, IsSoundReel}
use Rattle.reel_writer.specs.Damage.{IsDamaged, AreAsKept, AreIntact, HasChecked, IsCheckOf}
use Rattle.reel_writer.specs.Reads.{MakesOnly, WasHashed}
use Rattle.reel_writer.specs.inside.Damage.{HasCheckedOne, IsCheckOneOf}
use Rattle.reel_writer.specs.declared.damage.CheckFault.{CheckFault}
use Rattle.reel_writer.specs.declared.damage.CheckFault.TheVariants.{Damaged, DiskFault, NoMemory}
use Rattle.reel_writer.proofs.ReadCalls.{hashed_still}

-- the records of one frame more
pub counted_more : (view : ViewState) (i : ℕ) → count_by is_some (map (hash_at view) (range_with_len 0 (i + 1))) ≡ count_by is_some (map (hash_at view) (range_with_len 0 i)) + cond (is_some (hash_at view i)) 1 0
counted_more view i = sum_by-map-range_with_len_more (λ hash. cond (is_some hash) 1 0) (hash_at view) 0 i i (omega arith)

pub one_at_most : (has : Bool) → cond has 1 0 ≤ 1
one_at_most true = omega arith
one_at_most false = omega arith

module _ (job : JobData) (view : ViewState) (files : Files) where
  -- one frame more is intact
  pub intact_more : (i : ℕ) → AreIntact job view files i → ((kept found : List ℕ) → IsDamaged job view files i kept found → ⊥) → AreIntact job view files (i + 1)
  intact_more i before here k lt kept found damaged = elim (cases_lt k i) [
    | inl below ↦ before k below kept found damaged
    | inr last ↦ here kept found (subst (λ n. IsDamaged job view files n kept found) (omega (arith, lt, last)) damaged)
  ]

  -- the first frames are intact, and the next one is damaged
  pub first_fault : (i : ℕ) → AreIntact job view files i → (fault : CheckFault) → HasCheckedOne job view files i (Err fault) → HasChecked job view files (Err fault)
  first_fault i before (Damaged frame kept found) (is, damaged) =
      (subst (λ n. IsDamaged job view files n kept found) (sym is) damaged, subst (AreIntact job view files) (sym is) before)
  first_fault i before DiskFault none = tt
  first_fault i before NoMemory none = tt

-- the files of the first frames are as they were kept, also where more calls are made
module _ (job : JobData) (view : ViewState) (On : FileId → Type 0) (before after : List Call) (more : MakesOnly On before after) where
  pub kept_still : (count : ℕ) → AreAsKept job view count before → AreAsKept job view count after
  kept_still count kept k lt = IfSome_then (hash_at view k) (kept k lt) (λ hash. hashed_still On before after more (file_of job k) hash)

  -- and so is that of one frame more
  pub kept_more : (i : ℕ) → AreAsKept job view i before → IfSome (hash_at view i) (λ kept. WasHashed (file_of job i) kept after) → AreAsKept job view (i + 1) after
  kept_more i kept here k lt = elim (cases_lt k i) [
    | inl below ↦ kept_still i kept k below
    | inr last ↦ subst (λ n. IfSome (hash_at view n) (λ hash. WasHashed (file_of job n) hash after)) (omega (arith, lt, last)) here
  ]

  -- or the next one's has another digest
  pub says_fault : (i : ℕ) → AreAsKept job view i before → (fault : CheckFault) → IsCheckOneOf job view i (Err fault) after → IsCheckOf job view (Err fault) after
  says_fault i kept (Damaged frame hash found) (is, hashed) =
      (subst (λ n. AreAsKept job view n after) (sym is) (kept_still i kept), subst (λ n. WasHashed (file_of job n) found after) (sym is) hashed)
  says_fault i kept DiskFault none = tt
  says_fault i kept NoMemory none = tt

-- a sound folder has no damage
pub sound_intact : (job : JobData) (view : ViewState) (files : Files) (world : World) → IsViewOf job.parts.digest (frames_of job) files view → IsSoundReel job world files → AreIntact job view files (frames_of job)
sound_intact job view files world of sound k lt kept found damaged =
    let recorded : IsRecordIn job.parts.digest (frames_of job) k files (Some kept) = subst (IsRecordIn job.parts.digest (frames_of job) k files) damaged.recorded (of.hashes k lt) in
    let at = sound.sound k recorded.0 in
    let noted = at.hash recorded.1 in
    let same : recorded.2.body ≡ noted.body = some_same (sym recorded.2.there ∙ noted.there) in
    let kept_is : kept ≡ sha256 (frame_file job (file_at world) k) = sym recorded.2.is ∙ ap (λ (l : List ℕ). record_of l k) same ∙ noted.is in
    damaged.differ (kept_is ∙ sym (damaged.found_is ∙ ap digest_of_file at.file))
