-- From one file that was read to the files as they were at each load.
use Rattle.std.proofs.Common.{◌≡◌, ℕ, ◌+◌, ◌-◌, min, List, ◌++◌, length, take, replicate, Option, None, Some, IfSome, refl, sym, ap, subst, ◌∙◌, arith, inl, inr}
use Rattle.std.proofs.lemmas.Bool.{cases_lt}
use Rattle.std.proofs.Math.Seq.{take-append_seam}
use Rattle.std.proofs.lemmas.List.{take_all, length-append, length-replicate}
use Rattle.scan_source.specs.Answers.{IsLoaded}
use Rattle.scan_source.specs.declared.scans.Loaded.TheVariants.{Got}
use Rattle.scan_source.specs.World.{World, file_at}
use Rattle.conform_job.specs.Refusals.{Files}
use Rattle.outcome.specs.declared.Outcome.TheVariants.{Refused}
use Rattle.outcome.specs.declared.Refused.TheVariants.{NoFile}
use Rattle.outcome.specs.declared.Which.{Which}
use Rattle.project_job.specs.Jobs.{FilesRead, unchanged}
use Rattle.project_job.specs.Load.{ByFile, IsMissing}
use Rattle.project_job.specs.Texts.{ByFiles}

-- ---- one file

-- some bytes with these first ones and this length
file_of : (len most : ℕ) (into : List ℕ) → length into ≡ min len most → (bytes : List ℕ) × (len ≡ length bytes) × (into ≡ take most bytes)
file_of len most into fills = elim (cases_lt most len) [
  | inl more ↦
      let bytes = into ++ replicate (len - most) 0 in
      let short : length into ≡ most = omega (arith, fills) in
      let long : length bytes ≡ length into + (len - most) = length-append into (replicate (len - most) 0) ∙ ap (λ n. length into + n) (length-replicate {A = ℕ} (len - most) 0) in
      (bytes, omega (arith, long, short, more), sym (ap (λ n. take n bytes) (sym short) ∙ take-append_seam into (replicate (len - most) 0)))
  | inr whole ↦ (into, omega (arith, fills), sym (take_all most into (omega (arith, fills))))
]

-- the file of a load, or that there is none
pub got_file : (told : Option World) (path : List ℕ) (most len : ℕ) (into : List ℕ) → IfSome told (λ world. IsLoaded (Got len) (file_at world path) most into)
    → length into ≡ min len most → ByFile told path (λ file. IsLoaded (Got len) file most into)
got_file None path most len into is fills = let file = file_of len most into fills in (Some file.0, tt, (file.1, file.2))
got_file (Some world) path most len into is fills = (file_at world path, refl, is)

pub no_file : (told : Option World) (path : List ℕ) (absent : Which) → IfSome told (λ world. file_at world path ≡ None)
    → ByFile told path (λ file. IsMissing absent file (Refused (NoFile absent)))
no_file None path absent gone = (None, tt, (refl, refl))
no_file (Some world) path absent gone = (file_at world path, refl, (refl, gone))

-- what holds of any file
pub any_file : (told : Option World) (path : List ℕ) (P : Option (List ℕ) → Type 0) → ((file : Option (List ℕ)) → P file) → ByFile told path P
any_file None path P each = (None, tt, each None)
any_file (Some world) path P each = (file_at world path, refl, each (file_at world path))

-- ---- the files at each load

-- what holds of any files
pub any_files : (told : Option World) (P : FilesRead → Type 0) → ((files : FilesRead) → P files) → ByFiles told P
any_files None P each = let none : FilesRead = unchanged (λ (path : List ℕ). None) in (none, tt, each none)
any_files (Some world) P each = (unchanged (file_at world), refl, each (unchanged (file_at world)))

-- files with the one that was read at its path
with_file : (told : Option World) (path : List ℕ) (P : Option (List ℕ) → Type 0) → ByFile told path P
    → (files : Files) × IfSome told (λ world. unchanged files ≡ unchanged (file_at world)) × P (files path)
with_file None path P read = ((λ (other : List ℕ). read.0), tt, read.2)
with_file (Some world) path P read = (file_at world, refl, subst P read.1 read.2)

module _ (told : Option World) (path : List ℕ) (P : Option (List ℕ) → Type 0) (read : ByFile told path P) where
  pub as_project : ByFiles told (λ files. P (files.project path))
  as_project = let files = with_file told path P read in (unchanged files.0, files.1, files.2)

  pub as_list : ByFiles told (λ files. P (files.list path))
  as_list = let files = with_file told path P read in (unchanged files.0, files.1, files.2)

  pub as_cube : ByFiles told (λ files. P (files.cube path))
  as_cube = let files = with_file told path P read in (unchanged files.0, files.1, files.2)

-- where the files are told, they are those
pub by_told : (told : Option World) (P : FilesRead → Type 0) → ByFiles told P → IfSome told (λ world. P (unchanged (file_at world)))
by_told None P read = tt
by_told (Some world) P read = subst P read.1 read.2

-- the project's file, the list's and the cube's, each as it was at its own load
abbrev pub joined : (project list cube : FilesRead) → FilesRead
joined project list cube = record { project = project.project; list = list.list; cube = cube.cube }

pub joined_told : (told : Option World) (project list cube : FilesRead) → IfSome told (λ world. project ≡ unchanged (file_at world)) → IfSome told (λ world. list ≡ unchanged (file_at world))
    → IfSome told (λ world. cube ≡ unchanged (file_at world)) → IfSome told (λ world. joined project list cube ≡ unchanged (file_at world))
joined_told None project list cube a b c = tt
joined_told (Some world) project list cube a b c =
    ap (λ (files : FilesRead). joined files list cube) a
    ∙ ap (λ (files : FilesRead). joined (unchanged (file_at world)) files cube) b
    ∙ ap (λ (files : FilesRead). joined (unchanged (file_at world)) (unchanged (file_at world)) files) c
