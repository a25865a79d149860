-- From what a load or a head tells to the file at the path.
use Rattle.std.proofs.Common.{◌≡◌, ℕ, List, length, take, Option, None, Some, IfSome}
use Rattle.scan_source.specs.Answers.{first_bytes, IsLoaded, IsHead}
use Rattle.scan_source.specs.World.{World, file_at}
use Rattle.scan_source.specs.declared.scans.Loaded.TheVariants.{Got}
use Rattle.scan_source.specs.declared.scans.Head.TheVariants.{Found}

-- what holds of each file that a load may have read holds of the file at the path
pub told_file : (world : Option World) (path : List ℕ) (P : Option (List ℕ) → Type 0) (len most : ℕ) (into : List ℕ)
    → IfSome world (λ files. IsLoaded (Got len) (file_at files path) most into)
    → ((bytes : List ℕ) → len ≡ length bytes → into ≡ take most bytes → P (Some bytes))
    → IfSome world (λ files. P (file_at files path))
told_file None path P len most into told each = tt
told_file (Some files) path P len most into told each =
    elim (file_at files path) as (λ file. IsLoaded (Got len) file most into → P file) [
      | None ↦ λ h. absurd h
      | Some bytes ↦ λ h. each bytes h.0 h.1
    ] told

-- the same of a head
pub told_head : (world : Option World) (path : List ℕ) (P : Option (List ℕ) → Type 0) (len : ℕ) (into : List ℕ)
    → IfSome world (λ files. IsHead (Found len) (file_at files path) into)
    → ((bytes : List ℕ) → len ≡ length bytes → into ≡ first_bytes 2048 bytes → P (Some bytes))
    → IfSome world (λ files. P (file_at files path))
told_head None path P len into told each = tt
told_head (Some files) path P len into told each =
    elim (file_at files path) as (λ file. IsHead (Found len) file into → P file) [
      | None ↦ λ h. absurd h
      | Some bytes ↦ λ h. each bytes h.0 h.1
    ] told
