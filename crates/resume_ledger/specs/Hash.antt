-- The SHA-256 (FIPS 180-4) of a file.
use Rattle.std.specs.Prelude.{◌≡◌, ℕ, List, [], length, Option, Some, None}
use Rattle.sha2.specs.Sha256.{sha256}
use Rattle.resume_ledger.specs.Sound.{HasSize}

-- Some: the file has that length, and this is the digest of all of it. None: it is absent, or of another length.
abbrev pub IsHashOf : Option (List ℕ) → ℕ → Option (List ℕ) → Type 0
IsHashOf content size (Some hash) = (bytes : List ℕ) × (content ≡ Some bytes) × (length bytes ≡ size) × (hash ≡ sha256 bytes)
IsHashOf content size None = HasSize size content → ⊥

-- The digest of a file of any length, an absent one as no bytes.
abbrev pub digest_of_file : Option (List ℕ) → List ℕ
digest_of_file None = sha256 []
digest_of_file (Some bytes) = sha256 bytes
