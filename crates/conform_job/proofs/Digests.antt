-- The digest of a job by what goes into it, one byte string behind another.
use Rattle.std.proofs.Common.{◌≡◌, ◌-◌, ◌^◌, ℕ, List, ◌++◌, length, refl, ap, append_assoc, Some, None}
use Rattle.std.specs.Int.{w64, to_be_bytes}
use Rattle.sha2.specs.Sha256.{sha256}
use Rattle.conform_job.specs.Digest.{digest_of}

joined : (p x e y c z : List ℕ) → ((((p ++ x) ++ e) ++ y) ++ c) ++ z ≡ (p ++ x) ++ ((e ++ y) ++ (c ++ z))
joined p x e y c z = simp append_assoc refl

joined_none : (p x e y c : List ℕ) → (((p ++ x) ++ e) ++ y) ++ c ≡ (p ++ x) ++ ((e ++ y) ++ c)
joined_none p x e y c = simp append_assoc refl

pub with_cube : (project edl cube p e c : List ℕ) → p ≡ to_be_bytes w64 (length project) → e ≡ to_be_bytes w64 (length edl) → c ≡ to_be_bytes w64 (length cube)
    → sha256 (((((p ++ project) ++ e) ++ edl) ++ c) ++ cube) ≡ digest_of project edl (Some cube)
unfolding digest_of
with_cube project edl cube p e c p_is e_is c_is = rw (p_is, e_is, c_is) (ap sha256 (joined (to_be_bytes w64 (length project)) project (to_be_bytes w64 (length edl)) edl (to_be_bytes w64 (length cube)) cube))

pub without_cube : (project edl p e c : List ℕ) → p ≡ to_be_bytes w64 (length project) → e ≡ to_be_bytes w64 (length edl) → c ≡ to_be_bytes w64 (2 ^ 64 - 1)
    → sha256 ((((p ++ project) ++ e) ++ edl) ++ c) ≡ digest_of project edl None
unfolding digest_of
without_cube project edl p e c p_is e_is c_is = rw (p_is, e_is, c_is) (ap sha256 (joined_none (to_be_bytes w64 (length project)) project (to_be_bytes w64 (length edl)) edl (to_be_bytes w64 (2 ^ 64 - 1))))
