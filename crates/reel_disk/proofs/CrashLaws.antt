-- What holds of every crash.
use Rattle.std.proofs.Common.{◌≡◌, inl, inr, ℕ, zero, suc, List, refl, ◌∙◌, ap, arith}
use Rattle.std.specs.Prelude.{Option, Some, None}
use Rattle.std.proofs.Math.Nat.{eq-or-lt_of_le}
use Rattle.cf_base.specs.declared.file.FileId.{FileId}
use Rattle.reel_disk.specs.declared.disk.Place.TheVariants.{Whole}
use Rattle.reel_disk.specs.Disk.{Files, History, moment_of, view_of, loose_of, IsLoose, IsLooseAt, IsFirm, AgreesOutside, IsImage}
use Rattle.reel_disk.specs.Crash.{byte_at, IsEarlier, IsPicked, IsCrash}
use Rattle.reel_disk.proofs.Images.{firm_image}

-- a byte that isn't loose now is as it is now
earlier_now : (h : History) (id : FileId) (k byte : ℕ) → (IsLooseAt (loose_of h) id k → ⊥) → IsEarlier h id k byte → byte ≡ byte_at (view_of h id) k
earlier_now h id k byte firm found = found.2 ∙ elim (eq-or-lt_of_le found.1.past) [
  | inl now ↦ ap (λ n. byte_at ((h.past n).view id) k) now
  | inr before ↦ absurd (firm (found.1.later h.now before (omega arith)))
]

picked_agrees : (pick : ℕ) (h : History) (id : FileId) (content left : Option (List ℕ)) → view_of h id ≡ content → (IsLoose (loose_of h) (Whole id) → ⊥) → IsPicked pick h id content left → AgreesOutside (loose_of h) id content left
picked_agrees pick h id None left is firm picked = picked
picked_agrees zero h id (Some bytes) left is firm picked = (bytes, picked, refl, λ k lt not_loose. refl)
picked_agrees (suc zero) h id (Some bytes) left is firm picked =
    let each = picked.1 firm in
    (each.0, each.1, each.2, λ k lt not_loose. earlier_now h id k _ not_loose (each.3 k lt) ∙ ap (λ (o : Option (List ℕ)). byte_at o k) is)
picked_agrees (suc (suc n)) h id (Some bytes) left is firm picked =
    let each = picked.1 firm in
    (each.0, each.1, each.2, λ k lt not_loose. (each.3 k lt).1 not_loose ∙ ap (λ (o : Option (List ℕ)). byte_at o k) is)

-- Each pick leaves one of the images.
pub crash_image : (pick : ℕ) (h : History) (files : Files) → IsCrash pick h files → IsImage (moment_of h) files
crash_image pick h files crash id firm = picked_agrees pick h id (view_of h id) (files id) refl firm (crash id)

-- A file of which no place is loose is left as it is, and so is its absence.
pub synced_stays : (pick : ℕ) (h : History) (files : Files) → IsCrash pick h files → (id : FileId) → IsFirm (loose_of h) id → files id ≡ view_of h id
synced_stays pick h files crash id firm = firm_image (moment_of h) files id firm (crash_image pick h files crash)
