-- The names of the files of a reel folder.
use Rattle.std.specs.Prelude.{◌≡◌, ◌≢◌, ◌⊎◌, ℕ, Bool, true, false, ◌&&◌, nat_eq, refl}
use Rattle.std.proofs.Common.{inl, inr, ap}
use Rattle.std.proofs.lemmas.Bool.{cases_eq}
use Rattle.cf_base.specs.declared.file.FileId.{FileId}
use Rattle.cf_base.specs.declared.file.FileId.TheVariants.{Seal, Body, Seal2, Body2, Sheet, Frame}

-- whether two names are one
abbrev pub same_id : FileId → FileId → Bool
same_id Seal Seal = true
same_id Body Body = true
same_id Seal2 Seal2 = true
same_id Body2 Body2 = true
same_id Sheet Sheet = true
same_id (Frame r f) (Frame s g) = nat_eq r s && nat_eq f g
same_id a b = false

-- two names are one, or they differ
pub decide_id : (a b : FileId) → (a ≡ b) ⊎ (a ≢ b)
decide_id Seal Seal = inl refl
decide_id Body Body = inl refl
decide_id Seal2 Seal2 = inl refl
decide_id Body2 Body2 = inl refl
decide_id Sheet Sheet = inl refl
decide_id (Frame r f) (Frame s g) = elim (cases_eq r s) [
  | inl same_reel ↦ elim (cases_eq f g) [
    | inl same_frame ↦ inl (λ i. Frame (same_reel i) (same_frame i))
    | inr other ↦ inr (λ e. other (ap frame_or e))
  ]
  | inr other ↦ inr (λ e. other (ap reel_or e))
]
  where
    reel_or : FileId → ℕ
    reel_or (Frame reel frame) = reel
    reel_or a = 0

    frame_or : FileId → ℕ
    frame_or (Frame reel frame) = frame
    frame_or a = 0
decide_id a b = inr (λ e. cc)
