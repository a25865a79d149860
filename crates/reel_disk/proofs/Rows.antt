-- The definitions at worked examples.
use Rattle.std.proofs.Common.{◌≡◌, inl, inr, ℕ, zero, suc, ◌<◌, ◌≤◌, true, false, List, [], ◌∷◌, refl, sym, ◌∙◌, ap, subst, arith, append-nil}
use Rattle.std.proofs.lemmas.List.Elements.{All-head}
use Rattle.std.specs.Prelude.{Some, None, slice_index, All}
use Rattle.cf_base.specs.declared.file.FileId.TheVariants.{Seal, Body}
use Rattle.reel_disk.specs.declared.disk.Place.TheVariants.{Whole, Range}
use Rattle.reel_disk.specs.declared.disk.Length.TheVariants.{Absent}
use Rattle.reel_disk.specs.declared.disk.Did.TheVariants.{Done}
use Rattle.reel_disk.specs.Call.{Measured, Wrote, Synced, IsOwnCall, OnlyWrites}
use Rattle.reel_disk.specs.Disk.{Files, Moment, History, IsLoose, IsLooseAt, IsImage, overwritten, with_range}
use Rattle.reel_disk.specs.Crash.{IsPicked, IsTurned}
use Rattle.reel_disk.specs.MemoryDisk.{no_fault, fails_at}
use Rattle.reel_disk.proofs.Writing.{writing_none, writing_call}

-- bytes over others, and over a file that isn't there
overwrites : overwritten (1 ∷ 2 ∷ 3 ∷ 4 ∷ []) 1 (8 ∷ 9 ∷ []) ≡ 1 ∷ 8 ∷ 9 ∷ 4 ∷ []
overwrites = refl

absent_stays : with_range None 1 (8 ∷ []) ≡ None
absent_stays = refl

-- the calls of numbers 2 and 4 fail, and those from 3 on
listed : (fails_at (record { calls = 4 ∷ 2 ∷ []; stop = None }) 2 ≡ true) × (fails_at (record { calls = 4 ∷ 2 ∷ []; stop = None }) 3 ≡ false) × (fails_at (record { calls = 4 ∷ 2 ∷ []; stop = None }) 4 ≡ true)
listed = (refl, refl, refl)

stopped : (fails_at (record { calls = []; stop = Some 3 }) 2 ≡ false) × (fails_at (record { calls = []; stop = Some 3 }) 3 ≡ true) × (fails_at (record { calls = []; stop = Some 3 }) 4 ≡ true)
stopped = (refl, refl, refl)

unfailing : fails_at no_fault 1 ≡ false
unfailing = refl

-- A seal and a body: the seal was written, and byte 1 of the body, and neither is synced.
abbrev torn_view : Files
torn_view Seal = Some (1 ∷ 2 ∷ 3 ∷ [])
torn_view Body = Some (10 ∷ 20 ∷ 30 ∷ [])
torn_view id = None

abbrev torn : Moment
torn = record { view = torn_view; loose = Range Body 1 1 ∷ Whole Seal ∷ [] }

abbrev torn_history : History
torn_history = record { now = 0; past = λ m. torn }

-- the seal may be lost, with another byte in the body
abbrev lost : Files
lost Body = Some (10 ∷ 77 ∷ 30 ∷ [])
lost id = None

may_be_lost : IsImage torn lost
may_be_lost Seal firm = absurd (firm (inr (inl refl)))
may_be_lost Body firm = (10 ∷ 77 ∷ 30 ∷ [], refl, refl, at)
  where
    at : (k : ℕ) → k < 3 → (IsLooseAt (Range Body 1 1 ∷ Whole Seal ∷ []) Body k → ⊥) → slice_index (10 ∷ 77 ∷ 30 ∷ []) k ≡ slice_index (10 ∷ 20 ∷ 30 ∷ []) k
    at zero lt firm = refl
    at (suc zero) lt firm = absurd (firm (1, 1, inl refl, omega arith, omega arith))
    at (suc (suc zero)) lt firm = refl
    at (suc (suc (suc k))) lt firm = absurd (omega (arith, lt))
may_be_lost id firm = refl

-- but no byte of the body that isn't loose changes, and no file comes
abbrev changed : Files
changed Body = Some (11 ∷ 20 ∷ 30 ∷ [])
changed id = None

never_changed : IsImage torn changed → ⊥
never_changed image =
    let agrees = image Body not_whole in
    let left : agrees.0 ≡ 11 ∷ 20 ∷ 30 ∷ [] = some_same (sym agrees.1) in
    let is : ◌≡◌ {A = ℕ} 11 10 = ap (λ (l : List ℕ). slice_index l 0) (sym left) ∙ agrees.3 0 (omega arith) (λ at. first_firm at.0 at.1 at.2 at.3) in
    omega (arith, is)
  where
    not_whole : IsLoose (Range Body 1 1 ∷ Whole Seal ∷ []) (Whole Body) → ⊥
    not_whole (inl is) = cc
    not_whole (inr (inl is)) = cc
    not_whole (inr (inr none)) = none

    first_firm : (start len : ℕ) → IsLoose (Range Body 1 1 ∷ Whole Seal ∷ []) (Range Body start len) → start ≤ 0 → ⊥
    first_firm start len (inl is) le = let e : start ≡ 1 = cc in omega (arith, e, le)
    first_firm start len (inr (inl is)) le = cc
    first_firm start len (inr (inr none)) le = none

    some_same : {a b : List ℕ} → Some a ≡ Some b → a ≡ b
    some_same e = cc

-- what the picks leave of the seal
seal_goes : IsPicked 1 torn_history Seal (torn_view Seal) None
seal_goes = (λ loose. refl, λ firm. absurd (firm (inr (inl refl))))

seal_is_cut : IsPicked 2 torn_history Seal (torn_view Seal) (Some (1 ∷ []))
seal_is_cut = (λ loose. refl, λ firm. absurd (firm (inr (inl refl))))

-- and of a byte of the body
byte_turns : IsTurned torn_history Body 1 235
byte_turns = (λ loose. refl, λ firm. absurd (firm (1, 1, inl refl, omega arith, omega arith)))

-- a file is looked for, the body is written, and the seal is synced: no file is written but the body
written : OnlyWrites (λ q. q ≡ Body) [] (Synced Seal Done ∷ Wrote Body [] Done ∷ Measured Seal Absent ∷ [])
written = writing_call (writing_call (writing_call writing_none (Measured Seal Absent) tt) (Wrote Body [] Done) refl) (Synced Seal Done) tt

-- where the seal is written, this is not so
not_only : OnlyWrites (λ q. q ≡ Body) [] (Wrote Seal [] Done ∷ []) → ⊥
not_only writing = let is : Seal ≡ Body = All-head (IsOwnCall (λ q. q ≡ Body)) (Wrote Seal [] Done) [] (subst (All (IsOwnCall (λ q. q ≡ Body))) since writing.own) in cc
  where
    since : writing.since ≡ Wrote Seal [] Done ∷ []
    since = sym (append-nil writing.since) ∙ sym writing.made
