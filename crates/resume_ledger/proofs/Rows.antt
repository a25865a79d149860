-- Worked examples of the ledger's bytes and of what they acknowledge, each by computing the definition.
use Rattle.std.proofs.Common.{◌≡◌, ◌≢◌, refl, ap, ◌∙◌, codes, ℕ, arith, List, [], ◌∷◌, ◌++◌, length, get_or, replicate, set, take, drop}
use Rattle.std.specs.Prelude.{Some, None}
use Rattle.cf_base.specs.declared.file.FileId.TheVariants.{Seal, Body, Seal2, Body2}
use Rattle.reel_disk.specs.Disk.{Files}
use Rattle.resume_ledger.specs.declared.layout.Version.TheVariants.{One, Two}
use Rattle.resume_ledger.specs.Body.{layout_of, head_of, closed_body, digest_of, record_of, IsWellFormed, IsOwn}
use Rattle.resume_ledger.specs.Ledger.{Acks, IsInForce}
use Rattle.resume_ledger.proofs.Bodies.{closed_is_own}

the_first_seal : (layout_of One).mark ≡ 0x43 ∷ 0x4F ∷ 0x4E ∷ 0x46 ∷ 0x4F ∷ 0x52 ∷ 0x4D ∷ 0x20 ∷ 0x53 ∷ 0x45 ∷ 0x41 ∷ 0x4C ∷ 0x20 ∷ 0x31 ∷ 0x0A ∷ []
the_first_seal = refl

the_second_seal : (layout_of Two).mark ≡ 0x43 ∷ 0x4F ∷ 0x4E ∷ 0x46 ∷ 0x4F ∷ 0x52 ∷ 0x4D ∷ 0x20 ∷ 0x53 ∷ 0x45 ∷ 0x41 ∷ 0x4C ∷ 0x20 ∷ 0x32 ∷ 0x0A ∷ []
the_second_seal = refl

-- the number of frames stands at byte 40, its high byte first, and zeros from 44 to 63
head_24 : head_of (layout_of Two) (replicate 32 7) 24 ≡ codes "CFLEDGR2" ++ replicate 32 7 ++ (0 ∷ 0 ∷ 0 ∷ 24 ∷ []) ++ replicate 20 0
head_24 = refl

count_at_40 : take 4 (drop 40 (head_of (layout_of One) (replicate 32 7) 262144)) ≡ 0 ∷ 4 ∷ 0 ∷ 0 ∷ []
count_at_40 = refl

head_length : length (head_of (layout_of Two) (replicate 32 7) 24) ≡ 64
head_length = refl

-- the longest bodies, and where the gate of frame 2 and its record stand
longest_first : (layout_of One).size 262144 ≡ (layout_of One).most
longest_first = refl

longest_second : (layout_of Two).size 262144 ≡ (layout_of Two).most
longest_second = refl

gate_2 : (layout_of Two).gate 2 ≡ 130
gate_2 = refl

-- of two frames the second has the record of 32 times 9
body_2 : List ℕ
body_2 = head_of (layout_of Two) (replicate 32 7) 2 ++ replicate 33 0 ++ 0x41 ∷ replicate 32 9

record_1 : record_of body_2 1 ≡ replicate 32 9
unfolding body_2
record_1 = refl

record_0 : record_of body_2 0 ≡ replicate 32 0
unfolding body_2
record_0 = refl

-- the closed body of three frames
closed_3 : drop 64 (closed_body (replicate 32 7) 3) ≡ replicate 99 0
unfolding closed_body
closed_3 = refl

digest_in_body : digest_of (closed_body (replicate 32 7) 3) ≡ replicate 32 7
unfolding closed_body
digest_in_body = refl

-- two numbers that differ
apart_numbers : (a b : ℕ) → a ≢ b → a ≡ b → ⊥
apart_numbers a b other same = other same

-- a body of a head alone is well formed, for no frames
no_frames : IsWellFormed (layout_of One) (head_of (layout_of One) (replicate 32 7) 0)
no_frames = record { frames = 0; size = refl; no_longer = omega arith; head = refl }

three_frames : IsOwn (layout_of Two) (replicate 32 7) 3 (closed_body (replicate 32 7) 3)
three_frames = closed_is_own (replicate 32 7) 3 refl (omega arith)

-- 63 bytes are none
too_short : IsWellFormed (layout_of One) (take 63 (head_of (layout_of One) (replicate 32 7) 0)) → ⊥
too_short well = let size = well.size in omega arith

-- nor is one byte too many, by either version
one_too_many : IsWellFormed (layout_of One) (head_of (layout_of One) (replicate 32 7) 3 ++ replicate 4 0) → ⊥
one_too_many well =
    let size = well.size in
    let four : well.frames ≡ 4 = omega arith in
    apart_numbers 3 4 (omega arith) (ap (λ (l : List ℕ). get_or l 43 0) well.head ∙ ap (λ n. get_or (head_of (layout_of One) (replicate 32 7) n) 43 0) four)

no_record_is_cut : IsWellFormed (layout_of Two) (head_of (layout_of Two) (replicate 32 7) 1 ++ replicate 32 0) → ⊥
no_record_is_cut well = let size = well.size in omega arith

-- nor a byte other than zero from 44 to 63
no_zero_at_63 : IsWellFormed (layout_of One) (set (head_of (layout_of One) (replicate 32 7) 0) 63 1) → ⊥
no_zero_at_63 well = apart_numbers 1 0 (omega arith) (ap (λ (l : List ℕ). get_or l 63 0) well.head)

-- a folder with these two files of version 1
abbrev folder : List ℕ → List ℕ → Files
folder seal body Seal = Some seal
folder seal body Body = Some body
folder seal body other = None

abbrev gates_2 : List ℕ
gates_2 = head_of (layout_of One) (replicate 32 7) 2 ++ (0 ∷ 0x41 ∷ [])

-- of two frames the second is acknowledged, where the folder is sealed
one_of_two : Acks (replicate 32 7) 2 1 (folder (layout_of One).mark gates_2)
one_of_two = record {
  version = One;
  in_force = (λ second. cc, refl);
  has = record { body = gates_2; there = refl; own = record { well = record { frames = 2; size = refl; no_longer = omega arith; head = refl }; job = refl; size = refl } };
  within = omega arith;
  gate = refl;
}

-- by version 2, where both seals are there
abbrev both : Files
both Seal = Some (layout_of One).mark
both Body = Some gates_2
both Seal2 = Some (layout_of Two).mark
both Body2 = Some (closed_body (replicate 32 7) 2)
both other = None

second_counts : IsInForce Two both
second_counts = refl

first_counts_no_more : IsInForce One both → ⊥
first_counts_no_more first = first.0 refl
