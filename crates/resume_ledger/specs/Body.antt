-- The bytes of a ledger's two files, by its version: the seal, and the body with a gate for each frame. All of it is this
-- project's own rule.
-- * seal, body, gates: the bytes of the ledger's files, well formed and a job's own
--     layout_of          what the versions differ in
--     closed_body         the body of a job without an acknowledged frame
--     IsWellFormed        a body of any job
--     IsOwn               a body of this job
--     record_of           what version 2 keeps of a frame's file
use Rattle.std.specs.Prelude.{◌≡◌, ℕ, ◌+◌, ◌*◌, ◌≤◌, List, [], ◌∷◌, ◌++◌, length, take, drop, replicate, codes}
use Rattle.std.specs.Int.{to_be_bytes}
use Rattle.std.proofs.Common.{w32}
use Rattle.cf_base.specs.declared.limits.TheConstants.{FRAMES}
use Rattle.cf_base.specs.declared.file.FileId.{FileId}
use Rattle.cf_base.specs.declared.file.FileId.TheVariants.{Seal, Body, Seal2, Body2}
use Rattle.resume_ledger.specs.declared.layout.Version.{Version}
use Rattle.resume_ledger.specs.declared.layout.Version.TheVariants.{One, Two}

-- Where a version has its two files, and what stands in them.
pub record Layout : Type 0 where
  pub seal : FileId
  pub body : FileId
  -- the whole content of the seal, and the first eight bytes of a body
  pub mark : List ℕ
  pub magic : List ℕ
  -- the byte of frame i's gate, the length of a body for so many frames, and the length of the longest
  pub gate : ℕ → ℕ
  pub size : ℕ → ℕ
  pub most : ℕ

-- After a head of 64 bytes version 1 has one byte for each frame, its gate. Version 2 has 33: the gate, and the frame's
-- record of 32 bytes. A seal is its text and a line feed; no body is for more frames than a reel has at most.
abbrev pub layout_of : Version → Layout
layout_of One = record {
  seal = Seal;
  body = Body;
  mark = codes "CONFORM SEAL 1" ++ 10 ∷ [];
  magic = codes "CFLEDGR1";
  gate = λ i. 64 + i;
  size = λ count. 64 + count;
  most = 64 + FRAMES;
}
layout_of Two = record {
  seal = Seal2;
  body = Body2;
  mark = codes "CONFORM SEAL 2" ++ 10 ∷ [];
  magic = codes "CFLEDGR2";
  gate = λ i. 64 + 33 * i;
  size = λ count. 64 + 33 * count;
  most = 64 + 33 * FRAMES;
}

-- 64 bytes: the magic, the job's digest, the number of frames with its high byte first, and 20 zeros
abbrev pub head_of : Layout → List ℕ → ℕ → List ℕ
head_of layout digest count = layout.magic ++ digest ++ to_be_bytes w32 count ++ replicate 20 0

-- the digest in a head: 32 bytes from byte 8 on
abbrev pub digest_of : List ℕ → List ℕ
digest_of body = take 32 (drop 8 body)

-- Its head fits its digest and its length, for at most 262,144 frames.
pub record IsWellFormed (layout : Layout) (body : List ℕ) : Type 0 where
  pub frames : ℕ
  pub size : length body ≡ layout.size frames
  pub no_longer : length body ≤ layout.most
  pub head : take 64 body ≡ head_of layout (digest_of body) frames

-- It is well formed, with this job's digest and number of frames.
pub record IsOwn (layout : Layout) (digest : List ℕ) (count : ℕ) (body : List ℕ) : Type 0 where
  pub well : IsWellFormed layout body
  pub job : digest_of body ≡ digest
  pub size : length body ≡ layout.size count

-- a body of version 2 in which every gate and record is 0
unfoldable pub closed_body : List ℕ → ℕ → List ℕ
closed_body digest count = head_of (layout_of Two) digest count ++ replicate (33 * count) 0

-- where the record of frame i stands in a body of version 2: behind its gate
abbrev pub record_place : ℕ → ℕ
record_place i = 65 + 33 * i

abbrev pub record_of : List ℕ → ℕ → List ℕ
record_of body i = take 32 (drop (record_place i) body)
