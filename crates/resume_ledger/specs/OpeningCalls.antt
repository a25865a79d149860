-- Which calls on the disk an opening makes, in their order, and what comes of their answers. It holds over every disk, and all of
-- it is this project's own rule.
-- * calls of an opening: the second seal, its body and nothing written, where it is there; else what is read of version 1, and then
--   the second body and the second seal, each with a sync
--     Attaches      an opening
--     FreshCalls, FirstCalls, SecondCalls      one of a fresh folder, of one of version 1, and of version 2
--     Peeks      a peek
--     Digests      the digest of a file of any length
use Rattle.std.specs.Prelude.{◌≡◌, ◌⊎◌, ℕ, zero, suc, ◌<◌, Bool, true, false, List, [], ◌∷◌, length, slice_index, slice_index_or, Option, Some, None, Result, Ok, Err, Vec, count_by}
use Rattle.std.specs.declared.alloc.Global.{Global}
use Rattle.cf_base.specs.declared.file.FileId.{FileId}
use Rattle.cf_base.specs.declared.file.FileId.TheVariants.{Seal, Seal2, Body2}
use Rattle.reel_disk.specs.declared.disk.Length as l
use Rattle.reel_disk.specs.declared.disk.Got as g
use Rattle.reel_disk.specs.declared.disk.Did as d
use Rattle.reel_disk.specs.declared.disk.DiskFault as failed
use Rattle.reel_disk.specs.Call.{Call, Measured, Read, Wrote, Synced}
use Rattle.resume_ledger.specs.declared.layout.Version.{Version}
use Rattle.resume_ledger.specs.declared.layout.Version.TheVariants.{One, Two}
use Rattle.resume_ledger.specs.declared.attach.OpenFault.{OpenFault}
use Rattle.resume_ledger.specs.declared.attach.OpenFault.TheVariants.{DiskFault, NoMemory}
use Rattle.resume_ledger.specs.Body.{layout_of, closed_body, record_of}
use Rattle.resume_ledger.specs.Ledger.{LedgerState, AreGatesOf}
use Rattle.resume_ledger.specs.Look.{ViewState}
use Rattle.resume_ledger.specs.Sound.{file_at}
use Rattle.resume_ledger.specs.Steps.{IsJudged, OthersKept}
use Rattle.resume_ledger.specs.Calls.{SyncsSeal, SyncsBody, OpensSealed, Hashes, ReadsHash, Looks, bytes_of, reads_of, ArePieces}
use Rattle.sha2.specs.Sha256.{sha256}

-- a read of a file failed, behind others that gave something; or its length did
abbrev pub FailsReads : FileId → ℕ → (old new : List Call) → Type 0
FailsReads id size old new =
    (pieces : List (ℕ × List ℕ)) × (into : List ℕ)
    × (new ≡ Read id (length (bytes_of pieces)) into g.TheVariants.Failed ∷ reads_of id pieces old) × ArePieces size pieces

abbrev pub FailsHash : FileId → ℕ → (old new : List Call) → Type 0
FailsHash id size old new = (new ≡ Measured id l.TheVariants.Failed ∷ old)
    ⊎ FailsReads id size (Measured id (l.TheVariants.There size) ∷ old) new

-- the gate of frame i is open in a body, with this record; all others are as they were
pub record SetsRecord (hash : List ℕ) (i : ℕ) (before after : List ℕ) : Type 0 where
  pub gate : slice_index after ((layout_of Two).gate i) ≡ 65
  pub hash_is : record_of after i ≡ hash
  pub others : OthersKept before after i

-- what comes of a frame's file: the SHA-256 of what was read becomes its record; a lost or a cut one leaves the gate closed
abbrev pub Notes : Option (List ℕ) → ℕ → (before after : List ℕ) → Type 0
Notes (Some hash) i before after = SetsRecord hash i before after
Notes None i before after = after ≡ before

-- Frame i of a folder of version 1, from one body to the next: where it is done, the length of its file and, where that is a
-- frame's, reads to its end. Where it isn't, no call.
abbrev pub TakesFrame : Bool → FileId → ℕ → ℕ → (before after : List ℕ) → (old new : List Call) → Type 0
TakesFrame true id size i before after old new = (hash : Option (List ℕ)) × Hashes id size hash old new × Notes hash i before after
TakesFrame false id size i before after old new = (after ≡ before) × (new ≡ old)

-- the first so many frames in their order
abbrev pub TakesFrames : List Bool → (ℕ → FileId) → ℕ → (many : ℕ) → (before after : List ℕ) → (old new : List Call) → Type 0
TakesFrames gates name size zero before after old new = (after ≡ before) × (new ≡ old)
TakesFrames gates name size (suc i) before after old new =
    (body : List ℕ) × (mid : List Call) × TakesFrames gates name size i before body old mid
    × TakesFrame (slice_index_or gates i false) (name i) size i body after mid new

-- the file of one of them failed, behind those before it
abbrev pub FailsFrames : List Bool → (ℕ → FileId) → ℕ → ℕ → List ℕ → (old new : List Call) → Type 0
FailsFrames gates name size count before old new =
    (i : ℕ) × (body : List ℕ) × (mid : List Call) × (i < count) × (slice_index_or gates i false ≡ true)
    × TakesFrames gates name size i before body old mid × FailsHash (name i) size mid new

-- the gates of the body of version 1, behind a sync of it, or why it isn't the job's
abbrev pub AcksBefore : List ℕ → ℕ → Result (Vec Bool Global) OpenFault → (old new : List Call) → Type 0
AcksBefore digest count (Ok gates) old new =
    (body : Vec ℕ Global) × SyncsBody One (Ok body) old new × IsJudged (layout_of One) digest count body.items (Ok gates)
AcksBefore digest count (Err fault) old new =
    SyncsBody One (Err fault) old new
    ⊎ ((body : Vec ℕ Global) × SyncsBody One (Ok body) old new × IsJudged (layout_of One) digest count body.items (Err fault))

-- a folder of version 1 behind its seal: its body, and then the files of the frames that are done
abbrev pub Takes : List ℕ → ℕ → (ℕ → FileId) → ℕ → Result (Vec ℕ Global) OpenFault → (old new : List Call) → Type 0
Takes digest count name size (Ok body) old new =
    (gates : Vec Bool Global) × (mid : List Call) × AcksBefore digest count (Ok gates) old mid
    × TakesFrames gates.items name size count (closed_body digest count) body.items mid new
Takes digest count name size (Err fault) old new =
    AcksBefore digest count (Err fault) old new
    ⊎ ((gates : Vec Bool Global) × (mid : List Call) × AcksBefore digest count (Ok gates) old mid
    × (((fault ≡ NoMemory) × (new ≡ mid))
    ⊎ ((fault ≡ DiskFault) × FailsFrames gates.items name size count (closed_body digest count) mid new)))

-- the body that version 2 begins with: of version 1 where its seal is there, and the closed one where it isn't
abbrev pub ReadsFirst : List ℕ → ℕ → (ℕ → FileId) → ℕ → Result (Vec ℕ Global) OpenFault → (old new : List Call) → Type 0
ReadsFirst digest count name size (Ok body) old new =
    ((mid : List Call) × SyncsSeal One (Ok true) old mid × Takes digest count name size (Ok body) mid new)
    ⊎ ((body.items ≡ closed_body digest count) × SyncsSeal One (Ok false) old new)
ReadsFirst digest count name size (Err fault) old new =
    ((mid : List Call) × SyncsSeal One (Ok true) old mid × Takes digest count name size (Err fault) mid new)
    ⊎ (((fault ≡ DiskFault) × ((bad : failed.DiskFault) × SyncsSeal One (Err bad) old new))
    ⊎ ((fault ≡ NoMemory) × (new ≡ old)))

-- the last four calls: the whole second body, its sync, the second seal, its sync
abbrev pub HasBegun : List ℕ → (old new : List Call) → Type 0
HasBegun body old new =
    new ≡ Synced Seal2 d.TheVariants.Done ∷ Wrote Seal2 (layout_of Two).mark d.TheVariants.Done ∷ Synced Body2 d.TheVariants.Done
    ∷ Wrote Body2 body d.TheVariants.Done ∷ old

-- one of them failed
abbrev pub FailsBegin : List ℕ → (old new : List Call) → Type 0
FailsBegin body old new =
    (new ≡ Wrote Body2 body d.TheVariants.Failed ∷ old)
    ⊎ ((new ≡ Synced Body2 d.TheVariants.Failed ∷ Wrote Body2 body d.TheVariants.Done ∷ old)
    ⊎ ((new ≡ Wrote Seal2 (layout_of Two).mark d.TheVariants.Failed ∷ Synced Body2 d.TheVariants.Done
    ∷ Wrote Body2 body d.TheVariants.Done ∷ old)
    ⊎ (new ≡ Synced Seal2 d.TheVariants.Failed ∷ Wrote Seal2 (layout_of Two).mark d.TheVariants.Done
    ∷ Synced Body2 d.TheVariants.Done ∷ Wrote Body2 body d.TheVariants.Done ∷ old)))

-- an open ledger, with the gates of this body
abbrev pub IsOpenBy : List ℕ → ℕ → List ℕ → LedgerState → Type 0
IsOpenBy digest count body ledger = (ledger.digest ≡ digest) × (ledger.closed ≡ false)
    × AreGatesOf (layout_of Two) body count ledger.gates

-- A folder without the seal of version 2: what is read, and then the second body, its sync, the second seal, its sync.
abbrev pub OpensOlder : List ℕ → ℕ → (ℕ → FileId) → ℕ → Result LedgerState OpenFault → (old new : List Call) → Type 0
OpensOlder digest count name size (Ok ledger) old new =
    (body : Vec ℕ Global) × (mid : List Call) × ReadsFirst digest count name size (Ok body) old mid
    × IsOpenBy digest count body.items ledger
    × HasBegun body.items mid new
OpensOlder digest count name size (Err fault) old new =
    ReadsFirst digest count name size (Err fault) old new
    ⊎ (((fault ≡ NoMemory) × ((body : Vec ℕ Global) × ReadsFirst digest count name size (Ok body) old new))
    ⊎ ((fault ≡ DiskFault) × ((body : Vec ℕ Global) × (mid : List Call) × ReadsFirst digest count name size (Ok body) old mid
    × FailsBegin body.items mid new)))

-- An opening: the second seal behind a sync of it, and then by what it is.
abbrev pub Attaches : List ℕ → List FileId → ℕ → Result LedgerState OpenFault → (old new : List Call) → Type 0
Attaches digest files size result old new =
    ((mid : List Call) × SyncsSeal Two (Ok true) old mid × OpensSealed digest (length files) result mid new)
    ⊎ (((mid : List Call) × SyncsSeal Two (Ok false) old mid × OpensOlder digest (length files) (file_at files) size result mid new)
    ⊎ ((result ≡ Err DiskFault) × ((bad : failed.DiskFault) × SyncsSeal Two (Err bad) old new)))

-- The calls of an opening that succeeds, over a disk that tells. A fresh folder, which has neither seal: eight. The steps to it
-- are of a seal that is absent, and of what is made behind the second seal.
abbrev pub FindsNone : Version → (old new : List Call) → Type 0
FindsNone version old new = new ≡ Measured (layout_of version).seal l.TheVariants.Absent
    ∷ Synced (layout_of version).seal d.TheVariants.Done ∷ old

abbrev pub MakesFresh : List ℕ → ℕ → (old new : List Call) → Type 0
MakesFresh digest count old new = HasBegun (closed_body digest count)
    (Measured Seal l.TheVariants.Absent ∷ Synced Seal d.TheVariants.Done ∷ old) new

abbrev pub FreshCalls : List ℕ → ℕ → (old new : List Call) → Type 0
FreshCalls digest count old new = MakesFresh digest count
    (Measured Seal2 l.TheVariants.Absent ∷ Synced Seal2 d.TheVariants.Done ∷ old) new

-- One of version 1: the second seal isn't there, the first is, its body and the files of its frames are read, and then four.
abbrev pub TakesFirst : List ℕ → ℕ → (ℕ → FileId) → ℕ → List ℕ → (old new : List Call) → Type 0
TakesFirst digest count name size bytes old new =
    (behind : List Call) × (body : Vec ℕ Global) × (bytes ≡ body.items) × SyncsSeal One (Ok true) old behind
    × Takes digest count name size (Ok body) behind new

abbrev pub TakesOverCalls : List ℕ → ℕ → (ℕ → FileId) → ℕ → (old new : List Call) → Type 0
TakesOverCalls digest count name size old new = (mid : List Call) × (body : List ℕ)
    × TakesFirst digest count name size body old mid × HasBegun body mid new

abbrev pub FirstCalls : List ℕ → List FileId → ℕ → (old new : List Call) → Type 0
FirstCalls digest files size old new = (mid : List Call) × SyncsSeal Two (Ok false) old mid
    × TakesOverCalls digest (length files) (file_at files) size mid new

-- One of version 2: six.
abbrev pub SecondCalls : (old new : List Call) → Type 0
SecondCalls old new = (body : List ℕ)
    × (new ≡ Read Body2 0 body (g.TheVariants.Bytes (length body)) ∷ Measured Body2 (l.TheVariants.There (length body))
    ∷ Synced Body2 d.TheVariants.Done
    ∷ Read Seal2 0 (layout_of Two).mark (g.TheVariants.Bytes 15) ∷ Measured Seal2 (l.TheVariants.There 15)
    ∷ Synced Seal2 d.TheVariants.Done ∷ old)

-- A peek: a look, and the number of its open gates.
abbrev pub Peeks : List ℕ → ℕ → Result ℕ OpenFault → (old new : List Call) → Type 0
Peeks digest count (Ok acked) old new = (view : ViewState) × Looks digest count (Ok view) old new
    × (acked ≡ count_by (λ gate. gate) view.gates)
Peeks digest count (Err fault) old new = Looks digest count (Err fault) old new

-- A file of any length, and the SHA-256 of what its reads gave: of no bytes where it is absent, or one of them gave nothing.
abbrev pub Digests : FileId → List ℕ → (old new : List Call) → Type 0
Digests id digest old new =
    ((len : ℕ) × ReadsHash id len (Some digest) (Measured id (l.TheVariants.There len) ∷ old) new)
    ⊎ ((digest ≡ sha256 []) × ((new ≡ Measured id l.TheVariants.Absent ∷ old)
    ⊎ ((len : ℕ) × ReadsHash id len None (Measured id (l.TheVariants.There len) ∷ old) new)))

-- its length failed, or one of its reads
abbrev pub FailsDigest : FileId → (old new : List Call) → Type 0
FailsDigest id old new = (len : ℕ) × FailsHash id len old new
