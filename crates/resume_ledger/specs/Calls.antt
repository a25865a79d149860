-- Which calls on the disk the ledger makes, and what comes of their answers. It holds over every disk, and all of it is this
-- project's own rule.
-- * calls of the ledger: the calls of each step, from those before it to those behind it, the newest first, and what comes of
--   their answers: a read of another length than was told is no seal, and no well-formed body
--     PutsRecord, PutsGate      of a frame's record, and of its gate
--     Looks      of a look
--     Hashes, bytes_of      of a file that is hashed, and the bytes that its reads gave
use Rattle.std.specs.Prelude.{◌≡◌, ◌≢◌, ◌⊎◌, ℕ, ◌+◌, ◌*◌, ◌<◌, ◌≤◌, Bool, true, false, List, [], ◌∷◌, ◌++◌, length, take, Option, Some, None, Result, Ok, Err, IsErr, Vec}
use Rattle.std.specs.declared.alloc.Global.{Global}
use Rattle.cf_base.specs.declared.limits.TheConstants.{PIECE}
use Rattle.cf_base.specs.declared.file.FileId.{FileId}
use Rattle.cf_base.specs.declared.file.FileId.TheVariants.{Body2}
use Rattle.reel_disk.specs.declared.disk.Length as l
use Rattle.reel_disk.specs.declared.disk.Got as g
use Rattle.reel_disk.specs.declared.disk.Did as d
use Rattle.reel_disk.specs.declared.disk.DiskFault as failed
use Rattle.reel_disk.specs.Call.{Call, Measured, Read, Wrote, Patched, Synced}
use Rattle.resume_ledger.specs.declared.layout.Version.{Version}
use Rattle.resume_ledger.specs.declared.layout.Version.TheVariants.{One, Two}
use Rattle.resume_ledger.specs.declared.attach.OpenFault.{OpenFault}
use Rattle.resume_ledger.specs.declared.attach.OpenFault.TheVariants.{OtherJob, BadLedger, DiskFault, NoMemory}
use Rattle.resume_ledger.specs.Body.{layout_of}
use Rattle.resume_ledger.specs.Steps.{IsJudged, records_in}
use Rattle.sha2.specs.Sha256.{sha256}
use Rattle.resume_ledger.specs.Ledger.{LedgerState}
use Rattle.resume_ledger.specs.Look.{ViewState}

-- a write, and a sync of its file where the write was done
abbrev pub Puts : {A B : Type 0} → (d.Did → Call) → FileId → Result A B → (old new : List Call) → Type 0
Puts write id (Ok done) old new = new ≡ Synced id d.TheVariants.Done ∷ write d.TheVariants.Done ∷ old
Puts write id (Err fault) old new = (new ≡ write d.TheVariants.Failed ∷ old)
    ⊎ (new ≡ Synced id d.TheVariants.Failed ∷ write d.TheVariants.Done ∷ old)

-- a frame's record, and its gate
abbrev pub PutsRecord : {A B : Type 0} → ℕ → List ℕ → Result A B → (old new : List Call) → Type 0
PutsRecord i hash result old new = Puts (Patched Body2 (65 + 33 * i) hash) Body2 result old new

abbrev pub PutsGate : {A B : Type 0} → ℕ → Result A B → (old new : List Call) → Type 0
PutsGate i result old new = Puts (Patched Body2 (64 + 33 * i) (65 ∷ [])) Body2 result old new

-- A version's seal: its length and, where that is 15, a read of it. It is there where 15 bytes were read, and they are the mark.
abbrev pub SeeksSeal : Version → Result Bool failed.DiskFault → (old new : List Call) → Type 0
SeeksSeal version (Ok true) old new =
    new ≡ Read (layout_of version).seal 0 (layout_of version).mark (g.TheVariants.Bytes 15)
    ∷ Measured (layout_of version).seal (l.TheVariants.There 15) ∷ old
SeeksSeal version (Ok false) old new =
    ((len : l.Length) × (len ≢ l.TheVariants.There 15) × (len ≢ l.TheVariants.Failed)
    × (new ≡ Measured (layout_of version).seal len ∷ old))
    ⊎ ((into : List ℕ) × (got : g.Got) × (got ≡ g.TheVariants.Bytes 15 → into ≢ (layout_of version).mark) × (got ≢ g.TheVariants.Failed)
    × (new ≡ Read (layout_of version).seal 0 into got ∷ Measured (layout_of version).seal (l.TheVariants.There 15) ∷ old))
SeeksSeal version (Err fault) old new =
    (new ≡ Measured (layout_of version).seal l.TheVariants.Failed ∷ old)
    ⊎ ((into : List ℕ) × (new ≡ Read (layout_of version).seal 0 into g.TheVariants.Failed
    ∷ Measured (layout_of version).seal (l.TheVariants.There 15) ∷ old))

-- The version in force: the second seal and, where it isn't there, the first.
abbrev pub SeeksVersion : Result (Option Version) failed.DiskFault → (old new : List Call) → Type 0
SeeksVersion (Ok (Some Two)) old new = SeeksSeal Two (Ok true) old new
SeeksVersion (Ok (Some One)) old new = (mid : List Call) × SeeksSeal Two (Ok false) old mid × SeeksSeal One (Ok true) mid new
SeeksVersion (Ok None) old new = (mid : List Call) × SeeksSeal Two (Ok false) old mid × SeeksSeal One (Ok false) mid new
SeeksVersion (Err fault) old new = SeeksSeal Two (Err fault) old new
    ⊎ ((mid : List Call) × SeeksSeal Two (Ok false) old mid × SeeksSeal One (Err fault) mid new)

-- A version's body: its length and, where that isn't past the longest, a read of it, which gives as many bytes as were told.
abbrev pub LoadsBody : Version → Result (Vec ℕ Global) OpenFault → (old new : List Call) → Type 0
LoadsBody version (Ok body) old new =
    new ≡ Read (layout_of version).body 0 body.items (g.TheVariants.Bytes (length body.items))
    ∷ Measured (layout_of version).body (l.TheVariants.There (length body.items)) ∷ old
LoadsBody version (Err (OtherJob kept wanted)) old new = ⊥
LoadsBody version (Err (BadLedger len)) old new =
    ((len ≡ 0) × (new ≡ Measured (layout_of version).body l.TheVariants.Absent ∷ old))
    ⊎ ((((layout_of version).most < len) × (new ≡ Measured (layout_of version).body (l.TheVariants.There len) ∷ old))
    ⊎ ((into : List ℕ) × (got : g.Got) × (got ≢ g.TheVariants.Bytes len) × (got ≢ g.TheVariants.Failed)
    × (new ≡ Read (layout_of version).body 0 into got ∷ Measured (layout_of version).body (l.TheVariants.There len) ∷ old)))
LoadsBody version (Err DiskFault) old new =
    (new ≡ Measured (layout_of version).body l.TheVariants.Failed ∷ old)
    ⊎ ((len : ℕ) × (into : List ℕ) ×
    (new ≡ Read (layout_of version).body 0 into g.TheVariants.Failed ∷ Measured (layout_of version).body (l.TheVariants.There len) ∷ old))
LoadsBody version (Err NoMemory) old new = (len : ℕ) × (new ≡ Measured (layout_of version).body (l.TheVariants.There len) ∷ old)

-- The look of a folder that is sealed by this version: its body, and the view or the refusal that the bytes read give.
abbrev pub LooksSealed : Version → List ℕ → ℕ → Result ViewState OpenFault → (old new : List Call) → Type 0
LooksSealed version digest count (Ok view) old new =
    (body : Vec ℕ Global) × LoadsBody version (Ok body) old new
    × ((gates : Vec Bool Global) × IsJudged (layout_of version) digest count body.items (Ok gates)
    × (view ≡ record { gates = gates.items; body = records_in version body.items }))
LooksSealed version digest count (Err fault) old new =
    LoadsBody version (Err fault) old new
    ⊎ ((body : Vec ℕ Global) × LoadsBody version (Ok body) old new × IsJudged (layout_of version) digest count body.items (Err fault))

-- no version is in force: nothing is acknowledged
abbrev pub LooksUnsealed : ℕ → Result ViewState OpenFault → Type 0
LooksUnsealed count (Ok view) = (length view.gates ≡ count) × (view.body ≡ None)
LooksUnsealed count (Err fault) = fault ≡ NoMemory

-- A look: the version in force and, where there is one, its body.
abbrev pub Looks : List ℕ → ℕ → Result ViewState OpenFault → (old new : List Call) → Type 0
Looks digest count result old new =
    ((version : Version) × (mid : List Call) × SeeksVersion (Ok (Some version)) old mid × LooksSealed version digest count result mid new)
    ⊎ ((SeeksVersion (Ok None) old new × LooksUnsealed count result)
    ⊎ ((result ≡ Err DiskFault) × ((fault : failed.DiskFault) × SeeksVersion (Err fault) old new)))

-- Reads of a file one after another, the newest first: how many bytes each gave, and the buffer behind it. The bytes that they
-- gave, and the calls.
abbrev pub bytes_of : List (ℕ × List ℕ) → List ℕ
bytes_of [] = []
bytes_of (p ∷ pieces) = bytes_of pieces ++ take p.0 p.1

abbrev pub reads_of : FileId → List (ℕ × List ℕ) → List Call → List Call
reads_of id [] old = old
reads_of id (p ∷ pieces) old = Read id (length (bytes_of pieces)) p.1 (g.TheVariants.Bytes p.0) ∷ reads_of id pieces old

-- Each asked for 65,536 bytes, began before the end, and gave more than none.
abbrev pub ArePieces : ℕ → List (ℕ × List ℕ) → Type 0
ArePieces size [] = Unit {0}
ArePieces size (p ∷ pieces) = ArePieces size pieces × (length (bytes_of pieces) < size) × (0 < p.0) × (length p.1 ≡ PIECE)

-- The file was read to its end of so many bytes, and this is the SHA-256 of what those reads gave; or one of them gave nothing.
abbrev pub ReadsHash : FileId → ℕ → Option (List ℕ) → (old new : List Call) → Type 0
ReadsHash id size (Some hash) old new =
    (pieces : List (ℕ × List ℕ)) × (size ≤ length (bytes_of pieces)) × (hash ≡ sha256 (bytes_of pieces))
    × (new ≡ reads_of id pieces old) × ArePieces size pieces
ReadsHash id size None old new =
    (pieces : List (ℕ × List ℕ)) × (into : List ℕ) × (got : g.Got) × (got ≢ g.TheVariants.Failed)
    × (new ≡ Read id (length (bytes_of pieces)) into got ∷ reads_of id pieces old) × ArePieces size pieces

-- its length, and then its reads, where it is so long
abbrev pub Hashes : FileId → ℕ → Option (List ℕ) → (old new : List Call) → Type 0
Hashes id size hash old new =
    ReadsHash id size hash (Measured id (l.TheVariants.There size) ∷ old) new
    ⊎ ((len : l.Length) × (len ≢ l.TheVariants.There size) × (len ≢ l.TheVariants.Failed) × (hash ≡ None) × (new ≡ Measured id len ∷ old))

-- A version's seal, and its body, behind a sync of it.
abbrev pub SyncsSeal : Version → Result Bool failed.DiskFault → (old new : List Call) → Type 0
SyncsSeal version (Ok there) old new = SeeksSeal version (Ok there) (Synced (layout_of version).seal d.TheVariants.Done ∷ old) new
SyncsSeal version (Err fault) old new =
    (new ≡ Synced (layout_of version).seal d.TheVariants.Failed ∷ old)
    ⊎ SeeksSeal version (Err fault) (Synced (layout_of version).seal d.TheVariants.Done ∷ old) new

abbrev pub SyncsBody : Version → Result (Vec ℕ Global) OpenFault → (old new : List Call) → Type 0
SyncsBody version result old new =
    LoadsBody version result (Synced (layout_of version).body d.TheVariants.Done ∷ old) new
    ⊎ ((result ≡ Err DiskFault) × (new ≡ Synced (layout_of version).body d.TheVariants.Failed ∷ old))

-- the opening of a folder that is sealed by version 2, behind its seal
abbrev pub OpensSealed : List ℕ → ℕ → Result LedgerState OpenFault → (old new : List Call) → Type 0
OpensSealed digest count (Ok ledger) old new =
    (body : Vec ℕ Global) × SyncsBody Two (Ok body) old new
    × ((gates : Vec Bool Global) × IsJudged (layout_of Two) digest count body.items (Ok gates)
    × (ledger ≡ record { digest = digest; gates = gates.items; closed = false }))
OpensSealed digest count (Err fault) old new =
    SyncsBody Two (Err fault) old new
    ⊎ ((body : Vec ℕ Global) × SyncsBody Two (Ok body) old new × IsJudged (layout_of Two) digest count body.items (Err fault))

-- version 2 is put in force: its body, and then its seal
abbrev pub Begins : {A B : Type 0} → List ℕ → Result A B → (old new : List Call) → Type 0
Begins body result old new =
    Puts (Wrote (layout_of Two).seal (layout_of Two).mark) (layout_of Two).seal result
    (Synced Body2 d.TheVariants.Done ∷ Wrote Body2 body d.TheVariants.Done ∷ old) new
    ⊎ (IsErr result × Puts (Wrote Body2 body) Body2 result old new)
