-- Which files the calls of the ledger write.
--     seal_none      a version's seal, behind a sync of it: none
--     sealed_none      an opening behind the second seal: none
--     older_own      an opening where that isn't there: none where it is refused or no memory was left, else those of version 2
use Rattle.std.proofs.Common.{◌≡◌, inl, inr, ℕ, zero, suc, Bool, true, false, List, [], ◌∷◌, refl, sym, ◌∙◌, ap, subst}
use Rattle.std.specs.Prelude.{Option, Some, None, Result, Ok, Err, Vec, slice_index_or}
use Rattle.std.specs.declared.alloc.Global.{Global}
use Rattle.cf_base.specs.declared.file.FileId.{FileId}
use Rattle.cf_base.specs.declared.file.FileId.TheVariants.{Seal2, Body2}
use Rattle.reel_disk.specs.declared.disk.Did.{Did}
use Rattle.reel_disk.specs.declared.disk.Did.TheVariants.{Done, Failed}
use Rattle.reel_disk.specs.declared.disk.DiskFault as failed
use Rattle.reel_disk.specs.Call.{Call, Wrote, Synced, OnlyWrites, writes_in}
use Rattle.reel_disk.proofs.Writing.{writing_none, writing_reads, writing_once, writing_call, writing_then}
use Rattle.resume_ledger.specs.declared.layout.Version.{Version}
use Rattle.resume_ledger.specs.declared.layout.Version.TheVariants.{One, Two}
use Rattle.resume_ledger.specs.declared.attach.OpenFault.{OpenFault}
use Rattle.resume_ledger.specs.declared.attach.OpenFault.TheVariants.{OtherJob, BadLedger, DiskFault, NoMemory}
use Rattle.resume_ledger.specs.Attach.{OpeningMayWrite}
use Rattle.resume_ledger.specs.Body.{layout_of, closed_body}
use Rattle.resume_ledger.specs.Calls.{SeeksSeal, LoadsBody, SyncsSeal, SyncsBody, OpensSealed, ReadsHash, Hashes, reads_of}
use Rattle.resume_ledger.specs.Ledger.{LedgerState, IsWrittenLedgerFile}
use Rattle.resume_ledger.specs.OpeningCalls.{FailsHash, TakesFrame, TakesFrames, FailsFrames, AcksBefore, Takes, ReadsFirst, HasBegun, FailsBegin, OpensOlder}

pieces_read : (id : FileId) (pieces : List (ℕ × List ℕ)) (old : List Call) → writes_in (reads_of id pieces old) ≡ writes_in old
pieces_read id [] old = refl
pieces_read id (p ∷ pieces) old = pieces_read id pieces old

-- what syncs and reads alone writes none, whichever may be written
module _ {May : FileId → Type 0} where
  seeks_seal : (version : Version) (result : Result Bool failed.DiskFault) (old new : List Call) → SeeksSeal version result old new → OnlyWrites May old new
  seeks_seal version (Ok true) old new is = writing_reads (ap writes_in is)
  seeks_seal version (Ok false) old new (inl (len, other, sure, is)) = writing_reads (ap writes_in is)
  seeks_seal version (Ok false) old new (inr (into, got, other, sure, is)) = writing_reads (ap writes_in is)
  seeks_seal version (Err fault) old new (inl is) = writing_reads (ap writes_in is)
  seeks_seal version (Err fault) old new (inr (into, is)) = writing_reads (ap writes_in is)

  loads_body : (version : Version) (result : Result (Vec ℕ Global) OpenFault) (old new : List Call) → LoadsBody version result old new → OnlyWrites May old new
  loads_body version (Ok body) old new is = writing_reads (ap writes_in is)
  loads_body version (Err (OtherJob kept wanted)) old new is = absurd is
  loads_body version (Err (BadLedger len)) old new (inl (none, is)) = writing_reads (ap writes_in is)
  loads_body version (Err (BadLedger len)) old new (inr (inl (far, is))) = writing_reads (ap writes_in is)
  loads_body version (Err (BadLedger len)) old new (inr (inr (into, got, other, sure, is))) = writing_reads (ap writes_in is)
  loads_body version (Err DiskFault) old new (inl is) = writing_reads (ap writes_in is)
  loads_body version (Err DiskFault) old new (inr (len, into, is)) = writing_reads (ap writes_in is)
  loads_body version (Err NoMemory) old new (len, is) = writing_reads (ap writes_in is)

  pub seal_none : (version : Version) (result : Result Bool failed.DiskFault) (old new : List Call) → SyncsSeal version result old new → OnlyWrites May old new
  seal_none version (Ok there) old new seeks = writing_then (writing_once refl tt) (seeks_seal version (Ok there) _ new seeks)
  seal_none version (Err fault) old new (inl is) = writing_once is tt
  seal_none version (Err fault) old new (inr seeks) = writing_then (writing_once refl tt) (seeks_seal version (Err fault) _ new seeks)

  syncs_body : (version : Version) (result : Result (Vec ℕ Global) OpenFault) (old new : List Call) → SyncsBody version result old new → OnlyWrites May old new
  syncs_body version result old new (inl loads) = writing_then (writing_once refl tt) (loads_body version result _ new loads)
  syncs_body version result old new (inr (fault, is)) = writing_once is tt

  pub sealed_none : (digest : List ℕ) (count : ℕ) (result : Result LedgerState OpenFault) (old new : List Call) → OpensSealed digest count result old new → OnlyWrites May old new
  sealed_none digest count (Ok ledger) old new (body, syncs, judged) = syncs_body Two (Ok body) old new syncs
  sealed_none digest count (Err fault) old new (inl syncs) = syncs_body Two (Err fault) old new syncs
  sealed_none digest count (Err fault) old new (inr (body, syncs, judged)) = syncs_body Two (Ok body) old new syncs

  reads_hash : (id : FileId) (size : ℕ) (hash : Option (List ℕ)) (old new : List Call) → ReadsHash id size hash old new → OnlyWrites May old new
  reads_hash id size (Some hash) old new (pieces, all, hashed, is, are) = writing_reads (ap writes_in is ∙ pieces_read id pieces old)
  reads_hash id size None old new (pieces, into, got, sure, is, are) = writing_reads (ap writes_in is ∙ pieces_read id pieces old)

  hashes : (id : FileId) (size : ℕ) (hash : Option (List ℕ)) (old new : List Call) → Hashes id size hash old new → OnlyWrites May old new
  hashes id size hash old new (inl reads) = writing_then (writing_once refl tt) (reads_hash id size hash _ new reads)
  hashes id size hash old new (inr (len, other, sure, none, is)) = writing_reads (ap writes_in is)

  fails_hash : (id : FileId) (size : ℕ) (old new : List Call) → FailsHash id size old new → OnlyWrites May old new
  fails_hash id size old new (inl is) = writing_reads (ap writes_in is)
  fails_hash id size old new (inr (pieces, into, is, are)) = writing_reads (ap writes_in is ∙ pieces_read id pieces _)

  takes_frame : (gate : Bool) (id : FileId) (size i : ℕ) (before after : List ℕ) (old new : List Call) → TakesFrame gate id size i before after old new → OnlyWrites May old new
  takes_frame true id size i before after old new (hash, reads, notes) = hashes id size hash old new reads
  takes_frame false id size i before after old new (same, is) = writing_reads (ap writes_in is)

  module _ (gates : List Bool) (name : ℕ → FileId) (size : ℕ) where
    takes_frames : (many : ℕ) (before after : List ℕ) (old new : List Call) → TakesFrames gates name size many before after old new → OnlyWrites May old new
    takes_frames zero before after old new (same, is) = writing_reads (ap writes_in is)
    takes_frames (suc i) before after old new (body, mid, those, this) =
        writing_then (takes_frames i before body old mid those) (takes_frame (slice_index_or gates i false) (name i) size i body after mid new this)

    fails_frames : (count : ℕ) (before : List ℕ) (old new : List Call) → FailsFrames gates name size count before old new → OnlyWrites May old new
    fails_frames count before old new (i, body, mid, within, done, those, fails) = writing_then (takes_frames i before body old mid those) (fails_hash (name i) size mid new fails)

  acks_before : (digest : List ℕ) (count : ℕ) (result : Result (Vec Bool Global) OpenFault) (old new : List Call) → AcksBefore digest count result old new → OnlyWrites May old new
  acks_before digest count (Ok gates) old new (body, syncs, judged) = syncs_body One (Ok body) old new syncs
  acks_before digest count (Err fault) old new (inl syncs) = syncs_body One (Err fault) old new syncs
  acks_before digest count (Err fault) old new (inr (body, syncs, judged)) = syncs_body One (Ok body) old new syncs

  module _ (digest : List ℕ) (count : ℕ) (name : ℕ → FileId) (size : ℕ) where
    takes : (result : Result (Vec ℕ Global) OpenFault) (old new : List Call) → Takes digest count name size result old new → OnlyWrites May old new
    takes (Ok body) old new (gates, mid, acks, those) =
        writing_then (acks_before digest count (Ok gates) old mid acks) (takes_frames gates.items name size count (closed_body digest count) body.items mid new those)
    takes (Err fault) old new (inl acks) = acks_before digest count (Err fault) old new acks
    takes (Err fault) old new (inr (gates, mid, acks, inl (memory, is))) = writing_then (acks_before digest count (Ok gates) old mid acks) (writing_reads (ap writes_in is))
    takes (Err fault) old new (inr (gates, mid, acks, inr (disk, fails))) =
        writing_then (acks_before digest count (Ok gates) old mid acks) (fails_frames gates.items name size count (closed_body digest count) mid new fails)

    reads_first : (result : Result (Vec ℕ Global) OpenFault) (old new : List Call) → ReadsFirst digest count name size result old new → OnlyWrites May old new
    reads_first (Ok body) old new (inl (mid, seal, taken)) = writing_then (seal_none One (Ok true) old mid seal) (takes (Ok body) mid new taken)
    reads_first (Ok body) old new (inr (closed, seal)) = seal_none One (Ok false) old new seal
    reads_first (Err fault) old new (inl (mid, seal, taken)) = writing_then (seal_none One (Ok true) old mid seal) (takes (Err fault) mid new taken)
    reads_first (Err fault) old new (inr (inl (disk, (bad, seal)))) = seal_none One (Err bad) old new seal
    reads_first (Err fault) old new (inr (inr (memory, is))) = writing_reads (ap writes_in is)

-- version 2 is put in force
module _ (body : List ℕ) (old : List Call) where
  body_written : (did : Did) → OnlyWrites IsWrittenLedgerFile old (Wrote Body2 body did ∷ old)
  body_written did = writing_call writing_none (Wrote Body2 body did) (inr refl)

  body_synced : (did : Did) → OnlyWrites IsWrittenLedgerFile old (Synced Body2 did ∷ Wrote Body2 body Done ∷ old)
  body_synced did = writing_call (body_written Done) (Synced Body2 did) tt

  seal_written : (did : Did) → OnlyWrites IsWrittenLedgerFile old (Wrote Seal2 (layout_of Two).mark did ∷ Synced Body2 Done ∷ Wrote Body2 body Done ∷ old)
  seal_written did = writing_call (body_synced Done) (Wrote Seal2 (layout_of Two).mark did) (inl refl)

  seal_synced : (did : Did) → OnlyWrites IsWrittenLedgerFile old (Synced Seal2 did ∷ Wrote Seal2 (layout_of Two).mark Done ∷ Synced Body2 Done ∷ Wrote Body2 body Done ∷ old)
  seal_synced did = writing_call (seal_written Done) (Synced Seal2 did) tt

  has_begun : (new : List Call) → HasBegun body old new → OnlyWrites IsWrittenLedgerFile old new
  has_begun new is = subst (OnlyWrites IsWrittenLedgerFile old) (sym is) (seal_synced Done)

  fails_begin : (new : List Call) → FailsBegin body old new → OnlyWrites IsWrittenLedgerFile old new
  fails_begin new (inl is) = subst (OnlyWrites IsWrittenLedgerFile old) (sym is) (body_written Failed)
  fails_begin new (inr (inl is)) = subst (OnlyWrites IsWrittenLedgerFile old) (sym is) (body_synced Failed)
  fails_begin new (inr (inr (inl is))) = subst (OnlyWrites IsWrittenLedgerFile old) (sym is) (seal_written Failed)
  fails_begin new (inr (inr (inr is))) = subst (OnlyWrites IsWrittenLedgerFile old) (sym is) (seal_synced Failed)

-- the opening of a folder without the second seal
module _ (digest : List ℕ) (count : ℕ) (name : ℕ → FileId) (size : ℕ) where
  failed_own : (fault : OpenFault) (old new : List Call) → fault ≡ DiskFault → OnlyWrites IsWrittenLedgerFile old new → OnlyWrites (OpeningMayWrite (Err fault)) old new
  failed_own fault old new is = subst (λ (f : OpenFault). OnlyWrites (OpeningMayWrite (Err f)) old new) (sym is)

  pub older_own : (result : Result LedgerState OpenFault) (old new : List Call) → OpensOlder digest count name size result old new → OnlyWrites (OpeningMayWrite result) old new
  older_own (Ok ledger) old new (body, mid, reads, open_by, begun) = writing_then (reads_first digest count name size (Ok body) old mid reads) (has_begun body.items mid new begun)
  older_own (Err fault) old new (inl reads) = reads_first digest count name size (Err fault) old new reads
  older_own (Err fault) old new (inr (inl (memory, (body, reads)))) = reads_first digest count name size (Ok body) old new reads
  older_own (Err fault) old new (inr (inr (disk, (body, mid, reads, fails)))) =
      failed_own fault old new disk (writing_then (reads_first digest count name size (Ok body) old mid reads) (fails_begin body.items mid new fails))
