-- What an adoption reads and writes, one call after another.
--     making_none, making_then, making_wider      which bytes calls write
--     finish_makes      those of a finish
--     read_later, taken_later      what a read gave, when more calls were made
--     some_none, some_reads, some_finish, some_along      frames that are taken over, one behind another
--     taken_none, taken_opening, taken_opened      all of them
use Rattle.std.proofs.Common.{◌≡◌, inl, inr, ℕ, ◌+◌, ◌*◌, List, [], ◌∷◌, ◌++◌, refl, sym, ◌∙◌, ap, subst, append_assoc}
use Rattle.std.specs.Prelude.{◌⊎◌, Result, Ok, Err}
use Rattle.std.proofs.lemmas.List.Elements.{All-nil, All-cons, All-append, All-weaker}
use Rattle.sha2.specs.Sha256.{sha256}
use Rattle.cf_base.specs.declared.file.FileId.{FileId}
use Rattle.cf_base.specs.declared.file.FileId.TheVariants.{Body2}
use Rattle.reel_disk.specs.declared.disk.Did.{Did}
use Rattle.reel_disk.specs.declared.disk.Did.TheVariants.{Done, Failed}
use Rattle.reel_disk.specs.Call.{Call, Measured, Read, Wrote, Patched, Synced, IsOwnCall, OnlyWrites, writes_in}
use Rattle.resume_ledger.specs.Attach.{OpeningMayWrite}
use Rattle.resume_ledger.specs.Calls.{Puts}
use Rattle.resume_ledger.specs.Ledger.{IsWrittenLedgerFile, LedgerState}
use Rattle.resume_ledger.specs.Look.{ViewState}
use Rattle.resume_ledger.specs.declared.attach.OpenFault.{OpenFault}
use Rattle.resume_ledger.specs.declared.attach.OpenFault.TheVariants.{OtherJob, BadLedger, DiskFault, NoMemory}
use Rattle.conform_job.specs.Job.{JobData}
use Rattle.reel_writer.specs.Calls.{Acknowledging, Finishes}
use Rattle.reel_writer.specs.Reads.{MakesOnly}
use Rattle.reel_writer.proofs.ReadCalls.{made_along, made_none, was_still}
use Rattle.reconform.specs.Taken.{IsMaking, IsTakenOver, OnlyMakes, TakesOnly, WasDonorRead}
use Rattle.reconform.specs.inside.Asking.{AnyFile}
use Rattle.reconform.specs.inside.Parts.{TakesSome}
use Rattle.reconform.proofs.Asking.{asks_none}

-- what a read gave stays when more calls are made
pub read_later : {new old : JobData} {view : ViewState} {frame : ℕ} {file : List ℕ} {On : FileId → Type 0} {calls later : List Call} → MakesOnly On calls later
    → WasDonorRead new old view calls frame file → WasDonorRead new old view later frame file
read_later on was = record { donor = was.donor; is = was.is; read = was_still _ _ _ on _ was.read; size = was.size; hash = was.hash }

pub taken_later : {new old : JobData} {view : ViewState} {id : FileId} {bytes : List ℕ} {On : FileId → Type 0} {calls later : List Call} → MakesOnly On calls later
    → IsTakenOver new old view calls id bytes → IsTakenOver new old view later id bytes
taken_later on was = record { frame = was.frame; within = was.within; named = was.named; file = was.file; read = read_later on was.read; made = was.made }

-- what calls write
pub making_none : {Made : FileId → List ℕ → Type 0} {a : List Call} → OnlyMakes Made a a
making_none {Made = Made} = record { since = []; made = refl; each = All-nil (IsMaking Made) }

module _ {Made : FileId → List ℕ → Type 0} {a b : List Call} (making : OnlyMakes Made a b) where
  made_more : (call : Call) → IsMaking Made call → writes_in (call ∷ b) ≡ call ∷ writes_in b → OnlyMakes Made a (call ∷ b)
  made_more call own is = record {
    since = call ∷ making.since;
    made = is ∙ ap (λ (l : List Call). call ∷ l) making.made;
    each = All-cons (IsMaking Made) call making.since own making.each;
  }

  pub making_call : (call : Call) → IsMaking Made call → OnlyMakes Made a (call ∷ b)
  making_call (Measured id len) own = record { since = making.since; made = making.made; each = making.each }
  making_call (Read id start into got) own = record { since = making.since; made = making.made; each = making.each }
  making_call (Wrote id bytes did) own = made_more (Wrote id bytes did) own refl
  making_call (Patched id start bytes did) own = made_more (Patched id start bytes did) own refl
  making_call (Synced id did) own = made_more (Synced id did) own refl

pub making_then : {Made : FileId → List ℕ → Type 0} {a b c : List Call} → OnlyMakes Made a b → OnlyMakes Made b c → OnlyMakes Made a c
making_then {Made = Made} {a = a} first second = record {
  since = second.since ++ first.since;
  made = second.made ∙ ap (λ (l : List Call). second.since ++ l) first.made ∙ sym (append_assoc second.since first.since (writes_in a));
  each = All-append (IsMaking Made) second.since first.since second.each first.each;
}

pub making_wider : {Made Other : FileId → List ℕ → Type 0} {a b : List Call} → ((q : FileId) (bytes : List ℕ) → Made q bytes → Other q bytes) → OnlyMakes Made a b → OnlyMakes Other a b
making_wider {Made = Made} {Other = Other} wider making = record {
  since = making.since;
  made = making.made;
  each = All-weaker (IsMaking Made) (IsMaking Other) more making.since making.each;
}
  where
    written : (id : FileId) (bytes : List ℕ) → IsWrittenLedgerFile id ⊎ Made id bytes → IsWrittenLedgerFile id ⊎ Other id bytes
    written id bytes (inl own) = inl own
    written id bytes (inr is) = inr (wider id bytes is)

    more : (call : Call) → IsMaking Made call → IsMaking Other call
    more (Wrote id bytes did) own = written id bytes own
    more (Patched id start bytes did) own = own
    more (Measured id len) own = tt
    more (Read id start into got) own = tt
    more (Synced id did) own = tt

-- where no file is written but the ledger's
pub making_ledger : {May : FileId → Type 0} {Made : FileId → List ℕ → Type 0} {a b : List Call} → ((q : FileId) → May q → IsWrittenLedgerFile q) → OnlyWrites May a b → OnlyMakes Made a b
making_ledger {May = May} {Made = Made} ledgers writing = record {
  since = writing.since;
  made = writing.made;
  each = All-weaker (IsOwnCall May) (IsMaking Made) more writing.since writing.own;
}
  where
    more : (call : Call) → IsOwnCall May call → IsMaking Made call
    more (Wrote id bytes did) own = inl (ledgers id own)
    more (Patched id start bytes did) own = ledgers id own
    more (Measured id len) own = tt
    more (Read id start into got) own = tt
    more (Synced id did) own = tt

pub opening_ledger : (result : Result LedgerState OpenFault) (q : FileId) → OpeningMayWrite result q → IsWrittenLedgerFile q
opening_ledger (Ok ledger) q own = own
opening_ledger (Err (OtherJob kept wanted)) q none = absurd none
opening_ledger (Err (BadLedger len)) q none = absurd none
opening_ledger (Err DiskFault) q own = own
opening_ledger (Err NoMemory) q none = absurd none

-- a write and a sync
making_puts : {A B : Type 0} {Made : FileId → List ℕ → Type 0} {a old new : List Call} (write : Did → Call) (id : FileId) → ((did : Did) → IsMaking Made (write did)) → (result : Result A B)
    → OnlyMakes Made a old → Puts write id result old new → OnlyMakes Made a new
making_puts {Made = Made} {a = a} write id own (Ok done) before is = subst (OnlyMakes Made a) (sym is) (making_call (making_call before (write Done) (own Done)) (Synced id Done) tt)
making_puts {Made = Made} {a = a} write id own (Err fault) before (inl is) = subst (OnlyMakes Made a) (sym is) (making_call before (write Failed) (own Failed))
making_puts {Made = Made} {a = a} write id own (Err fault) before (inr is) = subst (OnlyMakes Made a) (sym is) (making_call (making_call before (write Done) (own Done)) (Synced id Failed) tt)

-- a record and a gate
making_acks : {A B : Type 0} {Made : FileId → List ℕ → Type 0} {a old new : List Call} (i : ℕ) (hash : List ℕ) (result : Result A B) → OnlyMakes Made a old → Acknowledging {A = A} {B = B} i hash result old new → OnlyMakes Made a new
making_acks {Made = Made} {a = a} i hash (Ok done) before is =
    subst (OnlyMakes Made a) (sym is) (making_call (making_call (making_call (making_call before (Patched Body2 _ _ Done) (inr refl)) (Synced Body2 Done) tt) (Patched Body2 _ _ Done) (inr refl)) (Synced Body2 Done) tt)
making_acks {A = A} {B = B} i hash (Err fault) before (inl puts) = making_puts {A = A} {B = B} (Patched Body2 (65 + 33 * i) hash) Body2 (λ did. inr refl) (Err fault) before puts
making_acks {A = A} {B = B} i hash (Err fault) before (inr puts) =
    making_puts {A = A} {B = B} (Patched Body2 (64 + 33 * i) (65 ∷ [])) Body2 (λ did. inr refl) (Err fault) (making_call (making_call before (Patched Body2 (65 + 33 * i) hash Done) (inr refl)) (Synced Body2 Done) tt) puts

-- a finish writes these bytes
pub finish_makes : {A B : Type 0} (i : ℕ) (file : FileId) (bytes : List ℕ) (result : Result A B) {old new : List Call} → Finishes {A = A} {B = B} i file bytes result old new
    → OnlyMakes (λ q written. (q ≡ file) × (written ≡ bytes)) old new
finish_makes {A = A} {B = B} i file bytes (Ok done) made = making_acks {A = A} {B = B} i (sha256 bytes) (Ok done) (making_call (making_call making_none (Wrote file bytes Done) (inr (refl, refl))) (Synced file Done) tt) made
finish_makes {A = A} {B = B} i file bytes (Err fault) (inl puts) = making_puts {A = A} {B = B} (Wrote file bytes) file (λ did. inr (refl, refl)) (Err fault) making_none puts
finish_makes {A = A} {B = B} i file bytes (Err fault) (inr acks) = making_acks {A = A} {B = B} i (sha256 bytes) (Err fault) (making_call (making_call making_none (Wrote file bytes Done) (inr (refl, refl))) (Synced file Done) tt) acks

module _ {new old : JobData} {view : ViewState} where
  -- nothing was done
  pub some_none : {a c : List Call} → TakesSome new old view a a c c
  some_none = record { read = made_none _ _; made = making_none }

  -- donors' files were asked for
  pub some_reads : {a b c : List Call} → MakesOnly AnyFile a b → TakesSome new old view a b c c
  some_reads on = record { read = on; made = making_none }

  -- a frame was finished
  pub some_finish : {a c d : List Call} (file : FileId) (bytes : List ℕ) → IsTakenOver new old view a file bytes
      → OnlyMakes (λ q written. (q ≡ file) × (written ≡ bytes)) c d → TakesSome new old view a a c d
  some_finish {a = a} file bytes taken making = record {
    read = made_none _ _;
    made = making_wider (λ q written is. subst (λ (made : FileId × List ℕ). IsTakenOver new old view a made.0 made.1) (λ t. (sym is.0 t, sym is.1 t)) taken) making;
  }

  -- some behind others
  pub some_along : {a b b2 c d d2 : List Call} → TakesSome new old view a b c d → TakesSome new old view b b2 d d2 → TakesSome new old view a b2 c d2
  some_along first second = record {
    read = made_along _ _ _ _ first.read second.read;
    made = making_then (making_wider (λ q bytes taken. taken_later second.read taken) first.made) second.made;
  }

  -- all of them: nothing was done, or the new folder was opened before
  pub taken_none : {a c : List Call} → TakesOnly new old view a a c c
  taken_none = record { asks = asks_none; made = making_none }

  pub taken_opening : {a c d : List Call} (result : Result LedgerState OpenFault) → OnlyWrites (OpeningMayWrite result) c d → TakesOnly new old view a a c d
  taken_opening result writing = record { asks = asks_none; made = making_ledger (opening_ledger result) writing }

  pub taken_opened : {a b c d e : List Call} (result : Result LedgerState OpenFault) → OnlyWrites (OpeningMayWrite result) c d → TakesOnly new old view a b d e → TakesOnly new old view a b c e
  taken_opened result writing taken = record { asks = taken.asks; made = making_then (making_ledger (opening_ledger result) writing) taken.made }
