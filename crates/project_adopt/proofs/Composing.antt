-- An adoption and the run behind it are one run.
use Rattle.std.proofs.Common.{◌≡◌, inl, inr, ℕ, Bool, true, List, refl, sym, ◌∙◌, subst}
use Rattle.std.specs.Prelude.{◌⊎◌, Option, Some, None, Ok, Err}
use Rattle.cf_base.specs.declared.file.FileId.{FileId}
use Rattle.cf_base.specs.declared.reel.ReelEntry.{ReelEntry}
use Rattle.scan_source.specs.World.{World}
use Rattle.conform_job.specs.Job.{JobData}
use Rattle.conform_job.specs.Names.{Tells}
use Rattle.reel_disk.specs.Disk.{Files, History, moment_of, view_of}
use Rattle.reel_disk.specs.State.{DiskState, OnlyReads, FolderState, folder_state}
use Rattle.reel_disk.specs.Runs.{Spares}
use Rattle.reel_disk.specs.Call.{OnlyWrites}
use Rattle.reel_disk.proofs.Sparing.{spares_along, spares_wider}
use Rattle.reel_disk.proofs.Writing.{writing_then, writing_wider}
use Rattle.resume_ledger.specs.declared.layout.Version.TheVariants.{Two}
use Rattle.resume_ledger.specs.Ledger.{IsInForce}
use Rattle.resume_ledger.specs.Sound.{WritesOnly}
use Rattle.resume_ledger.proofs.Reading.{writes_along}
use Rattle.reel_writer.specs.Reel.{frames_of, HasFrameFiles, IsReelRun, IsRunFile, IsSoundReel}
use Rattle.reel_writer.specs.Changes.{HasKept, IsOwnFile, MayWrite}
use Rattle.reel_writer.proofs.ReelLaws.{reel_run_along}
use Rattle.reel_writer.proofs.Writing.{writes_wider}
use Rattle.reconform.specs.Adopt.{AdoptionMayWrite, IsOfOld, WasAdopted, IsWhyUnadopted}
use Rattle.reconform.specs.declared.adopting.Adopted.{Adopted}
use Rattle.reconform.specs.declared.adopting.AdoptFault.{AdoptFault}
use Rattle.reconform.specs.declared.adopting.AdoptFault.TheVariants as faults
use Rattle.run_alone.specs.Run.{AreAllAcked, IsOwnFileOf, MayWriteOf, RunMayWrite}
use Rattle.frame_fetch.specs.declared.run_end.RunEnd.{RunEnd}
use Rattle.frame_fetch.specs.declared.run_end.RunEnd.TheVariants as ends
use Rattle.run_alone.proofs.Closing.{whole_reel}
use Rattle.outcome.specs.declared.Outcome.{Outcome}
use Rattle.outcome.specs.declared.Outcome.TheVariants as outcome
use Rattle.project_run.specs.Run.{IsOfRun, outcome_of_end}
use Rattle.reconform.specs.Taken.{TakesOver}
use Rattle.project_adopt.specs.Adopt.{IsAdoption, IsOfAdopt, IsPromised, IsRest, outcome_of_fault}

-- a run that came to Done has ended so
by_end : (entries : List ReelEntry) (how : RunEnd) → outcome.Done ≡ outcome_of_end entries how → how ≡ ends.Done
by_end entries ends.Done is = refl
by_end entries (ends.OtherJob kept wanted) is = absurd (cc)
by_end entries (ends.BadLedger len) is = absurd (cc)
by_end entries (ends.Changed key was now) is = absurd (cc)
by_end entries ends.SourceFault is = absurd (cc)
by_end entries ends.DiskFault is = absurd (cc)
by_end entries ends.NoMemory is = absurd (cc)

pub done_ends : (entries : List ReelEntry) (how : RunEnd) (reached : Outcome) → (reached ≡ outcome_of_end entries how) ⊎ (reached ≡ outcome.NoMemory) → reached ≡ outcome.Done → how ≡ ends.Done
done_ends entries how reached (inl is) done = by_end entries how (sym done ∙ is)
done_ends entries how reached (inr is) done = absurd (let both : outcome.Done ≡ outcome.NoMemory = sym done ∙ is in cc)

-- an adoption that didn't come to its end is no Done, and no fault of a scan
never_done : (why : AdoptFault) → outcome_of_fault why ≡ outcome.Done → ⊥
never_done (faults.OldOtherJob kept wanted) is = cc
never_done (faults.OldBadLedger len) is = cc
never_done (faults.OtherJob kept wanted) is = cc
never_done (faults.BadLedger len) is = cc
never_done faults.DiskFault is = cc
never_done faults.NoMemory is = cc

pub never_source : (why : AdoptFault) → outcome_of_fault why ≡ outcome.SourceFault → ⊥
never_source (faults.OldOtherJob kept wanted) is = cc
never_source (faults.OldBadLedger len) is = cc
never_source (faults.OtherJob kept wanted) is = cc
never_source (faults.BadLedger len) is = cc
never_source faults.DiskFault is = cc
never_source faults.NoMemory is = cc

-- a fault of a disk is one
pub by_disk : (why : AdoptFault) → outcome_of_fault why ≡ outcome.DiskFault → why ≡ faults.DiskFault
by_disk (faults.OldOtherJob kept wanted) is = absurd (cc)
by_disk (faults.OldBadLedger len) is = absurd (cc)
by_disk (faults.OtherJob kept wanted) is = absurd (cc)
by_disk (faults.BadLedger len) is = absurd (cc)
by_disk faults.DiskFault is = refl
by_disk faults.NoMemory is = absurd (cc)

pub fault_adopts : (why : AdoptFault) → IsOfAdopt (outcome_of_fault why)
fault_adopts (faults.OldOtherJob kept wanted) = tt
fault_adopts (faults.OldBadLedger len) = tt
fault_adopts (faults.OtherJob kept wanted) = tt
fault_adopts (faults.BadLedger len) = tt
fault_adopts faults.DiskFault = tt
fault_adopts faults.NoMemory = tt

-- what a run may come to, the command may
pub run_adopts : (reached : Outcome) → IsOfRun reached → IsOfAdopt reached
run_adopts (outcome.OldRefused refusal) kind = absurd kind
run_adopts (outcome.OldOtherJob kept wanted) kind = absurd kind
run_adopts (outcome.OldBadLedger len) kind = absurd kind
run_adopts other kind = kind

module _ (job : JobData) (old mid new : History) (two : IsInForce Two (view_of mid)) where
  -- a folder of version 2 loses no acknowledgement
  has_files : HasFrameFiles job (view_of mid)
  has_files one i acks = absurd (one.0 two)

  -- a run over the files that are told is one over the fewer that are lent
  run_lent : (lent told : Option World) → Tells lent told → IsReelRun job told mid new → IsReelRun job lent mid new
  run_lent None told tells run = record { extends = run.extends; keeps = run.keeps; sound = tt }
  run_lent (Some world) told tells run = subst (λ (t : Option World). IsReelRun job t mid new) tells run

  pub both_run : (lent told : Option World) → Tells lent told → IsReelRun job lent old mid → IsReelRun job told mid new → IsReelRun job lent old new
  both_run lent told tells first second = reel_run_along job lent old mid new first (run_lent lent told tells second) (second.keeps has_files)

  -- what the folder kept at the opening, it keeps at the run's
  module _ (kept : (k : ℕ) → HasKept job k (view_of old) → HasKept job k (view_of mid)) where
    own_first : (q : FileId) → IsOwnFileOf job 0 (frames_of job) (view_of mid) q → IsOwnFile job (view_of old) q
    own_first q (inl ledger) = inl ledger
    own_first q (inr frame) = inr (frame.0, frame.2, λ was. frame.3 (kept frame.0 was), frame.4)

    write_first : (q : FileId) → MayWriteOf job 0 (frames_of job) (view_of mid) q → MayWrite job (view_of old) q
    write_first q (inl ledger) = inl ledger
    write_first q (inr frame) = inr (frame.0, frame.2, λ was. frame.3 (kept frame.0 was), frame.4)

    pub both_spare : {lent told : Option World} → IsReelRun job lent old mid → IsReelRun job told mid new → Spares old mid (IsOwnFile job (view_of old)) → Spares mid new (IsOwnFileOf job 0 (frames_of job) (view_of mid)) → Spares old new (IsOwnFile job (view_of old))
    both_spare first second spared rest =
        spares_along old mid new (IsOwnFile job (view_of old)) first.extends second.extends spared (spares_wider mid new (IsOwnFileOf job 0 (frames_of job) (view_of mid)) (IsOwnFile job (view_of old)) own_first rest)

    pub both_write : {lent told : Option World} → IsReelRun job lent old mid → IsReelRun job told mid new → WritesOnly old mid (MayWrite job (view_of old)) → WritesOnly mid new (MayWriteOf job 0 (frames_of job) (view_of mid)) → WritesOnly old new (MayWrite job (view_of old))
    both_write first second wrote rest =
        writes_along (MayWrite job (view_of old)) old mid new first.extends second.extends wrote (writes_wider mid new (MayWriteOf job 0 (frames_of job) (view_of mid)) (MayWrite job (view_of old)) write_first rest)

-- what a run may write by its end is a file of the run
own_of_run : (job : JobData) (q : FileId) (end : RunEnd) → RunMayWrite job 0 (frames_of job) end q → IsRunFile job 0 (frames_of job) q
own_of_run job q ends.Done own = own
own_of_run job q (ends.OtherJob kept wanted) own = absurd own
own_of_run job q (ends.BadLedger len) own = absurd own
own_of_run job q (ends.Changed key was now) own = own
own_of_run job q ends.SourceFault own = own
own_of_run job q ends.DiskFault own = own
own_of_run job q ends.NoMemory own = own

-- a frame that the adoption's opening kept is acknowledged behind it
kept_on : (job old_job : JobData) (tells : Bool) (old_files before after : Files) (done : Adopted) → WasAdopted job old_job tells old_files before after done → tells ≡ true → IsInForce Two after
    → (k : ℕ) → HasKept job k before → HasKept job k after
kept_on job old_job tells old_files before after done adopted told two k kept =
    let gate = ((adopted.opened told).kept_are k).1 kept in
    let acked = (adopted.exactly told k kept.0.within).1 (inl gate) in
    (((adopted.exit told).flags_are k).0 acked, λ one. absurd (one.0 two))

-- the rest of the same job
pub rest_of : {job other : JobData} {told : Option World} {done : Adopted} {disk disk_after : FolderState} {loads loads_after : ℕ} {reached : Outcome} {output : List ℕ} → other ≡ job
    → IsRest other done told loads loads_after disk disk_after reached output → IsRest job done told loads loads_after disk disk_after reached output
rest_of {told = told} {done = done} {disk = disk} {disk_after = disk_after} {loads = loads} {loads_after = loads_after} {reached = reached} {output = output} same rest =
    subst (λ (j : JobData). IsRest j done told loads loads_after disk disk_after reached output) same rest

module _ (job old_job : JobData) (lent told : Option World) (tells_lent : Tells lent told) (tells : Bool) (old old_after before between after : DiskState) (sound_has : (world : World) (files : Files) → IsSoundReel job world files → HasFrameFiles job files) (reads : OnlyReads tells old old_after) (run : tells ≡ true → IsReelRun job lent before.history between.history)
    (spares : tells ≡ true → Spares before.history between.history (IsOwnFile job (view_of before.history)))
    (writes : tells ≡ true → WritesOnly before.history between.history (MayWrite job (view_of before.history)))
    (taken : TakesOver job old_job old.calls old_after.calls before.calls between.calls) where
  -- both folders were opened
  module _ (done : Adopted) (own : OnlyWrites (AdoptionMayWrite job (Ok done)) before.calls between.calls) (adopted : WasAdopted job old_job tells (view_of old.history) (view_of before.history) (view_of between.history) done) (two : tells ≡ true → IsInForce Two (view_of between.history))
      (loads loads_after : ℕ) (reached : Outcome) (output : List ℕ) (rest : IsRest job done told loads loads_after (folder_state tells between) (folder_state tells after) reached output) where
    both_acked : reached ≡ outcome.Done → tells ≡ true → AreAllAcked job 0 (frames_of job) (moment_of after.history)
    both_acked is t = rest.run.keeps.acked (done_ends job.parts.reels rest.run.how reached rest.run.reply.reached_is is) t

    both_ran : tells ≡ true → IsReelRun job lent before.history after.history
    both_ran t = both_run job before.history between.history after.history (two t) lent told tells_lent (run t) (rest.run.keeps.run t)

    kept_still : tells ≡ true → (k : ℕ) → HasKept job k (view_of before.history) → HasKept job k (view_of between.history)
    kept_still t = kept_on job old_job tells (view_of old.history) (view_of before.history) (view_of between.history) done adopted t (two t)

    pub went_on : IsAdoption job old_job told loads loads_after (folder_state tells old) (folder_state tells old_after) (folder_state tells before) (folder_state tells after) reached output
    went_on = record {
      adopted = Ok done;
      between = folder_state tells between;
      tells = refl;
      answer = adopted;
      went = rest;
      sealed = two;
      untouched = tt;
      reads = record { still = reads.still; writes = reads.writes };
      acked = both_acked;
      spares = λ t. both_spare job before.history between.history after.history (two t) (kept_still t) (run t) (rest.run.keeps.run t) (spares t) (rest.run.keeps.spares t);
      writes = λ t. both_write job before.history between.history after.history (two t) (kept_still t) (run t) (rest.run.keeps.run t) (writes t) (rest.run.keeps.writes t);
      own = writing_then own (writing_wider (λ q. own_of_run job q rest.run.how) rest.run.keeps.own);
      taken = taken;
      sound_has = sound_has;
    }

    pub promised_on : tells ≡ true → IsPromised job lent (folder_state tells before) (folder_state tells after) reached
    promised_on t = record {
      run = both_ran t;
      whole = λ is. whole_reel job 0 (frames_of job) lent before.history after.history (both_ran t) (both_acked is t);
    }

  -- the adoption didn't come to its end
  module _ (why : AdoptFault) (own : OnlyWrites (AdoptionMayWrite job (Err why)) before.calls between.calls) (refused : IsWhyUnadopted job old_job tells old.history old_after.history before.history between.history why) (untouched : IsOfOld why → folder_state tells between ≡ folder_state tells before)
      (loads : ℕ) (reached : Outcome) (output : List ℕ) (is : reached ≡ outcome_of_fault why) where
    pub went_no_further : IsAdoption job old_job told loads loads (folder_state tells old) (folder_state tells old_after) (folder_state tells before) (folder_state tells between) reached output
    went_no_further = record {
      adopted = Err why;
      between = folder_state tells between;
      tells = refl;
      answer = refused;
      went = record { reached_is = is; unchanged = refl; unloaded = refl };
      sealed = tt;
      untouched = untouched;
      reads = record { still = reads.still; writes = reads.writes };
      acked = λ done. absurd (never_done why (sym is ∙ done));
      spares = spares;
      writes = writes;
      own = own;
      taken = taken;
      sound_has = sound_has;
    }

    pub promised_no_further : tells ≡ true → IsPromised job lent (folder_state tells before) (folder_state tells between) reached
    promised_no_further t = record { run = run t; whole = λ done. absurd (never_done why (sym is ∙ done)) }
