-- How an adoption goes on, and what is known where it ends.
use Rattle.std.proofs.Common.{◌≡◌, inl, inr, ℕ, ◌<◌, ◌≤◌, Bool, true, false, List, get_or, length, refl, sym, ap, ◌∙◌, subst, arith, Option}
use Rattle.std.specs.Prelude.{Some, None, IfSome, ◌⊎◌, Ok, Err, IsErrOf}
use Rattle.cf_base.specs.Count.{HasRisen}
use Rattle.reel_disk.specs.State.{DiskState, LeavesDisk}
use Rattle.scan_source.specs.World.{World, file_at}
use Rattle.conform_job.specs.Job.{JobData, file_of}
use Rattle.reel_disk.specs.Disk.{Files, Moment, History, IsStill, moment_of, view_of}
use Rattle.reel_disk.proofs.Images.{view_is_image}
use Rattle.reel_disk.proofs.Moments.{keeps_along}
use Rattle.reel_disk.proofs.Sparing.{spares_along, spares_itself, spares_wider}
use Rattle.reel_disk.proofs.Writing.{writing_none, writing_then, writing_wider}
use Rattle.reel_disk.specs.Call.{OnlyWrites}
use Rattle.resume_ledger.specs.Ledger.{Acks, Agrees, AreFlagsOf, HasOwn, IsFit, IsInForce}
use Rattle.resume_ledger.specs.declared.layout.Version.{Version}
use Rattle.resume_ledger.specs.declared.layout.Version.TheVariants.{One, Two}
use Rattle.resume_ledger.specs.Look.{ViewState, IsViewOf}
use Rattle.resume_ledger.specs.Sound.{IsSound}
use Rattle.resume_ledger.proofs.Versions.{agrees_shown}
use Rattle.reel_writer.specs.inside.Changes.{IsUnfinishedFile}
use Rattle.reel_writer.specs.Reel.{frames_of, reel_of, HasAcked, IsSafeFinish, IsWrittenFile}
use Rattle.reel_writer.specs.View.{ReelView, IsReelOf}
use Rattle.reel_writer.proofs.OwnFiles.{frame_of_run}
use Rattle.reel_writer.proofs.ReelLaws.{reel_run_along, reel_run_itself}
use Rattle.reel_writer.proofs.Writing.{kept_itself, run_file, run_file_before}
use Rattle.reconform.specs.Adopt.{CanServe, IsCaused, LeavesBoth}
use Rattle.reconform.specs.inside.Parts.{IsPart, WasLookedAt}
use Rattle.reconform.specs.declared.adopting.Adopted.{Adopted}
use Rattle.reconform.specs.declared.adopting.AdoptFault.{AdoptFault}
use Rattle.reconform.specs.declared.adopting.AdoptFault.TheVariants.{DiskFault}

module _ (new old : JobData) (tells : Bool) (h later : History) (still : tells ≡ true → IsStill h later) where
  can_along : (told : Option World) → IfSome told (λ world. CanServe new old world tells (view_of h)) → IfSome told (λ world. CanServe new old world tells (view_of later))
  can_along None can = tt
  can_along (Some world) can = record {
    told = can.told;
    sound = subst (λ (m : Moment). IsSound old.parts.digest (frames_of old) (reel_of old (file_at world)) m.view) (sym (still can.told).same) can.sound;
    look = can.look;
  }

  -- what was known of the old folder, while it stays as it is
  pub looked_along : (told : Option World) (view : ViewState) → WasLookedAt new old told tells (view_of h) view → WasLookedAt new old told tells (view_of later) view
  looked_along told view looked = record {
    can_serve = can_along told looked.can_serve;
    viewed = λ is. subst (λ (m : Moment). IsViewOf old.parts.digest (frames_of old) m.view view) (sym (still is).same) (looked.viewed is);
    flags = looked.flags;
  }

module _ {job : JobData} {told : Option World} {tells : Bool} where
  -- nothing was asked of the new folder
  pub part_itself : {gates : List Bool} {disk : DiskState} → IsPart job told tells gates disk disk
  part_itself {gates = gates} {disk = disk} = record {
    run = λ is. reel_run_itself job told disk.history;
    none_lost = λ is. kept_itself job disk.history;
    spares = λ is. spares_itself disk.history (IsUnfinishedFile job gates);
    own = writing_none;
  }

  -- a frame whose gate was closed was finished
  pub part_finished : {gates : List Bool} (i index : ℕ) → index ≡ i → i < frames_of job → get_or gates i false ≡ false → {before after : DiskState}
      → (tells ≡ true → IsSafeFinish job told index before.history after.history) → OnlyWrites (IsWrittenFile (file_of job index)) before.calls after.calls
      → IsPart job told tells gates before after
  part_finished {gates = gates} i index same within shut safe own = record {
    run = λ is. (safe is).run;
    none_lost = λ is. (safe is).none_lost;
    spares = λ is. spares_wider _ _ (IsWrittenFile (file_of job index)) (IsUnfinishedFile job gates) (run_file job gates i index same within shut) (safe is).spares;
    own = writing_wider (frame_of_run job 0 (frames_of job) index (omega arith) (omega (arith, same, within))) own;
  }

  -- one part behind another
  pub part_along : {before gates : List Bool} → ((k : ℕ) → get_or before k false ≡ true → get_or gates k false ≡ true) → {old mid new : DiskState}
      → IsPart job told tells before old mid → IsPart job told tells gates mid new → IsPart job told tells before old new
  part_along {before = before} {gates = gates} grows first second = record {
    run = λ is. reel_run_along job told _ _ _ (first.run is) (second.run is) (second.none_lost is);
    none_lost = λ is k. keeps_along (HasAcked job k) _ _ _ (first.run is).extends (second.run is).extends (first.none_lost is k) (second.none_lost is k);
    spares = λ is. spares_along _ _ _ (IsUnfinishedFile job before) (first.run is).extends (second.run is).extends (first.spares is)
        (spares_wider _ _ (IsUnfinishedFile job gates) (IsUnfinishedFile job before) (run_file_before job before gates grows) (second.spares is));
    own = writing_then first.own second.own;
  }

-- the counts as they were when it began
caused_as : (a b c d a2 c2 : ℕ) (Failed Later : Type 0) → a2 ≡ a → c2 ≡ c → (Later → Failed) → IsCaused a2 b c2 d Failed → IsCaused a b c d Later
caused_as a b c d a2 c2 Failed Later first second failed caused = record {
  old_later = subst (λ n. n ≤ b) first caused.old_later;
  later = subst (λ n. n ≤ d) second caused.later;
  failed = λ is. subst (λ n. HasRisen n b ⊎ HasRisen c d) first (subst (λ n. HasRisen a2 b ⊎ HasRisen n d) second (caused.failed (failed is)));
}

-- nothing was asked of either disk
pub both_itself : {Failed : Type 0} {old disk : DiskState} → (Failed → ⊥) → LeavesBoth Failed old old disk disk
both_itself never = record {
  cause = record { old_later = omega arith; later = omega arith; failed = λ is. absurd (never is) };
  steady = λ none. refl;
  old_steady = λ none. refl;
  lent = refl;
  old_lent = refl;
}

-- something was asked of the old one
pub old_asked : {Failed : Type 0} {old new disk : DiskState} → LeavesDisk Failed old new → LeavesBoth Failed old new disk disk
old_asked asked = record {
  cause = record { old_later = asked.counts.cause.later; later = omega arith; failed = λ is. inl (asked.counts.cause.failed is) };
  steady = λ none. refl;
  old_steady = asked.counts.steady;
  lent = refl;
  old_lent = asked.lent;
}

-- something was asked of the new one
pub new_asked : {Failed : Type 0} {old disk after : DiskState} → LeavesDisk Failed disk after → LeavesBoth Failed old old disk after
new_asked asked = record {
  cause = record { old_later = omega arith; later = asked.counts.cause.later; failed = λ is. inr (asked.counts.cause.failed is) };
  steady = asked.counts.steady;
  old_steady = λ none. refl;
  lent = asked.lent;
  old_lent = refl;
}

-- calls of which none failed went before, and what is a failure is told otherwise
pub both_behind : {Failed Later : Type 0} → (Later → Failed) → (Failed → Later) → {old mid new disk between after : DiskState}
    → mid.faults ≡ old.faults → between.faults ≡ disk.faults → mid.loans ≡ old.loans → between.loans ≡ disk.loans
    → LeavesBoth Failed mid new between after → LeavesBoth Later old new disk after
both_behind {Failed = Failed} {Later = Later} to from old_steady steady old_lent lent leaves = record {
  cause = caused_as _ _ _ _ _ _ Failed Later old_steady steady to leaves.cause;
  steady = λ none. leaves.steady (λ failed. none (from failed)) ∙ steady;
  old_steady = λ none. leaves.old_steady (λ failed. none (from failed)) ∙ old_steady;
  lent = leaves.lent ∙ lent;
  old_lent = leaves.old_lent ∙ old_lent;
}

-- what was taken over is counted, or the fault passed on
pub both_counted : (nothing : Unit {0}) (done : Adopted) {old new disk after : DiskState} → LeavesBoth (IsErrOf {T = Unit {0}} {E = AdoptFault} (Ok nothing) DiskFault) old new disk after
    → LeavesBoth (IsErrOf {T = Adopted} {E = AdoptFault} (Ok done) DiskFault) old new disk after
both_counted nothing done = both_behind (λ is. absurd (never is)) (λ is. absurd (none is)) refl refl refl refl
  where
    never : IsErrOf {T = Adopted} {E = AdoptFault} (Ok done) DiskFault → ⊥
    never is = cc

    none : IsErrOf {T = Unit {0}} {E = AdoptFault} (Ok nothing) DiskFault → ⊥
    none is = cc

pub both_passed : (fault : AdoptFault) {old new disk after : DiskState} → LeavesBoth (IsErrOf {T = Unit {0}} {E = AdoptFault} (Err fault) DiskFault) old new disk after
    → LeavesBoth (IsErrOf {T = Adopted} {E = AdoptFault} (Err fault) DiskFault) old new disk after
both_passed fault = both_behind (λ is. ap Err (here is)) (λ is. ap Err (there is)) refl refl refl refl
  where
    here : IsErrOf {T = Adopted} {E = AdoptFault} (Err fault) DiskFault → fault ≡ DiskFault
    here is = cc

    there : IsErrOf {T = Unit {0}} {E = AdoptFault} (Err fault) DiskFault → fault ≡ DiskFault
    there is = cc

module _ {D : Type 0} (job : JobData) (tells : Bool) (state : D → DiskState) (reel : ReelView D) (of : IsReelOf job tells state reel) where
  -- no more are adopted than there are frames
  of_job : (k : ℕ) (files : Files) → Acks reel.ledger.digest (length reel.ledger.gates) k files → HasAcked job k files
  of_job k files acks = subst (λ (d : List ℕ). Acks d (frames_of job) k files) of.digest (subst (λ (n : ℕ). Acks reel.ledger.digest n k files) of.size acks)

  of_ledger : (k : ℕ) (files : Files) → HasAcked job k files → Acks reel.ledger.digest (length reel.ledger.gates) k files
  of_ledger k files acks = subst (λ (d : List ℕ). Acks d (length reel.ledger.gates) k files) (sym of.digest) (subst (λ (n : ℕ). Acks job.parts.digest n k files) (sym of.size) acks)

  -- the folder acknowledges the frames whose gates are open
  pub flags_are : reel.ledger.closed ≡ false → tells ≡ true → AreFlagsOf job.parts.digest (frames_of job) (view_of (state reel.disk).history) reel.ledger.gates
  flags_are is_open told =
      let agrees = of.agrees is_open told in
      let view = view_of (state reel.disk).history in
      let here = view_is_image (moment_of (state reel.disk).history) in
      record {
        size = of.size;
        flags_are = λ k. (
          λ is. of_job k view ((agrees_shown (moment_of (state reel.disk).history) reel.ledger agrees k view here).0 is),
          λ acks. (agrees_shown (moment_of (state reel.disk).history) reel.ledger agrees k view here).1 (of_ledger k view acks),
        );
      }

  -- and its ledger is the job's
  pub is_fit : reel.ledger.closed ≡ false → tells ≡ true → IsFit job.parts.digest (frames_of job) (view_of (state reel.disk).history)
  is_fit is_open told version in_force = by version in_force
    where
      agrees : Agrees (moment_of (state reel.disk).history) reel.ledger
      agrees = of.agrees is_open told

      view : Files
      view = view_of (state reel.disk).history

      by : (v : Version) → IsInForce v view → HasOwn v job.parts.digest (frames_of job) view
      by Two two = subst (λ (d : List ℕ). HasOwn Two d (frames_of job) view) of.digest (subst (λ (n : ℕ). HasOwn Two reel.ledger.digest n view) of.size agrees.has)
      by One one = absurd (one.0 agrees.sealed)
