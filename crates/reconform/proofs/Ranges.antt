-- Frames that are served in order.
use Rattle.std.proofs.Common.{◌≡◌, inl, ℕ, ◌+◌, Bool, false, refl, sym, subst, Option}
use Rattle.std.specs.Prelude.{Result, Ok, Err, IsErr}
use Rattle.reel_disk.specs.Disk.{Moment, view_of}
use Rattle.reel_disk.specs.State.{DiskState, LeavesDisk, OnlyReads}
use Rattle.reel_disk.specs.declared.disk.DiskFault.{DiskFault}
use Rattle.resume_ledger.specs.Look.{ViewState}
use Rattle.resume_ledger.proofs.Reading.{reads_none, reads_along}
use Rattle.scan_source.specs.World.{World}
use Rattle.conform_job.specs.Job.{JobData}
use Rattle.reel_writer.specs.Reads.{MakesOnly}
use Rattle.reel_writer.specs.Reel.{frames_of}
use Rattle.reel_writer.specs.View.{ReelView}
use Rattle.reconform.specs.declared.adopting.AdoptFault.TheVariants as fault
use Rattle.reconform.specs.inside.Adopt.{AreServed}
use Rattle.reconform.specs.Taken.{AsksForDonors}
use Rattle.reconform.specs.inside.Asking.{AnyFile}
use Rattle.reconform.specs.inside.Parts.{HasAdopted, HasServed, HasServedTo}
use Rattle.reconform.proofs.Going.{both_behind, both_itself, old_asked, part_along, part_itself}
use Rattle.reconform.proofs.Serving.{on_any, on_ok, same_along, same_itself, served_first, served_more}
use Rattle.reconform.proofs.Taking.{some_along, some_none, some_reads}

module _ {D E : Type 0} (new old : JobData) (told : Option World) (tells : Bool) (state : D → DiskState) (reel_tells : Bool) (reel_state : E → DiskState) (view : ViewState) where
  abbrev pub ServedTo : {T : Type 0} → ℕ → ℕ → Result T DiskFault → D → D → ReelView E → ReelView E → Type 0
  ServedTo = HasServedTo new old told tells state reel_tells reel_state view

  -- none yet
  pub none_served : (from : ℕ) (disk : D) (reel : ReelView E) → reel.ledger.closed ≡ false → ServedTo from from (Ok (tt {0})) disk disk reel reel
  none_served from disk reel is_open = record {
    served = λ is gates was. was;
    stays = same_itself reel;
    stays_open = is_open;
    part = part_itself;
    taken = some_none;
    reads = reads_none;
    disks = both_itself (λ is. cc);
  }

  -- one of them
  pub one_served : (i : ℕ) (result : Result (Unit {0}) DiskFault) (disk disk_after : D) (reel reel_after : ReelView E)
      → HasServed new old told tells state reel_tells reel_state view i result disk disk_after reel reel_after → ServedTo i (i + 1) result disk disk_after reel reel_after
  one_served i result disk disk_after reel reel_after done = record {
    served = on_ok result _ _ (λ served is gates was. served_more new old view (view_of (state disk).history) i gates reel.ledger.gates reel_after.ledger.gates was (served is)) done.served;
    stays = done.stays;
    stays_open = done.stays_open;
    part = done.part;
    taken = done.taken;
    reads = done.reads;
    disks = done.disks;
  }

  -- some behind others
  pub served_along : {T U : Type 0} (from mid to : ℕ) (x : T) (result : Result U DiskFault) (disk disk_mid disk_after : D) (reel reel_mid reel_after : ReelView E)
      → ServedTo from mid (Ok x) disk disk_mid reel reel_mid → ServedTo mid to result disk_mid disk_after reel_mid reel_after → ServedTo from to result disk disk_after reel reel_after
  served_along from mid to x result disk disk_mid disk_after reel reel_mid reel_after first second = record {
    served = on_ok result _ _ (λ served is gates was.
        subst (λ (m : Moment). AreServed new old view m.view to gates reel_after.ledger.gates) (first.reads.still is).same
        (served is gates (subst (λ (m : Moment). AreServed new old view m.view mid gates reel_mid.ledger.gates) (sym (first.reads.still is).same) (first.served is gates was)))) second.served;
    stays = same_along _ _ _ first.stays second.stays;
    stays_open = second.stays_open;
    part = part_along first.stays.grows first.part second.part;
    taken = some_along first.taken second.taken;
    reads = reads_along first.reads second.reads;
    disks = both_behind (λ is. is) (λ is. is) (first.disks.old_steady (λ is. cc)) (first.disks.steady (λ is. cc)) first.disks.old_lent first.disks.lent second.disks;
  }

  -- donors' files are read then
  pub served_then_read : {T U : Type 0} (from to : ℕ) (x : T) (result : Result U DiskFault) (disk mid after : D) (reel reel_after : ReelView E) → ServedTo from to (Ok x) disk mid reel reel_after
      → OnlyReads tells (state mid) (state after) → MakesOnly AnyFile (state mid).calls (state after).calls → LeavesDisk (IsErr result) (state mid) (state after)
      → ServedTo from to result disk after reel reel_after
  served_then_read from to x result disk mid after reel reel_after done reads on leaves = record {
    served = on_any result _ done.served;
    stays = done.stays;
    stays_open = on_any result _ done.stays_open;
    part = done.part;
    taken = some_along done.taken (some_reads on);
    reads = reads_along done.reads reads;
    disks = both_behind (λ is. is) (λ is. is) (done.disks.old_steady (λ is. cc)) (done.disks.steady (λ is. cc)) done.disks.old_lent done.disks.lent (old_asked leaves);
  }

  -- a disk failed before
  pub failed_before : {T U : Type 0} (from mid to : ℕ) (e : DiskFault) (disk disk_after : D) (reel reel_after : ReelView E)
      → ServedTo {T = T} from mid (Err e) disk disk_after reel reel_after → ServedTo {T = U} from to (Err e) disk disk_after reel reel_after
  failed_before from mid to e disk disk_after reel reel_after done = record {
    served = tt;
    stays = done.stays;
    stays_open = tt;
    part = done.part;
    taken = done.taken;
    reads = done.reads;
    disks = both_behind (λ is. cc) (λ is. cc) refl refl refl refl done.disks;
  }

  -- whatever the answer holds
  pub served_as : {T U : Type 0} (from to : ℕ) (x : T) (y : U) (disk disk_after : D) (reel reel_after : ReelView E)
      → ServedTo from to (Ok x) disk disk_after reel reel_after → ServedTo from to (Ok y) disk disk_after reel reel_after
  served_as from to x y disk disk_after reel reel_after done = record {
    served = done.served;
    stays = done.stays;
    stays_open = done.stays_open;
    part = done.part;
    taken = done.taken;
    reads = done.reads;
    disks = both_behind (λ is. cc) (λ is. cc) refl refl refl refl done.disks;
  }

  -- all of them
  pub all_served : (disk disk_after : D) (reel reel_after : ReelView E) → AsksForDonors new old view 0 (frames_of new) (state disk).calls (state disk_after).calls
      → ServedTo 0 (frames_of new) (Ok (tt {0})) disk disk_after reel reel_after
      → HasAdopted new old told tells state reel_tells reel_state view (Ok (tt {0})) disk disk_after reel reel_after
  all_served disk disk_after reel reel_after asks done = record {
    served = λ is. done.served is reel.ledger.gates (served_first new old view (view_of (state disk).history) reel.ledger.gates);
    stays = done.stays;
    stays_open = done.stays_open;
    end = tt;
    part = done.part;
    taken = record { asks = asks; made = done.taken.made };
    reads = done.reads;
  }

  -- a disk failed
  pub served_until : (to : ℕ) (e : DiskFault) (disk disk_after : D) (reel reel_after : ReelView E) → AsksForDonors new old view 0 (frames_of new) (state disk).calls (state disk_after).calls
      → ServedTo {T = Unit {0}} 0 to (Err e) disk disk_after reel reel_after
      → HasAdopted new old told tells state reel_tells reel_state view (Err fault.DiskFault) disk disk_after reel reel_after
  served_until to e disk disk_after reel reel_after asks done = record {
    served = tt;
    stays = done.stays;
    stays_open = tt;
    end = inl refl;
    part = done.part;
    taken = record { asks = asks; made = done.taken.made };
    reads = done.reads;
  }
