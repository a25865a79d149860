-- A run that was begun on an empty disk.
use Rattle.std.proofs.Common.{◌≡◌, ℕ, zero, suc, ◌+◌, ◌-◌, Bool, true, false, not, List, [], ◌∷◌, length, get_or, filter, count_by, refl, sym, ap, subst, ◌∙◌, inl, inr, arith}
use Rattle.std.specs.Prelude.{◌⊎◌, Option, Some, None, IsSome, IfSome, is_some}
use Rattle.std.specs.List.{range_with_len}
use Rattle.cf_base.specs.declared.file.FileId.{FileId}
use Rattle.cf_base.specs.declared.file.FileId.TheVariants.{Seal, Seal2}
use Rattle.scan_source.specs.World.{World}
use Rattle.conform_job.specs.Job.{JobData}
use Rattle.reel_disk.specs.declared.disk.Place.{Place}
use Rattle.reel_disk.specs.declared.disk.Place.TheVariants.{Whole}
use Rattle.reel_disk.specs.Disk.{Files, History, IsLoose, IsImage, AgreesOutside, IsNewDisk, moment_of, view_of, loose_of}
use Rattle.reel_disk.specs.Runs.{Surely}
use Rattle.resume_ledger.specs.Ledger.{IsInForce, IsSealed}
use Rattle.resume_ledger.specs.declared.layout.Version.{Version}
use Rattle.resume_ledger.specs.declared.layout.Version.TheVariants.{One, Two}
use Rattle.reel_writer.specs.Reel.{frames_of, IsSoundReel}
use Rattle.run_alone.specs.Asks.{closed_frames}
use Rattle.run_alone.specs.Ends.{IsEnd}
use Rattle.run_alone.specs.Run.{WasOpened, WasUnopened, IsWhyUnopened, HasWhole, IsWhole}
use Rattle.frame_share.specs.declared.step.ShareStep.{ShareStep}
use Rattle.run_alone.specs.declared.report.Report.{Report}
use Rattle.frame_fetch.specs.declared.run_end.RunEnd.{RunEnd}
use Rattle.frame_fetch.specs.declared.run_end.RunEnd.TheVariants.{Done, OtherJob, BadLedger, Changed, SourceFault, DiskFault, NoMemory}

-- files without a seal are of no version
no_seal : (files : Files) → ((id : FileId) → files id ≡ None) → (version : Version) → IsInForce version files → ⊥
no_seal files none Two in_force = let gone = sym (none Seal2) ∙ in_force in cc
no_seal files none One in_force = let gone = sym (none Seal) ∙ in_force.1 in cc

-- no gate is open
none_open : (gates : List Bool) → ((k : ℕ) → get_or gates k false ≡ true → ⊥) → count_by (λ gate. gate) gates ≡ 0
none_open [] shut = refl
none_open (true ∷ gates) shut = absurd (shut 0 refl)
none_open (false ∷ gates) shut = none_open gates (λ k. shut (suc k))

-- then every frame is closed
is_shut : (gates : List Bool) → ((k : ℕ) → get_or gates k false ≡ true → ⊥) → (k : ℕ) → get_or gates k false ≡ false
is_shut gates shut k = by (get_or gates k false) refl
  where
    by : (b : Bool) → get_or gates k false ≡ b → get_or gates k false ≡ false
    by true is = absurd (shut k is)
    by false is = is

all_closed : (gates : List Bool) → ((k : ℕ) → get_or gates k false ≡ false) → (from count : ℕ) → length (filter (λ i. not (get_or gates i false)) (range_with_len from count)) ≡ count
all_closed gates shut from zero = refl
all_closed gates shut from (suc count) = rw (shut from) (ap suc (all_closed gates shut (from + 1) count))

closed_count : (gates : List Bool) → ((k : ℕ) → get_or gates k false ≡ true → ⊥) → (count : ℕ) → length (closed_frames gates 0 count) ≡ count
unfolding closed_frames
closed_count gates shut count = all_closed gates (is_shut gates shut) 0 (count - 0) ∙ omega arith

module _ (old : History) (faults : ℕ) (fresh : IsNewDisk (λ id. None) old faults) where
  -- a file is sealed in no image
  image_empty : (files : Files) → IsImage (moment_of old) files → (id : FileId) → files id ≡ None
  image_empty files image id = subst (λ (content : Option (List ℕ)). AgreesOutside (loose_of old) id content (files id)) (fresh.view id)
      (image id (λ loose. subst (λ (places : List Place). IsLoose places (Whole id)) fresh.firm loose))

  unsealed : IsSealed (view_of old) → ⊥
  unsealed sealed = no_seal (view_of old) (λ id. fresh.view id) sealed.0 sealed.1

  sound : (job : JobData) (world : World) → Surely (moment_of old) (IsSoundReel job world)
  sound job world files image = record { sound = λ i acks. absurd (none acks.version acks.in_force); fit = λ version in_force. absurd (none version in_force) }
    where
      none : (version : Version) → IsInForce version files → ⊥
      none = no_seal files (image_empty files image)

  module _ (job : JobData) (count : ℕ) (all : count ≡ frames_of job) (told : Option World) (new : History) where
    -- at Done the folder has the whole reel
    pub whole_at_done : HasWhole job 0 count told old new → IfSome told (λ world. IsWhole job 0 (frames_of job) world (moment_of new))
    whole_at_done whole = subst (λ (n : ℕ). IfSome told (λ world. IsWhole job 0 n world (moment_of new))) all (by told whole.shown)
      where
        by : (files : Option World) → IfSome files (λ world. Surely (moment_of old) (IsSoundReel job world) → IsWhole job 0 count world (moment_of new)) → IfSome files (λ world. IsWhole job 0 count world (moment_of new))
        by None shown = tt
        by (Some world) shown = shown (sound job world)

    module _ (capacity : ℕ) (report : Report) (log : List ShareStep) where
      -- and every frame is among those that were finished
      pub acked_at_done : WasOpened job 0 count told capacity true old new Done report log ⊎ WasUnopened job true old new Done report log → report.kept + report.rendered ≡ frames_of job
      acked_at_done (inl opened) =
          let shut : (k : ℕ) → get_or opened.gates k false ≡ true → ⊥ = λ k is. let acks = ((opened.opening refl k).0 is).0 in unsealed (acks.version, acks.in_force) in
          let kept : report.kept ≡ 0 = opened.kept ∙ none_open opened.gates shut in
          let rendered : report.rendered ≡ frames_of job = opened.finished.all refl ∙ closed_count opened.gates shut count ∙ all in
          omega (arith, kept, rendered)
      acked_at_done (inr refused) = absurd refused.why

      -- an empty disk is no other job's, and has no bad ledger
      never_refused : (end : RunEnd) → IsWhyUnopened job true old new end → (end ≡ DiskFault → ⊥) → (end ≡ NoMemory → ⊥) → ⊥
      never_refused Done why disk memory = why
      never_refused (OtherJob kept wanted) why disk memory = let other = why.2 refl in unsealed (other.version, other.in_force)
      never_refused (BadLedger len) why disk memory = let bad = why refl in unsealed (bad.version, bad.in_force)
      never_refused (Changed key was now) why disk memory = why
      never_refused SourceFault why disk memory = why
      never_refused DiskFault why disk memory = disk refl
      never_refused NoMemory why disk memory = memory refl

      -- so a run over files that are told, of which no load fails, ends otherwise for want of memory alone
      pub ends_in_memory : (end : RunEnd) → WasOpened job 0 count told capacity true old new end report log ⊎ WasUnopened job true old new end report log → IsSome told
          → (end ≡ SourceFault → ⊥) → (end ≡ Done → ⊥) → (end ≡ DiskFault → ⊥) → (end ≡ NoMemory → ⊥) → ⊥
      ends_in_memory end (inl opened) tells source done disk memory = by end opened.is_end source done disk memory
        where
          by : (how : RunEnd) → IsEnd job told how → (how ≡ SourceFault → ⊥) → (how ≡ Done → ⊥) → (how ≡ DiskFault → ⊥) → (how ≡ NoMemory → ⊥) → ⊥
          by Done is source done disk memory = done refl
          by (OtherJob kept wanted) is source done disk memory = is
          by (BadLedger len) is source done disk memory = is
          by (Changed key was now) is source done disk memory = let none : is_some told ≡ false = ap is_some is.untold in absurd (cc)
          by SourceFault is source done disk memory = source refl
          by DiskFault is source done disk memory = disk refl
          by NoMemory is source done disk memory = memory refl
      ends_in_memory end (inr refused) tells source done disk memory = never_refused end refused.why disk memory
