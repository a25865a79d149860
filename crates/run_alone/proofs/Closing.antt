-- What the folder acknowledges where a run ends.
use Rattle.std.proofs.Common.{◌≡◌, ◌≢◌, inl, inr, ℕ, zero, suc, ◌+◌, ◌-◌, ◌<◌, ◌≤◌, Bool, true, false, not, cond, List, [], ◌∷◌, length, count_by, filter, take, get_or, refl, sym, ◌∙◌, ap, subst, arith}
use Rattle.std.specs.Prelude.{Contains, ◌⊎◌, ◌↔◌, Option, Some, None, IfSome}
use Rattle.std.specs.List.{range_with_len}
use Rattle.std.proofs.lemmas.List.FromFn.{length-range_with_len}
use Rattle.std.proofs.lemmas.List.Sums.{count_by-le-length, sum_by-cons}
use Rattle.cf_base.specs.Count.{HasRisen}
use Rattle.reel_disk.specs.State.{DiskState}
use Rattle.scan_source.specs.Plan.{one_more}
use Rattle.scan_source.specs.World.{World}
use Rattle.conform_job.specs.Job.{JobData}
use Rattle.frame_share.specs.declared.step.ShareStep.{ShareStep}
use Rattle.reel_disk.specs.Disk.{Files, History, moment_of, view_of}
use Rattle.reel_disk.specs.Runs.{Surely}
use Rattle.reel_disk.proofs.Images.{view_is_image}
use Rattle.resume_ledger.specs.Ledger.{Acks, Agrees}
use Rattle.resume_ledger.specs.Sound.{AddsAtMost, AddsNone}
use Rattle.resume_ledger.specs.Attach.{IsRefused, IsRefusalFor}
use Rattle.resume_ledger.specs.declared.attach.OpenFault.{OpenFault}
use Rattle.resume_ledger.specs.declared.attach.OpenFault.TheVariants as open_fault
use Rattle.resume_ledger.proofs.Versions.{agrees_shown}
use Rattle.reel_writer.specs.Reel.{frames_of, HasAcked, IsReelRun, IsSoundReel}
use Rattle.reel_writer.specs.View.{ReelView, IsReelOf}
use Rattle.run_alone.specs.Asks.{closed_frames}
use Rattle.run_alone.specs.Ends.{refused_by}
use Rattle.run_alone.specs.Run.{AreAllAcked, kept_in, IsWhyUnopened, HasWhole, IsWhole, WasUnopened}
use Rattle.conform_job.specs.Answers.{count_after}
use Rattle.run_alone.specs.Ran.{WereFinished}
use Rattle.run_alone.specs.declared.report.Report.{Report}
use Rattle.frame_fetch.specs.declared.run_end.RunEnd.{RunEnd}
use Rattle.frame_fetch.specs.declared.run_end.RunEnd.TheVariants.{Done, OtherJob, BadLedger, Changed, SourceFault, DiskFault, NoMemory}
use Rattle.run_alone.proofs.Running.{taken}
use Rattle.run_alone.proofs.Stepping.{closed_has}

module _ {D : Type 0} (job : JobData) (tells : Bool) (state : D → DiskState) (reel : ReelView D) (of : IsReelOf job tells state reel) where
  -- no more are finished than there are frames
  pub few_acks : length reel.acks ≤ frames_of job
  few_acks = let sum = of.kept in let size = of.size in omega (arith, sum, size, count_by-le-length (λ (gate : Bool). gate) reel.ledger.gates)

  of_job : (k : ℕ) (files : Files) → Acks reel.ledger.digest (length reel.ledger.gates) k files → HasAcked job k files
  of_job k files acks = subst (λ (d : List ℕ). Acks d (frames_of job) k files) of.digest (subst (λ (n : ℕ). Acks reel.ledger.digest n k files) of.size acks)

  of_ledger : (k : ℕ) (files : Files) → HasAcked job k files → Acks reel.ledger.digest (length reel.ledger.gates) k files
  of_ledger k files acks = subst (λ (d : List ℕ). Acks d (length reel.ledger.gates) k files) (sym of.digest) (subst (λ (n : ℕ). Acks job.parts.digest n k files) (sym of.size) acks)

  module _ (agrees : Agrees (moment_of (state reel.disk).history) reel.ledger) where
    -- every image acknowledges the frames whose gates are open
    pub images_acked : (k : ℕ) → get_or reel.ledger.gates k false ≡ true → Surely (moment_of (state reel.disk).history) (HasAcked job k)
    images_acked k is files image = of_job k files ((agrees_shown (moment_of (state reel.disk).history) reel.ledger agrees k files image).0 is)

    -- and the view no others
    pub view_acked : (k : ℕ) → HasAcked job k (view_of (state reel.disk).history) ↔ (get_or reel.ledger.gates k false ≡ true)
    view_acked k =
        let here = view_is_image (moment_of (state reel.disk).history) in (
          λ acks. (agrees_shown (moment_of (state reel.disk).history) reel.ledger agrees k (view_of (state reel.disk).history) here).1 (of_ledger k (view_of (state reel.disk).history) acks),
          λ is. images_acked k is (view_of (state reel.disk).history) here,
        )

    -- where only one frame may have been touched since, all others are acknowledged as their gates say
    pub others_acked : (i : ℕ) (new : History) → (state reel.disk).history.now ≤ new.now → AddsAtMost i job.parts.digest (frames_of job) (state reel.disk).history new → (k : ℕ) → k ≢ i → HasAcked job k (view_of new) ↔ (get_or reel.ledger.gates k false ≡ true)
    others_acked i new later adds k other =
        let there = adds k other new.now later (omega arith) (view_of new) (view_is_image (moment_of new)) in
        (λ acks. (view_acked k).0 (there.0 acks), λ is. there.1 ((view_acked k).1 is))

    pub exit_acked : (gates : List Bool) → ((k : ℕ) → (get_or reel.ledger.gates k false ≡ true) ↔ ((get_or gates k false ≡ true) ⊎ Contains reel.acks k)) → (listed : List ℕ) → reel.acks ≡ listed
        → (k : ℕ) → HasAcked job k (view_of (state reel.disk).history) ↔ ((get_or gates k false ≡ true) ⊎ Contains listed k)
    exit_acked gates opened listed same k = subst (λ (l : List ℕ). HasAcked job k (view_of (state reel.disk).history) ↔ ((get_or gates k false ≡ true) ⊎ Contains l k)) same
        (λ acks. (opened k).0 ((view_acked k).0 acks), λ was. (view_acked k).1 ((opened k).1 was))

  -- so it is at the end of a run, also where the disk failed
  pub exit_of : (gates : List Bool) → ((k : ℕ) → (get_or reel.ledger.gates k false ≡ true) ↔ ((get_or gates k false ≡ true) ⊎ Contains reel.acks k)) → (listed : List ℕ) → reel.acks ≡ listed → (k : ℕ)
      → (end : RunEnd) → (end ≢ DiskFault → Agrees (moment_of (state reel.disk).history) reel.ledger) → (end ≡ DiskFault → HasAcked job k (view_of (state reel.disk).history) ↔ ((get_or gates k false ≡ true) ⊎ Contains reel.acks k))
      → HasAcked job k (view_of (state reel.disk).history) ↔ ((get_or gates k false ≡ true) ⊎ Contains listed k)
  exit_of gates opened listed same k end agrees failed = by end refl
    where
      by : (e : RunEnd) → end ≡ e → HasAcked job k (view_of (state reel.disk).history) ↔ ((get_or gates k false ≡ true) ⊎ Contains listed k)
      by DiskFault is = subst (λ (l : List ℕ). HasAcked job k (view_of (state reel.disk).history) ↔ ((get_or gates k false ≡ true) ⊎ Contains l k)) same (failed is)
      by Done is = exit_acked (agrees (λ was. let both = sym is ∙ was in cc)) gates opened listed same k
      by (OtherJob kept wanted) is = exit_acked (agrees (λ was. let both = sym is ∙ was in cc)) gates opened listed same k
      by (BadLedger len) is = exit_acked (agrees (λ was. let both = sym is ∙ was in cc)) gates opened listed same k
      by (Changed key was_info now) is = exit_acked (agrees (λ was. let both = sym is ∙ was in cc)) gates opened listed same k
      by SourceFault is = exit_acked (agrees (λ was. let both = sym is ∙ was in cc)) gates opened listed same k
      by NoMemory is = exit_acked (agrees (λ was. let both = sym is ∙ was in cc)) gates opened listed same k

-- a frame's gate is open, or it is closed
split_gates : (is_open : ℕ → Bool) (frames : List ℕ) → count_by is_open frames + length (filter (λ i. not (is_open i)) frames) ≡ length frames
split_gates is_open [] = refl
split_gates is_open (i ∷ frames) = by (is_open i) refl (sum_by-cons (λ (k : ℕ). cond {A = ℕ} (is_open k) 1 0) i frames) (split_gates is_open frames)
  where
    by : (b : Bool) → is_open i ≡ b → count_by is_open (i ∷ frames) ≡ cond (is_open i) 1 0 + count_by is_open frames → count_by is_open frames + length (filter (λ k. not (is_open k)) frames) ≡ length frames → count_by is_open (i ∷ frames) + length (filter (λ k. not (is_open k)) (i ∷ frames)) ≡ suc (length frames)
    by true is all rest =
        let one : cond {A = ℕ} (is_open i) 1 0 ≡ 1 = ap (λ (b : Bool). cond {A = ℕ} b 1 0) is in
        let less : length (filter (λ k. not (is_open k)) (i ∷ frames)) ≡ length (filter (λ k. not (is_open k)) frames) = rw is refl in
        omega (arith, all, one, less, rest)
    by false is all rest =
        let none : cond {A = ℕ} (is_open i) 1 0 ≡ 0 = ap (λ (b : Bool). cond {A = ℕ} b 1 0) is in
        let more : length (filter (λ k. not (is_open k)) (i ∷ frames)) ≡ suc (length (filter (λ k. not (is_open k)) frames)) = rw is refl in
        omega (arith, all, none, more, rest)

-- so at Done the frames of the range that were kept and those that were rendered are the whole range
pub rest_of : (job : JobData) (low high : ℕ) (gates : List Bool) (rendered : ℕ) (end : RunEnd) (log : List ShareStep) → WereFinished job low high gates end rendered log → end ≡ Done → kept_in low high gates + rendered ≡ high - low
unfolding closed_frames
rest_of job low high gates rendered end log finished done =
    let all = split_gates (λ i. get_or gates i false) (range_with_len low (high - low)) in
    let size = length-range_with_len low (high - low) in
    let closed : length (filter (λ i. not (get_or gates i false)) (range_with_len low (high - low))) ≡ rendered = sym (finished.all done) in
    omega (arith, all, size, closed)

-- where the range is the whole reel, those that were kept are all whose gates are open
count_places : (p : ℕ → Bool) (xs : List Bool) (a : ℕ) → ((k : ℕ) → p (a + k) ≡ get_or xs k false) → count_by p (range_with_len a (length xs)) ≡ count_by (λ b. b) xs
count_places p [] a same = refl
count_places p (x ∷ xs) a same =
    let first : p a ≡ x = subst (λ (k : ℕ). p k ≡ x) (omega arith) (same 0) in
    let here : cond {A = ℕ} (p a) 1 0 ≡ cond x 1 0 = ap (λ (b : Bool). cond {A = ℕ} b 1 0) first in
    let rest = count_places p xs (a + 1) (λ k. subst (λ (j : ℕ). p j ≡ get_or xs k false) (omega arith) (same (suc k))) in
    omega (arith, here, rest, sum_by-cons (λ (j : ℕ). cond {A = ℕ} (p j) 1 0) a (range_with_len (a + 1) (length xs)), sum_by-cons (λ (b : Bool). cond {A = ℕ} b 1 0) x xs)

pub kept_in_all : (gates : List Bool) (count : ℕ) → length gates ≡ count → kept_in 0 count gates ≡ count_by (λ gate. gate) gates
kept_in_all gates count size =
    let whole : count - 0 ≡ length gates = omega (arith, size) in
    ap (λ (n : ℕ). count_by (λ i. get_or gates i false) (range_with_len 0 n)) whole ∙ count_places (λ i. get_or gates i false) gates 0 (λ k. ap (λ (n : ℕ). get_or gates n false) (omega arith))

-- at Done every frame of the range is among those that were acknowledged and those that were finished
pub all_done : (job : JobData) (low high : ℕ) (gates : List Bool) (acks : List ℕ) (rendered : ℕ) (log : List ShareStep) → low ≤ high → WereFinished job low high gates Done rendered log → acks ≡ take rendered (closed_frames gates low high) → (i : ℕ) → low ≤ i → i < high → (get_or gates i false ≡ true) ⊎ Contains acks i
all_done job low high gates acks rendered log ordered finished is i late within = by (get_or gates i false) refl
  where
    whole : take rendered (closed_frames gates low high) ≡ closed_frames gates low high
    whole = ap (λ n. take n (closed_frames gates low high)) (finished.all refl) ∙ taken gates low high high ordered (omega arith)

    by : (b : Bool) → get_or gates i false ≡ b → (get_or gates i false ≡ true) ⊎ Contains acks i
    by true is_open = inl is_open
    by false shut = inr (subst (λ (l : List ℕ). Contains l i) (sym (is ∙ whole)) (closed_has gates low high i late within shut))

-- where every image acknowledges every frame of a range, a run that was begun sound has left the whole range
pub whole_reel : (job : JobData) (low high : ℕ) (told : Option World) (old new : History) → IsReelRun job told old new → AreAllAcked job low high (moment_of new) → HasWhole job low high told old new
whole_reel job low high told old new run acked = record { shown = by told run.sound }
  where
    by : (told : Option World) → IfSome told (λ world. Surely (moment_of old) (IsSoundReel job world) → (m : ℕ) → old.now ≤ m → m ≤ new.now → Surely (new.past m) (IsSoundReel job world)) → IfSome told (λ world. Surely (moment_of old) (IsSoundReel job world) → IsWhole job low high world (moment_of new))
    by None sound = tt
    by (Some world) sound = λ all i late within.
        let here = view_is_image (moment_of new) in
        ((sound all new.now run.extends.later (omega arith) (view_of new) here).sound i (acked.each i late within (view_of new) here)).file

-- why a folder was not opened
refused : (job : JobData) (tells : Bool) (old new : History) (fault : OpenFault) → IsRefusalFor job.parts.digest fault → (tells ≡ true → IsRefused job.parts.digest (frames_of job) old new fault) → (tells ≡ true → AddsNone job.parts.digest (frames_of job) old new)
    → IsWhyUnopened job tells old new (refused_by fault)
refused job tells old new (open_fault.OtherJob kept wanted) known is adds = (known.0, known.1, is)
refused job tells old new (open_fault.BadLedger len) known is adds = is
refused job tells old new open_fault.DiskFault known is adds = adds
refused job tells old new open_fault.NoMemory known is adds = is

-- a disk that failed is the only way to such an end
pub refused_disk : (fault : OpenFault) → refused_by fault ≡ DiskFault → fault ≡ open_fault.DiskFault
refused_disk (open_fault.OtherJob kept wanted) is = cc
refused_disk (open_fault.BadLedger len) is = cc
refused_disk open_fault.DiskFault is = refl
refused_disk open_fault.NoMemory is = cc

pub was_refused : (job : JobData) (tells : Bool) (old new : History) (fault : OpenFault) (end : RunEnd) (report : Report) (log : List ShareStep) → end ≡ refused_by fault
    → IsRefusalFor job.parts.digest fault → (tells ≡ true → IsRefused job.parts.digest (frames_of job) old new fault) → (tells ≡ true → AddsNone job.parts.digest (frames_of job) old new)
    → (report.kept ≡ 0) × (report.rendered ≡ 0) → (report.loads ≡ 0) × (report.misses ≡ 0) → log ≡ [] → WasUnopened job tells old new end report log
was_refused job tells old new fault end report log ends known is adds none loads unasked = record {
  why = subst (IsWhyUnopened job tells old new) (sym ends) (refused job tells old new fault known is adds);
  kept = none.0;
  rendered = none.1;
  loads = loads;
  unasked = unasked;
}

-- a count of loads that went up has risen
pub loads_rose : (more before : ℕ) → 1 ≤ more → HasRisen before (count_after more before)
loads_rose more before least = rose more least
  where
    grown : (n : ℕ) → one_more before ≤ one_more (count_after n before)
    grown zero = omega arith
    grown (suc n) = let less = grown n in omega (arith, less)

    rose : (n : ℕ) → 1 ≤ n → HasRisen before (count_after n before)
    rose zero least = absurd (omega arith)
    rose (suc n) least = grown n

pub rose_by : (more before now : ℕ) → 1 ≤ more → now ≡ count_after more before → HasRisen before now
rose_by more before now least is = subst (HasRisen before) (sym is) (loads_rose more before least)
