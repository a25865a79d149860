-- How steps that are made from a seat add up.
use Rattle.std.proofs.Common.{◌≡◌, inl, inr, ℕ, ◌+◌, ◌-◌, ◌<◌, ◌≤◌, Bool, true, false, ◌||◌, refl, sym, ◌∙◌, ap, subst, arith}
use Rattle.std.specs.Prelude.{◌↔◌, Option, Result, Ok, Err, IfErr, OnErr, OnOk}
use Rattle.std.proofs.lemmas.Bool.{true≢false, cases_lt}
use Rattle.cf_base.specs.Count.{HasRisen}
use Rattle.scan_source.specs.State.{HasFailedLast, ScanState}
use Rattle.scan_source.proofs.Leaving.{failed_behind}
use Rattle.scan_source.specs.World.{World}
use Rattle.render_board.specs.declared.step.Why.{Why}
use Rattle.render_board.specs.declared.step.Why.TheVariants.{Source, Disk, Memory, Changed}
use Rattle.conform_job.specs.Job.{JobData}
use Rattle.frame_share.specs.Units.{Tally as Asked}
use Rattle.frame_fetch.specs.Ends.{IsChange, IsUnrendered}
use Rattle.frame_fetch.specs.declared.run_end.RunEnd.{RunEnd}
use Rattle.frame_fetch.specs.declared.run_end.RunEnd.TheVariants.{Done, OtherJob, BadLedger, Changed as IsNow, SourceFault, DiskFault, NoMemory}
use Rattle.reel_disk.specs.declared.disk.DiskFault.{DiskFault as DiskFailed}
use Rattle.station.specs.Leaving.{HasLeft}
use Rattle.station.specs.Marks.{Tallies, Tally, raised_by}
use Rattle.station.specs.Needed.{with_needs}
use Rattle.station.specs.declared.leaving.Leave.{Leave}
use Rattle.station.specs.declared.leaving.Leave.TheVariants as leaves
use Rattle.station.specs.StationSteps.{why_by}
use Rattle.conform_job.specs.Answers.{count_after}
use Rattle.frame_fetch.specs.Scanned.{HasFetched, IsScanned, IsScannedAlone}
use Rattle.crew_seat.specs.Stepped.{HasStepped, HasWorked}
use Rattle.crew_seat.specs.Worked.{HasCauses}
use Rattle.crew_seat.specs.inside.Worked.{HasMarked}
use Rattle.crew_seat.specs.declared.seat.Seat.{Seat}
use Rattle.frame_fetch.proofs.Scanning.{alone_itself, loads_along, scanned_as}
use Rattle.crew_seat.proofs.Working.{parts_along, causes_none}

or_left : (a b : Bool) → a ≡ true → (a || b) ≡ true
or_left true b is = refl
or_left false b is = absurd (true≢false (sym is))

or_right : (a b : Bool) → b ≡ true → (a || b) ≡ true
or_right true b is = refl
or_right false b is = is

or_same : (a b c : Bool) → ((a || b) || c) ≡ (a || (b || c))
or_same true b c = refl
or_same false b c = refl

or_none : (a : Bool) → a ≡ (a || false)
or_none true = refl
or_none false = refl

-- a failure, where there was none before
failed_alone : (had failed : Bool) → had ≡ false → failed ≡ (had || failed)
failed_alone true failed none = absurd (true≢false none)
failed_alone false failed none = refl

module _ {S : Type 0} (told : Option World) (state : S → ScanState) where
  both_scanned : (old mid new : S) (n m : ℕ) (a b : Bool) → IsScanned n (a ≡ true) (state old) (state mid) → IsScanned m (b ≡ true) (state mid) (state new) → IsScanned (n + m) ((a || b) ≡ true) (state old) (state new)
  both_scanned old mid new n m a b first second = record {
    asked = second.asked ∙ ap (count_after m) first.asked ∙ loads_along n m (state old).loads;
    heads = second.heads ∙ first.heads;
    later = omega (arith, first.later, second.later);
    failed = rose a b first second;
    steady = λ never. second.steady (λ is. never (or_right a b is)) ∙ first.steady (λ is. never (or_left a b is));
    told = second.told ∙ first.told;
    lent = second.lent ∙ first.lent;
  }
    where
      rose : (a b : Bool) → IsScanned n (a ≡ true) (state old) (state mid) → IsScanned m (b ≡ true) (state mid) (state new) → (a || b) ≡ true → HasRisen (state old).faults (state new).faults
      rose true b first second is = let up = first.failed refl in let on = second.later in omega (arith, up, on)
      rose false b first second is = let still = first.steady (λ e. true≢false (sym e)) in subst (λ (k : ℕ). HasRisen k (state new).faults) still (second.failed is)

  -- behind a failed load nothing is asked
  both_alone : (old mid new : S) (n m : ℕ) (a b : Bool) → (a ≡ true → new ≡ mid) → IsScannedAlone n (a ≡ true) (state old) (state mid) → IsScannedAlone m (b ≡ true) (state mid) (state new) → IsScannedAlone (n + m) ((a || b) ≡ true) (state old) (state new)
  both_alone old mid new n m a b still first second = record { scanned = both_scanned old mid new n m a b first.scanned second.scanned; ends = last a b still first second }
    where
      last : (a b : Bool) → (a ≡ true → new ≡ mid) → IsScannedAlone n (a ≡ true) (state old) (state mid) → IsScannedAlone m (b ≡ true) (state mid) (state new) → (a || b) ≡ true → HasFailedLast (state old) (state new)
      last true b still first second is = subst (λ (s : S). HasFailedLast (state old) (state s)) (sym (still refl)) (first.ends refl)
      last false b still first second is = failed_behind (first.scanned.steady (λ e. true≢false (sym e))) (second.ends is)

  both_cause : (a b c : Tallies) (n m : ℕ) (f g : Bool) → HasCauses told n f a b → HasCauses told m g b c → HasCauses told (n + m) (f || g) a c
  both_cause a b c n m f g first second = record {
    parts = parts_along a b c first.parts second.parts;
    source = λ rose. elim (cases_lt a.source.amount b.source.amount) [
      | inl early ↦ or_left f g (first.source early)
      | inr none ↦ or_right f g (second.source (omega (arith, none, rose)))
    ];
    changed = λ rose. elim (cases_lt a.changed.amount b.changed.amount) [
      | inl early ↦ let cause = first.changed early in (omega (arith, cause.0), cause.1)
      | inr none ↦ let cause = second.changed (omega (arith, none, rose)) in (omega (arith, cause.0), cause.1)
    ];
  }

-- a stop that is not for a source file
abbrev IsQuiet : Why → Type 0
IsQuiet Source = ⊥
IsQuiet Disk = Unit {0}
IsQuiet Memory = Unit {0}
IsQuiet (Changed key was now) = ⊥

quiet_causes : (told : Option World) (why : Why) (more : ℕ) (failed : Bool) (before : Tallies) → IsQuiet why → HasCauses told more failed before (raised_by why before)
quiet_causes told Source more failed before quiet = absurd quiet
quiet_causes told Disk more failed before quiet = record { parts = record { source = refl; disk = refl; memory = refl; changed = refl; claims = refl }; source = λ rose. absurd (omega (arith, rose)); changed = λ rose. absurd (omega (arith, rose)) }
quiet_causes told Memory more failed before quiet = record { parts = record { source = refl; disk = refl; memory = refl; changed = refl; claims = refl }; source = λ rose. absurd (omega (arith, rose)); changed = λ rose. absurd (omega (arith, rose)) }
quiet_causes told (Changed key was now) more failed before quiet = absurd quiet

-- a stop has the cause of the end that it stands for
stop_causes : (job : JobData) (told : Option World) (end : RunEnd) (more : ℕ) (failed : Bool) (before : Tallies) → IsUnrendered job told end → (end ≡ SourceFault → failed ≡ true) → (IsChange end → 1 ≤ more) → HasCauses told more failed before (raised_by (why_by end) before)
stop_causes job told Done more failed before stop fails loaded = absurd stop
stop_causes job told (OtherJob kept wanted) more failed before stop fails loaded = absurd stop
stop_causes job told (BadLedger len) more failed before stop fails loaded = absurd stop
stop_causes job told (IsNow key was now) more failed before stop fails loaded = record { parts = record { source = refl; disk = refl; memory = refl; changed = refl; claims = refl }; source = λ rose. absurd (omega (arith, rose)); changed = λ rose. (loaded (key, was, now, refl), stop.untold) }
stop_causes job told SourceFault more failed before stop fails loaded = record { parts = record { source = refl; disk = refl; memory = refl; changed = refl; claims = refl }; source = λ rose. fails refl; changed = λ rose. absurd (omega (arith, rose)) }
stop_causes job told DiskFault more failed before stop fails loaded = absurd stop
stop_causes job told NoMemory more failed before stop fails loaded = quiet_causes told Memory more failed before tt

-- a stop counts no claim
raised_claims : (why : Why) (marks : Tallies) → (raised_by why marks).claims ≡ marks.claims
raised_claims Source marks = refl
raised_claims Disk marks = refl
raised_claims Memory marks = refl
raised_claims (Changed key was now) marks = refl

pub left_claims : (Is : Why → Type 0) (before now : Tallies) (leave : Leave) → HasLeft Is before now leave → now.claims ≡ before.claims
left_claims Is before now leaves.Stopped (why, is, raised) = ap (λ (t : Tallies). t.claims) raised ∙ raised_claims why before
left_claims Is before now (leaves.Away reason) same = ap (λ (t : Tallies). t.claims) same

pub finish_claims : (result : Result (Unit {0}) DiskFailed) (before now : Tallies) → OnOk result (now ≡ before) → OnErr result (now ≡ raised_by Disk before) → now.claims ≡ before.claims
finish_claims (Ok done) before now same raised = ap (λ (t : Tallies). t.claims) same
finish_claims (Err fault) before now same raised = ap (λ (t : Tallies). t.claims) raised

-- a frame was claimed before it was made or could not be
pub marked_claimed : (told : Option World) {T : Type 0} (made : Result T RunEnd) (needs : ℕ) (before now : Tallies) → HasMarked told made (with_needs needs before) now → HasMarked told made before now
marked_claimed told made needs before now marked loads failed fails loaded =
    let causes = marked loads failed fails loaded in
    record { parts = record { source = causes.parts.source; disk = causes.parts.disk; memory = causes.parts.memory; changed = causes.parts.changed; claims = causes.parts.claims }; source = causes.source; changed = causes.changed }

module _ (told : Option World) {T : Type 0} (made : Result T RunEnd) (before now : Tallies) where
  pub marked_none : now ≡ before → HasMarked told made before now
  marked_none same loads failed fails loaded =
      subst (HasCauses told loads failed before) (sym same) (causes_none told before before loads failed (record { source = refl; disk = refl; memory = refl; changed = refl; claims = refl }) (record { source = refl; changed = refl }))

  pub marked_disk : now ≡ raised_by Disk before → HasMarked told made before now
  marked_disk same loads failed fails loaded = subst (HasCauses told loads failed before) (sym same) (quiet_causes told Disk loads failed before tt)

  pub marked_end : (job : JobData) (end : RunEnd) (why : Why) → made ≡ Err end → IfErr made (IsUnrendered job told) → why ≡ why_by end → now ≡ raised_by why before → HasMarked told made before now
  marked_end job end why is stop by same loads failed fails loaded =
      subst (HasCauses told loads failed before) (sym (same ∙ ap (λ (w : Why). raised_by w before) by))
      (stop_causes job told end loads failed before (subst (λ (r : Result T RunEnd). IfErr r (IsUnrendered job told)) is stop) (λ fault. fails (is ∙ ap Err fault)) (subst (λ (r : Result T RunEnd). IfErr r (λ e. IsChange e → 1 ≤ loads)) is loaded))

  -- a finish that may have failed
  pub marked_finish : (result : Result (Unit {0}) DiskFailed) → OnOk result (now ≡ before) → OnErr result (now ≡ raised_by Disk before) → HasMarked told made before now
  marked_finish (Ok done) same raised = marked_none same
  marked_finish (Err fault) same raised = marked_disk raised

  -- a stop, or none where the worker was turned away
  pub marked_left : (Is : Why → Type 0) (leave : Leave) → HasLeft Is before now leave → ((why : Why) → Is why → now ≡ raised_by why before → HasMarked told made before now) → HasMarked told made before now
  marked_left Is leaves.Stopped (why, is, same) each = each why is same
  marked_left Is (leaves.Away reason) same each = marked_none same

module _ {S N C A B D E F G : Type 0} (told : Option World) (state : S → ScanState) where
  abbrev Stepped : (most owed : ℕ) → Seat S N C A B D E F G → Seat S N C A B D E F G → Type 0
  Stepped most owed old new = HasStepped told state most owed old new

  abbrev Worked : ℕ → Seat S N C A B D E F G → Seat S N C A B D E F G → Type 0
  Worked most old new = HasWorked told state most old new

  -- nothing was loaded, a stop may be counted that is not for a source file, and a frame may be claimed
  pub stepped_marked : (most owed : ℕ) (old new : Seat S N C A B D E F G) → new.loader.scan ≡ old.loader.scan → new.loader.units ≡ old.loader.units → new.loader.loads ≡ old.loader.loads → new.has_failed ≡ old.has_failed → HasCauses told 0 false old.marks new.marks
      → old.marks.claims.amount ≤ new.marks.claims.amount → Stepped most owed old new
  stepped_marked most owed old new scan units count has causes claims = record {
    more = 0;
    failed = false;
    few = omega arith;
    counts = omega (arith, count);
    fails = has ∙ or_none old.has_failed;
    units = record { parts = ap (λ (u : Asked). u.parts) units; amount = let amount = ap (λ (u : Asked). u.amount) units in omega (arith, amount) };
    scanned = subst (λ (s : S). IsScannedAlone 0 (false ≡ true) (state old.loader.scan) (state s)) (sym scan) (alone_itself (false ≡ true) (λ e. true≢false (sym e)) (state old.loader.scan));
    still = λ had. scan;
    causes = causes;
    needed = omega (arith, claims);
  }

  pub stepped_itself : (most owed : ℕ) (seat : Seat S N C A B D E F G) → Stepped most owed seat seat
  stepped_itself most owed seat = stepped_marked most owed seat seat refl refl refl refl (causes_none told seat.marks seat.marks 0 false (record { source = refl; disk = refl; memory = refl; changed = refl; claims = refl }) (record { source = refl; changed = refl })) (omega arith)

  -- a frame was claimed
  pub stepped_claimed : (most owed needs : ℕ) (old new : Seat S N C A B D E F G) → new.loader.scan ≡ old.loader.scan → new.loader.units ≡ old.loader.units → new.loader.loads ≡ old.loader.loads → new.has_failed ≡ old.has_failed
      → new.marks ≡ with_needs needs old.marks → Stepped most owed old new
  stepped_claimed most owed needs old new scan units count has same =
      stepped_marked most owed old new scan units count has
      (subst (HasCauses told 0 false old.marks) (sym same)
      (causes_none told old.marks (with_needs needs old.marks) 0 false (record { source = refl; disk = refl; memory = refl; changed = refl; claims = refl }) (record { source = refl; changed = refl })))
      (let more = ap (λ (t : Tallies). t.claims.amount) same in omega (arith, more))

  -- the worker has stopped for want of memory, or was turned away
  pub stepped_left : (most owed : ℕ) (old new : Seat S N C A B D E F G) (leave : Leave) → new.loader.scan ≡ old.loader.scan → new.loader.units ≡ old.loader.units → new.loader.loads ≡ old.loader.loads → new.has_failed ≡ old.has_failed
      → HasLeft (λ why. why ≡ Memory) old.marks new.marks leave → Stepped most owed old new
  stepped_left most owed old new leave scan units count has left =
      stepped_marked most owed old new scan units count has (by leave left) (let same = ap (λ (t : Tally). t.amount) (left_claims _ old.marks new.marks leave left) in omega (arith, same))
    where
      by : (leave : Leave) → HasLeft (λ why. why ≡ Memory) old.marks new.marks leave → HasCauses told 0 false old.marks new.marks
      by leaves.Stopped (why, is, raised) = subst (HasCauses told 0 false old.marks) (sym (raised ∙ ap (λ (w : Why). raised_by w old.marks) is)) (quiet_causes told Memory 0 false old.marks tt)
      by (leaves.Away reason) still = subst (HasCauses told 0 false old.marks) (sym still) (causes_none told old.marks old.marks 0 false (record { source = refl; disk = refl; memory = refl; changed = refl; claims = refl }) (record { source = refl; changed = refl }))

  pub stepped_along : (n m most p q owed : ℕ) (old mid new : Seat S N C A B D E F G) → n + m ≤ most → p + q ≤ owed → Stepped n p old mid → Stepped m q mid new
      → Stepped most owed old new
  stepped_along n m most p q owed old mid new le due first second = record {
    more = first.more + second.more;
    failed = first.failed || second.failed;
    few = let p = first.few in let q = second.few in omega (arith, p, q, le);
    counts = let p = first.counts in let q = second.counts in omega (arith, p, q);
    fails = second.fails ∙ ap (λ (o : Bool). o || second.failed) first.fails ∙ or_same old.has_failed first.failed second.failed;
    units = record { parts = second.units.parts ∙ first.units.parts; amount = let p = first.units.amount in let q = second.units.amount in omega (arith, p, q) };
    scanned = both_alone told state old.loader.scan mid.loader.scan new.loader.scan first.more second.more first.failed second.failed
        (λ failed. second.still (first.fails ∙ or_right old.has_failed first.failed failed)) first.scanned second.scanned;
    still = λ had. second.still (first.fails ∙ or_left old.has_failed first.failed had) ∙ first.still had;
    causes = both_cause told state old.marks mid.marks new.marks first.more second.more first.failed second.failed first.causes second.causes;
    needed = let one = first.needed in let other = second.needed in omega (arith, one, other, due);
  }

  pub stepped_within : (most more owed : ℕ) (old new : Seat S N C A B D E F G) → most ≤ more → Stepped most owed old new → Stepped more owed old new
  stepped_within most more owed old new le step = record { more = step.more; failed = step.failed; few = let few = step.few in omega (arith, few, le); counts = step.counts; fails = step.fails; units = step.units; scanned = step.scanned; still = step.still; causes = step.causes; needed = step.needed }

  -- a frame was made or could not be, while no load had failed, and its stop was counted
  pub stepped_made : {T : Type 0} (most owed : ℕ) (old new : Seat S N C A B D E F G) (made : Result T RunEnd) (fault : Bool) → (fault ≡ true) ↔ (made ≡ Err SourceFault) → old.has_failed ≡ false → new.has_failed ≡ fault
      → HasFetched most made old.loader.loads new.loader.loads old.loader.units new.loader.units (state old.loader.scan) (state new.loader.scan) → HasMarked told made old.marks new.marks
      → new.loader.loads + old.marks.claims.amount ≤ old.loader.loads + new.marks.claims.amount + owed → Stepped most owed old new
  stepped_made {T = T} most owed old new made fault is none has fetched marked needed =
      let counted = fetched.loaded in
      record {
        more = new.loader.loads - old.loader.loads;
        failed = fault;
        few = omega (arith, counted.few, counted.later);
        counts = omega (arith, counted.later);
        fails = has ∙ failed_alone old.has_failed fault none;
        units = record { parts = counted.parts; amount = omega (arith, counted.misses, counted.later) };
        scanned = record {
          scanned = scanned_as (state old.loader.scan) (state new.loader.scan) _ _ _ (fault ≡ true) refl is.0 is.1 fetched.scan;
          ends = λ failed. fetched.ends (is.0 failed);
        };
        still = λ had. absurd (true≢false (sym had ∙ none));
        causes = marked (new.loader.loads - old.loader.loads) fault is.1 (loaded made fetched.changed);
        needed = omega (arith, needed, counted.later);
      }
    where
      loaded : (made : Result T RunEnd) → IfErr made (λ end. IsChange end → old.loader.loads < new.loader.loads) → IfErr made (λ end. IsChange end → 1 ≤ new.loader.loads - old.loader.loads)
      loaded (Ok frame) more = tt
      loaded (Err end) more = λ change. let lt = more change in omega (arith, lt)

  -- from nothing on, the steps are all that the worker did
  pub worked_first : (most more : ℕ) (old new : Seat S N C A B D E F G) → most ≤ more → old.loader.loads ≡ 0 → old.has_failed ≡ false → Stepped most 0 old new → Worked more old new
  worked_first most more old new le none unfailed step =
      let count : new.loader.loads ≡ step.more = omega (arith, step.counts, none) in
      let has : new.has_failed ≡ step.failed = step.fails ∙ ap (λ (b : Bool). b || step.failed) unfailed in
      record {
        few = omega (arith, step.few, count, le);
        units = record { parts = step.units.parts; amount = omega (arith, step.units.amount, count) };
        scanned = subst (λ (n : ℕ). IsScannedAlone n (new.has_failed ≡ true) (state old.loader.scan) (state new.loader.scan)) (sym count) (subst (λ (b : Bool). IsScannedAlone step.more (b ≡ true) (state old.loader.scan) (state new.loader.scan)) (sym has) step.scanned);
        causes = subst (λ (n : ℕ). HasCauses told n new.has_failed old.marks new.marks) (sym count) (subst (λ (b : Bool). HasCauses told step.more b old.marks new.marks) (sym has) step.causes);
        needed = let needed = step.needed in omega (arith, needed, count);
      }

  pub worked_on : (n m most : ℕ) (old mid new : Seat S N C A B D E F G) → n + m ≤ most → Worked n old mid → Stepped m 0 mid new → Worked most old new
  worked_on n m most old mid new le first second =
      let count = second.counts in
      record {
        few = omega (arith, first.few, second.few, count, le);
        units = record { parts = second.units.parts ∙ first.units.parts; amount = let p = first.units.amount in let q = second.units.amount in omega (arith, p, q, count) };
        scanned = subst (λ (n : ℕ). IsScannedAlone n (new.has_failed ≡ true) (state old.loader.scan) (state new.loader.scan)) (sym count)
            (subst (λ (b : Bool). IsScannedAlone (mid.loader.loads + second.more) (b ≡ true) (state old.loader.scan) (state new.loader.scan)) (sym second.fails)
            (both_alone told state old.loader.scan mid.loader.scan new.loader.scan mid.loader.loads second.more mid.has_failed second.failed second.still first.scanned second.scanned));
        causes = subst (λ (n : ℕ). HasCauses told n new.has_failed old.marks new.marks) (sym count)
            (subst (λ (b : Bool). HasCauses told (mid.loader.loads + second.more) b old.marks new.marks) (sym second.fails)
            (both_cause told state old.marks mid.marks new.marks mid.loader.loads second.more mid.has_failed second.failed first.causes second.causes));
        needed = let one = first.needed in let other = second.needed in omega (arith, one, other, count);
      }
