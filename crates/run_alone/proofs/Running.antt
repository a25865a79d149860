-- What is known where a run over the frames ends.
use Rattle.std.proofs.Common.{◌≡◌, ◌≢◌, inl, inr, ℕ, suc, ◌+◌, ◌-◌, ◌<◌, ◌≤◌, Bool, true, false, List, [], ◌∷◌, ◌++◌, length, take, drop, get_or, refl, rules, sym, ◌∙◌, ap, subst, arith, length-append, append-nil}
use Rattle.std.specs.Prelude.{nat_lt, nat_le, ◌&&◌, Contains, ◌⊎◌, ◌↔◌, Option, Result, Err}
use Rattle.std.proofs.lemmas.List.{append_assoc, take_at}
use Rattle.reel_disk.specs.State.{DiskState}
use Rattle.scan_source.specs.World.{World}
use Rattle.conform_job.specs.Job.{JobData, file_of, need_at}
use Rattle.frame_share.specs.declared.step.ShareStep.{ShareStep}
use Rattle.frame_share.specs.Share.{ShareView}
use Rattle.reel_disk.proofs.Sparing.{spares_itself}
use Rattle.reel_writer.specs.Reel.{IsWrittenFile}
use Rattle.reel_writer.specs.View.{ReelView}
use Rattle.reel_writer.proofs.ReelLaws.{reel_run_itself}
use Rattle.reel_writer.proofs.Writing.{kept_itself}
use Rattle.frame_fetch.specs.Ends.{IsUnrendered}
use Rattle.run_alone.specs.Ends.{IsEnd}
use Rattle.run_alone.specs.inside.Ends.{IsStop}
use Rattle.run_alone.specs.Asks.{IsNext, closed_frames, asks_of_frames}
use Rattle.run_alone.specs.inside.Asks.{frame_if_closed}
use Rattle.frame_fetch.specs.Asks.{keys_of_need}
use Rattle.run_alone.specs.Ran.{WereFinished}
use Rattle.run_alone.specs.inside.Ran.{IsUnfinished, ArePast}
use Rattle.reel_disk.proofs.Leaving.{disk_still}
use Rattle.reel_disk.proofs.Writing.{writing_none}
use Rattle.run_alone.specs.inside.Run.{AreOpened, HasRunFrame, HasRunOver, IsJustOpened, IsRangeFile}
use Rattle.frame_fetch.specs.Sharing.{HasTried, IsPaired, asks_of}
use Rattle.frame_fetch.specs.declared.run_end.RunEnd.{RunEnd}
use Rattle.frame_fetch.specs.declared.run_end.RunEnd.TheVariants.{Done, OtherJob, BadLedger, Changed, SourceFault, DiskFault, NoMemory}
use Rattle.run_alone.proofs.Stepping.{among, among_is, or_either, or_here, or_true, closed_more, closed_none, closed_split, closed_has, closed_below, if_closed, asks_append, asks_if_open, asks_none, asks_one}
use Rattle.frame_fetch.proofs.Counting.{err_same}
use Rattle.frame_fetch.proofs.Logs.{asks_along, paired_along, paired_less}

-- what one frame more asks for
pub asks_more : (job : JobData) (gates : List Bool) (low i : ℕ) → low ≤ i → asks_of_frames job (closed_frames gates low (suc i)) ≡ asks_of_frames job (closed_frames gates low i) ++ asks_of_frames job (frame_if_closed gates i)
asks_more job gates low i late = ap (asks_of_frames job) (closed_more gates low i late) ∙ asks_append job (closed_frames gates low i) (frame_if_closed gates i)

-- where its gate is open it asks for none
pub asks_passed : (job : JobData) (gates : List Bool) (low i : ℕ) → low ≤ i → get_or gates i false ≡ true → asks_of_frames job (closed_frames gates low (suc i)) ≡ asks_of_frames job (closed_frames gates low i)
asks_passed job gates low i late is = asks_more job gates low i late ∙ ap (λ l. asks_of_frames job (closed_frames gates low i) ++ l) (asks_if_open job gates i is) ∙ append-nil (asks_of_frames job (closed_frames gates low i))

pub asks_first : (job : JobData) (gates : List Bool) (low : ℕ) → asks_of_frames job (closed_frames gates low low) ≡ []
asks_first job gates low = ap (asks_of_frames job) (closed_none gates low) ∙ asks_none job

next_after : (xs ys : List ℕ) (x : ℕ) → take 1 (drop (length xs) (xs ++ x ∷ ys)) ≡ x ∷ []
next_after [] ys x = refl
next_after (z ∷ xs) ys x = next_after xs ys x

none_after : (xs : List ℕ) → take 1 (drop (length xs) xs) ≡ []
none_after [] = refl
none_after (x ∷ xs) = none_after xs

module _ (gates : List Bool) (low count i : ℕ) (late : low ≤ i) (within : i ≤ count) where
  split : (rest : List ℕ) × (closed_frames gates low count ≡ closed_frames gates low i ++ rest)
  split =
      let parts = closed_split gates low i (count - i) late in
      let whole : count - i + i ≡ count = omega (arith, within) in
      (parts.0, ap (closed_frames gates low) (sym whole) ∙ parts.1)

  pub taken : take (length (closed_frames gates low i)) (closed_frames gates low count) ≡ closed_frames gates low i
  taken = ap (take (length (closed_frames gates low i))) split.1 ∙ take_at (closed_frames gates low i) split.0 (length (closed_frames gates low i)) refl

  pub no_more : length (closed_frames gates low i) ≤ length (closed_frames gates low count)
  no_more = let whole = ap length split.1 ∙ length-append (closed_frames gates low i) split.0 in omega (arith, whole)

-- an end of a frame that could not be rendered is an end of the run
pub unrendered_stop : (job : JobData) (told : Option World) (end : RunEnd) → IsUnrendered job told end → IsStop job told end
unrendered_stop job told Done stop = absurd stop
unrendered_stop job told (OtherJob kept wanted) stop = absurd stop
unrendered_stop job told (BadLedger len) stop = absurd stop
unrendered_stop job told (Changed key was now) stop = stop
unrendered_stop job told SourceFault stop = tt
unrendered_stop job told DiskFault stop = absurd stop
unrendered_stop job told NoMemory stop = tt

-- an end of a frame is one of a run whose folder is open
pub stop_end : (job : JobData) (told : Option World) (end : RunEnd) → IsStop job told end → IsEnd job told end
stop_end job told Done stop = absurd stop
stop_end job told (OtherJob kept wanted) stop = absurd stop
stop_end job told (BadLedger len) stop = absurd stop
stop_end job told (Changed key was now) stop = stop
stop_end job told SourceFault stop = tt
stop_end job told DiskFault stop = tt
stop_end job told NoMemory stop = tt

-- and no fault of the disk
unrendered_other : {R : Type 0} (job : JobData) (told : Option World) (end : RunEnd) → IsUnrendered job told end → ◌≢◌ {A = Result R RunEnd} (Err end) (Err DiskFault)
unrendered_other job told end stop same = subst (IsUnrendered job told) (err_same end DiskFault same) stop

pub not_done : (job : JobData) (told : Option World) (end : RunEnd) → IsStop job told end → end ≢ Done
not_done job told end stop same = subst (IsStop job told) same stop

-- the frame that comes next after those below i, where its gate is closed
next_closed : (gates : List Bool) (low count i : ℕ) → low ≤ i → i < count → get_or gates i false ≡ false → take 1 (drop (length (closed_frames gates low i)) (closed_frames gates low count)) ≡ i ∷ []
next_closed gates low count i late within closed =
    let parts = split gates low count (suc i) (omega (arith, late)) (omega (arith, within)) in
    let whole : closed_frames gates low count ≡ closed_frames gates low i ++ i ∷ parts.0 =
    parts.1 ∙ ap (λ l. l ++ parts.0) (closed_more gates low i late ∙ ap (λ l. closed_frames gates low i ++ l) (if_closed gates i closed)) ∙ append_assoc (closed_frames gates low i) (i ∷ []) parts.0
    in
    ap (λ l. take 1 (drop (length (closed_frames gates low i)) l)) whole ∙ next_after (closed_frames gates low i) parts.0 i

pub is_next : (gates : List Bool) (low count i finished : ℕ) → low ≤ i → i < count → get_or gates i false ≡ false → finished ≡ length (closed_frames gates low i) → IsNext gates low count finished i
is_next gates low count i finished late within closed same =
    subst (λ n. IsNext gates low count n i) (sym same) (subst (λ l. Contains l i) (sym (next_closed gates low count i late within closed)) (0, omega arith, refl))

-- a run that stopped at frame i, whose gate was closed
pub stopped : (job : JobData) (low high : ℕ) (gates : List Bool) (end : RunEnd) (i : ℕ) (a b : ShareView) → end ≢ Done → low ≤ i → i < high → get_or gates i false ≡ false → asks_of a.steps ≡ asks_of_frames job (closed_frames gates low i) → IsPaired ⊥ a.steps
    → HasTried a b (keys_of_need (need_at job i)) → WereFinished job low high gates end (length (closed_frames gates low i)) b.steps
stopped job low high gates end i a b other late within closed asks paired tried = record {
  few = no_more gates low high i late (omega (arith, within));
  all = λ done. absurd (other done);
  next = asks_of tried.more;
  rest = tried.rest;
  asked = ap asks_of tried.steps ∙ asks_along a.steps tried.more
      ∙ ap (λ l. l ++ asks_of tried.more) (asks ∙ ap (asks_of_frames job) (sym (taken gates low high i late (omega (arith, within)))));
  first = ap (asks_of_frames job) (next_closed gates low high i late within closed) ∙ asks_one job i ∙ tried.asks;
  paired = subst (IsPaired (Unit {0})) (sym tried.steps) (paired_along (Unit {0}) a.steps tried.more paired tried.paired);
  exact = λ done. absurd (other done);
}

-- the work on a frame ended before its finish
pub unmade : {D R : Type 0} (i : ℕ) (job : JobData) (told : Option World) (tells : Bool) (state : D → DiskState) (end : RunEnd) (reel : ReelView D)
    → IsUnrendered job told end → get_or reel.ledger.gates i false ≡ false → reel.ledger.closed ≡ false → HasRunFrame {R = R} i job told tells state (Err end) reel reel
unmade i job told tells state end reel stop fresh is_open = record {
  fresh = fresh;
  past = tt;
  unfinished = record { gates = refl; acks = refl; kept = refl };
  stays_open = λ _. is_open;
  failed = λ _ failed. absurd (unrendered_other job told end stop failed);
  run = λ _. reel_run_itself job told (state reel.disk).history;
  none_lost = λ _. kept_itself job (state reel.disk).history;
  spares = λ _. spares_itself (state reel.disk).history (IsWrittenFile (file_of job i));
  own = writing_none;
  disk = disk_still (unrendered_other job told end stop);
}

-- nothing was done yet
pub not_begun : {D : Type 0} (job : JobData) (low high : ℕ) (told : Option World) (tells : Bool) (state : D → DiskState) (end : RunEnd) (reel : ReelView D)
    → end ≢ DiskFault → IsEnd job told end → IsJustOpened job reel → HasRunOver job low high told tells state end reel reel
not_begun job low high told tells state end reel other is_end opened = record {
  is_end = is_end;
  acks = subst (λ (l : List ℕ). l ≡ take (length l) (closed_frames reel.ledger.gates low high)) (sym opened.unfinished) refl;
  gates = subst (λ (l : List ℕ). AreOpened reel.ledger.gates l reel.ledger.gates) (sym opened.unfinished) (search rules);
  kept = refl;
  stays_open = λ _. opened.is_open;
  failed = λ _ failed. absurd (other failed);
  run = λ _. reel_run_itself job told (state reel.disk).history;
  spares = λ _. spares_itself (state reel.disk).history (IsRangeFile job low high reel.ledger.gates);
  own = writing_none;
  disk = disk_still other;
}

-- a run that was stopped before its first frame
pub unbegun : (job : JobData) (low high : ℕ) (gates : List Bool) (end : RunEnd) (rendered : ℕ) (log : List ShareStep) → end ≢ Done → rendered ≡ 0 → log ≡ [] → WereFinished job low high gates end rendered log
unbegun job low high gates end rendered log other none nothing = record {
  few = omega (arith, none);
  all = λ done. absurd (other done);
  next = [];
  rest = asks_of_frames job (take 1 (drop rendered (closed_frames gates low high)));
  asked = ap asks_of nothing ∙ sym (asks_none job) ∙ ap (λ n. asks_of_frames job (take n (closed_frames gates low high))) (sym none) ∙ sym (append-nil (asks_of_frames job (take rendered (closed_frames gates low high))));
  first = refl;
  paired = subst (IsPaired (Unit {0})) (sym nothing) tt;
  exact = λ done. absurd (other done);
}

-- a run that finished all frames
pub all_finished : (job : JobData) (low high : ℕ) (gates : List Bool) (rendered : ℕ) (log : List ShareStep) → rendered ≡ length (closed_frames gates low high) → asks_of log ≡ asks_of_frames job (closed_frames gates low high) → IsPaired ⊥ log
    → low ≤ high → WereFinished job low high gates Done rendered log
all_finished job low high gates rendered log all asks paired ordered = record {
  few = omega (arith, all);
  all = λ done. all;
  next = [];
  rest = [];
  asked = asks ∙ ap (asks_of_frames job) (sym (ap (λ n. take n (closed_frames gates low high)) all ∙ taken gates low high high ordered (omega arith))) ∙ sym (append-nil (asks_of_frames job (take rendered (closed_frames gates low high))));
  first = ap (λ n. asks_of_frames job (take 1 (drop n (closed_frames gates low high)))) all ∙ ap (asks_of_frames job) (none_after (closed_frames gates low high)) ∙ asks_none job;
  paired = paired_less log paired;
  exact = λ done. (refl, paired);
}

module _ {D : Type 0} (low : ℕ) (old mid : ReelView D) (i : ℕ) (late : low ≤ i) (none : old.acks ≡ []) (past : ArePast low i old mid) where
  pub acks_are : mid.acks ≡ closed_frames old.ledger.gates low i
  acks_are = past.acks ∙ ap (λ l. l ++ closed_frames old.ledger.gates low i) none

  pub gates_are : (k : ℕ) → (get_or mid.ledger.gates k false ≡ true) ↔ ((get_or old.ledger.gates k false ≡ true) ⊎ Contains mid.acks k)
  gates_are k = (λ is. forward (or_either (get_or old.ledger.gates k false) (nat_le low k && nat_lt k i) (sym (past.gates k) ∙ is)), back)
    where
      forward : (get_or old.ledger.gates k false ≡ true) ⊎ ((nat_le low k && nat_lt k i) ≡ true) → (get_or old.ledger.gates k false ≡ true) ⊎ Contains mid.acks k
      forward (inl was) = inl was
      forward (inr early) = by (get_or old.ledger.gates k false) refl
        where
          by : (b : Bool) → get_or old.ledger.gates k false ≡ b → (get_or old.ledger.gates k false ≡ true) ⊎ Contains mid.acks k
          by true is = inl is
          by false is = let at = among_is low i k early in inr (subst (λ l. Contains l k) (sym acks_are) (closed_has old.ledger.gates low i k at.0 at.1 is))

      back : (get_or old.ledger.gates k false ≡ true) ⊎ Contains mid.acks k → get_or mid.ledger.gates k false ≡ true
      back (inl was) = past.gates k ∙ sym (or_true (get_or old.ledger.gates k false) (nat_le low k && nat_lt k i) was) ∙ was
      back (inr has) =
          let at = closed_below old.ledger.gates low i k late (subst (λ l. Contains l k) acks_are has) in
          let early : (nat_le low k && nat_lt k i) ≡ true = among low i k at.0 at.1 in
          past.gates k ∙ or_here (get_or old.ledger.gates k false) (nat_le low k && nat_lt k i) early

  -- and where then no frame was finished
  module _ (new : ReelView D) (same : IsUnfinished mid new) where
    pub acks_then : new.acks ≡ closed_frames old.ledger.gates low i
    acks_then = same.acks ∙ acks_are

    pub gates_then : (k : ℕ) → (get_or new.ledger.gates k false ≡ true) ↔ ((get_or old.ledger.gates k false ≡ true) ⊎ Contains new.acks k)
    gates_then k =
        subst (λ (l : List ℕ). (get_or new.ledger.gates k false ≡ true) ↔ ((get_or old.ledger.gates k false ≡ true) ⊎ Contains l k)) (sym same.acks)
        (subst (λ (l : List Bool). (get_or l k false ≡ true) ↔ ((get_or old.ledger.gates k false ≡ true) ⊎ Contains mid.acks k)) (sym same.gates) (gates_are k))

    -- what is acknowledged by the gates is so by those of the opening and by what was finished
    pub acked_then : (Acked : Type 0) (k : ℕ) → Acked ↔ (get_or mid.ledger.gates k false ≡ true) → Acked ↔ ((get_or old.ledger.gates k false ≡ true) ⊎ Contains new.acks k)
    acked_then Acked k by_gates =
        let opened = subst (λ (l : List Bool). (get_or l k false ≡ true) ↔ ((get_or old.ledger.gates k false ≡ true) ⊎ Contains new.acks k)) same.gates (gates_then k) in
        (λ acked. opened.0 (by_gates.0 acked), λ was. by_gates.1 (opened.1 was))

    pub kept_then : new.kept ≡ old.kept
    kept_then = same.kept ∙ past.kept
