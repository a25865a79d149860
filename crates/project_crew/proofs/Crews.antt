-- From a crew to the reply of its command.
use Rattle.std.proofs.Common.{◌≡◌, ℕ, zero, suc, ◌+◌, ◌<◌, ◌≤◌, min, List, [], ◌∷◌, All, AllPairs, ◌≢◌, set, length, get_or, Option, IfSome, Result, Ok, Err, MatchOption, refl, sym, ◌∙◌, ap, subst, arith, inl, inr}
use Rattle.cf_base.specs.Count.{HasRisen}
use Rattle.scan_source.specs.State.{HasFailedLast, ScanState}
use Rattle.scan_source.specs.World.{World, file_at}
use Rattle.conform_job.specs.Answers.{count_after}
use Rattle.conform_job.specs.Job.{JobData}
use Rattle.frame_share.specs.declared.step.ShareStep.{ShareStep}
use Rattle.frame_range.specs.Parts.{range_of}
use Rattle.frame_range.specs.declared.range.Extent.{Extent}
use Rattle.frame_range.specs.declared.range.FrameRange.{FrameRange}
use Rattle.reel_writer.specs.Reel.{frames_of}
use Rattle.render_board.specs.declared.step.Step.{Step}
use Rattle.run_crew.specs.Crews.{AreWorked, IsReported, TookNoSteps, TookSteps}
use Rattle.run_alone.specs.Safe.{IsSafeRun}
use Rattle.run_alone.specs.declared.report.Report.{Report}
use Rattle.frame_fetch.specs.declared.run_end.RunEnd.{RunEnd}
use Rattle.frame_fetch.specs.declared.run_end.RunEnd.TheVariants as ends
use Rattle.project_job.specs.Asked.{HasInspectedFor, HasLoadedFor, IsInspected}
use Rattle.project_job.specs.Jobs.{HasPlanned, IsOfJob, AreLoaded, cube_count}
use Rattle.project_job.specs.Texts.{ByFiles, HasComeTo, IsByTexts}
use Rattle.outcome.specs.declared.Outcome.{Outcome}
use Rattle.outcome.specs.declared.Outcome.TheVariants as outcomes
use Rattle.project_crew.specs.Crew.{HasFailed, HasFirstLoaded, IsJobRunByCrew, IsCrewReply, told_by}
use Rattle.reel_disk.specs.State.{FolderState}
use Rattle.project_run.specs.Run.{ReportsEnd, report_text}

-- an error is the same error of another result
same_error : {A : Type 0} (a b : Outcome) → ◌≡◌ {A = Result A Outcome} (Err a) (Err b) → a ≡ b
same_error a b same = cc

pub error_as : {A B : Type 0} (a b : Outcome) → ◌≡◌ {A = Result A Outcome} (Err a) (Err b) → ◌≡◌ {A = Result B Outcome} (Err a) (Err b)
error_as a b same = ap Err (same_error a b same)

module _ {S : Type 0} (state : S → ScanState) where
  -- a load that failed raised the count of its scan
  pub has_failed : (workers all : ℕ) (Failed : Type 0) (old new : List S) → AreWorked state workers all Failed old new → Failed → HasFailed state old new
  has_failed workers all Failed old new worked is =
      let at = worked.failed is in
      (at.0, at.1, λ scan. (worked.each at.0 scan at.1).scanned.failed at.2)

  pub crew_job_run : (log : List ShareStep) (job : JobData) (extent : Extent) (range : FrameRange) (told : Option World) (workers share given count : ℕ) (old new : List S) (disk disk_after : FolderState) (how : RunEnd) (report : Report) (steps : Option (List Step)) → count ≡ length old → given ≡ share
      → IsReported job how report
      → MatchOption steps (TookNoSteps job disk.tells disk.history disk_after.history how report log) (λ all. TookSteps job range.low range.high told (min workers count) given disk.tells disk.history disk_after.history all how report log)
      → IsSafeRun job range told how disk disk_after
      → AreWorked state (min workers count) report.loads (how ≡ ends.SourceFault) old new
      → (reached : Outcome) (output : List ℕ) → ReportsEnd job how (report_text extent range report) reached output
      → IsJobRunByCrew state job extent range told workers share old new disk disk_after reached output
  crew_job_run log job extent range told workers share given count old new disk disk_after how report steps all shared reported ran keeps scans reached output reply = record {
    how = how;
    report = report;
    reply = reply;
    frames = reported.frames;
    steps = steps;
    log = log;
    ran =
        subst (λ n. MatchOption steps (TookNoSteps job disk.tells disk.history disk_after.history how report log) (λ all. TookSteps job range.low range.high told (min workers n) share disk.tells disk.history disk_after.history all how report log)) all
        (subst (λ n. MatchOption steps (TookNoSteps job disk.tells disk.history disk_after.history how report log) (λ all. TookSteps job range.low range.high told (min workers count) n disk.tells disk.history disk_after.history all how report log)) shared ran);
    keeps = keeps;
    scans = subst (λ n. AreWorked state (min workers n) report.loads (how ≡ ends.SourceFault) old new) all scans;
    changed = reported.changed;
  }

  -- what the first scan tells, all tell
  pub all_tell : (scans : List S) → AllPairs (λ a b. (state a).world ≡ (state b).world) scans → All (λ scan. (state scan).world ≡ told_by state scans) scans
  all_tell [] pairs k d lt = absurd (omega (arith, lt))
  all_tell (first ∷ scans) pairs zero d lt = refl
  all_tell (first ∷ scans) pairs (suc k) d lt = sym (pairs 0 (suc k) d (omega arith) lt)

  -- the first of some scans, which was used
  module _ (used : S) where
    pub told_still : (scans : List S) (first : S) → 0 < length scans → get_or scans 0 first ≡ first → (state used).world ≡ (state first).world → told_by state (set scans 0 used) ≡ told_by state scans
    told_still [] first some is told = absurd (omega (arith, some))
    told_still (scan ∷ scans) first some is told = told ∙ ap (λ s. (state s).world) (sym is)

    pub still_tell : (scans : List S) (first : S) → 0 < length scans → get_or scans 0 first ≡ first → (state used).world ≡ (state first).world
        → All (λ scan. (state scan).world ≡ told_by state scans) scans → All (λ scan. (state scan).world ≡ told_by state (set scans 0 used)) (set scans 0 used)
    still_tell [] first some is told all k d lt = absurd (omega (arith, some))
    still_tell (scan ∷ scans) first some is told all zero d lt = refl
    still_tell (scan ∷ scans) first some is told all (suc k) d lt = all (suc k) d lt ∙ sym (told ∙ ap (λ s. (state s).world) (sym is))

    pub first_loaded : (texts : ℕ) (scans : List S) (first : S) → 0 < length scans → get_or scans 0 first ≡ first → (state used).loads ≡ count_after texts (state first).loads → (state used).faults ≡ (state first).faults → (state used).world ≡ (state first).world → (state used).loans ≡ (state first).loans
        → HasFirstLoaded state texts scans (set scans 0 used)
    first_loaded texts [] first some is loaded steady told lent = absurd (omega (arith, some))
    first_loaded texts (scan ∷ scans) first some is loaded steady told lent = record {
      size = refl;
      loaded = λ d. loaded ∙ ap (λ s. count_after texts (state s).loads) (sym is);
      steady = λ d. steady ∙ ap (λ s. (state s).faults) (sym is);
      told = λ d. told ∙ ap (λ s. (state s).world) (sym is);
      lent = λ d. subst (λ s. (state used).loans ≡ (state s).loans) (sym is) lent;
      others = refl;
    }

    -- a count that rose later rose over both
    pub failed_before : (scans new : List S) (first : S) → 0 < length scans → get_or scans 0 first ≡ first → (state used).faults ≡ (state first).faults
        → HasFailed state (set scans 0 used) new → HasFailed state scans new
    failed_before [] new first some is steady failed = absurd (omega (arith, some))
    failed_before (scan ∷ scans) new first some is steady failed = by failed.0 failed.1 failed.2
      where
        by : (k : ℕ) → k < length (used ∷ scans) → ((d : S) → HasRisen (state (get_or (used ∷ scans) k d)).faults (state (get_or new k d)).faults) → HasFailed state (scan ∷ scans) new
        by zero lt rose = (zero, omega arith, λ d. subst (λ n. HasRisen n (state (get_or new 0 d)).faults) (steady ∙ ap (λ s. (state s).faults) (sym is)) (rose d))
        by (suc k) lt rose = (suc k, lt, λ d. rose d)

    pub failed_first : (scans : List S) (first : S) → 0 < length scans → get_or scans 0 first ≡ first → HasRisen (state first).faults (state used).faults → HasFailed state scans (set scans 0 used)
    failed_first [] first some is rose = absurd (omega (arith, some))
    failed_first (scan ∷ scans) first some is rose = (0, omega arith, λ d. subst (λ n. HasRisen n (state used).faults) (ap (λ s. (state s).faults) (sym is)) rose)

    pub uncrewed : {extent : Extent} (path : List ℕ) (workers share : ℕ) (scans : List S) (first : S) (disk : FolderState) (reached : Outcome) (output : List ℕ) → 0 < length scans → get_or scans 0 first ≡ first
        → IfSome (state first).world (λ files. HasPlanned (file_at files) path (Err reached)) → ByFiles (state first).world (λ files. IsByTexts files path (Err reached)) → IsOfJob reached → AreLoaded 1 3 (state first).loads (state used).loads
        → HasLoadedFor (state first).world path (state first).loads (state used).loads reached → HasInspectedFor (state first).world path (state first).heads (state used).heads reached → (reached ≡ outcomes.SourceFault → HasFailedLast (state first) (state used)) → (reached ≢ outcomes.SourceFault → (state used).faults ≡ (state first).faults)
        → (state first).faults ≤ (state used).faults → (state used).world ≡ (state first).world → (state used).loans ≡ (state first).loans
        → IsCrewReply state path extent workers share scans (set scans 0 used) disk disk reached output
    uncrewed path workers share [] first disk reached output some is why read kind texts refused asked last steady later told lent = absurd (omega (arith, some))
    uncrewed path workers share (scan ∷ scans) first disk reached output some is why read kind texts refused asked last steady later told lent = inr (record {
      why = subst (λ s. HasComeTo (state s).world path (Err reached)) (sym is) (record { told = why; read = read });
      kind = kind;
      untouched = refl;
      size = refl;
      texts = λ d. subst (λ s. AreLoaded 1 3 (state s).loads (state used).loads) (sym is) texts;
      refused = λ d. subst (λ s. HasLoadedFor (state s).world path (state s).loads (state used).loads reached) (sym is) refused;
      refused_heads = λ d. subst (λ s. HasInspectedFor (state s).world path (state s).heads (state used).heads reached) (sym is) asked;
      last = λ failed d. subst (λ s. HasFailedLast (state s) (state used)) (sym is) (last failed);
      steady = λ other d. steady other ∙ ap (λ s. (state s).faults) (sym is);
      later = λ d. subst (λ s. (state s).faults ≤ (state used).faults) (sym is) later;
      told = λ d. told ∙ ap (λ s. (state s).world) (sym is);
      lent = λ d. subst (λ s. (state used).loans ≡ (state s).loans) (sym is) lent;
      others = refl;
    })

    pub crewed : (job : JobData) (extent : Extent) (range : FrameRange) (path : List ℕ) (workers share : ℕ) (scans new : List S) (first : S) (disk disk_after : FolderState) (reached : Outcome) (output : List ℕ) → range ≡ range_of extent (frames_of job) → 0 < length scans → get_or scans 0 first ≡ first
        → IfSome (state first).world (λ files. HasPlanned (file_at files) path (Ok job)) → ByFiles (state first).world (λ files. IsByTexts files path (Ok job)) → (state used).world ≡ (state first).world
        → HasFirstLoaded state (2 + cube_count job.parts.project.cube) scans (set scans 0 used) → IsInspected (state first).world job (state first).heads (state used).heads
        → IsJobRunByCrew state job extent range (told_by state (set scans 0 used)) workers share (set scans 0 used) new disk disk_after reached output
        → IsCrewReply state path extent workers share scans new disk disk_after reached output
    crewed job extent range path workers share scans new first disk disk_after reached output whole some is comes read told texts inspected ran = inl (record {
      job = job;
      comes = subst (λ o. HasComeTo o path (Ok job)) (told_first scans some is) (record { told = comes; read = read });
      planned = set scans 0 used;
      texts = texts;
      inspected = inspected_first scans some is inspected;
      ran = subst (λ (r : FrameRange). IsJobRunByCrew state job extent r (told_by state scans) workers share (set scans 0 used) new disk disk_after reached output) whole
          (subst (λ o. IsJobRunByCrew state job extent range o workers share (set scans 0 used) new disk disk_after reached output) (told_still scans first some is told) ran);
    })
      where
        told_first : (scans : List S) → 0 < length scans → get_or scans 0 first ≡ first → (state first).world ≡ told_by state scans
        told_first [] some is = absurd (omega (arith, some))
        told_first (scan ∷ scans) some is = ap (λ s. (state s).world) (sym is)

        inspected_first : (scans : List S) → 0 < length scans → get_or scans 0 first ≡ first → IsInspected (state first).world job (state first).heads (state used).heads
            → (d : S) → IsInspected (told_by state scans) job (state (get_or scans 0 d)).heads (state (get_or (set scans 0 used) 0 d)).heads
        inspected_first [] some is all d = absurd (omega (arith, some))
        inspected_first (scan ∷ scans) some is all d = subst (λ s. IsInspected (state s).world job (state s).heads (state used).heads) (sym is) all
