-- The ranges of a pull list can be labelled.
use Rattle.std.proofs.Common.{◌≡◌, ◌<◌, ◌≤◌, ◌==◌, List, All, get_or, refl, sym, ap, subst, ◌∙◌}
use Rattle.std.specs.Prelude.{Some, slice_get, if◌then◌else◌}
use Rattle.std.proofs.lemmas.Option.{get_or_from_slice_get, slice_get_within}
use Rattle.cf_base.specs.Timing.{CanCount, frames_in_day}
use Rattle.cf_base.specs.declared.reel.ReelEntry.{ReelEntry}
use Rattle.cf_base.specs.declared.timing.Mode.{Mode}
use Rattle.cf_base.specs.declared.timing.Mode.TheVariants.{NonDrop, Drop}
use Rattle.cf_base.specs.declared.timing.Rate.{Rate}
use Rattle.cf_base.specs.declared.timing.Rate.TheVariants.{R24, R25, R30}
use Rattle.printed_tables.specs.Pull.{IsLabelled, mode_of}
use Rattle.project_job.specs.Jobs.{AreCounted}
use Rattle.pull_list.specs.Pull.{IsInDay}
use Rattle.pull_list.specs.declared.range.PullRange.{PullRange}

-- a day's number of frames names the mode
mode_named : (rate : Rate) (mode : Mode) → CanCount rate mode → (if frames_in_day rate mode == 2589408 then Drop else NonDrop) ≡ mode
mode_named R24 NonDrop can = refl
mode_named R25 NonDrop can = refl
mode_named R30 NonDrop can = refl
mode_named R24 Drop can = absurd can
mode_named R25 Drop can = absurd can
mode_named R30 Drop can = refl

mode_is : (rate : Rate) (e : ReelEntry) (mode : Mode) → CanCount rate mode → e.day ≡ frames_in_day rate mode → mode_of e ≡ mode
mode_is rate e mode can day = ap (λ n. if n == 2589408 then Drop else NonDrop) day ∙ mode_named rate mode can

labelled_by : (rate : Rate) (entries : List ReelEntry) (range : PullRange) (e : ReelEntry) (mode : Mode) → slice_get entries range.reel ≡ Some e → CanCount rate mode → e.day ≡ frames_in_day rate mode
    → range.start < range.end → range.end ≤ e.day → IsLabelled rate entries range
labelled_by rate entries range e mode at can day some within =
    let is = sym (mode_is rate e mode can day) in
    record {
      some = some;
      reel = e;
      there = at;
      counts = subst (CanCount rate) is can;
      day = subst (λ m. range.end ≤ frames_in_day rate m) is (subst (λ n. range.end ≤ n) day within);
    }

pub all_labelled : (rate : Rate) (entries : List ReelEntry) (ranges : List PullRange) → AreCounted rate entries → All (λ (r : PullRange). r.start < r.end) ranges → All (IsInDay entries) ranges → All (IsLabelled rate entries) ranges
all_labelled rate entries ranges counted some days k d lt =
    let range = get_or ranges k d in
    let in_day = days k d lt in
    let e = in_day.0 in
    let here = subst (λ (e : ReelEntry). (mode : Mode) × CanCount rate mode × (e.day ≡ frames_in_day rate mode)) (get_or_from_slice_get entries range.reel e e in_day.1) (counted range.reel e (slice_get_within entries range.reel e in_day.1)) in
    labelled_by rate entries range e here.0 in_day.1 here.1 here.2 (some k d lt) in_day.2
