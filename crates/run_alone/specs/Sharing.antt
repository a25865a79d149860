-- What a run on one thread leaves in the log of its share. All of it is this project's own rule.
--     IsDetermined capacity steps          no other log has the same asks and the same puts kept
--     WereShared capacity log report       the log of a run
use Rattle.std.specs.Prelude.{◌≡◌, Bool, ℕ, List, Option, Some, None}
use Rattle.std.specs.List.{filter_map}
use Rattle.frame_share.specs.declared.step.ShareStep.{ShareStep}
use Rattle.frame_share.specs.declared.step.ShareStep.TheVariants.{Ask, Put}
use Rattle.frame_share.specs.Share.{IsLegal, misses_of}
use Rattle.run_alone.specs.declared.report.Report.{Report}
use Rattle.frame_fetch.specs.Sharing.{IsPaired, asks_of}

-- whether a put was kept
abbrev pub kept_by : ShareStep → Option Bool
kept_by (Ask key hit) = None
kept_by (Put key kept) = Some kept

-- which puts found memory, in order
abbrev pub kepts_of : List ShareStep → List Bool
kepts_of steps = filter_map kept_by steps

-- The log is determined by its asks and by which of its puts found memory.
pub record IsDetermined (capacity : ℕ) (steps : List ShareStep) : Type 0 where
  pub one : (other : List ShareStep) → IsLegal capacity other → IsPaired (Unit {0}) other
      → asks_of other ≡ asks_of steps → kepts_of other ≡ kepts_of steps → other ≡ steps

-- the log of a run's share: each miss was a load
pub record WereShared (capacity : ℕ) (log : List ShareStep) (report : Report) : Type 0 where
  pub legal : IsLegal capacity log
  pub determined : IsDetermined capacity log
  pub misses : report.misses ≡ misses_of log
  pub loads : report.loads ≡ report.misses
