-- What the steps of a plan answer: words of private clauses.
use Rattle.std.specs.Prelude.{◌≡◌, ℕ, Option, Some, None, Result, Ok, Err}
use Rattle.dpx_header.specs.declared.info.FrameInfo.{FrameInfo}
use Rattle.source_reels.specs.declared.seen.Seen.{Seen}
use Rattle.source_reels.specs.declared.seen.Seen.TheVariants as seen
use Rattle.conform_job.specs.declared.frames.Named.{Named}
use Rattle.conform_job.specs.Refusals.{info_refusal}
use Rattle.conform_job.specs.declared.parts.JobFault.{JobFault}
use Rattle.conform_job.specs.declared.parts.JobFault.TheVariants as fault

-- what is made of a file that was inspected
abbrev pub IsKept : FrameInfo → ℕ → ℕ → Result FrameInfo JobFault → Type 0
IsKept info width height (Ok kept) = (kept ≡ info) × (info.width ≡ width) × (info.height ≡ height)
IsKept info width height (Err why) = Unit {0}

-- the value, unless it is refused
abbrev pub unless : {A : Type 0} → A → Option JobFault → Result A JobFault
unless a None = Ok a
unless a (Some why) = Err why

abbrev pub IsJudged : Named → ℕ → ℕ → Seen → Result FrameInfo JobFault → Type 0
IsJudged n width height (seen.Info info) result = (result ≡ unless info (info_refusal n width height (Ok info)))
    × IsKept info width height result
IsJudged n width height (seen.Bad bad) result = result ≡ Err (fault.BadFrame n.line n.reel n.source bad)
IsJudged n width height seen.Absent result = result ≡ Err (fault.MissingFrame n.line n.reel n.source)
IsJudged n width height seen.Fault result = result ≡ Err fault.SourceFault
