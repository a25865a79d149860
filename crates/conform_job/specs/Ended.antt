-- The heads that a plan asked for before a fault ended it.
--     head_count p ask      how many heads a source frame costs
--     EndAt p told asks infos before after why      the fault came at one of these asks
--     FaultAt p before after asks infos why      the same, from one state of the scan to another
--     HasAsked p told before after why      the heads of a plan that ended so
use Rattle.std.specs.Prelude.{◌≡◌, ℕ, List, [], ◌∷◌, ◌++◌, length, Option, Some, None, IfSome, option_and_then}
use Rattle.cf_base.specs.declared.key.Key.{Key}
use Rattle.dpx_header.specs.declared.info.FrameInfo.{FrameInfo}
use Rattle.scan_source.specs.State.{ScanState}
use Rattle.scan_source.specs.World.{World, file_at}
use Rattle.source_reels.specs.Reels.{path_of_key}
use Rattle.conform_job.specs.declared.frames.Ask.{Ask}
use Rattle.conform_job.specs.Answers.{count_after, Grows, HeadsGrow, IsOfFrame, IsRefusal}
use Rattle.conform_job.specs.Asks.{asks_of}
use Rattle.conform_job.specs.Keys.{key_of_ask}
use Rattle.conform_job.specs.Refusals.{asks_refusal, name_of_ask}
use Rattle.conform_job.specs.declared.parts.JobParts.{JobParts}
use Rattle.conform_job.specs.declared.parts.JobFault.{JobFault}
use Rattle.conform_job.specs.declared.parts.JobFault.TheVariants as fault

-- one head for a file that has a path
abbrev pub path_count : Option (List ℕ) → ℕ
path_count None = 0
path_count (Some path) = 1

abbrev pub head_count : JobParts → Ask → ℕ
head_count p ask = path_count (option_and_then (path_of_key p.reels) (key_of_ask p.reels p.timeline.events ask))

-- The fault came at one of these asks, and names it. Those before it have their infos, with one head for each info, and then
-- its own head was asked for, if it has a path.
pub record EndAt (p : JobParts) (told : Option World) (asks : List Ask) (infos : List (Key × FrameInfo))
    (before after : ℕ) (why : JobFault) : Type 0 where
  pub passed : List Ask
  pub ask : Ask
  pub others : List Ask
  pub split : asks ≡ passed ++ (ask ∷ others)
  pub named : IsOfFrame (name_of_ask p.timeline.events ask) why
  pub refused : IfSome told (λ world. IsRefusal why (asks_refusal p (file_at world) (ask ∷ [])))
  pub kept : List (Key × FrameInfo)
  pub grows : Grows p told passed infos kept
  pub middle : ℕ
  pub heads : HeadsGrow before middle (length infos) (length kept)
  pub own : after ≡ count_after (head_count p ask) middle

abbrev pub FaultAt : JobParts → (before after : ScanState) → List Ask → List (Key × FrameInfo) → JobFault → Type 0
FaultAt p before after asks infos why = EndAt p before.world asks infos before.heads after.heads why

-- it came at one of the frames that the timeline asks for
abbrev pub EndInTurn : JobParts → Option World → (before after : ℕ) → JobFault → Type 0
EndInTurn p told before after why = EndAt p told (asks_of p.timeline) [] before after why

-- none before the cuts and the lines are judged; want of memory may come there or later
abbrev pub HasAsked : JobParts → Option World → (before after : ℕ) → JobFault → Type 0
HasAsked p told before after (fault.BadCut cut) = after ≡ before
HasAsked p told before after (fault.UnknownReel line) = after ≡ before
HasAsked p told before after fault.NoMemory = Unit {0}
HasAsked p told before after why = EndInTurn p told before after why
