-- What the top call answers to the words of a run with several workers: words of private clauses.
use Rattle.std.specs.Prelude.{◌≡◌, ℕ, ◌≤◌, List, Option, Some, None}
use Rattle.frame_range.specs.declared.range.Extent.{Extent}
use Rattle.command_words.specs.declared.command.Command.{Command}
use Rattle.command_words.specs.declared.command.Command.TheVariants as commands
use Rattle.conform_tool.specs.declared.top.CrewRun.{CrewRun}

-- the run with several workers that a command is, or that it is none
abbrev pub IsCrewOf : Option Command → Option CrewRun → Type 0
IsCrewOf found (Some crew) = (found ≡ Some (commands.Run crew.project crew.extent crew.size.workers crew.size.share))
    × (2 ≤ crew.size.workers)
IsCrewOf found None = (path : List ℕ) (extent : Extent) (workers share : ℕ) → found ≡ Some (commands.Run path extent workers share)
    → workers ≤ 1
