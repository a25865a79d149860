-- The first moment of a history. All of it is this project's own rule.
use Rattle.std.specs.Prelude.{Bool, true, false, Option, Some, None}
use Rattle.reel_disk.specs.Disk.{History, Moment}

-- what a disk tells of its first moment
abbrev pub start_of : Bool → History → Option Moment
start_of true h = Some (h.past 0)
start_of false h = None

-- the history as it was at its first moment
abbrev pub at_start : History → History
at_start h = record { now = 0; past = h.past }
