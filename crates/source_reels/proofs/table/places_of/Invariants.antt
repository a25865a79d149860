use Rattle.std.proofs.Common.{◌≤◌, length, take}
use Rattle.source_reels.specs.inside.Places.{HasPlaces}
use Rattle.source_reels.specs.inside.Reels.{NoFaultBefore}
use Rattle.source_reels.proofs.table.places_of.Given as goal

-- no reel before i is refused, and the map has the places of those
abbrev pub invariant-loop-i : goal.invariant-loop-i
invariant-loop-i l = record { within : l.i ≤ length l.entries; none : NoFaultBefore l.entries l.i; places : HasPlaces (take l.i l.entries) l.places }
