-- Source reels, their frames and the files of these: words of private clauses.
use Rattle.std.specs.Prelude.{◌≡◌, ℕ, ◌<◌, List, slice_get, Some, None}
use Rattle.cf_base.specs.declared.reel.ReelEntry.{ReelEntry}
use Rattle.source_reels.specs.Reels.{reel_fault_at}

-- none of the reels before a place is refused
abbrev pub NoFaultBefore : List ReelEntry → ℕ → Type 0
NoFaultBefore entries front = (k : ℕ) (e : ReelEntry) → k < front → slice_get entries k ≡ Some e → reel_fault_at entries k e ≡ None
