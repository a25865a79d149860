-- What the definitions come to.
--     FindsFaults      no reel is refused exactly where all names differ and no reel goes past its end
--     NamesFirstFault      what is refused is the first reel that has an earlier one's name or goes past its end
--     PathsAgree      a source frame's path is that of its key
use Rattle.std.specs.Prelude.{◌≡◌, ◌↔◌, ◌⊎◌, ℕ, ℤ, ◌+◌, ◌<◌, List, slice_get, Some, None, option_and_then}
use Rattle.cf_base.specs.declared.reel.ReelEntry.{ReelEntry}
use Rattle.source_reels.specs.declared.table.ReelKind.{ReelKind}
use Rattle.source_reels.specs.declared.table.ReelKind.TheVariants.{TwoNames, Range}
use Rattle.source_reels.specs.Reels.{reels_fault, path_at, path_of_key, key_in}

-- a reel before place i has the name
abbrev pub IsNamedBefore : List ReelEntry → ℕ → List ℕ → Type 0
IsNamedBefore entries i name = (j : ℕ) × (f : ReelEntry) × (j < i) × (slice_get entries j ≡ Some f) × (f.name ≡ name)

-- the frames go past the end of the day, or the file numbers past 9,999,999
abbrev pub IsPastEnd : ReelEntry → Type 0
IsPastEnd e = (e.day < e.start + e.frames) ⊎ (10000000 < e.file + e.frames)

-- the reel at place i is refused for this
abbrev pub IsFaulty : List ReelEntry → ℕ → ReelEntry → ReelKind → Type 0
IsFaulty entries i e TwoNames = IsNamedBefore entries i e.name
IsFaulty entries i e Range = (IsNamedBefore entries i e.name → ⊥) × IsPastEnd e

abbrev pub IsGood : List ReelEntry → ℕ → ReelEntry → Type 0
IsGood entries i e = (IsNamedBefore entries i e.name → ⊥) × (IsPastEnd e → ⊥)

-- all reels before a place are good
abbrev pub AllGoodBefore : List ReelEntry → ℕ → Type 0
AllGoodBefore entries front = (k : ℕ) (e : ReelEntry) → k < front → slice_get entries k ≡ Some e → IsGood entries k e

abbrev pub FindsFaults : Type 0
FindsFaults = (entries : List ReelEntry) → (reels_fault entries ≡ None) ↔ ((i : ℕ) (e : ReelEntry)
    → slice_get entries i ≡ Some e → IsGood entries i e)

abbrev pub NamesFirstFault : Type 0
NamesFirstFault = (entries : List ReelEntry) (i : ℕ) (e : ReelEntry) (kind : ReelKind) → slice_get entries i ≡ Some e
    → AllGoodBefore entries i
    → IsFaulty entries i e kind → reels_fault entries ≡ Some (record { reel = i + 1; kind = kind })

-- and each exists exactly where the reel has the frame
abbrev pub PathsAgree : Type 0
PathsAgree = (entries : List ReelEntry) (reel : ℕ) (source : ℤ) → path_at entries reel source
    ≡ option_and_then (path_of_key entries) (key_in entries source reel)
