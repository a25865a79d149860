-- What the head of a source frame's file says (SMPTE 268M): words of private clauses.
use Rattle.std.specs.Prelude.{◌≡◌, ℕ, List, length, Ok, Err}
use Rattle.dpx_header.specs.Reading.{info_of}
use Rattle.source_reels.specs.declared.seen.Seen.{Seen}
use Rattle.source_reels.specs.declared.seen.Seen.TheVariants as seen

-- the same of a file's head and length
abbrev pub IsSeenIn : Seen → List ℕ → ℕ → Type 0
IsSeenIn (seen.Info info) head len = info_of head len ≡ Ok info
IsSeenIn (seen.Bad fault) head len = info_of head len ≡ Err fault
IsSeenIn seen.Absent head len = ⊥
IsSeenIn seen.Fault head len = ⊥
