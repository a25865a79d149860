-- What the head of a source frame's file says (SMPTE 268M).
-- * seen: what the head of a file says
--     info_of_file bytes      what a file says of its pixels, or its first fault
--     IsSeen seen file      what an answer says of the file at the path
use Rattle.std.specs.Prelude.{◌≡◌, ℕ, List, length, Option, None, Result, Ok, Err, IsSomeAnd}
use Rattle.cf_base.specs.declared.limits.TheConstants.{HEADER}
use Rattle.dpx_header.specs.Frame.{IsFrame}
use Rattle.dpx_header.specs.Reading.{info_of}
use Rattle.dpx_header.specs.declared.fault.DpxFault.{DpxFault}
use Rattle.dpx_header.specs.declared.info.FrameInfo.{FrameInfo}
use Rattle.scan_source.specs.Answers.{first_bytes}
use Rattle.source_reels.specs.declared.seen.Seen.{Seen}
use Rattle.source_reels.specs.declared.seen.Seen.TheVariants as seen

-- what a file says of its pixels, or its first fault
abbrev pub info_of_file : List ℕ → Result FrameInfo DpxFault
info_of_file bytes = info_of (first_bytes HEADER bytes) (length bytes)

abbrev pub IsSeen : Seen → Option (List ℕ) → Type 0
IsSeen (seen.Info info) file = IsSomeAnd file (λ bytes. info_of_file bytes ≡ Ok info)
IsSeen (seen.Bad fault) file = IsSomeAnd file (λ bytes. info_of_file bytes ≡ Err fault)
IsSeen seen.Absent file = file ≡ None
IsSeen seen.Fault file = Unit {0}

-- what is known of the answer also where the scan tells nothing
abbrev pub IsSeenFrame : Seen → Type 0
IsSeenFrame (seen.Info info) = IsFrame info
IsSeenFrame (seen.Bad fault) = Unit {0}
IsSeenFrame seen.Absent = Unit {0}
IsSeenFrame seen.Fault = Unit {0}
