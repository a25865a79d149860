-- What a pull list is made of: a span for each needed frame, by reel and start, of which those that touch are joined.
--     span_at entries margin key      the frames of the reel around one that is needed
--     spans_of_asks p margin asks      those of the source frames that are asked for
--     IsSpan span      it holds a frame, and its numbers are those of a reel
--     AreSorted reel from spans      none starts before the one ahead of it
--     touches, joined      of one span and the next
use Rattle.std.specs.Prelude.{◌≡◌, ◌⊎◌, ℕ, ◌+◌, ◌-◌, ◌*◌, ◌<◌, ◌≤◌, ◌==◌, ◌&&◌, Bool, nat_le, min, max, List, [], ◌∷◌, map, Option, Some, None, slice_get}
use Rattle.cf_base.specs.declared.key.Key.{Key}
use Rattle.cf_base.specs.declared.reel.ReelEntry.{ReelEntry}
use Rattle.dpx_header.specs.declared.info.FrameInfo.{FrameInfo}
use Rattle.conform_job.specs.Asks.{asks_at}
use Rattle.conform_job.specs.Keys.{keys_of_asks}
use Rattle.conform_job.specs.declared.frames.Ask.{Ask}
use Rattle.conform_job.specs.declared.parts.JobParts.{JobParts}
use Rattle.pull_list.specs.Pull.{HasFrame}
use Rattle.pull_list.specs.declared.range.PullRange.{PullRange}

abbrev pub HasKey : List ReelEntry → Key → Type 0
HasKey entries key = HasFrame entries key.reel key.source

abbrev pub span_in : ℕ → Key → ReelEntry → PullRange
span_in margin key e = record {
  reel = key.reel;
  start = max e.start (key.source - margin);
  end = min (e.start + e.frames) (key.source + margin + 1);
}

-- no frame where the table has no such reel
abbrev pub span_of : ℕ → Key → Option ReelEntry → PullRange
span_of margin key None = record { reel = key.reel; start = 0; end = 0 }
span_of margin key (Some e) = span_in margin key e

abbrev pub span_at : List ReelEntry → ℕ → Key → PullRange
span_at entries margin key = span_of margin key (slice_get entries key.reel)

-- one for each source frame that is asked for, in order
abbrev pub spans_of_asks : JobParts → ℕ → List Ask → List PullRange
spans_of_asks p margin asks = map (span_at p.reels margin) (keys_of_asks p.reels p.timeline.events asks)

-- those of record frame i, from 0
abbrev pub spans_at : JobParts → ℕ → ℕ → List PullRange
spans_at p margin i = spans_of_asks p margin (asks_at p.timeline i)

-- the span of a side, if it is a source frame
abbrev pub spans_of_side : List ReelEntry → ℕ → Option (Key × FrameInfo) → List PullRange
spans_of_side entries margin None = []
spans_of_side entries margin (Some side) = span_at entries margin side.0 ∷ []

-- frame x of a reel is frame `from` of the reel at a place, or behind it
abbrev pub IsFrom : (place from reel x : ℕ) → Type 0
IsFrom place from reel x = (place < reel) ⊎ ((place ≡ reel) × (from ≤ x))

-- Each span holds a frame, and none starts before the one ahead of it.
abbrev pub AreSorted : ℕ → ℕ → List PullRange → Type 0
AreSorted place from [] = Unit {0}
AreSorted place from (span ∷ spans) = IsFrom place from span.reel span.start × (span.start < span.end)
    × AreSorted span.reel span.start spans

-- where a span starts, on one line for all reels
abbrev pub place_of : PullRange → ℕ
place_of span = span.reel * 4294967296 + span.start

-- no frame lies between the two that neither holds, where `next` doesn't start before `current`
abbrev pub touches : PullRange → PullRange → Bool
touches current next = current.reel == next.reel && nat_le next.start current.end

abbrev pub joined : PullRange → PullRange → PullRange
joined current next = record { reel = current.reel; start = current.start; end = max current.end next.end }

-- a span holds a frame, and its numbers are those of a reel
abbrev pub IsSpan : PullRange → Type 0
IsSpan span = (span.start < span.end) × (span.end < 4294967296)
