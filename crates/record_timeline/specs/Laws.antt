-- What the definitions come to, in words of record frames.
-- * laws of the timeline: to share is to have a record frame in common; nothing is refused exactly where no two lines meet; at
--   most one line covers a frame. The reel holds each covered frame, and its first one is covered; so is its last, unless a line
--   without record frames ends it. Where its last one is covered, no smaller range holds each covered frame. A frame shows the
--   line that covers it, and a gap exactly where none does
--     Covers e n      record frame n is one of the line's
--     Meet e f      the lines have a record frame in common
--     IsCovered events n      record frame n is one of a line of the list
--     IsReelFrame events n      record frame n is one of the reel
--     SharingIsMeeting, FindsMeetings, NamesFirstMeeting, FindsCover, OneCovers      the laws of lines that meet
--     MadeCovers, HoldsCovered, EndsWithin, BeginsCovered, EndsCovered, ReelIsLeast      the laws of the reel's frames
--     ShowsCover, ShowsGap      the laws of what a frame shows
use Rattle.std.specs.Prelude.{◌≡◌, ℕ, ◌+◌, ◌<◌, ◌≤◌, true, List, slice_get, Option, Some, None, ◌↔◌, ◌⊎◌, MatchOption}
use Rattle.cf_base.specs.declared.timing.Rate.{Rate}
use Rattle.cf_base.specs.declared.timing.Mode.{Mode}
use Rattle.cf_base.specs.declared.event.EventRec.{EventRec}
use Rattle.cf_base.specs.Events.{IsWellMade}
use Rattle.record_timeline.specs.declared.Side.{Side}
use Rattle.record_timeline.specs.declared.Shot.{Shot}
use Rattle.record_timeline.specs.declared.Shot.TheVariants.{Gap, One, Two}
use Rattle.record_timeline.specs.declared.TimelineFault.TheVariants.{Overlap}
use Rattle.record_timeline.specs.Accepted.{share, first_overlap, first_frame, frame_count}
use Rattle.record_timeline.specs.Shots.{covering, side_of, shot_of}

abbrev pub Covers : EventRec → ℕ → Type 0
Covers e n = (e.rec_in ≤ n) × (n < e.rec_out)

abbrev pub Meet : EventRec → EventRec → Type 0
Meet e f = (n : ℕ) × Covers e n × Covers f n

-- to share is to have a record frame in common
abbrev pub SharingIsMeeting : Type 0
SharingIsMeeting = (e f : EventRec) → (share e f ≡ true) ↔ Meet e f

-- none of the lines before place i meets an earlier one
abbrev pub NoneMeetBefore : List EventRec → ℕ → Type 0
NoneMeetBefore events i = (k j : ℕ) (e f : EventRec) → k < i → j < k → slice_get events k ≡ Some e
    → slice_get events j ≡ Some f → Meet e f → ⊥

-- no two lines of the list meet
abbrev pub NoneMeet : List EventRec → Type 0
NoneMeet events = (i : ℕ) → NoneMeetBefore events i

-- nothing is refused exactly where no two lines meet
abbrev pub FindsMeetings : Type 0
FindsMeetings = (events : List EventRec) → (first_overlap events ≡ None) ↔ NoneMeet events

-- the line at place `late` is the first that meets an earlier one, and the one at place `early` the earliest that it meets
pub record IsFirstMeeting (events : List EventRec) (late early : ℕ) (e f : EventRec) : Type 0 where
  pub before : early < late
  pub late_line : slice_get events late ≡ Some e
  pub early_line : slice_get events early ≡ Some f
  pub meet : Meet e f
  pub first : NoneMeetBefore events late
  pub earliest : (j : ℕ) (g : EventRec) → j < early → slice_get events j ≡ Some g → Meet e g → ⊥

-- what is refused is that first line, with that earliest one
abbrev pub NamesFirstMeeting : Type 0
NamesFirstMeeting = (events : List EventRec) (line earlier : ℕ) → first_overlap events ≡ Some (Overlap line earlier)
    → (late : ℕ) × (early : ℕ) × (e : EventRec) × (f : EventRec) × IsFirstMeeting events late early e f
    × (line ≡ e.line) × (earlier ≡ f.line)

-- a covering line covers the frame, and none is given only where no line of the list does
abbrev pub FindsCover : Type 0
FindsCover = (events : List EventRec) (n : ℕ) → MatchOption (covering events n)
    ((i : ℕ) (e : EventRec) → slice_get events i ≡ Some e → Covers e n → ⊥)
    (λ place. (e : EventRec) × (slice_get events place ≡ Some e) × Covers e n)

-- where nothing is refused, at most one line covers a record frame
abbrev pub OneCovers : Type 0
OneCovers = (events : List EventRec) → first_overlap events ≡ None → (i j : ℕ) (e f : EventRec) (n : ℕ)
    → slice_get events i ≡ Some e → slice_get events j ≡ Some f → Covers e n → Covers f n → i ≡ j

-- ---- the reel's frames

-- a line of the list covers the frame
abbrev pub IsCovered : List EventRec → ℕ → Type 0
IsCovered events n = (i : ℕ) × (e : EventRec) × (slice_get events i ≡ Some e) × Covers e n

-- the frame behind the reel's last
abbrev pub reel_end : List EventRec → ℕ
reel_end events = first_frame events + frame_count events

abbrev pub IsReelFrame : List EventRec → ℕ → Type 0
IsReelFrame events n = (first_frame events ≤ n) × (n < reel_end events)

-- a well-made list covers a frame; so an empty list isn't well made, nor is one of lines without record frames
abbrev pub MadeCovers : Type 0
MadeCovers = (rate : Rate) (mode : Mode) (events : List EventRec) → IsWellMade rate mode events → (n : ℕ) × IsCovered events n

-- each frame that is covered is one of the reel
abbrev pub HoldsCovered : Type 0
HoldsCovered = (events : List EventRec) (n : ℕ) → IsCovered events n → IsReelFrame events n

-- no line ends behind the reel, nor does one without record frames
abbrev pub EndsWithin : Type 0
EndsWithin = (events : List EventRec) (i : ℕ) (e : EventRec) → slice_get events i ≡ Some e → e.rec_out ≤ reel_end events

-- the reel's first frame is covered, if any frame is
abbrev pub BeginsCovered : Type 0
BeginsCovered = (events : List EventRec) (n : ℕ) → IsCovered events n → IsCovered events (first_frame events)

-- a line without record frames ends where the reel does
abbrev pub EndsEmpty : List EventRec → Type 0
EndsEmpty events = (i : ℕ) × (e : EventRec) × (slice_get events i ≡ Some e) × (e.rec_out ≤ e.rec_in) × (e.rec_out ≡ reel_end events)

-- the reel's last frame is covered, or a line without record frames makes it one of the reel
abbrev pub EndsCovered : Type 0
EndsCovered = (events : List EventRec) (last : ℕ) → last + 1 ≡ reel_end events → IsCovered events last ⊎ EndsEmpty events

-- where the last frame is covered, no smaller range than the reel holds each frame that is covered
abbrev pub ReelIsLeast : Type 0
ReelIsLeast = (events : List EventRec) (last from to : ℕ) → last + 1 ≡ reel_end events → IsCovered events last
    → ((n : ℕ) → IsCovered events n → (from ≤ n) × (n < to)) → (n : ℕ) → IsReelFrame events n → (from ≤ n) × (n < to)

-- ---- what a frame shows

-- the side that a shot shows alone, or to which its transition leads
abbrev pub new_side : Shot → Option Side
new_side Gap = None
new_side (One side) = Some side
new_side (Two old new transition k d) = Some new

-- a frame that a line covers shows that line's side
abbrev pub ShowsCover : Type 0
ShowsCover = (rate : Rate) (events : List EventRec) → first_overlap events ≡ None → (i : ℕ) (e : EventRec) (n : ℕ)
    → slice_get events i ≡ Some e → Covers e n → new_side (shot_of rate events n) ≡ Some (side_of rate i e n)

-- exactly a frame that no line covers shows a gap
abbrev pub ShowsGap : Type 0
ShowsGap = (rate : Rate) (events : List EventRec) (n : ℕ) → (shot_of rate events n ≡ Gap) ↔ (IsCovered events n → ⊥)
