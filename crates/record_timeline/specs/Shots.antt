-- What a record frame shows. The rule of motion is this project's own; record and source numbers are as CMX 3600 has them.
-- * cover, side, shot: the line that covers a record frame; what a line shows there, also past its out point; gap, one side, or
--   two in a transition
--     covering events n      the place in the list of the line that covers frame n; an accepted list has at most one
--     side_of rate place e n      what a line shows at frame n, also past its out point
--     shot_of rate events n      the shot of frame n
--     IsShotIn events shot      what every shot of a well-made list keeps
use Rattle.std.specs.Prelude.{◌≡◌, ℕ, zero, suc, ℤ, pos, ◌+ℤ◌, ◌-◌, ◌<◌, ◌≤◌, ◌&&◌, Bool, nat_lt, nat_le, if◌then◌else◌, IsTrue, List, length, slice_get, Option, Some, None, position}
use Rattle.cf_base.specs.declared.limits.TheConstants.{LONGEST}
use Rattle.cf_base.specs.declared.timing.Rate.{Rate}
use Rattle.cf_base.specs.declared.event.Transition.{Transition}
use Rattle.cf_base.specs.declared.event.Transition.TheVariants.{Cut, Dissolve, Wipe}
use Rattle.cf_base.specs.declared.event.EventRec.{EventRec}
use Rattle.cf_base.specs.Events.{is_black_reel, is_known_wipe}
use Rattle.speed_map.specs.Speeds.{source_offset_of}
use Rattle.record_timeline.specs.declared.Side.{Side}
use Rattle.record_timeline.specs.declared.Side.TheVariants.{Black, Frame}
use Rattle.record_timeline.specs.declared.Shot.{Shot}
use Rattle.record_timeline.specs.declared.Shot.TheVariants.{Gap, One, Two}

-- record in is the first frame of a line, record out the one behind its last
abbrev pub covers : EventRec → ℕ → Bool
covers e n = nat_le e.rec_in n && nat_lt n e.rec_out

abbrev pub covering : List EventRec → ℕ → Option ℕ
covering events n = position (λ e. covers e n) events

-- how far the source has come after j record frames: one frame each without motion, else by the floor rule
abbrev pub offset_of : Rate → Option ℤ → ℕ → ℤ
offset_of rate None j = pos j
offset_of rate (Some speed) j = source_offset_of rate speed j

abbrev pub side_of : Rate → ℕ → EventRec → ℕ → Side
side_of rate place e n =
    if is_black_reel e.reel then Black else Frame place (pos e.src_in +ℤ offset_of rate e.speed (n - e.rec_in))

abbrev pub duration_of : Transition → Option ℕ
duration_of Cut = None
duration_of (Dissolve d) = Some d
duration_of (Wipe code d) = Some d

-- the line directly before a place of the list
abbrev pub event_before : List EventRec → ℕ → Option EventRec
event_before events zero = None
event_before events (suc place) = slice_get events place

-- the new side is the line's own, the old one that of the line before it; in a well-made list there is one
abbrev pub two_sides : Rate → ℕ → EventRec → Option EventRec → ℕ → ℕ → Shot
two_sides rate place e None n d = One (side_of rate place e n)
two_sides rate place e (Some old) n d = Two (side_of rate (place - 1) old n) (side_of rate place e n) e.transition (n - e.rec_in) d

-- two sides in the first d frames of a line with a transition, else one
abbrev pub shot_within : Rate → ℕ → EventRec → Option EventRec → ℕ → Option ℕ → Shot
shot_within rate place e old n None = One (side_of rate place e n)
shot_within rate place e old n (Some d) = if nat_lt (n - e.rec_in) d then two_sides rate place e old n d else One (side_of rate place e n)

abbrev pub shot_in : Rate → ℕ → ℕ → Option EventRec → Option EventRec → Shot
shot_in rate n place None old = Gap
shot_in rate n place (Some e) old = shot_within rate place e old n (duration_of e.transition)

-- a gap where no line covers the frame
abbrev pub shot_by : Rate → List EventRec → ℕ → Option ℕ → Shot
shot_by rate events n None = Gap
shot_by rate events n (Some place) = shot_in rate n place (slice_get events place) (event_before events place)

abbrev pub shot_of : Rate → List EventRec → ℕ → Shot
shot_of rate events n = shot_by rate events n (covering events n)

-- the event of a side stands in the list
abbrev pub IsSideIn : List EventRec → Side → Type 0
IsSideIn events Black = Unit {0}
IsSideIn events (Frame event source) = event < length events

-- a transition of d frames, and of a known code
abbrev pub Lasts : ℕ → Transition → Type 0
Lasts d Cut = ⊥
Lasts d (Dissolve frames) = frames ≡ d
Lasts d (Wipe code frames) = (frames ≡ d) × IsTrue (is_known_wipe code)

-- frame k of a transition of d frames, which is at most a day
pub record IsTransitionIn (events : List EventRec) (old new : Side) (transition : Transition) (k d : ℕ) : Type 0 where
  pub old_side : IsSideIn events old
  pub new_side : IsSideIn events new
  pub lasts : Lasts d transition
  pub within : k < d
  pub day : d ≤ LONGEST

abbrev pub IsShotIn : List EventRec → Shot → Type 0
IsShotIn events Gap = Unit {0}
IsShotIn events (One side) = IsSideIn events side
IsShotIn events (Two old new transition k d) = IsTransitionIn events old new transition k d
