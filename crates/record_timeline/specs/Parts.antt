-- The parts of a timeline.
use Rattle.std.specs.Prelude.{◌≡◌}
use Rattle.cf_base.specs.declared.timing.Rate.{Rate}
use Rattle.cf_base.specs.declared.event.EventList.{EventList}
use Rattle.record_timeline.specs.Accepted.{RecordReel}

-- it is at this rate, with the mode and the events of this list
abbrev pub IsOfList : Rate → EventList → RecordReel → Type 0
IsOfList rate list timeline = (timeline.rate ≡ rate) × (timeline.mode ≡ list.mode) × (timeline.events ≡ list.events)
