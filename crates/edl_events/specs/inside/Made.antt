-- A list that is read is well made: words of private clauses.
use Rattle.std.specs.Prelude.{◌<◌}
use Rattle.cf_base.specs.declared.timing.Rate.{Rate}
use Rattle.cf_base.specs.declared.timing.Mode.{Mode}
use Rattle.cf_base.specs.Timing.{frames_in_day}
use Rattle.edl_events.specs.declared.steps.Times.{Times}
use Rattle.cf_base.specs.declared.event.EventRec.{EventRec}

-- times as numbers of their days
abbrev pub AreTimes : Rate → Mode → Mode → Times → Type 0
AreTimes rate mode record_ times =
    (times.src_in < frames_in_day rate mode) × (times.src_out < frames_in_day rate mode)
    × (times.rec_in < frames_in_day rate record_) × (times.rec_out < frames_in_day rate record_)

abbrev pub IsInDay : Rate → Mode → Mode → EventRec → Type 0
IsInDay rate mode record_ e = (e.src_in < frames_in_day rate mode) × (e.src_out < frames_in_day rate mode)
    × (e.rec_out < frames_in_day rate record_)
