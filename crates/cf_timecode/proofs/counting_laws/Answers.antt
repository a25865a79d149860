use Rattle.cf_timecode.proofs.Laws.{once, full_day, never_passed_over, numbers_count, numbers_fit, numbers_rise}
use Rattle.cf_timecode.proofs.counting_laws.Goals as goal

pub returns : goal.returns
returns c = record { once = once; day = full_day; kept = never_passed_over; numbers = numbers_count; fit = numbers_fit; order = numbers_rise }
