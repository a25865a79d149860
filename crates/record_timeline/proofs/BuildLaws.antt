-- What a list comes to: a shared frame is refused, then a reel that is too long, and else there is a timeline.
use Rattle.std.proofs.Common.{◌≡◌, ℕ, ◌-◌, ◌<◌, ◌≤◌, false, List, Option, refl, ap, ◌∙◌, arith}
use Rattle.std.specs.Prelude.{nat_lt, if◌then◌else◌, Some, None, Result, Ok, Err}
use Rattle.std.proofs.lemmas.Bool.{lt-ltb}
use Rattle.std.proofs.lemmas.Bool.Decides.{nat_tests}
use Rattle.cf_base.specs.declared.timing.Rate.{Rate}
use Rattle.cf_base.specs.declared.event.EventRec.{EventRec}
use Rattle.cf_base.specs.declared.event.EventList.{EventList}
use Rattle.record_timeline.specs.declared.TimelineFault.{TimelineFault}
use Rattle.record_timeline.specs.declared.TimelineFault.TheVariants.{TooLongReel}
use Rattle.record_timeline.specs.Accepted.{RecordReel, first_overlap, first_frame, end_frame, frame_count, unless_overlap, timeline_of}

lt_false : (a b : ℕ) → b ≤ a → nat_lt a b ≡ false
lt_false a b le = grind (arith, nat_tests)

pub counted : (events items : List EventRec) (first end count : ℕ)
    → items ≡ events → first ≡ first_frame items → end ≡ end_frame items → count ≡ end - first → count ≡ frame_count events
counted events items first end count same begins ends is = is ∙ rw (begins, ends, same) refl

abbrev by_length : Rate → EventList → Result RecordReel TimelineFault
by_length rate list = if nat_lt 262144 (frame_count list.events) then Err TooLongReel else Ok (record { rate = rate; mode = list.mode; events = list.events })

pub shared_refused : (rate : Rate) (list : EventList) (f : TimelineFault) → first_overlap list.events ≡ Some f → timeline_of rate list ≡ Err f
shared_refused rate list f shared = ap (λ (o : Option TimelineFault). unless_overlap o (by_length rate list)) shared

apart_by_length : (rate : Rate) (list : EventList) → first_overlap list.events ≡ None → timeline_of rate list ≡ by_length rate list
apart_by_length rate list apart = ap (λ (o : Option TimelineFault). unless_overlap o (by_length rate list)) apart

pub long_refused : (rate : Rate) (list : EventList) → first_overlap list.events ≡ None → 262144 < frame_count list.events
    → timeline_of rate list ≡ Err TooLongReel
long_refused rate list apart long = apart_by_length rate list apart ∙ rw (lt-ltb 262144 (frame_count list.events) long) refl

pub timeline_made : (rate : Rate) (list : EventList) → first_overlap list.events ≡ None → frame_count list.events ≤ 262144
    → timeline_of rate list ≡ Ok (record { rate = rate; mode = list.mode; events = list.events })
timeline_made rate list apart short = apart_by_length rate list apart ∙ rw (lt_false 262144 (frame_count list.events) short) refl
