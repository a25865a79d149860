use Rattle.record_timeline.proofs.OverlapLaws.{shares, finds_meetings, names_first_meeting, one_covers}
use Rattle.record_timeline.proofs.CoverLaws.{finds_cover}
use Rattle.record_timeline.proofs.ReelLaws.{made_covers, holds_covered, ends_within, begins_covered, ends_covered, reel_is_least, shows_cover, shows_gap}
use Rattle.record_timeline.proofs.timeline_laws.Goals as goal

pub returns : goal.returns
returns c = record {
  sharing = shares;
  none = finds_meetings;
  first = names_first_meeting;
  cover = finds_cover;
  one = one_covers;
  some = made_covers;
  holds = holds_covered;
  within = ends_within;
  begins = begins_covered;
  ends = ends_covered;
  least = reel_is_least;
  shows = (shows_cover, shows_gap);
}
