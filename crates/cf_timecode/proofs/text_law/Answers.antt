use Rattle.cf_timecode.proofs.Spelled.{spells_back}
use Rattle.cf_timecode.proofs.text_law.Goals as goal

pub returns : goal.returns
returns c = record { parsed = spells_back }
