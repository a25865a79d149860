use Rattle.std.proofs.Common.{sym, ◌∙◌}
use Rattle.source_reels.proofs.seen.seen_of.Goals as goal

pub returns-in-Ok-clause-seen : goal.returns-in-Ok-clause-seen
returns-in-Ok-clause-seen c = sym c.read_header.ensures.info ∙ c.in-Ok.is

pub returns-in-Err-clause-seen : goal.returns-in-Err-clause-seen
returns-in-Err-clause-seen c = sym c.read_header.ensures.info ∙ c.in-Err.is
