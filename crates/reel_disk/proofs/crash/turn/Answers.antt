use Rattle.std.proofs.Common.{sym, ◌∙◌}
use Rattle.reel_disk.proofs.Picks.{byte_loose_is, byte_loose_not}
use Rattle.reel_disk.proofs.crash.turn.Goals as goal

pub returns-then-byte_loose-clause-firm : goal.returns-then-byte_loose-clause-firm
returns-then-byte_loose-clause-firm c firm = absurd (firm (byte_loose_is c.args.loose.now c.args.id c.args.k (sym c.byte_loose.ensures ∙ c.if-byte_loose.true)))

pub returns-else-byte_loose-clause-loose : goal.returns-else-byte_loose-clause-loose
returns-else-byte_loose-clause-loose c at = absurd (byte_loose_not c.args.loose.now c.args.id c.args.k (sym c.byte_loose.ensures ∙ c.if-byte_loose.false) at)
