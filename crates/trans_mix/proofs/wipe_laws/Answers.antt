use Rattle.trans_mix.proofs.WipeLaws.{keeps, begins_and_ends}
use Rattle.trans_mix.proofs.WipeEnds.{begins_empty, ends_full, reaches_all, turns, flips}
use Rattle.trans_mix.proofs.wipe_laws.Goals as goal

pub returns : goal.returns
returns c = record { keeps = keeps; way = begins_and_ends; empty = begins_empty; full = ends_full; all = reaches_all; turned = turns; flipped = flips }
