use Rattle.tetra_look.proofs.CellLemmas.{finds_place, stays_on_channel}
use Rattle.tetra_look.proofs.MeanLemmas.{is_mean}
use Rattle.tetra_look.proofs.CornerLemmas.{stays_between, stays_code}
use Rattle.tetra_look.proofs.IdentityLemmas.{rounds_near, keeps_colours}
use Rattle.tetra_look.proofs.look_laws.Goals as goal

pub returns : goal.returns
returns c = record { place = finds_place; ends = stays_on_channel; mean = is_mean; between = stays_between; code = stays_code; rounded = rounds_near; identity = keeps_colours }
