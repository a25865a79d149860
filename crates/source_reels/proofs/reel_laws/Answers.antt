use Rattle.source_reels.proofs.Faults.{finds_faults, names_first_fault}
use Rattle.source_reels.proofs.KeyLaws.{paths_agree}
use Rattle.source_reels.proofs.reel_laws.Goals as goal

pub returns : goal.returns
returns c = record { none = finds_faults; first = names_first_fault; paths = paths_agree }
