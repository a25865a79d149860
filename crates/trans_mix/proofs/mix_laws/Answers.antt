use Rattle.trans_mix.proofs.MixLaws.{between, toward, same_back, nearest, negative}
use Rattle.trans_mix.proofs.mix_laws.Goals as goal

pub returns : goal.returns
returns c = record { between = between; toward = toward; back = same_back; nearest = nearest; negative = negative }
