use Rattle.project_file.proofs.Projects.{ReelsSoFar}
use Rattle.project_file.proofs.reels.read_reels.Given as goal

abbrev pub invariant-values : goal.invariant-values
invariant-values l = ReelsSoFar l.rate l.values l.value-index l.number l.reels.items
