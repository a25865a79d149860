use Rattle.project_file.proofs.Projects.{PathsSoFar}
use Rattle.project_file.proofs.cuts.paths_of.Given as goal

abbrev pub invariant-values : goal.invariant-values
invariant-values l = PathsSoFar l.values l.value-index l.paths.items
