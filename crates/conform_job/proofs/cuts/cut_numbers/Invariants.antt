use Rattle.conform_job.proofs.Cutting.{CutsSoFar}
use Rattle.conform_job.proofs.cuts.cut_numbers.Given as goal

abbrev pub invariant-loop-text : goal.invariant-loop-text
invariant-loop-text l = CutsSoFar l.parts l.texts l.text-index l.number l.before l.cuts.items
