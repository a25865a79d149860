-- The reel of a frame, by how many cuts are at or below it.
use Rattle.std.proofs.Common.{◌≤◌, arith, subst, sym}
use Rattle.conform_job.specs.Cuts.{reel_count, reel_span, IsWithin}
use Rattle.conform_job.proofs.Cutting.{few_cuts, no_falls, own_span, reel_found, reel_most}
use Rattle.conform_job.proofs.cuts.record_reel.Goals as goal

pub cuts_up_to-requires-clause-few : goal.cuts_up_to-requires-clause-few
cuts_up_to-requires-clause-few c = few_cuts c.args.parts.now c.requires.good c.args.cuts.now c.first.result.0 c.requires.cuts c.first.ensures.first c.requires.planned.cuts

pub cuts_up_to-requires-clause-ascending : goal.cuts_up_to-requires-clause-ascending
cuts_up_to-requires-clause-ascending c = no_falls c.args.parts.now c.requires.good c.args.cuts.now c.first.result.0 c.requires.cuts c.first.ensures.first

pub overflow_add-result : goal.overflow_add-result
overflow_add-result c =
    omega (arith, c.cuts_up_to.ensures.most, few_cuts c.args.parts.now c.requires.good c.args.cuts.now c.first.result.0 c.requires.cuts c.first.ensures.first c.requires.planned.cuts)

pub returns-clause-most : goal.returns-clause-most
returns-clause-most c = subst (λ reel. reel ≤ reel_count c.args.parts.now)
    (sym (reel_found c.args.parts.now c.requires.good c.args.cuts.now c.first.result.0 c.requires.cuts c.first.ensures.first c.args.i c.cuts_up_to.result c.cuts_up_to.ensures.count))
    (reel_most c.args.parts.now c.requires.good c.args.i)

pub returns-clause-few : goal.returns-clause-few
returns-clause-few c =
    omega (arith, c.cuts_up_to.ensures.most, few_cuts c.args.parts.now c.requires.good c.args.cuts.now c.first.result.0 c.requires.cuts c.first.ensures.first c.requires.planned.cuts)

pub returns-clause-within : goal.returns-clause-within
returns-clause-within c = subst (λ reel. IsWithin c.args.i (reel_span c.args.parts.now reel))
    (sym (reel_found c.args.parts.now c.requires.good c.args.cuts.now c.first.result.0 c.requires.cuts c.first.ensures.first c.args.i c.cuts_up_to.result c.cuts_up_to.ensures.count))
    (own_span c.args.parts.now c.requires.good c.args.i c.requires.index)
