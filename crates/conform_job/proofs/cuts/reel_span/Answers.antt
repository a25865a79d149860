-- A reel's first frame and the frame behind its last lie in the record.
use Rattle.std.proofs.Common.{◌∙◌, ap, subst, sym, ◌∷◌, [], ◌++◌}
use Rattle.std.specs.Prelude.{slice_index}
use Rattle.conform_job.specs.Cuts.{HasFramesOf}
use Rattle.conform_job.proofs.Cutting.{end_above, has_frames, place_low, span_found, start_above}
use Rattle.conform_job.proofs.cuts.reel_span.Goals as goal

pub first_of_reel-requires : goal.first_of_reel-requires
first_of_reel-requires c = place_low c.args.parts.now c.requires.good c.args.cuts.now c.first-first.result.0 c.requires.cuts c.first-first.ensures.first c.args.reel c.from-place.result c.requires.some c.requires.most c.from-place.ensures

pub overflow_sub-result : goal.overflow_sub-result
overflow_sub-result c = start_above c.args.parts.now c.requires.good c.args.cuts.now c.first-first.result.0 c.requires.cuts c.first-first.ensures.first c.args.reel c.from-place.result c.requires.some c.requires.most c.from-place.ensures c.first_of_reel.result c.first_of_reel.ensures

pub end_of_reel-requires : goal.end_of_reel-requires
end_of_reel-requires c = place_low c.args.parts.now c.requires.good c.args.cuts.now c.first-first.result.0 c.requires.cuts c.first-first.ensures.first c.args.reel c.from-place.result c.requires.some c.requires.most c.from-place.ensures

pub overflow_sub-result-2 : goal.overflow_sub-result-2
overflow_sub-result-2 c = end_above c.args.parts.now c.requires.good c.args.cuts.now c.first-first.result.0 c.requires.cuts c.first-first.ensures.first c.args.reel c.from-place.result c.requires.some c.requires.most c.from-place.ensures c.end_of_reel.result
    (c.end_of_reel.ensures ∙ ap (λ end. slice_index (c.args.cuts.now ++ end ∷ []) c.from-place.result) c.record_end.ensures)

pub returns-clause-frames : goal.returns-clause-frames
returns-clause-frames c = subst (HasFramesOf c.args.parts.now c.args.reel)
    (sym (span_found c.args.parts.now c.requires.good c.args.cuts.now c.first-first.result.0 c.requires.cuts c.first-first.ensures.first c.args.reel c.from-place.result c.requires.some c.requires.most c.from-place.ensures c.first_of_reel.result c.end_of_reel.result c.first_of_reel.ensures
    (c.end_of_reel.ensures ∙ ap (λ end. slice_index (c.args.cuts.now ++ end ∷ []) c.from-place.result) c.record_end.ensures)))
    (has_frames c.args.parts.now c.requires.good c.args.reel c.requires.some c.requires.most)
