-- The times stand in the order of their tokens.
use Rattle.std.proofs.Common.{refl, ◌∙◌}
use Rattle.edl_lines.proofs.PictureLaws.{span_read}
use Rattle.edl_lines.proofs.event.read_times.Goals as goal

pub returns-clause-kind : goal.returns-clause-kind
returns-clause-kind c =
    let line = c.args.line.now in
    rw (
      c.in-Some.ensures.some,
      c.in-Some-token_from.ensures.some,
      c.in-Some-token_from-2.ensures.some,
      c.in-Some-token_from-3.ensures.some,
      c.span_of.ensures ∙ span_read line _ _ _ c.in-Some.ensures.apart,
      c.span_of-2.ensures ∙ span_read line _ _ _ c.in-Some-token_from.ensures.apart,
      c.span_of-3.ensures ∙ span_read line _ _ _ c.in-Some-token_from-2.ensures.apart,
      c.span_of-4.ensures ∙ span_read line _ _ _ c.in-Some-token_from-3.ensures.apart,
    )
    refl
