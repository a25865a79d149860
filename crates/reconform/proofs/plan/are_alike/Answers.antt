use Rattle.reconform.proofs.plan.are_alike.Goals as goal

pub returns-then-same_size-clause-alike : goal.returns-then-same_size-clause-alike
returns-then-same_size-clause-alike c =
    let size = c.same_size.ensures.0 c.if-same_size.true in (
      λ is. let colours = c.same_colours.ensures.0 is in record { width = size.0; height = size.1; black = colours.0; cube = colours.1 },
      λ alike. c.same_colours.ensures.1 (alike.black, alike.cube),
    )
