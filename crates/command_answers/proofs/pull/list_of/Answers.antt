-- The ranges can be labelled, and their text is the list's.
use Rattle.command_answers.proofs.Pulls.{all_labelled}
use Rattle.command_answers.proofs.pull.list_of.Goals as goal

pub pull_of-requires : goal.pull_of-requires
pull_of-requires c =
    let p = c.args.job.now.parts in
    all_labelled p.project.rate p.reels _ c.requires.counted c.in-Ok.ensures.list.some c.in-Ok.ensures.days

pub returns-in-Ok-pull_of : goal.returns-in-Ok-pull_of
returns-in-Ok-pull_of c = (_, c.in-Ok.ensures.list, c.in-Ok-pull_of.ensures)
