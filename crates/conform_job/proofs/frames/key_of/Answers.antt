use Rattle.std.proofs.Common.{ap, ◌∙◌}
use Rattle.conform_job.specs.Keys.{key_at}
use Rattle.conform_job.proofs.Placed.{place_read, place_in_table}
use Rattle.conform_job.proofs.frames.key_of.Goals as goal

pub key_at-requires : goal.key_at-requires
key_at-requires c = place_in_table c.args.parts.now.reels c.args.parts.now.timeline.events c.args.places.now c.args.ask.event c.requires.places c.requires.within

pub returns-clause-key : goal.returns-clause-key
returns-clause-key c =
    c.key_at.ensures.key ∙ ap (key_at c.args.parts.now.reels c.args.ask.source) (place_read c.args.parts.now.reels c.args.parts.now.timeline.events c.args.places.now c.args.ask.event c.requires.places c.requires.within)
