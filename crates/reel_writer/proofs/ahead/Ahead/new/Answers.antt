use Rattle.reel_writer.proofs.Once.{free_once}
use Rattle.reel_writer.proofs.ahead.Ahead.new.Goals as goal

-- no file was read so far
pub returns-clause-once : goal.returns-clause-once
returns-clause-once c job calls = free_once job calls c.rooms_of.result.items (λ k d within. (c.rooms_of.ensures k d within).none)
