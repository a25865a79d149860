use Rattle.frame_range.proofs.Edges.{only_part, part_within, parts_are_apart, parts_cover}
use Rattle.frame_range.proofs.laws.part_laws.Goals as goal

pub returns-clause-partition : goal.returns-clause-partition
returns-clause-partition c = record { disjoint = parts_are_apart; cover = parts_cover; within = part_within }

pub returns-clause-only : goal.returns-clause-only
returns-clause-only c = record { whole = only_part }
