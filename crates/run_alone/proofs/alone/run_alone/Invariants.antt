use Rattle.run_alone.proofs.alone.run_alone.Given as goal

-- the misses are counted under the blank's name,
-- in its parts
abbrev pub ghosts-run_owned : goal.ghosts-run_owned
ghosts-run_owned g a = record { name = a.blank.name; parts = a.blank.parts }
