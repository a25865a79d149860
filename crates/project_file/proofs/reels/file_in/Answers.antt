-- Where no number is given, it is that of the start.
use Rattle.std.proofs.Common.{ap}
use Rattle.project_file.specs.Keys.{optional, whole_at}
use Rattle.project_file.proofs.reels.file_in.Goals as goal

pub returns-in_default-clause-file : goal.returns-in_default-clause-file
returns-in_default-clause-file c = ap (optional c.args.start (whole_at c.args.place 0 9999999)) (rw c.in_default.is at c.member.ensures.found)
