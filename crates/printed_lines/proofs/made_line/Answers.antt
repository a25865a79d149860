-- The digest that is kept stands before the one that was wanted.
use Rattle.std.proofs.Common.{rules}
use Rattle.printed_lines.proofs.made_line.Goals as goal

pub returns-in-OtherJob : goal.returns-in-OtherJob
returns-in-OtherJob c = rw c.in-OtherJob.is (tt, c.other_job_line.ensures)

-- A bad ledger has its line.
pub returns-in-BadLedger : goal.returns-in-BadLedger
returns-in-BadLedger c = search rules
