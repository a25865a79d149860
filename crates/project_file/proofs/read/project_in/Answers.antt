-- What is wrong with the list of reels is told before the cuts are looked at.
use Rattle.std.proofs.Common.{◌≡◌, Err, rules}
use Rattle.project_file.proofs.read.project_in.Goals as goal

pub returns-in_err-values-clause-project : goal.returns-in_err-values-clause-project
returns-in_err-values-clause-project c =
    let refused : c.map_err-9.result ≡ Err c.in_err-values.field-0.0 = c.in_err-values.was in
    search rules
