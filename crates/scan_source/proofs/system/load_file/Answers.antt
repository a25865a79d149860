-- The length is never below what was read.
use Rattle.std.proofs.Common.{◌≡◌, max, rules}
use Rattle.scan_source.proofs.system.load_file.Goals as goal

pub returns : goal.returns
returns g c =
    let longest : c.max.result ≡ max c.in_ok-file.len c.args.most = c.max.ensures in
    search rules
