use Rattle.source_reels.proofs.Paths.{path_made}
use Rattle.source_reels.proofs.path.path_text.Goals as goal

pub returns : goal.returns
returns c = path_made c.args.e.now c.args.k c.of.result _ c.bytes-prefix.result.now c.file_number.result c.bytes-prefix.ensures.valid c.requires.prefix c.of.ensures.text c.joined-text.ensures c.bytes-prefix.ensures.text c.file_number.ensures
