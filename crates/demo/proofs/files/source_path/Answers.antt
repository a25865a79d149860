use Rattle.demo.proofs.Printed.{path_made, path_there}
use Rattle.demo.proofs.files.source_path.Goals as goal

pub returns : goal.returns
returns c = path_made c.args.reel c.args.frame c.of.result c.path_bytes.result c.in-Some.path c.path_bytes.ensures c.of.ensures.text c.in-Some.is

pub unreachable-requires : goal.unreachable-requires
unreachable-requires c = path_there c.args.reel c.args.frame c.of.result c.path_bytes.result c.path_bytes.ensures c.of.ensures.text c.in-None.is
