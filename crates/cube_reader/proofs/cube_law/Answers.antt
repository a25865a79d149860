use Rattle.cube_reader.proofs.TableLaws.{law}
use Rattle.cube_reader.proofs.cube_law.Goals as goal

pub returns : goal.returns
returns c = law
