-- What was read is a piece of the file.
use Rattle.std.proofs.Common.{◌∙◌, refl}
use Rattle.reel_disk.specs.declared.disk.Got.TheVariants.{Absent, Bytes}
use Rattle.reel_disk.specs.Disk.{view_of}
use Rattle.reel_qc.proofs.Asking.{asks_once, bytes_given}
use Rattle.reel_qc.proofs.Reading.{none_in, read_in}
use Rattle.reel_qc.proofs.words.read_piece.Goals as goal

pub returns-in-Bytes-clause-words : goal.returns-in-Bytes-clause-words
returns-in-Bytes-clause-words g c told =
    c.take_words.ensures.taken
    ∙ read_in (view_of (g.D.Disk.state c.args.disk.now).history c.args.id) c.args.first _ c.in-Bytes.n c.read.new.into
    (c.read.auto.into ∙ c.requires.bytes) (c.in-Bytes.ensures.answer told)

pub returns-in-Absent-clause-words : goal.returns-in-Absent-clause-words
returns-in-Absent-clause-words g c told = none_in c.args.first _ _ (c.in-Absent.ensures.answer told)

pub returns-in-Bytes-clause-calls : goal.returns-in-Bytes-clause-calls
returns-in-Bytes-clause-calls g c =
    let size = c.read.auto.into ∙ c.requires.bytes in
    asks_once c.args.id c.args.first _ c.read.new.into _ (Bytes c.in-Bytes.n) _ _ c.requires.some size c.in-Bytes.ensures.call
    (bytes_given _ c.in-Bytes.n c.read.new.into _ size c.take_words.ensures.taken)

pub returns-in-Absent-clause-calls : goal.returns-in-Absent-clause-calls
returns-in-Absent-clause-calls g c =
    asks_once c.args.id c.args.first _ c.read.new.into _ Absent _ _ c.requires.some (c.read.auto.into ∙ c.requires.bytes) c.in-Absent.ensures.call refl
