-- Each word is that of its four bytes.
use Rattle.std.proofs.Common.{◌∙◌, arith}
use Rattle.std.proofs.lemmas.List.{length-take-le}
use Rattle.reel_qc.proofs.Reading.{words_taken}
use Rattle.reel_qc.proofs.words.take_words.Goals as goal

pub returns-clause-taken : goal.returns-clause-taken
returns-clause-taken c =
    words_taken c.min-count.result _ c.args.bytes.now c.args.words.now c.read_u32_into.new.dst c.min-count.ensures
    (c.read_u32_into.auto.dst ∙ length-take-le c.min-count.result c.args.words.now (omega (arith, c.min-count.ensures))) c.read_u32_into.ensures
