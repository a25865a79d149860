use Rattle.std.proofs.Common.{◌∙◌}
use Rattle.std.specs.Str.Parse.{ParsesUnsigned, ExplainsUnsignedError, HasUnsignedDigitsIfOk}
use Rattle.clap.specs.Words.{found_of, one_of, rows_of}
use Rattle.clap.proofs.WalkLemmas.{one_text-rows}
use Rattle.command_words.proofs.Lines.{numeral_read}
use Rattle.command_words.proofs.line.numeral_of.Goals as goal

pub returns : goal.returns
returns c =
    let rows = one_text-rows (found_of c.args.matches.now) c.args.id.now in
    record {
      numeral = numeral_read (λ bs r. ParsesUnsigned 16 10 bs r × ExplainsUnsignedError 10 bs r × HasUnsignedDigitsIfOk bs r) (λ u x g. g.0)
          (one_of c.args.id.now (rows_of (found_of c.args.matches.now))) c.get_one.result
          (λ none. c.get_one.ensures.none (rows ∙ none)) (λ t some. c.get_one.ensures.value t (rows ∙ some));
    }
