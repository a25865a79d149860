use Rattle.std.proofs.Common.{List, ◌∷◌, ap, sym, ◌∙◌, pos}
use Rattle.std.specs.Prelude.{Some, None}
use Rattle.cf_base.specs.declared.fixed.Fixed.{Fixed}
use Rattle.cube_reader.specs.inside.Steps.{words_from}
use Rattle.cube_reader.proofs.WordLaws.{value_then, values_length, two_of}
use Rattle.cube_reader.proofs.words.three_numbers.Goals as goal

pub returns-in-Some-two_numbers : goal.returns-in-Some-two_numbers
returns-in-Some-two_numbers c =
    let given = sym c.two_numbers.ensures ∙ c.in-Some-two_numbers.is in
    let long = values_length 2 (words_from c.args.line.now c.in-Some.first.end) c.in-Some-two_numbers.rest given in
    ap (λ (vs : List Fixed). Some (c.in-Some.first.value ∷ vs)) (sym (two_of c.in-Some-two_numbers.rest (record { 0 = pos 0 }) long))
    ∙ value_then 2 (words_from c.args.line.now c.args.at) (words_from c.args.line.now c.in-Some.first.end) c.in-Some.first.value (Some c.in-Some-two_numbers.rest) c.in-Some.ensures.value c.in-Some.ensures.rest (sym given)

pub returns-in-None : goal.returns-in-None
returns-in-None c = value_then 2 (words_from c.args.line.now c.args.at) (words_from c.args.line.now c.in-Some.first.end) c.in-Some.first.value None c.in-Some.ensures.value c.in-Some.ensures.rest (sym c.in-None.is ∙ c.two_numbers.ensures)
