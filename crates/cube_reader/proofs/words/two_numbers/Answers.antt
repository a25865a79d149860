use Rattle.std.proofs.Common.{List, ◌∷◌, ap, sym, ◌∙◌, pos}
use Rattle.std.specs.Prelude.{Some, None}
use Rattle.cf_base.specs.declared.fixed.Fixed.{Fixed}
use Rattle.cube_reader.specs.inside.Steps.{words_from}
use Rattle.cube_reader.proofs.WordLaws.{value_then, values_length, one_of}
use Rattle.cube_reader.proofs.words.two_numbers.Goals as goal

pub returns-in-Some-last_number : goal.returns-in-Some-last_number
returns-in-Some-last_number c =
    let given = sym c.last_number.ensures ∙ c.in-Some-last_number.is in
    let long = values_length 1 (words_from c.args.line.now c.in-Some.first.end) c.in-Some-last_number.rest given in
    ap (λ (vs : List Fixed). Some (c.in-Some.first.value ∷ vs)) (sym (one_of c.in-Some-last_number.rest (record { 0 = pos 0 }) long))
    ∙ value_then 1 (words_from c.args.line.now c.args.at) (words_from c.args.line.now c.in-Some.first.end) c.in-Some.first.value (Some c.in-Some-last_number.rest) c.in-Some.ensures.value c.in-Some.ensures.rest (sym given)

pub returns-in-None : goal.returns-in-None
returns-in-None c = value_then 1 (words_from c.args.line.now c.args.at) (words_from c.args.line.now c.in-Some.first.end) c.in-Some.first.value None c.in-Some.ensures.value c.in-Some.ensures.rest (sym c.in-None.is ∙ c.last_number.ensures)
