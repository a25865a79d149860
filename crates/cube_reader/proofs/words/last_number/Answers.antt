use Rattle.std.proofs.Common.{◌≡◌, [], refl, ap, ◌∙◌, map}
use Rattle.std.specs.Prelude.{Some}
use Rattle.cf_base.specs.Tokens.{Token}
use Rattle.cube_reader.specs.inside.Steps.{words_from}
use Rattle.cube_reader.proofs.WordLaws.{value_then}
use Rattle.cube_reader.proofs.words.last_number.Goals as goal

pub returns-in-None : goal.returns-in-None
returns-in-None c =
    let none : words_from c.args.line.now c.in-Some.number.end ≡ [] = ap (map (λ (token : Token). token.bytes)) c.in-None.ensures.none in
    value_then 0 (words_from c.args.line.now c.args.at) [] c.in-Some.number.value (Some []) c.in-Some.ensures.value (c.in-Some.ensures.rest ∙ none) refl
