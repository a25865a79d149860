use Rattle.std.proofs.Common.{List, [], ◌∷◌, ◌++◌, refl, sym, ◌∙◌, ap}
use Rattle.cf_base.specs.declared.fixed.Fixed.{Fixed}
use Rattle.cube_reader.specs.Text.{tokens_of}
use Rattle.cube_reader.proofs.ReadLaws.{data_refused, number_refused, data_read}
use Rattle.cube_reader.proofs.reading.read_data.Goals as goal

pub returns-in-Some : goal.returns-in-Some
returns-in-Some c lines at h =
    data_refused lines c.args.reading.now.lines c.args.reading.now h (tokens_of c.args.line.now) at c.requires.solid c.requires.begins c.in-Some.kind (sym c.data_fault.ensures ∙ c.in-Some.is)

pub returns-in_default-three_numbers : goal.returns-in_default-three_numbers
returns-in_default-three_numbers c lines at h =
    number_refused lines c.args.reading.now.lines c.args.reading.now h (tokens_of c.args.line.now) at c.requires.solid c.requires.begins (sym c.data_fault.ensures ∙ c.in_default.is) (sym c.three_numbers.ensures ∙ c.in_default-three_numbers.is)

pub returns-in-Ok : goal.returns-in-Ok
returns-in-Ok c lines at h =
    data_read lines c.args.reading.now.lines c.args.reading.now h (tokens_of c.args.line.now) at c.requires.solid c.requires.begins (sym c.data_fault.ensures ∙ c.in_default.is)
    c.in-Some-three_numbers.values (sym c.three_numbers.ensures ∙ c.in-Some-three_numbers.is) _ refl refl (c.in-Ok.ensures.items ∙ ap (λ (vs : List Fixed). c.args.reading.now.entries.items ++ vs ∷ []) c.clamped.ensures)
