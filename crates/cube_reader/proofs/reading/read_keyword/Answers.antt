use Rattle.std.proofs.Common.{refl, sym, ◌∙◌, ap}
use Rattle.cube_reader.specs.Text.{tokens_of, word, arguments}
use Rattle.cube_reader.specs.inside.Steps.{keyword_step}
use Rattle.cube_reader.proofs.ReadLaws.{unknown_refused, keyword_refused, keyword_read}
use Rattle.cube_reader.proofs.reading.read_keyword.Goals as goal

pub returns-in_default : goal.returns-in_default
returns-in_default c lines at h =
    unknown_refused lines c.args.reading.now.lines c.args.reading.now h (tokens_of c.args.line.now) at c.requires.solid c.requires.keyword
    (λ k e. c.in_default.ensures.none k (sym (ap word c.requires.first) ∙ e))

pub returns-in-Err : goal.returns-in-Err
returns-in-Err c lines at h =
    keyword_refused lines c.args.reading.now.lines c.args.reading.now h (tokens_of c.args.line.now) at c.requires.solid c.requires.keyword
    c.in-Some.keyword (ap word c.requires.first ∙ c.in-Some.ensures.some) c.in-Err.kind
    (ap (λ ws. keyword_step c.args.reading.now.state c.in-Some.keyword (arguments ws)) c.requires.first ∙ sym c.with_keyword.ensures ∙ c.in-Err.is)

pub returns-in-Ok : goal.returns-in-Ok
returns-in-Ok c lines at h =
    keyword_read lines c.args.reading.now.lines c.args.reading.now h (tokens_of c.args.line.now) at c.requires.solid c.requires.keyword
    c.in-Some.keyword (ap word c.requires.first ∙ c.in-Some.ensures.some) c.in-Ok.state
    (ap (λ ws. keyword_step c.args.reading.now.state c.in-Some.keyword (arguments ws)) c.requires.first ∙ sym c.with_keyword.ensures ∙ c.in-Ok.is) _ refl refl refl
