use Rattle.std.proofs.Common.{◌≡◌, true, [], refl, ap, map}
use Rattle.cf_base.specs.Tokens.{Token}
use Rattle.cube_reader.specs.Text.{tokens_of, is_passed_over}
use Rattle.std.specs.Prelude.{slice_range}
use Rattle.cube_reader.specs.inside.Steps.{words_from}
use Rattle.cube_reader.proofs.KeywordLaws.{comment_passed}
use Rattle.cube_reader.proofs.ReadLaws.{passed_read}
use Rattle.cube_reader.proofs.reading.read_more.Goals as goal

pub returns-in_default : goal.returns-in_default
returns-in_default c lines at h =
    let none : tokens_of c.args.line.now ≡ [] = ap (map (λ (token : Token). token.bytes)) c.in_default.ensures.none in
    let passed : is_passed_over (tokens_of c.args.line.now) ≡ true = rw none refl in
    passed_read lines c.args.reading.now.lines c.args.reading.now h (tokens_of c.args.line.now) at passed _ refl refl refl

pub returns-then-word-eq35 : goal.returns-then-word-eq35
returns-then-word-eq35 c lines at h =
    let passed : is_passed_over (tokens_of c.args.line.now) ≡ true = comment_passed (tokens_of c.args.line.now) (slice_range c.args.line.now c.in-Some.first.start c.in-Some.first.end) (words_from c.args.line.now c.in-Some.first.end)
    (ap (map (λ (token : Token). token.bytes)) c.in-Some.ensures.some) c.if-word-eq35.true in
    passed_read lines c.args.reading.now.lines c.args.reading.now h (tokens_of c.args.line.now) at passed _ refl refl refl
