-- The duration has one to five digits.
use Rattle.std.proofs.Common.{sym, ◌∙◌}
use Rattle.cf_base.specs.Tokens.{tokens_from, token_between}
use Rattle.edl_lines.proofs.PictureLaws.{lasting_read}
use Rattle.edl_lines.proofs.event.read_lasting.Goals as goal

pub returns-clause-kind : goal.returns-clause-kind
returns-clause-kind c =
    c.read_times.ensures.kind
    ∙ rw (c.lasting.ensures, c.in-Some.ensures.some)
    (lasting_read c.args.number c.args.reel c.args.shape (token_between c.args.line.now c.in-Some.duration.start c.in-Some.duration.end) (tokens_from c.args.line.now c.in-Some.duration.end)
    c.in-Some-decimal.d (sym c.decimal.ensures.value ∙ c.in-Some-decimal.is))
