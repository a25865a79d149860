use Rattle.std.proofs.Common.{rules, arith}
use Rattle.std.proofs.lemmas.List.FromFn.{fill_by_all}
use Rattle.demo.specs.Pictures.{source_word, line_words}
use Rattle.demo.proofs.picture.fill_words.Goals as goal

pub returns : goal.returns
unfolding line_words
returns c = fill_by_all (λ x. source_word c.args.reel c.args.frame x c.args.y) c.loop-x.out 32 0 (search rules) (λ x lt. c.loop-x.invariant x (omega arith))
