use Rattle.std.proofs.Common.{◌∙◌, ◌≡◌, rules, ap, sym, map}
use Rattle.clap.specs.Words.{app_of, fault_of, found_of, is_simple, is_simple_and_free, matches_of, rows_of}
use Rattle.command_words.specs.Lines.{simple_command}
use Rattle.command_words.proofs.Lines.{line_read, refused, simple, simple_and_free}
use Rattle.command_words.proofs.line.line_of.Goals as goal

pub returns-in-Ok-try_get_matches_from : goal.returns-in-Ok-try_get_matches_from
returns-in-Ok-try_get_matches_from c =
    let app : app_of c.in-Ok.command ≡ simple_command = c.in-Ok.ensures.app in
    let words = map (λ w. w.now) c.args.words.now in
    let found = c.in-Ok-try_get_matches_from.ensures in
    record {
      line = line_read words (rows_of (found_of c.in-Ok-try_get_matches_from.matches)) c.line_in.result
          ((found.matches (ap is_simple app ∙ simple)).0 ∙ ap (λ a. matches_of a words) app)
          (ap (λ a. fault_of a words) (sym app) ∙ found.kinds (ap is_simple_and_free app ∙ simple_and_free))
          c.line_in.ensures.line;
    }

pub returns : goal.returns
returns c =
    let app : app_of c.in-Ok.command ≡ simple_command = c.in-Ok.ensures.app in
    let words = map (λ w. w.now) c.args.words.now in
    record {
      line = refused words (fault_of (app_of c.in-Ok.command) words) c.kind.result (ap (λ a. fault_of a words) app)
          (search rules)
          (rw c.kind.ensures (c.in-Err.ensures.kinds (ap is_simple_and_free app ∙ simple_and_free)));
    }
