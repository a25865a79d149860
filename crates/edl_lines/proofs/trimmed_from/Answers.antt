-- A text that isn't all blanks has its blanks at the front before those at the end.
use Rattle.std.proofs.Common.{◌≡◌, ◌+◌, ◌-◌, ◌≤◌, length, take, drop, sym, ◌∙◌, arith}
use Rattle.std.proofs.lemmas.Grind.{common_steps}
use Rattle.std.specs.List.{prefix_len, suffix_len}
use Rattle.cf_base.specs.Tokens.{is_blank}
use Rattle.edl_lines.proofs.TitleLaws.{ends_apart}
use Rattle.edl_lines.proofs.trimmed_from.Goals as goal

pub returns-clause-within : goal.returns-clause-within
returns-clause-within c =
    let line = c.args.line.now in
    let rest = take (length line - c.args.from) (drop c.args.from line) in
    let apart : prefix_len is_blank rest + suffix_len is_blank rest ≤ length rest = ends_apart is_blank rest (sym c.are_blank.ensures ∙ c.if-are_blank.false) in
    let long : length rest ≡ length line - c.args.from = grind (arith, common_steps) in
    (omega (arith, apart, long, c.requires.within, c.blanks_in_front.ensures.value, c.blanks_at_end.ensures.value), omega arith)
