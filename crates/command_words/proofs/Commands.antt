-- What the steps of finding a command come to.
use Rattle.std.proofs.Common.{◌≡◌, ◌≤◌, ◌∙◌, ap, refl, sym, subst, ℕ, List, [], ◌∷◌, Option, Some, None, MatchOption, option_map, codes, All, if◌then◌else◌}
use Rattle.std.specs.Prelude.{◌&&◌, not, is_none, IfSome, IsSomeAnd, option_and_then}
use Rattle.std.specs.Str.{bytes_eq}
use Rattle.std.specs.Str.Parse.{AllDigits, digits_value}
use Rattle.std.proofs.lemmas.Str.Parse.{tells_digits}
use Rattle.std.proofs.lemmas.List.Elements.{All-cons, All-head, All-nil, All-tail}
use Rattle.clap.specs.Walk.{Text}
use Rattle.clap.specs.Simple.{matches_of}
use Rattle.cf_base.specs.Text.{path_text_of}
use Rattle.cf_base.specs.declared.timing.Rate.{Rate}
use Rattle.cf_base.specs.declared.timing.Rate.TheVariants.{R24, R25, R30}
use Rattle.frame_range.specs.declared.range.Extent.{Extent}
use Rattle.frame_range.specs.declared.range.Extent.TheVariants.{Whole, Part}
use Rattle.command_words.specs.Commands.{Gives, HasCounts, IsCount, IsFewDigits, IsNoCommand, IsPartWord, IsPath, IsRow, Spells, is_slash, rate_word}
use Rattle.command_words.specs.inside.Commands.{IsDigit}
use Rattle.frame_range.specs.Parts.{IsExtent}
use Rattle.std.specs.List.{after_first, before_first}
use Rattle.command_words.specs.Lines.{HasCount, LineText, MakesLine, simple_command}
use Rattle.command_words.specs.inside.Lines.{HasNoLine, text_of_line}
use Rattle.command_words.specs.declared.command.Command.{Command}
use Rattle.command_words.specs.declared.command.Command.TheVariants as commands
use Rattle.command_words.specs.declared.line.Line.{Line}
use Rattle.command_words.proofs.Lines.{number_counts, one_line, some_is}

pub to_digits : (ds : List ℕ) → All IsDigit ds → AllDigits 10 ds
to_digits [] h = tells_digits.empty
to_digits (d ∷ ds) h = tells_digits.more d ds (All-head IsDigit d ds h) (to_digits ds (All-tail IsDigit d ds h))

pub from_digits : (ds : List ℕ) → AllDigits 10 ds → All IsDigit ds
from_digits [] h = All-nil IsDigit
from_digits (d ∷ ds) h = let p = tells_digits.parts d ds h in All-cons IsDigit d ds p.0 (from_digits ds p.1)

-- a line that no row takes
pub none_given : (line : LineText)
    → ((path : List ℕ) → IsRow line (codes "frame") None → IsPath line.subject path → ⊥)
    → ((file : List ℕ) (rate : Rate) → Gives line (commands.List file rate) → ⊥)
    → ((path : List ℕ) → IsRow line (codes "plan") None → IsPath line.subject path → ⊥)
    → ((project : List ℕ) (workers share : ℕ) → Gives line (commands.Run project Whole workers share) → ⊥)
    → ((project : List ℕ) (part parts workers share : ℕ) → Gives line (commands.Run project (Part part parts) workers share) → ⊥)
    → ((path : List ℕ) → IsRow line (codes "status") None → IsPath line.subject path → ⊥)
    → ((path : List ℕ) → IsRow line (codes "verify") None → IsPath line.subject path → ⊥)
    → ((path : List ℕ) → IsRow line (codes "sums") None → IsPath line.subject path → ⊥)
    → ((path : List ℕ) → IsRow line (codes "qc") None → IsPath line.subject path → ⊥)
    → ((path : List ℕ) → IsRow line (codes "sheet") None → IsPath line.subject path → ⊥)
    → ((project old : List ℕ) → Gives line (commands.Adopt project old) → ⊥)
    → ((project : List ℕ) (margin : ℕ) → Gives line (commands.Pull project margin) → ⊥)
    → ((count : ℕ) → IsRow line (codes "demo") None → IsCount line.subject count → ⊥)
    → (command : Command) → Gives line command → ⊥
none_given line frame list plan run piece status verify sums qc sheet adopt pull demo (commands.Frame path) h = frame path h.0 h.1
none_given line frame list plan run piece status verify sums qc sheet adopt pull demo (commands.List file rate) h = list file rate h
none_given line frame list plan run piece status verify sums qc sheet adopt pull demo (commands.Plan project) h = plan project h.0 h.1
none_given line frame list plan run piece status verify sums qc sheet adopt pull demo (commands.Run project Whole workers share) h = run project workers share h
none_given line frame list plan run piece status verify sums qc sheet adopt pull demo (commands.Run project (Part part parts) workers share) h = piece project part parts workers share h
none_given line frame list plan run piece status verify sums qc sheet adopt pull demo (commands.Status project) h = status project h.0 h.1
none_given line frame list plan run piece status verify sums qc sheet adopt pull demo (commands.Verify project) h = verify project h.0 h.1
none_given line frame list plan run piece status verify sums qc sheet adopt pull demo (commands.Sums project) h = sums project h.0 h.1
none_given line frame list plan run piece status verify sums qc sheet adopt pull demo (commands.Qc project) h = qc project h.0 h.1
none_given line frame list plan run piece status verify sums qc sheet adopt pull demo (commands.Sheet project) h = sheet project h.0 h.1
none_given line frame list plan run piece status verify sums qc sheet adopt pull demo (commands.Adopt project old) h = adopt project old h
none_given line frame list plan run piece status verify sums qc sheet adopt pull demo (commands.Pull project margin) h = pull project margin h
none_given line frame list plan run piece status verify sums qc sheet adopt pull demo (commands.Demo count) h = demo count h.0 h.1

pub one_found : (words : List Text) (found : Option Line) (line : Line) → found ≡ Some line
    → MatchOption found (HasNoLine words) (λ l. MakesLine words (text_of_line l)) → MakesLine words (text_of_line line)
one_found words found line is h = subst (λ o. MatchOption o (HasNoLine words) (λ l. MakesLine words (text_of_line l))) is h

pub spelled : (words : List Text) (line : LineText) (r : Option Command) → MakesLine words line
    → MatchOption r ((command : Command) → Gives line command → ⊥) (λ command. Gives line command)
    → MatchOption r (IsNoCommand words) (λ command. Spells words command)
spelled words line (Some command) makes gives = (line, makes, gives)
spelled words line None makes none =
    λ command spells. none command (subst (λ l. Gives l command) (one_line (matches_of simple_command words) spells.0 line spells.1.1 makes.1) spells.2)

-- ---- a line gives one command at most: that which its words name

-- the text of a row with no extra word and no option
abbrev alone : LineText → Option Text
alone line = if is_none line.extra && not line.has_options then Some line.subject else None

abbrev rate_named : Text → Option Rate
rate_named word =
    if bytes_eq word (codes "24") then Some R24
    else if bytes_eq word (codes "25") then Some R25
    else if bytes_eq word (codes "30") then Some R30 else None

abbrev list_named : Option Rate → Option (List ℕ) → Option Command
list_named (Some rate) (Some file) = Some (commands.List file rate)
list_named rate file = None

abbrev run_named : LineText → Option Extent → Option (List ℕ) → Option Command
run_named line (Some extent) (Some project) = Some (commands.Run project extent line.workers line.share)
run_named line extent project = None

abbrev extent_named : Text → Extent
extent_named word = Part (digits_value 10 (before_first is_slash word)) (digits_value 10 (after_first is_slash word))

abbrev pull_named : Option ℕ → Option (List ℕ) → Option Command
pull_named (Some margin) (Some project) = Some (commands.Pull project margin)
pull_named margin project = None

abbrev adopt_named : Option (List ℕ) → Option (List ℕ) → Option Command
adopt_named (Some old) (Some project) = Some (commands.Adopt project old)
adopt_named old project = None

abbrev path_named : (List ℕ → Command) → LineText → Option Command
path_named make line = option_map make (option_and_then path_text_of (alone line))

abbrev pub named : LineText → Option Command
named line =
    if bytes_eq line.command (codes "frame") then path_named (λ p. commands.Frame p) line
    else if bytes_eq line.command (codes "list") then list_named (option_and_then rate_named line.extra) (path_text_of line.subject)
    else if bytes_eq line.command (codes "plan") then path_named (λ p. commands.Plan p) line
    else if bytes_eq line.command (codes "run") then run_named line (Some Whole) (path_text_of line.subject)
    else if bytes_eq line.command (codes "part") then run_named line (option_map extent_named line.extra) (path_text_of line.subject)
    else if bytes_eq line.command (codes "status") then path_named (λ p. commands.Status p) line
    else if bytes_eq line.command (codes "verify") then path_named (λ p. commands.Verify p) line
    else if bytes_eq line.command (codes "sums") then path_named (λ p. commands.Sums p) line
    else if bytes_eq line.command (codes "qc") then path_named (λ p. commands.Qc p) line
    else if bytes_eq line.command (codes "sheet") then path_named (λ p. commands.Sheet p) line
    else if bytes_eq line.command (codes "adopt") then adopt_named (option_and_then path_text_of line.extra) (path_text_of line.subject)
    else if bytes_eq line.command (codes "pull") then pull_named (option_map (digits_value 10) line.extra) (path_text_of line.subject)
    else if bytes_eq line.command (codes "demo") then option_map (λ s. commands.Demo (digits_value 10 s)) (alone line)
    else None

rate_is : (rate : Rate) → rate_named (rate_word rate) ≡ Some rate
rate_is R24 = refl
rate_is R25 = refl
rate_is R30 = refl

margin_named : (further : Option Text) (margin : ℕ) → IsSomeAnd further (λ word. IsFewDigits word margin) → option_map (digits_value 10) further ≡ Some margin
margin_named None margin h = absurd h
margin_named (Some word) margin h = ap Some (sym h.2)

old_named : (further : Option Text) (old : List ℕ) → IsSomeAnd further (λ word. IsPath word old) → option_and_then path_text_of further ≡ Some old
old_named None old h = absurd h
old_named (Some word) old h = h

part_named : (further : Option Text) (part parts : ℕ) → IsSomeAnd further (λ word. IsPartWord word part parts) → option_map extent_named further ≡ Some (Part part parts)
part_named None part parts h = absurd h
part_named (Some word) part parts h = rw (h.1.2, h.2.2) refl

part_counts : (further : Option Text) (part parts : ℕ) → IsSomeAnd further (λ word. IsPartWord word part parts) → IsExtent (Part part parts)
part_counts None part parts h = absurd h
part_counts (Some word) part parts h = h.3

margin_small : (further : Option Text) (margin : ℕ) → IsSomeAnd further (λ word. IsFewDigits word margin) → margin ≤ 1000
margin_small None margin h = absurd h
margin_small (Some word) margin h = h.3

pub given_is_named : (line : LineText) (command : Command) → Gives line command → named line ≡ Some command
given_is_named line (commands.Frame path) h = rw (h.0.command, h.0.extra, h.0.options, h.1) refl
given_is_named line (commands.List file rate) h = rw (h.0.command, h.0.extra, rate_is rate, h.1) refl
given_is_named line (commands.Plan project) h = rw (h.0.command, h.0.extra, h.0.options, h.1) refl
given_is_named line (commands.Run project Whole workers share) h = rw (h.0.command, h.1, h.2, h.3) refl
given_is_named line (commands.Run project (Part part parts) workers share) h = rw (h.0.command, part_named line.extra part parts h.0.extra, h.1, h.2, h.3) refl
given_is_named line (commands.Status project) h = rw (h.0.command, h.0.extra, h.0.options, h.1) refl
given_is_named line (commands.Verify project) h = rw (h.0.command, h.0.extra, h.0.options, h.1) refl
given_is_named line (commands.Sums project) h = rw (h.0.command, h.0.extra, h.0.options, h.1) refl
given_is_named line (commands.Qc project) h = rw (h.0.command, h.0.extra, h.0.options, h.1) refl
given_is_named line (commands.Sheet project) h = rw (h.0.command, h.0.extra, h.0.options, h.1) refl
given_is_named line (commands.Adopt project old) h = rw (h.0.command, old_named line.extra old h.0.extra, h.1) refl
given_is_named line (commands.Pull project margin) h = rw (h.0.command, margin_named line.extra margin h.0.extra, h.1) refl
given_is_named line (commands.Demo count) h = rw (h.0.command, h.0.extra, h.0.options, h.1.0.2) refl

pub one_given : (line : LineText) (a b : Command) → Gives line a → Gives line b → a ≡ b
one_given line a b x y = some_is a b (sym (given_is_named line a x) ∙ given_is_named line b y)

pub one_spelled : (words : List Text) (a b : Command) → Spells words a → Spells words b → a ≡ b
one_spelled words a b x y =
    one_given y.0 a b (subst (λ l. Gives l a) (one_line (matches_of simple_command words) x.0 y.0 x.1.1 y.1.1) x.2) y.2

-- ---- the numbers of a command

pub counts_spelled : (words : List Text) (command : Command) → Spells words command → HasCounts command
counts_spelled words (commands.Frame path) h = tt
counts_spelled words (commands.List file rate) h = tt
counts_spelled words (commands.Plan project) h = tt
counts_spelled words (commands.Run project Whole workers share) h =
    (tt, subst HasCount (sym h.2.2) (number_counts _ _ h.1.1.workers), subst HasCount (sym h.2.3) (number_counts _ _ h.1.1.share))
counts_spelled words (commands.Run project (Part part parts) workers share) h =
    (part_counts _ part parts h.2.0.extra, subst HasCount (sym h.2.2) (number_counts _ _ h.1.1.workers), subst HasCount (sym h.2.3) (number_counts _ _ h.1.1.share))
counts_spelled words (commands.Status project) h = tt
counts_spelled words (commands.Verify project) h = tt
counts_spelled words (commands.Sums project) h = tt
counts_spelled words (commands.Qc project) h = tt
counts_spelled words (commands.Sheet project) h = tt
counts_spelled words (commands.Adopt project old) h = tt
counts_spelled words (commands.Pull project margin) h = margin_small _ margin h.2.0.extra
counts_spelled words (commands.Demo count) h = (h.2.1.1, h.2.1.0.3)

pub all_counted : (words : List Text) (r : Option Command) → MatchOption r (IsNoCommand words) (λ command. Spells words command) → IfSome r HasCounts
all_counted words (Some command) h = counts_spelled words command h
all_counted words None h = tt
