-- What stands on a command line, as `clap` states it of one simple command.
-- * line of the words: the words as one simple command, by what `clap` states of it: two words that have to be there, a third,
--   and the options `--workers` and `--share` with numbers from 1 to 16, 4 and 8 where they aren't given
--     simple_command      the command: two words that have to be there, a third, and two options
--     LineText      the words of a line, each in its place
--     MakesLine words line, HasNoLine words      the words make this line, or none
use Rattle.std.specs.Prelude.{◌≡◌, ◌≤◌, ◌||◌, ℕ, Bool, true, false, List, [], ◌∷◌, Option, Some, IsSomeAnd, codes, find, map, option_and_then, pos}
use Rattle.std.specs.Borrow.{Bor}
use Rattle.std.specs.Str.{bytes_eq}
use Rattle.std.specs.Str.Parse.{IsNumeral, digits_value, without_leading_plus}
use Rattle.clap.specs.Faults.{fault_of}
use Rattle.clap.specs.Simple.{App, matches_of, new_app, new_rule, on_top, with_rule}
use Rattle.clap.specs.Walk.{Row, Rule, Text, first_of, one_of}
use Rattle.clap.specs.declared.builder.value_parser.ValueParser.TheVariants as parsers
use Rattle.clap.specs.declared.parser.matches.ValueSource.{ValueSource}
use Rattle.clap.specs.declared.parser.matches.ValueSource.TheVariants.{CommandLine}

-- a word that has to be there
abbrev pub required_rule : Text → Rule
required_rule name = record (new_rule name) { required = true }

-- `--name`, a number from 1 to 16
abbrev pub number_rule : Text → Text → Rule
number_rule name default = record (new_rule name) {
  long = Some name;
  parser = Some (parsers.Signed (pos 1) (pos 16));
  defaults = default ∷ [];
}

-- no name of the program before the words, no help and no version flag
abbrev pub bare_command : App
bare_command = on_top (λ s. record s {
  no_binary_name = true;
  disable_help_flag = true;
  disable_version_flag = true;
}) (new_app (codes "conform"))

-- the command without its options
abbrev pub positional_command : App
positional_command = with_rule (with_rule (with_rule bare_command
    (required_rule (codes "command")))
    (required_rule (codes "subject")))
    (new_rule (codes "extra"))

unfoldable pub simple_command : App
simple_command = with_rule (with_rule positional_command
    (number_rule (codes "workers") (codes "4")))
    (number_rule (codes "share") (codes "8"))

-- a count of workers or of shared frames
abbrev pub HasCount : ℕ → Type 0
HasCount count = (1 ≤ count) × (count ≤ 16)

-- the text writes the number, in decimal digits that a plus may precede
abbrev pub Writes : ℕ → Text → Type 0
Writes n text = IsNumeral 10 (without_leading_plus text)
    × (n ≡ digits_value 10 (without_leading_plus text))

abbrev pub IsNumber : ℕ → Text → Type 0
IsNumber n text = Writes n text × HasCount n

abbrev pub from_words : Option ValueSource → Bool
from_words (Some CommandLine) = true
from_words _ = false

abbrev pub source_of : Text → List Row → Option ValueSource
source_of id rows = option_and_then (λ r. r.source) (find (λ r. bytes_eq r.id id) rows)

-- the words name the option
abbrev pub stands : Text → List Row → Bool
stands id rows = from_words (source_of id rows)

pub record LineText : Type 0 where
  pub command : Text
  pub subject : Text
  pub extra : Option Text
  pub workers : ℕ
  pub share : ℕ
  -- one of the two options stands on the line
  pub has_options : Bool

-- the line has what was found
pub record IsLine (rows : List Row) (line : LineText) : Type 0 where
  pub command : first_of (codes "command") rows ≡ Some line.command
  pub subject : first_of (codes "subject") rows ≡ Some line.subject
  pub extra : first_of (codes "extra") rows ≡ line.extra
  pub workers : IsSomeAnd (one_of (codes "workers") rows) (IsNumber line.workers)
  pub share : IsSomeAnd (one_of (codes "share") rows) (IsNumber line.share)
  pub options : line.has_options ≡ (stands (codes "workers") rows || stands (codes "share") rows)

-- `clap` takes the words
abbrev pub MakesLine : List Text → LineText → Type 0
MakesLine words line = (fault_of simple_command words ≡ []) × IsLine (matches_of simple_command words) line

-- what the words of a line say
abbrev pub texts_of : List (Bor Text) → List Text
texts_of words = map (λ word. word.now) words
