-- What stands on a command line, as `clap` states it of one simple command: words of private clauses.
use Rattle.std.specs.Prelude.{◌<◌, ◌^◌, ℕ, List, Option, Some, None, IsSomeAnd, MatchOption, option_map}
use Rattle.clap.specs.Walk.{Row, Text}
use Rattle.command_words.specs.declared.line.Line.{Line}
use Rattle.command_words.specs.Lines.{IsLine, IsNumber, LineText, MakesLine, Writes}

-- the number below 65,536 that a text writes, None exactly where it writes none
abbrev pub ReadsNumeral : Option Text → Option ℕ → Type 0
ReadsNumeral text (Some n) = IsSomeAnd text (Writes n)
ReadsNumeral text None = (n : ℕ) → n < 2 ^ 16 → IsSomeAnd text (Writes n) → ⊥

-- the same of a number from 1 to 16
abbrev pub ReadsNumber : Option Text → Option ℕ → Type 0
ReadsNumber text found = MatchOption found ((n : ℕ) → IsSomeAnd text (IsNumber n) → ⊥) (λ n. IsSomeAnd text (IsNumber n))

abbrev pub text_of_line : Line → LineText
text_of_line line = record {
  command = line.command.now;
  subject = line.subject.now;
  extra = option_map (λ word. word.now) line.extra;
  workers = line.workers;
  share = line.share;
  has_options = line.has_options;
}

abbrev pub HasNoLine : List Text → Type 0
HasNoLine words = (line : LineText) → MakesLine words line → ⊥

-- the line that was found, or that there is none: of the words, and of what `clap` found in them
abbrev pub FindsLine : List Text → Option Line → Type 0
FindsLine words found = MatchOption found (HasNoLine words) (λ line. MakesLine words (text_of_line line))

abbrev pub FindsLineIn : List Row → Option Line → Type 0
FindsLineIn rows found = MatchOption found ((line : LineText) → IsLine rows line → ⊥) (λ line. IsLine rows (text_of_line line))
