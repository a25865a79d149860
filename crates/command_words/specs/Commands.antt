-- The commands, and the words that spell them: this project's own rule.
-- * command [Laws]: the row of the table of commands that the line is: options on `run` alone, a third word on `list` and `pull`
--   alone, a path that is one, a rate, a number of one to four digits up to 1000, which for `demo` isn't 0. Laws: words spell
--   one command at most, and its numbers are in their ranges
--     Gives line command      the line is a row of the table, which says this command
--     Spells words command, IsNoCommand words      the words spell this command, or none
--     HasCounts command      its numbers are in their ranges
use Rattle.std.specs.Prelude.{◌≡◌, ◌≢◌, ◌≤◌, ◌<◌, ◌==◌, ℕ, Bool, false, List, Option, Some, None, IsSomeAnd, codes, length, slice_get}
use Rattle.std.specs.List.{after_first, before_first, position_or_len}
use Rattle.std.specs.Str.Parse.{IsNumeral, digits_value}
use Rattle.clap.specs.Walk.{Text}
use Rattle.cf_base.specs.Text.{path_text_of}
use Rattle.cf_base.specs.declared.timing.Rate.{Rate}
use Rattle.cf_base.specs.declared.timing.Rate.TheVariants.{R24, R25, R30}
use Rattle.frame_range.specs.Parts.{IsExtent}
use Rattle.frame_range.specs.declared.range.Extent.{Extent}
use Rattle.frame_range.specs.declared.range.Extent.TheVariants.{Whole, Part}
use Rattle.command_words.specs.Lines.{HasCount, LineText, MakesLine}
use Rattle.command_words.specs.declared.command.Command.{Command}
use Rattle.command_words.specs.declared.command.Command.TheVariants as commands

abbrev pub rate_word : Rate → Text
rate_word R24 = codes "24"
rate_word R25 = codes "25"
rate_word R30 = codes "30"

abbrev pub IsPath : Text → List ℕ → Type 0
IsPath text path = path_text_of text ≡ Some path

abbrev pub HasDemoCount : ℕ → Type 0
HasDemoCount count = (1 ≤ count) × (count ≤ 1000)

-- one to four digits, of a number up to 1000
abbrev pub IsFewDigits : Text → ℕ → Type 0
IsFewDigits text number = IsNumeral 10 text × (length text ≤ 4) × (number ≡ digits_value 10 text) × (number ≤ 1000)

-- the same, and not 0
abbrev pub IsCount : Text → ℕ → Type 0
IsCount text count = IsFewDigits text count × (1 ≤ count)

-- one to three digits, of which the first is not 0
abbrev pub IsPartNumber : Text → ℕ → Type 0
IsPartNumber text number = IsNumeral 10 text × (length text ≤ 3) × (number ≡ digits_value 10 text) × (number ≤ 999)
    × (slice_get text 0 ≢ Some 48)

abbrev pub is_slash : ℕ → Bool
is_slash byte = byte == 47

-- the number of a part before the first slash, that of all parts behind it
abbrev pub IsPartWord : Text → (part parts : ℕ) → Type 0
IsPartWord word part parts = (position_or_len is_slash word < length word) × IsPartNumber (before_first is_slash word) part
    × IsPartNumber (after_first is_slash word) parts × IsExtent (Part part parts)

-- the line is this word, a subject, and this further word or none, with no option
pub record IsRow (line : LineText) (word : Text) (further : Option Text) : Type 0 where
  pub command : line.command ≡ word
  pub extra : line.extra ≡ further
  pub options : line.has_options ≡ false

-- the line is `run` and a subject, with or without options
pub record IsRun (line : LineText) : Type 0 where
  pub command : line.command ≡ codes "run"
  pub extra : line.extra ≡ None

-- the line is `part`, a subject and a further word, the part, with or without options
pub record IsPart (line : LineText) (part parts : ℕ) : Type 0 where
  pub command : line.command ≡ codes "part"
  pub extra : IsSomeAnd line.extra (λ word. IsPartWord word part parts)

abbrev pub IsRunOf : LineText → Extent → Type 0
IsRunOf line Whole = IsRun line
IsRunOf line (Part part parts) = IsPart line part parts

-- the line is `adopt`, a subject and a further word, the path of the old project, with no option
pub record IsAdopt (line : LineText) (old : List ℕ) : Type 0 where
  pub command : line.command ≡ codes "adopt"
  pub extra : IsSomeAnd line.extra (λ word. IsPath word old)
  pub options : line.has_options ≡ false

-- the line is `pull`, a subject and a further word, with no option
pub record IsPull (line : LineText) (margin : ℕ) : Type 0 where
  pub command : line.command ≡ codes "pull"
  pub extra : IsSomeAnd line.extra (λ word. IsFewDigits word margin)
  pub options : line.has_options ≡ false

abbrev pub Gives : LineText → Command → Type 0
Gives line (commands.Frame path) = IsRow line (codes "frame") None × IsPath line.subject path
Gives line (commands.List file rate) = IsRow line (codes "list") (Some (rate_word rate)) × IsPath line.subject file
Gives line (commands.Plan project) = IsRow line (codes "plan") None × IsPath line.subject project
Gives line (commands.Run project extent workers share) = IsRunOf line extent × IsPath line.subject project
    × (workers ≡ line.workers) × (share ≡ line.share)
Gives line (commands.Status project) = IsRow line (codes "status") None × IsPath line.subject project
Gives line (commands.Verify project) = IsRow line (codes "verify") None × IsPath line.subject project
Gives line (commands.Sums project) = IsRow line (codes "sums") None × IsPath line.subject project
Gives line (commands.Qc project) = IsRow line (codes "qc") None × IsPath line.subject project
Gives line (commands.Sheet project) = IsRow line (codes "sheet") None × IsPath line.subject project
Gives line (commands.Adopt project old) = IsAdopt line old × IsPath line.subject project
Gives line (commands.Pull project margin) = IsPull line margin × IsPath line.subject project
Gives line (commands.Demo count) = IsRow line (codes "demo") None × IsCount line.subject count

abbrev pub Spells : List Text → Command → Type 0
Spells words command = (line : LineText) × MakesLine words line × Gives line command

abbrev pub IsNoCommand : List Text → Type 0
IsNoCommand words = (command : Command) → Spells words command → ⊥

abbrev pub HasCounts : Command → Type 0
HasCounts (commands.Run project extent workers share) = IsExtent extent × HasCount workers × HasCount share
HasCounts (commands.Pull project margin) = margin ≤ 1000
HasCounts (commands.Demo count) = HasDemoCount count
HasCounts command = Unit {0}

-- The rest is said of one row of the table: what the line gives by it, or that it gives nothing.
