-- The commands, and the words that spell them: words of private clauses.
use Rattle.std.specs.Prelude.{◌≡◌, ◌≤◌, ◌<◌, ℕ, List, Option, None, MatchOption, length}
use Rattle.std.specs.List.{after_first, before_first, position_or_len}
use Rattle.std.specs.Borrow.{Bor}
use Rattle.clap.specs.Walk.{Text}
use Rattle.cf_base.specs.declared.timing.Rate.{Rate}
use Rattle.frame_range.specs.declared.range.Extent.{Extent}
use Rattle.frame_range.specs.declared.range.Extent.TheVariants.{Whole, Part}
use Rattle.command_words.specs.Lines.{LineText}
use Rattle.command_words.specs.declared.command.Command.{Command}
use Rattle.command_words.specs.declared.command.Command.TheVariants as commands
use Rattle.command_words.specs.Commands.{Gives, IsCount, IsPartWord, IsPath, IsRow, is_slash}

abbrev pub IsDigit : ℕ → Type 0
IsDigit byte = (48 ≤ byte) × (byte ≤ 57)

abbrev pub FindsList : LineText → Option Command → Type 0
FindsList line found = MatchOption found ((file : List ℕ) (rate : Rate) → Gives line (commands.List file rate) → ⊥) (Gives line)

abbrev pub FindsRun : LineText → Option Command → Type 0
FindsRun line found =
    MatchOption found ((project : List ℕ) (workers share : ℕ) → Gives line (commands.Run project Whole workers share) → ⊥) (Gives line)

abbrev pub FindsPart : LineText → Option Command → Type 0
FindsPart line found = MatchOption found
    ((project : List ℕ) (part parts workers share : ℕ) → Gives line (commands.Run project (Part part parts) workers share) → ⊥)
    (Gives line)

-- the part that a word writes, or that it writes none
abbrev pub IsExtentWord : Text → Extent → Type 0
IsExtentWord word Whole = ⊥
IsExtentWord word (Part part parts) = IsPartWord word part parts

abbrev pub FindsExtent : Text → Option Extent → Type 0
FindsExtent word found = MatchOption found ((part parts : ℕ) → IsPartWord word part parts → ⊥) (IsExtentWord word)

-- what stands on both sides of the first slash, or that there is none
abbrev pub SplitsAtSlash : Text → Option (Bor Text × Bor Text) → Type 0
SplitsAtSlash text found = MatchOption found (position_or_len is_slash text ≡ length text)
    (λ halves. (position_or_len is_slash text < length text) × (halves.0.now ≡ before_first is_slash text)
    × (halves.1.now ≡ after_first is_slash text))

abbrev pub FindsAdopt : LineText → Option Command → Type 0
FindsAdopt line found = MatchOption found ((project old : List ℕ) → Gives line (commands.Adopt project old) → ⊥) (Gives line)

abbrev pub FindsPull : LineText → Option Command → Type 0
FindsPull line found = MatchOption found ((project : List ℕ) (margin : ℕ) → Gives line (commands.Pull project margin) → ⊥) (Gives line)

-- the subject of a line that is this word and a path, or a count
abbrev pub FindsPath : LineText → Text → Option (List ℕ) → Type 0
FindsPath line word found = MatchOption found
    ((path : List ℕ) → IsRow line word None → IsPath line.subject path → ⊥)
    (λ path. IsRow line word None × IsPath line.subject path)

abbrev pub FindsCount : LineText → Text → Option ℕ → Type 0
FindsCount line word found = MatchOption found
    ((count : ℕ) → IsRow line word None → IsCount line.subject count → ⊥)
    (λ count. IsRow line word None × IsCount line.subject count)
