-- Completeness: where nothing stands in the way of a command and no call on what was handed in fails, it is done, or memory
-- ran out.
-- * completeness: when nothing stands in the way of a command and what it comes to then, which its record has; that no count of
--   faults rose; and what is left where scan or disk don't tell
--     IsAccepted command world folders      nothing stands in its way
--     HasNotRisen before after      no call failed, by this count
--     IsComplete command outcome      it was done, or memory ran out
--     IsUnfailed command outcome      what is left of it where scan or disk don't tell
use Rattle.std.specs.Prelude.{ℕ}
use Rattle.cf_base.specs.Count.{HasRisen}
use Rattle.scan_source.specs.World.{World}
use Rattle.command_words.specs.declared.command.Command.{Command}
use Rattle.outcome.specs.declared.Outcome.{Outcome}
use Rattle.outcome.specs.declared.Outcome.TheVariants.{SourceFault, DiskFault}
use Rattle.command_answers.specs.Commands.{meaning_of}
use Rattle.command_answers.specs.Reply.{IsKindOf}
use Rattle.command_answers.specs.States.{Folders}

abbrev pub IsAccepted : Command → World → Folders → Type 0
IsAccepted command = (meaning_of command).IsAccepted

-- no fault was counted
abbrev pub HasNotRisen : ℕ → ℕ → Type 0
HasNotRisen before after = HasRisen before after → ⊥

abbrev pub IsComplete : Command → Outcome → Type 0
IsComplete command = (meaning_of command).IsComplete

-- The outcomes of a command of which no call failed, also where scan or disk don't tell. Besides these two there are refusals,
-- a folder's state for a command that makes calls on it, for `run` and `adopt` a source file that changed, and for `verify` a
-- damaged frame.
abbrev pub IsUnfailed : Command → Outcome → Type 0
IsUnfailed command SourceFault = ⊥
IsUnfailed command DiskFault = ⊥
IsUnfailed command other = IsKindOf command other
