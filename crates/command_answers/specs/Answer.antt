-- What the top call answers and puts.
-- * answer: a reply, or the line of usage or of want of memory before anything was read, put on the sink; after a sink's fault a
--   prefix of it, and its status; words of no command that makes calls of a kind
--     IsUnread      an outcome that was reached before anything was read
--     IsUncalled Calls words      the words spell no command that makes such calls
--     Answered      the answer to these words, over one scan and the two folders, in this house
use Rattle.std.specs.Prelude.{◌≡◌, ◌⊎◌, ℕ, List, Option, MatchOption, Result, MatchResult, Vec}
use Rattle.std.specs.declared.alloc.Global.{Global}
use Rattle.std.specs.Io.KnownBytes.{Appends}
use Rattle.cf_base.specs.Count.{HasRisen}
use Rattle.cf_base.specs.Sink.{AppendsPrefix, SinkState}
use Rattle.scan_source.specs.State.{ScanState}
use Rattle.command_words.specs.Commands.{Spells, IsNoCommand}
use Rattle.outcome.specs.Status.{status_of}
use Rattle.printed_lines.specs.Lines.{line_of, IsMade}
use Rattle.command_answers.specs.Reply.{IsReplyOverFolders}
use Rattle.command_answers.specs.States.{Folders, House}
use Rattle.command_words.specs.declared.command.Command.{Command}
use Rattle.outcome.specs.declared.Outcome.{Outcome}
use Rattle.outcome.specs.declared.Outcome.TheVariants.{Done, Usage, SinkFault, NoMemory}

-- The output of the outcome that was reached stands behind what the sink had, and the outcome is answered. Or the sink failed,
-- a prefix of the output stands there, and the answer keeps the outcome's status.
abbrev pub IsPut : SinkState → SinkState → Outcome → List ℕ → Outcome → Type 0
IsPut before after reached output result =
    ((result ≡ reached) × Appends before.written after.written output × (after.faults ≡ before.faults))
    ⊎ ((result ≡ SinkFault (status_of reached)) × AppendsPrefix before.written after.written output × HasRisen before.faults after.faults)

-- The line of an outcome is put. One whose line is made and finds no memory becomes NoMemory.
abbrev pub IsLinePut : SinkState → SinkState → Outcome → Outcome → Type 0
IsLinePut before after outcome result =
    IsPut before after outcome (line_of outcome) result ⊎ (IsMade outcome × IsPut before after NoMemory (line_of NoMemory) result)

-- The output that a command came to is put, or the line of its outcome.
abbrev pub IsResultPut : SinkState → SinkState → Result (Vec ℕ Global) Outcome → Outcome → Type 0
IsResultPut before after reached result =
    MatchResult reached (λ output. IsPut before after Done output.items result) (λ outcome. IsLinePut before after outcome result)

-- This outcome was reached before anything was read, with its line.
pub record IsUnread (outcome : Outcome) (scan scan_after : ScanState) (folders folders_after : Folders)
    (reached : Outcome) (output : List ℕ) : Type 0 where
  pub reached_is : reached ≡ outcome
  pub line : output ≡ line_of outcome
  pub untouched_scan : scan_after ≡ scan
  pub untouched_folders : folders_after ≡ folders

-- what the reading of the words found
abbrev pub IsFoundIn : List (List ℕ) → Option Command → Type 0
IsFoundIn words found = MatchOption found (IsNoCommand words) (λ command. Spells words command)

-- the words spell no command that makes calls of this kind
abbrev pub IsUncalled : (Command → Type 0) → List (List ℕ) → Type 0
IsUncalled Calls words = (command : Command) → Spells words command → Calls command → ⊥

-- Some outcome was reached, with its output, and was put.
pub record Answered (house : House) (words : List (List ℕ)) (scan scan_after : ScanState)
    (folders folders_after : Folders) (sink sink_after : SinkState) (result : Outcome) : Type 0 where
  pub reached : Outcome
  pub output : List ℕ
  pub put : IsPut sink sink_after reached output result
  -- words of no command: the usage line, or no memory was left to read them
  pub usage : reached ≡ Usage → IsNoCommand words
  pub no_command : IsNoCommand words → IsUnread Usage scan scan_after folders folders_after reached output
      ⊎ IsUnread NoMemory scan scan_after folders folders_after reached output
  -- words of a command: its reply, or no memory was left to read them
  pub reply : (command : Command) → Spells words command → IsReplyOverFolders house command scan scan_after
      folders folders_after reached output ⊎ IsUnread NoMemory scan scan_after folders folders_after reached output
