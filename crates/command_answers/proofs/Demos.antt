-- From the demonstration to the reply of its command, which leaves the scan and the disk as they are.
use Rattle.std.proofs.Common.{◌≡◌, ◌≢◌, ℕ, List, Vec, Global, MatchResult, refl, sym, subst, arith}
use Rattle.std.specs.Prelude.{Result, Ok, Err}
use Rattle.scan_source.proofs.Leaving.{leaves_still}
use Rattle.scan_source.specs.State.{ScanState}
use Rattle.scan_source.specs.World.{file_at}
use Rattle.demo.specs.Demo.{demo_world, IsShown, IsInstead}
use Rattle.printed_lines.specs.Lines.{line_of}
use Rattle.command_words.specs.declared.command.Command.{Command}
use Rattle.command_words.specs.declared.command.Command.TheVariants as commands
use Rattle.outcome.specs.declared.Outcome.{Outcome}
use Rattle.outcome.specs.declared.Outcome.TheVariants as outcomes
use Rattle.command_answers.specs.Commands.Demo.{IsDemoReply}
use Rattle.command_answers.specs.Reply.{IsKindOf, IsReplyOverScan, IsReplyOverFolders}
use Rattle.command_answers.specs.States.{Folders, House}
use Rattle.command_answers.proofs.Replies.{reply_of}

-- with no call on either, nothing failed
untouched : {house : House} (count : ℕ) (scan : ScanState) (folders : Folders) (reached : Outcome) (output : List ℕ)
    → IsReplyOverScan (commands.Demo count) scan scan reached output → (reached ≢ outcomes.DiskFault) → IsReplyOverFolders house (commands.Demo count) scan scan folders folders reached output
untouched count scan folders reached output reply works = record {
  reply = reply;
  folder = refl;
  disk_fault = λ same. absurd (works same);
  old_folder = λ _. refl;
  disk_steady = λ _. refl;
  old_steady = λ _. refl;
  disk_later = omega arith;
  old_later = omega arith;
}

shown : (count : ℕ) (scan : ScanState) (output : List ℕ) → IsShown (file_at (demo_world count)) output → IsReplyOverScan (commands.Demo count) scan scan outcomes.Done output
shown count scan output is =
    reply_of (commands.Demo count) scan scan outcomes.Done output tt is (λ not_done. absurd (not_done refl)) (leaves_still (λ same. cc)) refl refl

-- the outcomes in its place are those of a command that makes no call on the disk, and not the scan's
instead_replied : (count : ℕ) (outcome : Outcome) (output : List ℕ) → IsInstead outcome
    → IsKindOf (commands.Demo count) outcome × IsDemoReply count outcome output × (outcome ≢ outcomes.SourceFault) × (outcome ≢ outcomes.DiskFault)
instead_replied count outcomes.Done output is = absurd is
instead_replied count outcomes.Usage output is = absurd is
instead_replied count (outcomes.Refused refusal) output is = absurd is
instead_replied count (outcomes.OtherJob kept wanted) output is = absurd is
instead_replied count (outcomes.BadLedger len) output is = absurd is
instead_replied count (outcomes.OldRefused refusal) output is = absurd is
instead_replied count (outcomes.OldOtherJob kept wanted) output is = absurd is
instead_replied count (outcomes.OldBadLedger len) output is = absurd is
instead_replied count (outcomes.Damaged frame kept found) output is = absurd is
instead_replied count (outcomes.Changed reel key was now) output is = absurd is
instead_replied count outcomes.SourceFault output is = absurd is
instead_replied count outcomes.DiskFault output is = absurd is
instead_replied count (outcomes.SinkFault instead) output is = absurd is
instead_replied count outcomes.NoMemory output is = (tt, is, λ same. cc, λ same. cc)

instead : {house : House} (count : ℕ) (scan : ScanState) (folders : Folders) (outcome : Outcome) → IsInstead outcome
    → IsReplyOverFolders house (commands.Demo count) scan scan folders folders outcome (line_of outcome)
instead count scan folders outcome is =
    let replied = instead_replied count outcome (line_of outcome) is in
    untouched count scan folders outcome (line_of outcome)
    (reply_of (commands.Demo count) scan scan outcome (line_of outcome) replied.0 replied.1 (λ _. refl) (leaves_still replied.2) refl refl)
    replied.3

by_result : (house : House) (count : ℕ) (scan : ScanState) (folders : Folders) (result : Result (Vec ℕ Global) Outcome)
    → MatchResult result (λ text. IsShown (file_at (demo_world count)) text.items) IsInstead
    → MatchResult result (λ text. IsReplyOverFolders house (commands.Demo count) scan scan folders folders outcomes.Done text.items) (λ outcome. IsReplyOverFolders house (commands.Demo count) scan scan folders folders outcome (line_of outcome))
by_result house count scan folders (Ok text) is = untouched count scan folders outcomes.Done text.items (shown count scan text.items is) (λ same. cc)
by_result house count scan folders (Err outcome) is = instead count scan folders outcome is

pub demo_replied : (house : House) (command : Command) (count : ℕ) (scan : ScanState) (folders : Folders) (result : Result (Vec ℕ Global) Outcome) → command ≡ commands.Demo count
    → MatchResult result (λ text. IsShown (file_at (demo_world count)) text.items) IsInstead
    → MatchResult result (λ text. IsReplyOverFolders house command scan scan folders folders outcomes.Done text.items) (λ outcome. IsReplyOverFolders house command scan scan folders folders outcome (line_of outcome))
demo_replied house command count scan folders result same is =
    subst (λ c. MatchResult result (λ text. IsReplyOverFolders house c scan scan folders folders outcomes.Done text.items) (λ outcome. IsReplyOverFolders house c scan scan folders folders outcome (line_of outcome))) (sym same) (by_result house count scan folders result is)
