-- What each command means: one row for each, whose record stands in the file of its name.
-- * commands: the table of these records, one row for each command; each record has a file of its own
--     meaning_of command      its record
pub mod Adopt
pub mod Demo
pub mod Frame
pub mod List
pub mod Plan
pub mod Pull
pub mod Qc
pub mod Run
pub mod Sheet
pub mod Status
pub mod Sums
pub mod Verify
use Rattle.command_words.specs.declared.command.Command.{Command}
use Rattle.command_words.specs.declared.command.Command.TheVariants as commands
use Rattle.command_answers.specs.Meaning.{Meaning}
use Rattle.command_answers.specs.Commands.Adopt.{adopt_meaning}
use Rattle.command_answers.specs.Commands.Demo.{demo_meaning}
use Rattle.command_answers.specs.Commands.Frame.{frame_meaning}
use Rattle.command_answers.specs.Commands.List.{list_meaning}
use Rattle.command_answers.specs.Commands.Plan.{plan_meaning}
use Rattle.command_answers.specs.Commands.Pull.{pull_meaning}
use Rattle.command_answers.specs.Commands.Qc.{qc_meaning}
use Rattle.command_answers.specs.Commands.Run.{run_meaning}
use Rattle.command_answers.specs.Commands.Sheet.{sheet_meaning}
use Rattle.command_answers.specs.Commands.Status.{status_meaning}
use Rattle.command_answers.specs.Commands.Sums.{sums_meaning}
use Rattle.command_answers.specs.Commands.Verify.{verify_meaning}

abbrev pub meaning_of : Command → Meaning
meaning_of (commands.Frame path) = frame_meaning path
meaning_of (commands.List path rate) = list_meaning path rate
meaning_of (commands.Plan path) = plan_meaning path
meaning_of (commands.Run path extent workers share) = run_meaning path extent share
meaning_of (commands.Status path) = status_meaning path
meaning_of (commands.Verify path) = verify_meaning path
meaning_of (commands.Sums path) = sums_meaning path
meaning_of (commands.Qc path) = qc_meaning path
meaning_of (commands.Sheet path) = sheet_meaning path
meaning_of (commands.Adopt path old_path) = adopt_meaning path old_path
meaning_of (commands.Pull path margin) = pull_meaning path margin
meaning_of (commands.Demo count) = demo_meaning count
