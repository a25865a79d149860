-- The command `demo N`: it renders a job of N events that is made in memory.
use Rattle.std.specs.Prelude.{◌≡◌, ℕ, List}
use Rattle.scan_source.specs.World.{file_at}
use Rattle.demo.specs.Demo.{demo_world, IsShown, IsInstead}
use Rattle.outcome.specs.declared.Outcome.{Outcome}
use Rattle.outcome.specs.declared.Outcome.TheVariants.{Done}
use Rattle.command_answers.specs.ByFile.{LooksAtNone}
use Rattle.command_answers.specs.Meaning.{HasReelFailed, IsThrough, LeavesReel, Meaning, no_calls}

-- The demonstration of so many events, whose files are its own.
abbrev pub IsDemoReply : ℕ → Outcome → List ℕ → Type 0
IsDemoReply count Done output = IsShown (file_at (demo_world count)) output
IsDemoReply count other output = IsInstead other

-- Its inputs are its own, and no count's are refused.
abbrev pub demo_meaning : ℕ → Meaning
demo_meaning count = record {
  -- It is right by its count alone.
  IsRight = λ reached output before after. IsDemoReply count reached output;
  HasLoaded = λ before after reached. after.loads ≡ before.loads;
  LooksAtHeads = LooksAtNone;
  calls = no_calls;
  UsesDisk = LeavesReel;
  HasFailedDisk = HasReelFailed;
  IsAccepted = λ world folders. Unit {0};
  IsComplete = IsThrough;
}
