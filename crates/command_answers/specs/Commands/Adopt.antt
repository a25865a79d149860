-- The command `adopt PROJECT OLD`: it takes over frames of an old project's reel, and renders the rest of a project's reel.
use Rattle.std.specs.Prelude.{◌⊎◌, true, ℕ, List}
use Rattle.cf_base.specs.Count.{HasRisen}
use Rattle.project_adopt.specs.Adopt.{IsAdoptReply}
use Rattle.project_adopt.specs.Heads.{AreHeadsOfBoth}
use Rattle.command_answers.specs.ByFolder.{HasFitFolder, HasSoundFolder}
use Rattle.command_answers.specs.Meaning.{HasReelFailed, IsThrough, Meaning, reel_calls}
use Rattle.command_answers.specs.States.{Folders}

-- a call on one of the two folders failed
abbrev pub HasEitherFailed : Folders → Folders → Type 0
HasEitherFailed folders folders_after = HasRisen folders.old.faults folders_after.old.faults ⊎ HasReelFailed folders folders_after

abbrev pub adopt_meaning : (path old_path : List ℕ) → Meaning
adopt_meaning path old_path = record {
  -- It is right by the folders: `UsesDisk` says how, and what was loaded.
  IsRight = λ reached output before after. Unit {0};
  HasLoaded = λ before after reached. Unit {0};
  LooksAtHeads = λ before after. AreHeadsOfBoth before.world path old_path before.heads after.heads;
  calls = record reel_calls { on_old = true; loads_frames = true };
  UsesDisk = λ house before after folders folders_after reached output.
      IsAdoptReply path old_path before.world before.loads after.loads folders.old folders_after.old
      folders.reel folders_after.reel reached output;
  HasFailedDisk = HasEitherFailed;
  IsAccepted = λ world folders. HasFitFolder world path folders.reel × HasSoundFolder world old_path folders.old;
  IsComplete = IsThrough;
}
