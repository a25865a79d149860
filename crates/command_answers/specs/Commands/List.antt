-- The command `list FILE RATE`: it reads an edit list, and puts its event table.
-- * `list`: the case of each outcome, and that the event table is put
use Rattle.std.specs.Prelude.{◌≡◌, ℕ, List, Option, None, Err, IsOk, IsOkAnd, IsSomeAnd}
use Rattle.cf_base.specs.declared.timing.Rate.{Rate}
use Rattle.scan_source.specs.World.{file_at}
use Rattle.edl_events.specs.Lists.{list_of}
use Rattle.printed_tables.specs.Table.{event_table}
use Rattle.outcome.specs.declared.Outcome.{Outcome}
use Rattle.outcome.specs.declared.Outcome.TheVariants.{Done, Refused as IsRefused, SourceFault, NoMemory}
use Rattle.outcome.specs.declared.Refused.TheVariants as refused
use Rattle.outcome.specs.declared.Which.TheVariants as which
use Rattle.project_job.specs.Load.{ByFile}
use Rattle.command_answers.specs.ByFile.{HasLoadedOne, IsRightBy, LooksAtNone}
use Rattle.command_answers.specs.Meaning.{HasReelFailed, IsThrough, LeavesReel, Meaning, no_calls}

-- the table that is put for the list at the path
abbrev pub IsListForm : Rate → Option (List ℕ) → List ℕ → Type 0
IsListForm rate file output = IsSomeAnd file (λ text. IsOkAnd (list_of rate text) (λ events. output ≡ event_table rate events))

-- The case in which the command comes to an outcome, by the file at the path, if there is one. A fault of the scan and want
-- of memory may come in any.
abbrev pub IsListCase : Rate → Option (List ℕ) → Outcome → Type 0
IsListCase rate file Done = IsSomeAnd file (λ text. IsOk (list_of rate text))
IsListCase rate file (IsRefused (refused.NoFile which.List)) = file ≡ None
IsListCase rate file (IsRefused (refused.List refusal)) = IsSomeAnd file (λ text. list_of rate text ≡ Err refusal)
IsListCase rate file (IsRefused other) = ⊥
IsListCase rate file SourceFault = Unit {0}
IsListCase rate file NoMemory = Unit {0}
IsListCase rate file other = ⊥

abbrev pub list_meaning : List ℕ → Rate → Meaning
list_meaning path rate = record {
  IsRight = λ reached output before after.
      ByFile before.world path (λ file. IsRightBy (IsListCase rate file) (IsListForm rate file) reached output);
  HasLoaded = HasLoadedOne;
  LooksAtHeads = LooksAtNone;
  calls = no_calls;
  UsesDisk = LeavesReel;
  HasFailedDisk = HasReelFailed;
  IsAccepted = λ world folders. IsListCase rate (file_at world path) Done;
  IsComplete = IsThrough;
}
