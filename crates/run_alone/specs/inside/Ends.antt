-- How a run may end: words of private clauses.
use Rattle.std.specs.Prelude.{Option}
use Rattle.scan_source.specs.World.{World}
use Rattle.conform_job.specs.Job.{JobData}
use Rattle.frame_fetch.specs.Ends.{IsChanged}
use Rattle.frame_fetch.specs.declared.run_end.RunEnd.{RunEnd}
use Rattle.frame_fetch.specs.declared.run_end.RunEnd.TheVariants.{Done, OtherJob, BadLedger, Changed, SourceFault, DiskFault, NoMemory}

-- an end while a frame is made
abbrev pub IsStop : JobData → Option World → RunEnd → Type 0
IsStop job told Done = ⊥
IsStop job told (OtherJob kept wanted) = ⊥
IsStop job told (BadLedger len) = ⊥
IsStop job told (Changed key was now) = IsChanged job told key was now
IsStop job told SourceFault = Unit {0}
IsStop job told DiskFault = Unit {0}
IsStop job told NoMemory = Unit {0}
