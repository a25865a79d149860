-- How a run ends where a frame could not be made: words of private clauses.
use Rattle.std.specs.Prelude.{◌≡◌, ℕ, List}
use Rattle.cf_base.specs.declared.key.Key.{Key}
use Rattle.dpx_header.specs.Frame.{need_of}
use Rattle.dpx_header.specs.declared.info.FrameInfo.{FrameInfo}
use Rattle.frame_fetch.specs.declared.run_end.RunEnd.{RunEnd}
use Rattle.frame_fetch.specs.declared.run_end.RunEnd.TheVariants.{Done, OtherJob, BadLedger, Changed, SourceFault, DiskFault, NoMemory}
use Rattle.frame_fetch.specs.Ends.{IsSeenBy}

-- the load of a source frame failed
abbrev pub IsFail : RunEnd → Type 0
IsFail Done = ⊥
IsFail (OtherJob kept wanted) = ⊥
IsFail (BadLedger len) = ⊥
IsFail (Changed key was now) = ⊥
IsFail SourceFault = Unit {0}
IsFail DiskFault = ⊥
IsFail NoMemory = Unit {0}

-- A changed file is this source frame's, which the job has so, and what it is now was seen in the bytes that were loaded.
abbrev pub HasSeen : Key → FrameInfo → List ℕ → RunEnd → Type 0
HasSeen key info into Done = Unit {0}
HasSeen key info into (OtherJob kept wanted) = Unit {0}
HasSeen key info into (BadLedger len) = Unit {0}
HasSeen key info into (Changed other was now) = (other ≡ key) × (was ≡ info) × IsSeenBy now (need_of info) into
HasSeen key info into SourceFault = Unit {0}
HasSeen key info into DiskFault = Unit {0}
HasSeen key info into NoMemory = Unit {0}
