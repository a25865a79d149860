-- What a loader has, and what a call on it does.
-- * loader: what it may load, and what a call on it made of its scan, its counts and its units
--     CanLoad      what a loader may load
--     HasLoadedFor      what a call on it did, whatever came of it
use Rattle.std.specs.Prelude.{ℕ, Option, Result}
use Rattle.scan_source.specs.State.{ScanState}
use Rattle.scan_source.specs.World.{World}
use Rattle.conform_job.specs.Job.{JobData}
use Rattle.frame_fetch.specs.Scanned.{CanFetch, HasFetched}
use Rattle.frame_fetch.specs.declared.loader.Loader.{Loader}
use Rattle.frame_fetch.specs.declared.run_end.RunEnd.{RunEnd}

module _ {N L S : Type 0} (state : S → ScanState) where
  -- the job is the named one, the loader's scan tells the files of that name, and so many loads more can be counted
  abbrev pub CanLoad : JobData → Option World → JobData → ℕ → Loader N L S → Type 0
  CanLoad job files given most loader = CanFetch job files given (state loader.scan).world most loader.loads loader.units

  -- so many loads at most were made and counted
  abbrev pub HasLoadedFor : {A : Type 0} → ℕ → Result A RunEnd → Loader N L S → Loader N L S → Type 0
  HasLoadedFor most result old new =
      HasFetched most result old.loads new.loads old.units new.units (state old.scan) (state new.scan)
