-- A scan over files in memory as contracts see it, and what it answers to its next call.
-- * memory: a scan in memory: its files and its plan, and what its next call answers
use Rattle.std.specs.Prelude.{◌≡◌, ◌↔◌, ℕ, List, map, Contains, Vec}
use Rattle.std.specs.declared.alloc.Global.{Global}
use Rattle.scan_source.specs.declared.memory.MemoryScans.{MemoryScans}
use Rattle.scan_source.specs.declared.scans.Loaded.{Loaded}
use Rattle.scan_source.specs.declared.scans.Loaded.TheVariants as loaded
use Rattle.scan_source.specs.declared.scans.Head.{Head}
use Rattle.scan_source.specs.declared.scans.Head.TheVariants as head
use Rattle.scan_source.specs.Answers.{IsLoaded, IsHead}
use Rattle.scan_source.specs.Plan.{Plan, one_more}
use Rattle.scan_source.specs.World.{World, world_of, file_at}

-- its files, and which of its calls fail
pub record Memory : Type 0 where
  pub files : World
  pub plan : Plan

-- the files that it has by their paths
abbrev pub world_in : List (List ℕ × Vec ℕ Global) → World
world_in files = world_of (map (λ f. (f.0, f.1.items)) files)

abbrev pub memory_of : MemoryScans → Memory
memory_of scan = record {
  files = world_in scan.files.items;
  plan = record { calls = scan.calls; fails = scan.fails.items };
}

-- the next call fails by its number
abbrev pub FailsNext : Memory → Type 0
FailsNext memory = Contains memory.plan.fails (one_more memory.plan.calls)

-- a load tells the file at the path, and fails exactly where the call does by its number
pub record HasLoaded (memory : Memory) (path : List ℕ) (most : ℕ) (answer : Loaded) (into : List ℕ) : Type 0 where
  pub told : IsLoaded answer (file_at memory.files path) most into
  pub fails : (answer ≡ loaded.Failed) ↔ FailsNext memory

-- the same of a look at a head
pub record HasLooked (memory : Memory) (path : List ℕ) (answer : Head) (into : List ℕ) : Type 0 where
  pub told : IsHead answer (file_at memory.files path) into
  pub fails : (answer ≡ head.Failed) ↔ FailsNext memory

-- after a call it has counted one more, and all else stays
abbrev pub one_call : Memory → Memory
one_call memory = record memory { plan = record memory.plan { calls = one_more memory.plan.calls } }
