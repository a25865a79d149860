-- The reel in the demonstration's folder, and what is told of it.
use Rattle.std.specs.Prelude.{◌≡◌, ℕ, List, Vec}
use Rattle.std.specs.declared.alloc.Global.{Global}
use Rattle.scan_source.specs.World.{World, file_at}
use Rattle.conform_job.specs.Job.{JobData}
use Rattle.reel_disk.specs.Disk.{moment_of}
use Rattle.reel_disk.specs.MemoryDisk.{history_in}
use Rattle.reel_disk.specs.declared.memory.MemoryDisk.{MemoryDisk}
use Rattle.reel_writer.specs.Reel.{frames_of}
use Rattle.run_alone.specs.Run.{IsWhole}
use Rattle.demo.specs.Demo.{reel_digest, reel_text}

-- the disk has the whole reel of the job over this world
abbrev pub IsWholeOn : MemoryDisk → JobData → World → Type 0
IsWholeOn disk job world = IsWhole job 0 (frames_of job) world (moment_of (history_in disk))

-- it is the digest of that reel, and the text of it
abbrev pub IsReelDigest : JobData → World → List ℕ → Type 0
IsReelDigest job world digest = digest ≡ reel_digest job (file_at world)

abbrev pub IsReelText : JobData → World → Vec ℕ Global → Type 0
IsReelText job world text = text.items ≡ reel_text job (file_at world)
