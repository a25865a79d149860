-- The demonstration of a number of events: what it prints, by the files of its job alone. All of it is this project's own rule.
-- * `demo`: the frames of that job, and SHA-256 of the files of all its frames, one after another; or want of memory
--     demo_world events      the files of the job
--     reel_bytes job files      the files of a job's frames, one after another
--     demo_text frames acknowledged digest      what is printed
--     reel_digest job files, reel_text job files      the digest of a reel, and what is printed of a whole one
--     IsShown files text      the text tells of the whole reel of the project in these files
--     IsInstead outcome      what may come instead
use Rattle.std.specs.Prelude.{◌≡◌, ℕ, List, [], ◌∷◌, ◌++◌, codes, decimal, flat_map, Ok}
use Rattle.std.specs.List.{range_with_len}
use Rattle.hex.specs.Hex.{encode_lower}
use Rattle.sha2.specs.Sha256.{sha256}
use Rattle.printed_text.specs.Text.{spaced_line}
use Rattle.scan_source.specs.World.{World, world_of}
use Rattle.conform_job.specs.Job.{JobData}
use Rattle.conform_job.specs.Refusals.{Files}
use Rattle.frame_render.specs.Frame.{frame_file}
use Rattle.reel_writer.specs.Reel.{frames_of}
use Rattle.outcome.specs.declared.Outcome.{Outcome}
use Rattle.outcome.specs.declared.Outcome.TheVariants.{NoMemory}
use Rattle.project_job.specs.Jobs.{ComesTo}
use Rattle.demo.specs.Files.{project_path, demo_files}

unfoldable pub demo_world : ℕ → World
demo_world events = world_of (demo_files events)

-- the files of a job's frames, in record order
unfoldable pub reel_bytes : JobData → Files → List ℕ
reel_bytes job files = flat_map (frame_file job files) (range_with_len 0 (frames_of job))

-- and SHA-256 (FIPS 180-4) of these files
abbrev pub reel_digest : JobData → Files → List ℕ
reel_digest job files = sha256 (reel_bytes job files)

-- how many frames the reel has, how many of them are acknowledged, and a digest in hexadecimal digits
unfoldable pub demo_text : (frames acknowledged : ℕ) (digest : List ℕ) → List ℕ
demo_text frames acknowledged digest =
    spaced_line (codes "frames" ∷ decimal frames ∷ [])
    ++ spaced_line (codes "acknowledged" ∷ decimal acknowledged ∷ [])
    ++ spaced_line (codes "digest" ∷ encode_lower digest ∷ [])

-- what is printed of a reel whose frames are all acknowledged
abbrev pub reel_text : JobData → Files → List ℕ
reel_text job files = demo_text (frames_of job) (frames_of job) (reel_digest job files)

-- The project comes to a job. Each of its frames is acknowledged, and the digest is SHA-256 (FIPS 180-4) of its reel.
pub record IsShown (files : Files) (text : List ℕ) : Type 0 where
  pub job : JobData
  pub comes : ComesTo files project_path (Ok job.parts)
  pub printed : text ≡ reel_text job files

-- want of memory
abbrev pub IsInstead : Outcome → Type 0
IsInstead NoMemory = Unit {0}
IsInstead other = ⊥
