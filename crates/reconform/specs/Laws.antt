-- What a plan is good for.
-- * equal plans look alike: a law: frames of one plan in alike jobs with one look over the same files have equal bytes from 2048
--   on
--     EqualPlansLookAlike      frames of one plan in alike jobs with one look over one world have equal pixels
use Rattle.std.specs.Prelude.{◌≡◌, ℕ, ◌≤◌, List, length, drop}
use Rattle.cf_base.specs.declared.limits.TheConstants.{HEADER}
use Rattle.conform_job.specs.Job.{JobData}
use Rattle.conform_job.specs.Refusals.{Files}
use Rattle.frame_render.specs.Frame.{frame_file}
use Rattle.reconform.specs.Plan.{AreAlike, plan_at}

-- a job's title has at most 199 bytes
abbrev pub HasTitle : JobData → Type 0
HasTitle job = length job.parts.project.title ≤ 199

-- the bytes of a frame's file from 2048 on: its pixels
abbrev pub pixels_of : JobData → Files → ℕ → List ℕ
pixels_of job files i = drop HEADER (frame_file job files i)

abbrev pub EqualPlansLookAlike : Type 0
EqualPlansLookAlike = (a b : JobData) (files : Files) (i j : ℕ) → HasTitle a → HasTitle b
    → AreAlike a b → a.parts.look ≡ b.parts.look → plan_at a i ≡ plan_at b j
    → pixels_of a files i ≡ pixels_of b files j
