use Rattle.std.proofs.Common.{◌≡◌, ◌<◌, ℕ, length, get_or}
use Rattle.cf_base.specs.declared.file.FileId.TheVariants.{Seal}
use Rattle.conform_job.specs.Job.{file_of}
use Rattle.reel_writer.proofs.files.files_of.Given as goal

-- the files of the frames below i
abbrev pub invariant-loop-i : goal.invariant-loop-i
invariant-loop-i l = record {
  size : length l.files.items ≡ l.i;
  each : (k : ℕ) → k < l.i → get_or l.files.items k Seal ≡ file_of l.job k;
}
