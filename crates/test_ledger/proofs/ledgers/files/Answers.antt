-- Each of them is the file of one frame.
use Rattle.std.proofs.Common.{ℕ, ◌<◌, replicate}
use Rattle.std.proofs.lemmas.List.{get_or-replicate}
use Rattle.cf_base.specs.declared.file.FileId.TheVariants.{Frame, Seal}
use Rattle.resume_ledger.specs.Sound.{IsFrameFile, file_at}
use Rattle.test_ledger.proofs.ledgers.files.Goals as goal

all_frames : (i : ℕ) → i < 24 → IsFrameFile (file_at (replicate 24 (Frame 1 86400)) i)
all_frames i within = (1, 86400, get_or-replicate 24 i (Frame 1 86400) Seal within)

pub returns : goal.returns
returns c = record { frames = all_frames }
