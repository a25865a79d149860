-- The commands `run PROJECT` and `part PROJECT K/N`: they render the reel of a project, or a part of it, into the folder.
use Rattle.std.specs.Prelude.{true, ℕ, List}
use Rattle.frame_range.specs.declared.range.Extent.{Extent}
use Rattle.project_run.specs.Run.{IsRunReply}
use Rattle.command_answers.specs.ByFolder.{reel_meaning}
use Rattle.command_answers.specs.Meaning.{IsThrough, Meaning, reel_calls}

abbrev pub run_meaning : List ℕ → Extent → (share : ℕ) → Meaning
run_meaning path extent share = reel_meaning path (record reel_calls { loads_frames = true })
    (λ house. IsRunReply path extent share) IsThrough
