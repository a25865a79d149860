use Rattle.std.proofs.Common.{◌≡◌, ◌∷◌}
use Rattle.std.specs.List.{flat_map, range_with_len}
use Rattle.demo.specs.Files.{kept, project_path, list_path, reel_files}
use Rattle.demo.specs.Texts.{project_text, list_text}
use Rattle.demo.proofs.files.files_of.Given as goal

-- the reels so far stand behind the project and its list
abbrev pub invariant-loop-reel : goal.invariant-loop-reel
invariant-loop-reel l = kept l.files.items ≡ (project_path, project_text l.events) ∷ (list_path, list_text l.events) ∷ flat_map (reel_files l.frames) (range_with_len 0 l.reel)
