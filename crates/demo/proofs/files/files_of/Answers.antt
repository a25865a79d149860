use Rattle.std.proofs.Common.{[], ◌∷◌}
use Rattle.demo.specs.Files.{kept, project_path, list_path, reel_files}
use Rattle.demo.specs.Texts.{project_text, list_text}
use Rattle.demo.proofs.Loops.{piece_more}
use Rattle.demo.proofs.files.files_of.Goals as goal

pub loop-reel-preserved : goal.loop-reel-preserved
loop-reel-preserved c = piece_more (reel_files c.source_count-frames.result) ((project_path, project_text c.args.events) ∷ (list_path, list_text c.args.events) ∷ []) (kept c.loop-reel.files.items) (kept c.put_reel.new.files.items) c.loop-reel.reel c.loop-reel.invariant c.in_ok-put_reel.ensures
