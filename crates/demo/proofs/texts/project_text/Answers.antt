use Rattle.demo.specs.Texts.{head_text, reel_text}
use Rattle.demo.proofs.Loops.{piece_more}
use Rattle.demo.proofs.texts.project_text.Goals as goal

pub loop-reel-preserved : goal.loop-reel-preserved
loop-reel-preserved c = piece_more (reel_text c.source_count-frames.result) head_text c.loop-reel.project.items c.put_reel.new.project.items c.loop-reel.reel c.loop-reel.invariant c.in_ok-put_reel.ensures
