use Rattle.std.proofs.Common.{◌+◌}
use Rattle.demo.specs.Files.{kept, source_entry}
use Rattle.demo.specs.Texts.{hour}
use Rattle.demo.proofs.Loops.{item_more}
use Rattle.demo.proofs.files.put_reel.Goals as goal

pub loop-k-preserved : goal.loop-k-preserved
loop-k-preserved c = item_more (λ k. source_entry c.args.reel (hour + k)) (kept c.args.files.now.items) (kept c.loop-k.files.items) (kept c.put_frame.new.files.items) c.loop-k.k c.loop-k.invariant c.in_ok-put_frame.ensures
