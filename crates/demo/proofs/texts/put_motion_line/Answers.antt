use Rattle.demo.proofs.Joins.{motion_joined}
use Rattle.demo.proofs.texts.put_motion_line.Goals as goal

pub returns : goal.returns
returns c = rw (c.in_ok-put_line.ensures, c.in_ok-put_label.ensures, c.in_ok-put_bytes.ensures, c.source_in.ensures) (motion_joined c.args.list.now.items c.args.group)
