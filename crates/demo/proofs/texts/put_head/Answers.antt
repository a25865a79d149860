use Rattle.demo.proofs.Joins.{head_joined}
use Rattle.demo.proofs.texts.put_head.Goals as goal

pub returns : goal.returns
returns c = rw (c.in_ok-put_line-5.ensures, c.in_ok-put_line-4.ensures, c.in_ok-put_line-3.ensures, c.in_ok-put_line-2.ensures, c.in_ok-put_line.ensures) (head_joined c.args.project.now.items)
