-- The lines make up the report.
use Rattle.std.proofs.Common.{refl}
use Rattle.project_run.proofs.progress.status_text.Goals as goal

pub returns : goal.returns
returns c = rw (c.in_ok-put_count-2.ensures, c.in_ok-put_count.ensures, c.new-text.ensures.items) refl
