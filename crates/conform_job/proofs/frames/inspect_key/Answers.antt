use Rattle.std.proofs.Common.{◌≡◌, Some, sym, ◌∙◌}
use Rattle.scan_source.specs.World.{World, file_at}
use Rattle.scan_source.proofs.Leaving.{leaves_as}
use Rattle.source_reels.specs.Seen.{IsSeen}
use Rattle.source_reels.proofs.Heads.{told_more}
use Rattle.source_reels.specs.Reels.{path_of_key}
use Rattle.conform_job.specs.Refusals.{file_of_key}
use Rattle.conform_job.proofs.Judging.{judged_told, judged_named, judged_failed, failed_judged, judged_info}
use Rattle.conform_job.proofs.frames.inspect_key.Goals as goal
use Rattle.conform_job.proofs.frames.inspect_key.Given as given

path_is : (g : given.Over) (c : goal.After-judged g) → path_of_key c.args.parts.now.reels c.args.key ≡ Some c.in-Some.path
path_is g c = sym (sym c.in-Some.is ∙ c.path_of_key.ensures)

seen_is : (g : given.Over) (c : goal.After-judged g) (world : World) → IsSeen c.inspect-seen.result (file_at world c.in-Some.path) → IsSeen c.inspect-seen.result (file_of_key c.args.parts.now.reels (file_at world) c.args.key)
seen_is g c world h = rw (path_is g c) h

pub returns-clause-told : goal.returns-clause-told
returns-clause-told g c = told_more (g.S.Scans.state c.args.scans.now).world _ _
    (λ world h. judged_told c.args.named.now c.args.parts.now.project.width c.args.parts.now.project.height c.inspect-seen.result c.judged.result _ c.judged.ensures (seen_is g c world h))
    c.inspect-seen.ensures.told

pub returns-clause-info : goal.returns-clause-info
returns-clause-info g c = judged_info c.args.parts.now (g.S.Scans.state c.args.scans.now).world c.args.key c.args.named.now c.inspect-seen.result c.judged.result
    (told_more (g.S.Scans.state c.args.scans.now).world _ _ (seen_is g c) c.inspect-seen.ensures.told) c.inspect-seen.ensures.frame c.judged.ensures

pub returns-clause-names : goal.returns-clause-names
returns-clause-names g c = judged_named c.args.named.now _ _ c.inspect-seen.result c.judged.result c.judged.ensures

pub returns-clause-scan : goal.returns-clause-scan
returns-clause-scan g c = leaves_as
    (judged_failed c.args.named.now _ _ c.inspect-seen.result c.judged.result c.judged.ensures) (failed_judged c.args.named.now _ _ c.inspect-seen.result c.judged.result c.judged.ensures)
    c.inspect-seen.ensures.scan

pub returns-clause-asked : goal.returns-clause-asked
returns-clause-asked g c = rw (path_is g c) c.inspect-seen.ensures.heads
