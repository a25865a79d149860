-- What a shot asks for, side by side: where the old side refuses nothing, the new one answers.
use Rattle.std.proofs.Common.{subst}
use Rattle.std.specs.Prelude.{IfErr, Option}
use Rattle.scan_source.specs.World.{World}
use Rattle.scan_source.proofs.Leaving.{leaves_then}
use Rattle.conform_job.specs.Asks.{asks_of_side}
use Rattle.conform_job.specs.Ended.{EndAt}
use Rattle.conform_job.proofs.Planning.{no_err}
use Rattle.conform_job.proofs.Asking.{on_ok, told_then, told_refused, one_side, two_sides}
use Rattle.conform_job.proofs.Growing.{grown_none, grown_both}
use Rattle.conform_job.proofs.Heads.{heads_both}
use Rattle.conform_job.proofs.Ending.{ended_first, ended_then, second_ended}
use Rattle.conform_job.proofs.frames.inspect_shot.Goals as goal

pub inspect_side-requires-in-Ok-clause-each : goal.inspect_side-requires-in-Ok-clause-each
inspect_side-requires-in-Ok-clause-each g c = rw c.inspect_side-in-Two.ensures.scan.told c.in-Ok.ensures.grows.each

pub returns-in-Gap-clause-grows : goal.returns-in-Gap-clause-grows
returns-in-Gap-clause-grows g c = rw c.in-Gap.is (grown_none c.args.parts.now (g.S.Scans.state c.args.scans.now).world c.args.infos.now c.requires.each)

pub returns-in-One-clause-told : goal.returns-in-One-clause-told
returns-in-One-clause-told g c = rw (c.in-One.is, one_side) c.inspect_side.ensures.told

pub returns-in-One-clause-grows : goal.returns-in-One-clause-grows
returns-in-One-clause-grows g c = rw (c.in-One.is, one_side) c.inspect_side.ensures.grows

pub returns-in-Ok-clause-told : goal.returns-in-Ok-clause-told
returns-in-Ok-clause-told g c = rw (c.in-Two.is, two_sides)
    (told_then c.args.parts.now (g.S.Scans.state c.args.scans.now).world _ _ c.inspect_side-in-Ok.result c.in-Ok.ensures.told (rw c.inspect_side-in-Two.ensures.scan.told at c.inspect_side-in-Ok.ensures.told))

pub returns-in-Ok-clause-grows : goal.returns-in-Ok-clause-grows
returns-in-Ok-clause-grows g c = rw (c.in-Two.is, two_sides)
    (on_ok c.inspect_side-in-Ok.result _ _ (grown_both c.args.parts.now (g.S.Scans.state c.args.scans.now).world _ _ _ _ _ c.in-Ok.ensures.grows) (rw c.inspect_side-in-Two.ensures.scan.told at c.inspect_side-in-Ok.ensures.grows))

pub returns-in-Ok-clause-heads : goal.returns-in-Ok-clause-heads
returns-in-Ok-clause-heads g c = on_ok c.inspect_side-in-Ok.result _ _ (heads_both _ _ _ _ _ _ c.in-Ok.ensures.heads) c.inspect_side-in-Ok.ensures.heads

pub returns-in-Ok-clause-scan : goal.returns-in-Ok-clause-scan
returns-in-Ok-clause-scan g c =
    leaves_then (no_err _ _) c.in-Ok.ensures.scan c.inspect_side-in-Ok.ensures.scan

pub returns-in-Err-clause-told : goal.returns-in-Err-clause-told
returns-in-Err-clause-told g c = rw (c.in-Two.is, two_sides) (told_refused c.args.parts.now (g.S.Scans.state c.args.scans.now).world _ _ c.in-Err.fault c.in-Err.ensures.told)

pub returns-in-Err-clause-scan : goal.returns-in-Err-clause-scan
returns-in-Err-clause-scan g c = c.in-Err.ensures.scan

pub returns-in-One-clause-end : goal.returns-in-One-clause-end
returns-in-One-clause-end g c = rw (c.in-One.is, one_side) c.inspect_side.ensures.end

pub returns-in-Ok-clause-end : goal.returns-in-Ok-clause-end
returns-in-Ok-clause-end g c = rw (c.in-Two.is, two_sides)
    (second_ended c.inspect_side-in-Ok.result _ _
    (λ why e. ended_then c.args.parts.now (g.S.Scans.state c.args.scans.now).world _ _ _ _ _ _ _ why c.in-Ok.ensures.grows c.in-Ok.ensures.heads e)
    (subst (λ (told : Option World). IfErr c.inspect_side-in-Ok.result
    (EndAt c.args.parts.now told (asks_of_side c.in-Two.new) c.inspect_side-in-Two.new.infos (g.S.Scans.state c.inspect_side-in-Two.new.scans).heads (g.S.Scans.state c.inspect_side-in-Ok.new.scans).heads))
    c.inspect_side-in-Two.ensures.scan.told c.inspect_side-in-Ok.ensures.end))

pub returns-in-Err-clause-end : goal.returns-in-Err-clause-end
returns-in-Err-clause-end g c = rw (c.in-Two.is, two_sides) (ended_first c.args.parts.now (g.S.Scans.state c.args.scans.now).world _ _ _ _ _ _ c.in-Err.ensures.end)
