use Rattle.std.proofs.Common.{◌∙◌, arith, refl, rules}
use Rattle.scan_source.proofs.Leaving.{leaves_as, leaves_done, leaves_still, leaves_then}
use Rattle.conform_job.proofs.Planning.{err_as, no_err}
use Rattle.conform_job.proofs.Heads.{heads_start, heads_both}
use Rattle.conform_job.proofs.Turns.{grown_start, rest_start, grown_whole, refused_here, rest_next, grown_next}
use Rattle.conform_job.proofs.Ending.{ended_whole}
use Rattle.conform_job.proofs.frames.infos_of.Goals as goal

pub loop-i-init : goal.loop-i-init
loop-i-init g c = record {
  within = search rules;
  scan = leaves_still (λ never. never);
  heads = heads_start (g.S.Scans.state c.args.scans.now).heads c.new-infos.result c.new-infos.ensures;
  loads = refl;
  rest = rest_start c.args.parts.now (g.S.Scans.state c.args.scans.now).world;
  grows = grown_start c.args.parts.now (g.S.Scans.state c.args.scans.now).world c.new-infos.result c.new-infos.ensures;
}

pub returns-in-Err-clause-told : goal.returns-in-Err-clause-told
returns-in-Err-clause-told g c =
    refused_here c.args.parts.now (g.S.Scans.state c.args.scans.now).world (g.S.Scans.state c.loop-i.scans).world c.loop-i.invariant.scan.told c.loop-i.i c.shot_of-shot.result
    (omega (arith, c.loop-i-test.true, c.count-i-end.ensures.count)) c.shot_of-shot.ensures.shot c.in-Err.fault c.loop-i.invariant.rest c.in-Err.ensures.told

pub returns-in-Err-clause-scan : goal.returns-in-Err-clause-scan
returns-in-Err-clause-scan g c = leaves_then (λ never. never) c.loop-i.invariant.scan
    (leaves_as (err_as _ _) (err_as _ _) c.in-Err.ensures.scan)

pub returns-clause-scan : goal.returns-clause-scan
returns-clause-scan g c = leaves_done (λ never. never) (no_err _ _) c.loop-i.invariant.scan

pub loop-i-preserved : goal.loop-i-preserved
loop-i-preserved g c = record {
  within = omega (arith, c.loop-i-test.true, c.count-i-end.ensures.count);
  scan = leaves_then (λ never. never) c.loop-i.invariant.scan
      (leaves_done (no_err _ _) (λ never. never) c.in_default.ensures.scan);
  heads = heads_both _ _ _ _ _ _ c.loop-i.invariant.heads c.in_default.ensures.heads;
  loads = c.inspect_shot.ensures.loads ∙ c.loop-i.invariant.loads;
  rest = rest_next c.args.parts.now (g.S.Scans.state c.args.scans.now).world (g.S.Scans.state c.loop-i.scans).world c.loop-i.invariant.scan.told c.loop-i.i c.shot_of-shot.result
      (omega (arith, c.loop-i-test.true, c.count-i-end.ensures.count)) c.shot_of-shot.ensures.shot c.loop-i.invariant.rest c.in_default.ensures.told;
  grows = grown_next c.args.parts.now (g.S.Scans.state c.args.scans.now).world (g.S.Scans.state c.loop-i.scans).world c.loop-i.invariant.scan.told c.loop-i.i c.shot_of-shot.result
      (omega (arith, c.loop-i-test.true, c.count-i-end.ensures.count)) c.shot_of-shot.ensures.shot _ _ _ c.loop-i.invariant.grows c.in_default.ensures.grows;
}

pub returns-clause-grows : goal.returns-clause-grows
returns-clause-grows g c = grown_whole c.args.parts.now (g.S.Scans.state c.args.scans.now).world c.loop-i.i _ _ (omega (arith, c.loop-i-test.false, c.count-i-end.ensures.count, c.loop-i.invariant.within)) c.loop-i.invariant.grows

pub returns-in-Err-clause-end : goal.returns-in-Err-clause-end
returns-in-Err-clause-end g c =
    ended_whole c.args.parts.now (g.S.Scans.state c.args.scans.now).world (g.S.Scans.state c.loop-i.scans).world c.loop-i.invariant.scan.told c.loop-i.i c.shot_of-shot.result
    (omega (arith, c.loop-i-test.true, c.count-i-end.ensures.count)) c.shot_of-shot.ensures.shot _ _ _ _ c.in-Err.fault c.loop-i.invariant.grows c.loop-i.invariant.heads c.in-Err.ensures.end
