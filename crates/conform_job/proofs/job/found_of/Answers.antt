-- The cuts first, then the lines, then the frames.
use Rattle.scan_source.proofs.Leaving.{leaves_as, leaves_done, leaves_still}
use Rattle.conform_job.proofs.Planning.{err_as, no_err, cut_told, cut_lines, cut_steady, placed_told, placed_lines, placed_steady, none_told, frames_none, frames_told, frames_lines}
use Rattle.conform_job.proofs.Ending.{cut_asked, ended_asked, placed_asked}
use Rattle.conform_job.proofs.job.found_of.Goals as goal

pub returns-in-Err-clause-told : goal.returns-in-Err-clause-told
returns-in-Err-clause-told g c = cut_told c.args.parts.now (g.S.Scans.state c.args.scans.now).world c.in-Err.fault c.in-Err.ensures.refused

pub returns-in-Err-clause-lines : goal.returns-in-Err-clause-lines
returns-in-Err-clause-lines g c = cut_lines c.args.parts.now c.in-Err.fault c.in-Err.ensures.refused

pub returns-in-Err-clause-scan : goal.returns-in-Err-clause-scan
returns-in-Err-clause-scan g c = leaves_still (cut_steady c.args.parts.now c.in-Err.fault c.in-Err.ensures.refused)

pub returns-in-Err-places_in-clause-told : goal.returns-in-Err-places_in-clause-told
returns-in-Err-places_in-clause-told g c =
    placed_told c.args.parts.now (g.S.Scans.state c.args.scans.now).world c.in-Err-places_in.fault c.in-Ok.ensures.none.0 c.in-Err-places_in.ensures.refused

pub returns-in-Err-places_in-clause-lines : goal.returns-in-Err-places_in-clause-lines
returns-in-Err-places_in-clause-lines g c = placed_lines c.args.parts.now c.in-Err-places_in.fault c.in-Ok.ensures.none.0 c.in-Err-places_in.ensures.refused

pub returns-in-Err-places_in-clause-scan : goal.returns-in-Err-places_in-clause-scan
returns-in-Err-places_in-clause-scan g c =
    leaves_still (placed_steady c.args.parts.now c.in-Err-places_in.fault c.in-Err-places_in.ensures.refused)

pub returns-in-Ok-infos_of-clause-told : goal.returns-in-Ok-infos_of-clause-told
returns-in-Ok-infos_of-clause-told g c =
    frames_none c.args.parts.now (g.S.Scans.state c.args.scans.now).world c.in-Ok.ensures.none.0 c.in-Ok-places_in.ensures.none.0 c.in-Ok-infos_of.ensures.told

pub returns-in-Ok-infos_of-clause-lines : goal.returns-in-Ok-infos_of-clause-lines
returns-in-Ok-infos_of-clause-lines g c = none_told c.args.parts.now c.in-Ok.ensures.none.0 c.in-Ok-places_in.ensures.none.0

pub returns-in-Ok-infos_of-clause-found : goal.returns-in-Ok-infos_of-clause-found
returns-in-Ok-infos_of-clause-found g c = record {
  cut = c.in-Ok.ensures.none.0;
  known = c.in-Ok-places_in.ensures.none.0;
  cuts = c.in-Ok.ensures.none.1;
  places = c.in-Ok-places_in.ensures.none.1;
  grows = c.in-Ok-infos_of.ensures.grows;
}

pub returns-in-Ok-infos_of-clause-scan : goal.returns-in-Ok-infos_of-clause-scan
returns-in-Ok-infos_of-clause-scan g c = leaves_done (no_err _ _) (no_err _ _) c.in-Ok-infos_of.ensures.scan

pub returns-in-Err-infos_of-clause-told : goal.returns-in-Err-infos_of-clause-told
returns-in-Err-infos_of-clause-told g c =
    frames_told c.args.parts.now (g.S.Scans.state c.args.scans.now).world c.in-Ok.ensures.none.0 c.in-Ok-places_in.ensures.none.0 c.in-Err-infos_of.fault c.in-Err-infos_of.ensures.told

pub returns-in-Err-infos_of-clause-lines : goal.returns-in-Err-infos_of-clause-lines
returns-in-Err-infos_of-clause-lines g c =
    frames_lines c.args.parts.now (g.S.Scans.state c.args.scans.now).world c.in-Ok.ensures.none.0 c.in-Ok-places_in.ensures.none.0 _ c.in-Err-infos_of.fault c.in-Err-infos_of.ensures.end.named

pub returns-in-Err-infos_of-clause-scan : goal.returns-in-Err-infos_of-clause-scan
returns-in-Err-infos_of-clause-scan g c = leaves_as (err_as _ _) (err_as _ _) c.in-Err-infos_of.ensures.scan

pub returns-in-Err-clause-asked : goal.returns-in-Err-clause-asked
returns-in-Err-clause-asked g c = cut_asked c.args.parts.now (g.S.Scans.state c.args.scans.now).world (g.S.Scans.state c.args.scans.now).heads c.in-Err.fault c.in-Err.ensures.refused

pub returns-in-Err-places_in-clause-asked : goal.returns-in-Err-places_in-clause-asked
returns-in-Err-places_in-clause-asked g c =
    placed_asked c.args.parts.now (g.S.Scans.state c.args.scans.now).world (g.S.Scans.state c.args.scans.now).heads c.in-Err-places_in.fault c.in-Err-places_in.ensures.refused

pub returns-in-Err-infos_of-clause-asked : goal.returns-in-Err-infos_of-clause-asked
returns-in-Err-infos_of-clause-asked g c =
    ended_asked c.args.parts.now (g.S.Scans.state c.args.scans.now).world _ _ c.in-Err-infos_of.fault c.in-Err-infos_of.ensures.end
