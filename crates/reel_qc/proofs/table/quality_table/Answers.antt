-- The lines make up the table.
use Rattle.std.proofs.Common.{◌∙◌, map}
use Rattle.reel_disk.specs.Disk.{view_of}
use Rattle.reel_qc.proofs.Lines.{sound_table, table_made, table_told}
use Rattle.reel_qc.proofs.table.quality_table.Goals as goal

pub returns-clause-table : goal.returns-clause-table
returns-clause-table g c told =
    let has = c.in_ok-frames.ensures.rows in
    table_told _ c.args.view.now c.args.job.now _ _ _ _ _ _ _ _ has (table_made _ c.args.view.now c.args.job.now _ _ _ _ _ _ _ _ _ c.new-text.ensures.items c.in_ok-put_kinds.ensures has c.in_ok-put_frames.ensures) told

pub returns-clause-sound : goal.returns-clause-sound
returns-clause-sound g c told world of sound =
    returns-clause-table g c told
    ∙ sound_table c.args.job.now c.args.view.now (view_of (g.D.Disk.state c.args.disk.now).history) world of sound (map (λ p. p.kind) c.args.probes.now)

pub returns-clause-known : goal.returns-clause-known
returns-clause-known g c =
    let has = c.in_ok-frames.ensures.rows in
    record {
      rows = has.rows;
      frames = has.frames_are;
      read = has.read;
      form = table_made _ c.args.view.now c.args.job.now _ _ _ _ _ _ _ _ _ c.new-text.ensures.items c.in_ok-put_kinds.ensures has c.in_ok-put_frames.ensures;
    }
