-- One frame after another.
use Rattle.std.proofs.Common.{rules, map, subst, sym, arith, true, ◌≡◌, ◌+◌, ◌∙◌}
use Rattle.reel_disk.specs.Disk.{view_of}
use Rattle.resume_ledger.proofs.Reading.{still_view, reads_along}
use Rattle.reel_qc.specs.inside.Table.{HasRows}
use Rattle.reel_qc.proofs.Lines.{acked_more, rows_along, rows_as}
use Rattle.reel_qc.proofs.table.put_rows.Goals as goal

pub loop-i-preserved : goal.loop-i-preserved
loop-i-preserved g c =
    let before = c.loop-i.invariant in
    let files = view_of (g.D.Disk.state c.args.disk.now).history in
    let here = rows_as _ c.args.job.now (g.D.Disk.tells ≡ true) files _ _ _ _ _ _ _ (λ told. still_view _ _ (before.reads.still told)) c.in_ok-frames.ensures.rows in
    record {
      reads = reads_along before.reads c.in_ok-frames.ensures.reads;
      rows = subst (λ frames. HasRows (map (λ p. p.kind) c.args.counting.now.probes.now) c.args.job.now (g.D.Disk.tells ≡ true) files frames (g.D.Disk.state c.args.disk.now).calls (g.D.Disk.state c.put_frame.new.disk).calls c.args.text.now.items c.put_frame.new.text.items (c.loop-i.frames + c.in_ok-frames.field-0))
          (sym (acked_more c.args.view.now c.loop-i.i)) (rows_along _ c.args.job.now (g.D.Disk.tells ≡ true) files _ _ _ _ _ _ _ _ _ _ before.rows here);
      few = omega (arith, before.few, c.in_ok-frames.ensures.few);
      piece = search rules;
      room = c.in_ok-frames.ensures.room ∙ before.room;
      same = c.in_ok-frames.ensures.disk.lent ∙ before.same;
      faults = search rules;
    }
