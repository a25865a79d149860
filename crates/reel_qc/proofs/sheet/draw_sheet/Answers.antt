-- One row after another.
use Rattle.std.proofs.Common.{rules, ◌∙◌, arith}
use Rattle.dpx_header.specs.Writing.{header_of}
use Rattle.resume_ledger.proofs.Reading.{reads_none, reads_along}
use Rattle.reel_qc.specs.Sheet.{sheet_head}
use Rattle.reel_qc.proofs.SheetLaws.{rows_begin, rows_more, rows_whole}
use Rattle.reel_qc.proofs.sheet.draw_sheet.Goals as goal

pub loop-row-init : goal.loop-row-init
loop-row-init g c = record {
  reads = reads_none;
  drawn = rows_begin c.args.tone.now.table c.args.job.now c.rows_of-rows.ensures.wide c.args.view.now g.D.Disk.tells (g.D.Disk.state c.args.disk.now) (header_of (sheet_head c.args.job.now)) _ _ c.in_ok-drawing.ensures.header c.in_ok-drawing.ensures.greatest;
  piece = search rules;
  same = search rules;
  faults = search rules;
}

pub loop-row-preserved : goal.loop-row-preserved
loop-row-preserved g c =
    let before = c.loop-row.invariant in
    record {
      reads = reads_along before.reads c.draw_row.ensures.reads;
      drawn = rows_more c.args.tone.now.table c.args.job.now c.rows_of-rows.ensures.wide c.args.view.now g.D.Disk.tells c.loop-row.row (g.D.Disk.state c.args.disk.now) (g.D.Disk.state c.loop-row.disk) (g.D.Disk.state c.draw_row.new.disk) _ _ _ _ _ _
          (omega (arith, c.loop-row-test.true, c.loop-row.auto.row-end, c.rows_of-rows.ensures.rows)) before.reads before.drawn c.in_ok-draw_row.ensures.drawn;
      piece = search rules;
      same = c.draw_row.ensures.disk.lent ∙ before.same;
      faults = search rules;
    }

pub returns-clause-drawn : goal.returns-clause-drawn
returns-clause-drawn g c =
    rows_whole c.args.tone.now.table c.args.job.now c.rows_of-rows.ensures.wide c.args.view.now g.D.Disk.tells c.loop-row.row _ _ _ _ _ _
    (omega (arith, c.loop-row-test.false, c.loop-row.auto.row-end) ∙ c.rows_of-rows.ensures.rows) c.loop-row.invariant.drawn

pub returns-in_err-draw_row-clause-reads : goal.returns-in_err-draw_row-clause-reads
returns-in_err-draw_row-clause-reads g c = reads_along c.loop-row.invariant.reads c.in_err-draw_row.ensures.reads
