-- The sheet is written, or the disk failed. What is sound stays so, and what is acknowledged, since nothing but the sheet is written.
use Rattle.std.proofs.Common.{◌∙◌, inl}
use Rattle.reel_disk.proofs.Moments.{passes_extends}
use Rattle.reel_disk.proofs.Sparing.{still_spares}
use Rattle.reel_qc.proofs.SheetLaws.{sheet_extends, sheet_firmly, sheet_made, sheet_spares, sheet_written, stays_acked, stays_sound}
use Rattle.reel_qc.proofs.sheet.make_sheet.Goals as goal

pub returns-in-Ok-clause-sheet : goal.returns-in-Ok-clause-sheet
returns-in-Ok-clause-sheet g c told = sheet_firmly _ _ _ _ _ (c.in_ok-sheet.ensures.reads.still told) (c.deref.ensures.value ∙ c.in_ok-sheet.ensures.bytes told) (c.in-Ok.ensures.firmly told)

pub returns-in-Ok-clause-spares : goal.returns-in-Ok-clause-spares
returns-in-Ok-clause-spares g c told = sheet_spares _ _ _ (c.in_ok-sheet.ensures.reads.still told) (c.write_firmly.ensures.put told) (c.write_firmly.ensures.spares told)

pub returns-clause-spares : goal.returns-clause-spares
returns-clause-spares g c told = sheet_spares _ _ _ (c.in_ok-sheet.ensures.reads.still told) (c.write_firmly.ensures.put told) (c.write_firmly.ensures.spares told)

pub returns-in-Ok-clause-past : goal.returns-in-Ok-clause-past
returns-in-Ok-clause-past g c told = sheet_extends _ _ _ (c.in_ok-sheet.ensures.reads.still told) (c.write_firmly.ensures.put told)

pub returns-clause-past : goal.returns-clause-past
returns-clause-past g c told = sheet_extends _ _ _ (c.in_ok-sheet.ensures.reads.still told) (c.write_firmly.ensures.put told)

pub returns-in_err-sheet-clause-past : goal.returns-in_err-sheet-clause-past
returns-in_err-sheet-clause-past g c told = passes_extends _ _ _ (c.in_err-sheet.ensures.reads.still told).passes

pub returns-in-Ok-clause-sound : goal.returns-in-Ok-clause-sound
returns-in-Ok-clause-sound g c told world = stays_sound (g.D.Disk.state c.args.disk.now).history _ (sheet_spares _ _ _ (c.in_ok-sheet.ensures.reads.still told) (c.write_firmly.ensures.put told) (c.write_firmly.ensures.spares told)) c.args.job.now world

pub returns-in-Ok-clause-kept : goal.returns-in-Ok-clause-kept
returns-in-Ok-clause-kept g c told i = stays_acked (g.D.Disk.state c.args.disk.now).history _ (sheet_spares _ _ _ (c.in_ok-sheet.ensures.reads.still told) (c.write_firmly.ensures.put told) (c.write_firmly.ensures.spares told)) c.args.job.now i

pub returns-clause-sound : goal.returns-clause-sound
returns-clause-sound g c told world = stays_sound (g.D.Disk.state c.args.disk.now).history _ (sheet_spares _ _ _ (c.in_ok-sheet.ensures.reads.still told) (c.write_firmly.ensures.put told) (c.write_firmly.ensures.spares told)) c.args.job.now world

pub returns-clause-kept : goal.returns-clause-kept
returns-clause-kept g c told i = stays_acked (g.D.Disk.state c.args.disk.now).history _ (sheet_spares _ _ _ (c.in_ok-sheet.ensures.reads.still told) (c.write_firmly.ensures.put told) (c.write_firmly.ensures.spares told)) c.args.job.now i

pub returns-in_err-sheet-clause-sound : goal.returns-in_err-sheet-clause-sound
returns-in_err-sheet-clause-sound g c told world = stays_sound (g.D.Disk.state c.args.disk.now).history _ (still_spares _ _ _ (c.in_err-sheet.ensures.reads.still told)) c.args.job.now world

pub returns-in_err-sheet-clause-kept : goal.returns-in_err-sheet-clause-kept
returns-in_err-sheet-clause-kept g c told i = stays_acked (g.D.Disk.state c.args.disk.now).history _ (still_spares _ _ _ (c.in_err-sheet.ensures.reads.still told)) c.args.job.now i

pub returns-in-Ok-clause-writes : goal.returns-in-Ok-clause-writes
returns-in-Ok-clause-writes g c = sheet_written c.write_firmly.result c.deref.result.now (g.D.Disk.state c.args.disk.now).calls (g.D.Disk.state c.sheet_of.new.disk).calls (g.D.Disk.state c.write_firmly.new.disk).calls c.in_ok-sheet.ensures.reads.writes c.write_firmly.ensures.calls

pub returns-clause-writes : goal.returns-clause-writes
returns-clause-writes g c = sheet_written c.write_firmly.result c.deref.result.now (g.D.Disk.state c.args.disk.now).calls (g.D.Disk.state c.sheet_of.new.disk).calls (g.D.Disk.state c.write_firmly.new.disk).calls c.in_ok-sheet.ensures.reads.writes c.write_firmly.ensures.calls

pub returns-in_err-sheet-clause-writes : goal.returns-in_err-sheet-clause-writes
returns-in_err-sheet-clause-writes g c = inl c.in_err-sheet.ensures.reads.writes

pub returns-in-Ok-clause-made : goal.returns-in-Ok-clause-made
returns-in-Ok-clause-made g c = sheet_made _ _ _ _ _ (g.D.Disk.state c.sheet_of.new.disk) _ c.deref.result.now c.in_ok-sheet.sheet.done _ c.in_ok-sheet.ensures.drawn c.in_ok-sheet.ensures.cells c.deref.ensures.value c.in-Ok.ensures.calls
