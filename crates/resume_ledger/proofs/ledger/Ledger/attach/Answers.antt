use Rattle.std.proofs.Common.{length, subst, sym, Bool, Ok}
use Rattle.resume_ledger.specs.Sound.{file_at}
use Rattle.reel_disk.specs.Disk.{Files}
use Rattle.reel_disk.proofs.Writing.{writing_then}
use Rattle.resume_ledger.specs.declared.layout.Version.TheVariants.{One, Two}
use Rattle.resume_ledger.specs.Calls.{SyncsSeal}
use Rattle.resume_ledger.specs.Ledger.{IsInForce}
use Rattle.resume_ledger.proofs.Attaching.{attached_along}
use Rattle.resume_ledger.proofs.Reading.{reading_along, reading_part, part_along}
use Rattle.resume_ledger.proofs.Openings.{taken_along}
use Rattle.resume_ledger.proofs.OwnFiles.{seal_none, sealed_none, older_own}
use Rattle.resume_ledger.proofs.ledger.Ledger.attach.Goals as goal

-- the folder is sealed by version 2
pub returns-in-Ok-true-clause-answer : goal.returns-in-Ok-true-clause-answer
returns-in-Ok-true-clause-answer g c told =
    attached_along c.args.digest (length c.args.files.now) (g.D.Disk.state c.args.disk.now).history (g.D.Disk.state c.is_sealed.new.disk).history (g.D.Disk.state c.open_sealed.new.disk).history (c.is_sealed.ensures.reading told).narrows (c.in-Ok-true.ensures.read told).view (file_at c.args.files.now) c.args.size c.open_sealed.result (c.open_sealed.ensures.answer told (file_at c.args.files.now) c.args.size)

pub returns-in-Ok-true-clause-safe : goal.returns-in-Ok-true-clause-safe
returns-in-Ok-true-clause-safe g c told = reading_part c.args.digest (length c.args.files.now) (file_at c.args.files.now) c.args.size _ _ (reading_along _ _ _ (c.is_sealed.ensures.reading told) (c.open_sealed.ensures.reading told))

pub returns-in-Ok-true-clause-only_reads : goal.returns-in-Ok-true-clause-only_reads
returns-in-Ok-true-clause-only_reads g c told second = (reading_along _ _ _ (c.is_sealed.ensures.reading told) (c.open_sealed.ensures.reading told)).narrows

-- it is not
pub returns-in-Ok-false-clause-answer : goal.returns-in-Ok-false-clause-answer
returns-in-Ok-false-clause-answer g c told =
    attached_along c.args.digest (length c.args.files.now) (g.D.Disk.state c.args.disk.now).history (g.D.Disk.state c.is_sealed.new.disk).history (g.D.Disk.state c.open_older.new.disk).history (c.is_sealed.ensures.reading told).narrows (c.in-Ok-false.ensures.read told).view (file_at c.args.files.now) c.args.size c.open_older.result (c.open_older.ensures.answer told)

pub returns-in-Ok-false-clause-safe : goal.returns-in-Ok-false-clause-safe
returns-in-Ok-false-clause-safe g c told = part_along c.args.digest (length c.args.files.now) (file_at c.args.files.now) c.args.size _ _ _ (c.is_sealed.ensures.reading told) (c.in-Ok-false.ensures.read told).view (c.open_older.ensures.safe told)

-- the disk failed
pub returns-in-Err-clause-safe : goal.returns-in-Err-clause-safe
returns-in-Err-clause-safe g c told = reading_part c.args.digest (length c.args.files.now) (file_at c.args.files.now) c.args.size _ _ (c.is_sealed.ensures.reading told)

pub returns-in-Ok-false-clause-taken : goal.returns-in-Ok-false-clause-taken
returns-in-Ok-false-clause-taken g c told one =
    let sealed = subst (λ (there : Bool). SyncsSeal Two (Ok there) (g.D.Disk.state c.args.disk.now).calls (g.D.Disk.state c.is_sealed.new.disk).calls) c.in-Ok-false.field-0-test c.in-Ok-false.ensures.calls in
    taken_along c.args.digest c.args.files.now c.args.size _ _ _ sealed c.open_older.result (c.open_older.ensures.taken told (subst (λ (files : Files). IsInForce One files) (sym (c.in-Ok-false.ensures.read told).view) one))

-- which files are written
pub returns-in-Ok-true-clause-own : goal.returns-in-Ok-true-clause-own
returns-in-Ok-true-clause-own g c = writing_then (seal_none Two c.is_sealed.result _ _ c.is_sealed.ensures.calls) (sealed_none c.args.digest (length c.args.files.now) c.open_sealed.result _ _ c.open_sealed.ensures.calls)

pub returns-in-Ok-false-clause-own : goal.returns-in-Ok-false-clause-own
returns-in-Ok-false-clause-own g c =
    writing_then (seal_none Two c.is_sealed.result _ _ c.is_sealed.ensures.calls) (older_own c.args.digest (length c.args.files.now) (file_at c.args.files.now) c.args.size c.open_older.result _ _ c.open_older.ensures.calls)

pub returns-in-Err-clause-own : goal.returns-in-Err-clause-own
returns-in-Err-clause-own g c = seal_none Two c.is_sealed.result _ _ c.is_sealed.ensures.calls
