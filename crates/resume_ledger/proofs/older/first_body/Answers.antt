use Rattle.std.proofs.Common.{◌≡◌, true, false, length, subst, Bool, Ok}
use Rattle.reel_disk.specs.Disk.{view_of}
use Rattle.resume_ledger.specs.declared.layout.Version.TheVariants.{One}
use Rattle.resume_ledger.specs.Ledger.{HasSeal}
use Rattle.resume_ledger.specs.Sound.{file_at}
use Rattle.resume_ledger.specs.Calls.{SyncsSeal}
use Rattle.resume_ledger.proofs.Reading.{reading_along}
use Rattle.resume_ledger.proofs.Taking.{unsealed_ready, ready_along}
use Rattle.resume_ledger.proofs.Openings.{first_taken, taken_first}
use Rattle.resume_ledger.proofs.older.first_body.Goals as goal

-- version 1 counts
pub returns-in-Ok-true-clause-reading : goal.returns-in-Ok-true-clause-reading
returns-in-Ok-true-clause-reading g c told = reading_along _ _ _ (c.is_sealed.ensures.reading told) (c.taken_body.ensures.reading told)

pub returns-in-Ok-true-clause-body : goal.returns-in-Ok-true-clause-body
returns-in-Ok-true-clause-body g c told =
    ready_along c.args.digest (length c.args.files.now) (file_at c.args.files.now) c.args.size (g.D.Disk.state c.args.disk.now).history (g.D.Disk.state c.is_sealed.new.disk).history (g.D.Disk.state c.taken_body.new.disk).history (c.is_sealed.ensures.reading told).narrows (c.in-Ok-true.ensures.read told).view c.taken_body.result (c.taken_body.ensures.body told)

-- the folder is unsealed
pub returns-in-Ok-false-clause-body : goal.returns-in-Ok-false-clause-body
returns-in-Ok-false-clause-body g c told =
    let unsealed : HasSeal One (view_of (g.D.Disk.state c.args.disk.now).history) → ⊥ = λ sealed.
    let set : c.in-Ok-false.field-0 ≡ true = (c.in-Ok-false.ensures.sealed told).1 sealed in
    let unset : c.in-Ok-false.field-0 ≡ false = c.in-Ok-false.field-0-test in
    cc in
    unsealed_ready c.args.digest (length c.args.files.now) (file_at c.args.files.now) c.args.size (g.D.Disk.state c.args.disk.now).history c.closed.ensures.digest c.requires.most (g.D.Disk.state c.is_sealed.new.disk).history
    (c.requires.unsealed told) (c.requires.firm told) (c.in-Ok-false.ensures.read told) unsealed c.in-Ok.body.items c.in-Ok.ensures.body

pub returns-in-Ok-true-clause-calls : goal.returns-in-Ok-true-clause-calls
returns-in-Ok-true-clause-calls g c =
    let sealed = subst (λ (there : Bool). SyncsSeal One (Ok there) (g.D.Disk.state c.args.disk.now).calls (g.D.Disk.state c.is_sealed.new.disk).calls) c.in-Ok-true.field-0-test c.in-Ok-true.ensures.calls in
    first_taken c.args.digest (length c.args.files.now) (file_at c.args.files.now) c.args.size _ _ _ sealed c.taken_body.result c.taken_body.ensures.calls

pub returns-in-Ok-true-clause-taken : goal.returns-in-Ok-true-clause-taken
returns-in-Ok-true-clause-taken g c told one =
    let sealed = subst (λ (there : Bool). SyncsSeal One (Ok there) (g.D.Disk.state c.args.disk.now).calls (g.D.Disk.state c.is_sealed.new.disk).calls) c.in-Ok-true.field-0-test c.in-Ok-true.ensures.calls in
    taken_first c.args.digest (length c.args.files.now) (file_at c.args.files.now) c.args.size _ _ _ sealed c.taken_body.result c.taken_body.ensures.calls
