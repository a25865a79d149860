use Rattle.std.proofs.Common.{rules, length, sym, subst, List, ℕ, refl, inl, inr}
use Rattle.resume_ledger.specs.declared.layout.Version.TheVariants.{Two}
use Rattle.resume_ledger.specs.Body.{layout_of}
use Rattle.resume_ledger.specs.Ledger.{AreGatesOf}
use Rattle.resume_ledger.specs.Attach.{IsOpenFor}
use Rattle.resume_ledger.specs.inside.Steps.{IsReadyFor}
use Rattle.resume_ledger.specs.Sound.{file_at}
use Rattle.resume_ledger.proofs.Reading.{reading_part, part_along}
use Rattle.resume_ledger.proofs.Taking.{opened}
use Rattle.resume_ledger.proofs.Openings.{begins_done, begins_failed}
use Rattle.resume_ledger.proofs.older.open_older.Goals as goal

-- nothing was written
pub returns-in-Err-clause-safe : goal.returns-in-Err-clause-safe
returns-in-Err-clause-safe g c told = reading_part _ _ _ _ _ _ (c.first_body.ensures.reading told)

pub returns-in_default-clause-safe : goal.returns-in_default-clause-safe
returns-in_default-clause-safe g c told = reading_part _ _ _ _ _ _ (c.first_body.ensures.reading told)

-- version 2 was put in force
pub returns-in-Ok-begin_second-clause-safe : goal.returns-in-Ok-begin_second-clause-safe
returns-in-Ok-begin_second-clause-safe g c told =
    let ready = subst (λ (l : List ℕ). IsReadyFor c.args.digest (length c.args.files.now) (file_at c.args.files.now) c.args.size (g.D.Disk.state c.args.disk.now).history (g.D.Disk.state c.first_body.new.disk).history l) (sym c.deref-2.ensures.value) (c.in-Ok.ensures.body told) in
    part_along _ _ _ _ (g.D.Disk.state c.args.disk.now).history (g.D.Disk.state c.first_body.new.disk).history _ (c.first_body.ensures.reading told) ready.view (c.begin_second.ensures.part told _ _ _ _ c.requires.frames ready.older ready.first)

pub returns-in-Ok-begin_second-clause-answer : goal.returns-in-Ok-begin_second-clause-answer
returns-in-Ok-begin_second-clause-answer g c told =
    let ready = subst (λ (l : List ℕ). IsReadyFor c.args.digest (length c.args.files.now) (file_at c.args.files.now) c.args.size (g.D.Disk.state c.args.disk.now).history (g.D.Disk.state c.first_body.new.disk).history l) (sym c.deref-2.ensures.value) (c.in-Ok.ensures.body told) in
    let is : IsOpenFor c.args.digest (length c.args.files.now) c.of.result = search rules in
    let gates : AreGatesOf (layout_of Two) c.deref-2.result.now (length c.args.files.now) c.of.result.gates = search rules in
    opened c.args.digest (length c.args.files.now) (file_at c.args.files.now) c.args.size (g.D.Disk.state c.args.disk.now).history (g.D.Disk.state c.first_body.new.disk).history (g.D.Disk.state c.begin_second.new.disk).history c.deref-2.result.now ready (c.in-Ok-begin_second.ensures.begun told) c.of.result is gates

-- the disk failed
pub returns-clause-safe : goal.returns-clause-safe
returns-clause-safe g c told =
    let ready = subst (λ (l : List ℕ). IsReadyFor c.args.digest (length c.args.files.now) (file_at c.args.files.now) c.args.size (g.D.Disk.state c.args.disk.now).history (g.D.Disk.state c.first_body.new.disk).history l) (sym c.deref-2.ensures.value) (c.in-Ok.ensures.body told) in
    part_along _ _ _ _ (g.D.Disk.state c.args.disk.now).history (g.D.Disk.state c.first_body.new.disk).history _ (c.first_body.ensures.reading told) ready.view (c.begin_second.ensures.part told _ _ _ _ c.requires.frames ready.older ready.first)

-- the calls: no memory was left for the ledger's gates; version 2 is in force; one of the last four calls failed
pub returns-in_default-clause-calls : goal.returns-in_default-clause-calls
returns-in_default-clause-calls g c = inr (inl (refl, (c.in-Ok.body, c.in-Ok.ensures.calls)))

pub returns-in-Ok-begin_second-clause-calls : goal.returns-in-Ok-begin_second-clause-calls
returns-in-Ok-begin_second-clause-calls g c =
    let is : IsOpenFor c.args.digest (length c.args.files.now) c.of.result = search rules in
    let judged : AreGatesOf (layout_of Two) c.deref-2.result.now (length c.args.files.now) c.of.result.gates = search rules in
    let gates = subst (λ (body : List ℕ). AreGatesOf (layout_of Two) body (length c.args.files.now) c.of.result.gates) c.deref-2.ensures.value judged in
    (c.in-Ok.body, (g.D.Disk.state c.first_body.new.disk).calls, c.in-Ok.ensures.calls, (is.digest_is, is.is_open, gates), begins_done c.deref-2.result.now c.in-Ok.body.items _ _ c.deref-2.ensures.value c.in-Ok-begin_second.ensures.calls)

pub returns-clause-calls : goal.returns-clause-calls
returns-clause-calls g c =
    inr (inr (refl, (c.in-Ok.body, (g.D.Disk.state c.first_body.new.disk).calls, c.in-Ok.ensures.calls, begins_failed c.in-Err-begin_second.field-0 c.deref-2.result.now c.in-Ok.body.items _ _ c.deref-2.ensures.value c.in-Err-begin_second.ensures.calls)))

pub returns-in-Ok-begin_second-clause-taken : goal.returns-in-Ok-begin_second-clause-taken
returns-in-Ok-begin_second-clause-taken g c told one =
    ((g.D.Disk.state c.first_body.new.disk).calls, c.in-Ok.body.items, c.in-Ok.ensures.taken told one, begins_done c.deref-2.result.now c.in-Ok.body.items _ _ c.deref-2.ensures.value c.in-Ok-begin_second.ensures.calls)
