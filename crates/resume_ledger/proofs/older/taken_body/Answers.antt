use Rattle.std.proofs.Common.{rules, refl, ◌≡◌, ◌∙◌, ap, sym, subst, length, Bool, List, take, drop, ◌++◌, inl, inr, ℕ}
use Rattle.std.proofs.lemmas.List.{take_at}
use Rattle.resume_ledger.specs.Body.{closed_body}
use Rattle.resume_ledger.specs.OpeningCalls.{TakesFrames, FailsFrames}
use Rattle.reel_disk.proofs.Leaving.{disk_as, disk_done, disk_then}
use Rattle.resume_ledger.specs.inside.Steps.{IsReadyFor, IsAckedFirmly}
use Rattle.resume_ledger.specs.Sound.{file_at}
use Rattle.resume_ledger.proofs.Bodies.{closed_shut}
use Rattle.resume_ledger.proofs.Reading.{reading_along, still_reading}
use Rattle.resume_ledger.proofs.Taking.{taken_ready}
use Rattle.resume_ledger.proofs.older.taken_body.Goals as goal

pub record_all-requires-clause-closed : goal.record_all-requires-clause-closed
record_all-requires-clause-closed g c =
    let long : length c.args.digest ≡ 32 = search rules in
    closed_shut c.args.digest (length c.args.files.now) long c.deref_mut-2.result.now (c.deref_mut-2.ensures.value ∙ c.requires.closed)

-- the frames are recorded
pub returns-in-Ok-record_all-clause-reading : goal.returns-in-Ok-record_all-clause-reading
returns-in-Ok-record_all-clause-reading g c told = reading_along _ _ _ (c.acked_before.ensures.reading told) (still_reading _ _ (c.record_all.ensures.reads.still told))

pub returns-in-Ok-record_all-clause-body : goal.returns-in-Ok-record_all-clause-body
returns-in-Ok-record_all-clause-body g c told =
    let long : length c.args.digest ≡ 32 = search rules in
    let size : length c.record_all.new.body ≡ length c.args.body.items = c.record_all.ensures.size ∙ ap length c.deref_mut-2.ensures.value in
    let full : length c.record_all.new.body ≡ c.args.body.len = size ∙ search rules in
    let same : take c.args.body.len (c.record_all.new.body ++ drop (length c.record_all.new.body) c.args.body.items) ≡ c.record_all.new.body =
    take_at c.record_all.new.body (drop (length c.record_all.new.body) c.args.body.items) c.args.body.len full in
    subst (IsReadyFor c.args.digest (length c.args.files.now) (file_at c.args.files.now) c.args.size (g.D.Disk.state c.args.disk.now).history (g.D.Disk.state c.record_all.new.disk).history) (sym same)
    (taken_ready c.args.digest (length c.args.files.now) (file_at c.args.files.now) c.args.size (g.D.Disk.state c.args.disk.now).history long c.requires.most (g.D.Disk.state c.acked_before.new.disk).history (g.D.Disk.state c.record_all.new.disk).history
    (c.requires.sealed told) (c.requires.firm told) (c.requires.firm_first told) c.deref.result.now (subst (λ (l : List Bool). IsAckedFirmly c.args.digest (length c.args.files.now) (g.D.Disk.state c.args.disk.now).history (g.D.Disk.state c.acked_before.new.disk).history l) (sym c.deref.ensures.value) (c.in-Ok.ensures.acked told)) (c.record_all.ensures.reads.still told)
    c.record_all.new.body c.deref_mut-2.result.now (c.deref_mut-2.ensures.value ∙ c.requires.closed) c.record_all.ensures.size (c.in-Ok-record_all.ensures.recorded told))

pub returns-in-Ok-record_all-clause-disk : goal.returns-in-Ok-record_all-clause-disk
returns-in-Ok-record_all-clause-disk g c = disk_then (λ is. cc) c.in-Ok.ensures.disk (disk_done (λ is. cc) (λ is. cc) c.in-Ok-record_all.ensures.disk)

-- the disk failed
pub returns-clause-reading : goal.returns-clause-reading
returns-clause-reading g c told = reading_along _ _ _ (c.acked_before.ensures.reading told) (still_reading _ _ (c.record_all.ensures.reads.still told))

pub returns-clause-disk : goal.returns-clause-disk
returns-clause-disk g c = disk_then (λ is. cc) c.in-Ok.ensures.disk (disk_as (λ _. refl) (λ _. refl) c.in-Err-record_all.ensures.disk)

pub returns-in-Ok-record_all-clause-known : goal.returns-in-Ok-record_all-clause-known
returns-in-Ok-record_all-clause-known g c =
    let size : length c.record_all.new.body ≡ length c.args.body.items = c.record_all.ensures.size ∙ ap length c.deref_mut-2.ensures.value in
    let full : length c.record_all.new.body ≡ c.args.body.len = size ∙ search rules in
    ap length (take_at c.record_all.new.body (drop (length c.record_all.new.body) c.args.body.items) c.args.body.len full) ∙ size ∙ c.requires.size

-- the bodies that were judged, begun with and made are those that were read, closed and recorded
pub returns-in-Ok-record_all-clause-calls : goal.returns-in-Ok-record_all-clause-calls
returns-in-Ok-record_all-clause-calls g c =
    let size : length c.record_all.new.body ≡ length c.args.body.items = c.record_all.ensures.size ∙ ap length c.deref_mut-2.ensures.value in
    let full : length c.record_all.new.body ≡ c.args.body.len = size ∙ search rules in
    let same : take c.args.body.len (c.record_all.new.body ++ drop (length c.record_all.new.body) c.args.body.items) ≡ c.record_all.new.body =
    take_at c.record_all.new.body (drop (length c.record_all.new.body) c.args.body.items) c.args.body.len full in
    let Taken : List Bool → List ℕ → List ℕ → Type 0 = λ gates before after.
    TakesFrames gates (file_at c.args.files.now) c.args.size (length c.args.files.now) before after (g.D.Disk.state c.acked_before.new.disk).calls (g.D.Disk.state c.record_all.new.disk).calls in
    let gates = subst (λ l. Taken l c.deref_mut-2.result.now c.record_all.new.body) c.deref.ensures.value c.in-Ok-record_all.ensures.calls in
    let closed = subst (λ l. Taken c.in-Ok.gates.items l c.record_all.new.body) (c.deref_mut-2.ensures.value ∙ c.requires.closed) gates in
    (c.in-Ok.gates, (g.D.Disk.state c.acked_before.new.disk).calls, c.in-Ok.ensures.calls, subst (Taken c.in-Ok.gates.items (closed_body c.args.digest (length c.args.files.now))) (sym same) closed)

pub returns-clause-calls : goal.returns-clause-calls
returns-clause-calls g c =
    let Failed : List Bool → List ℕ → Type 0 = λ gates before.
    FailsFrames gates (file_at c.args.files.now) c.args.size (length c.args.files.now) before (g.D.Disk.state c.acked_before.new.disk).calls (g.D.Disk.state c.record_all.new.disk).calls in
    let gates = subst (λ l. Failed l c.deref_mut-2.result.now) c.deref.ensures.value c.in-Err-record_all.ensures.failed in
    let closed = subst (Failed c.in-Ok.gates.items) (c.deref_mut-2.ensures.value ∙ c.requires.closed) gates in
    inr (c.in-Ok.gates, (g.D.Disk.state c.acked_before.new.disk).calls, c.in-Ok.ensures.calls, inr (refl, closed))

-- no memory was left
pub returns-in_default-clause-calls : goal.returns-in_default-clause-calls
returns-in_default-clause-calls g c = inr (c.in-Ok.gates, (g.D.Disk.state c.acked_before.new.disk).calls, c.in-Ok.ensures.calls, inl (refl, refl))
