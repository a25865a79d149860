-- A file that isn't read ahead is read piece by piece.
use Rattle.std.proofs.Common.{◌≡◌, inl, ◌∙◌, subst}
use Rattle.std.proofs.lemmas.Result.{IfOk-weaker}
use Rattle.resume_ledger.specs.OpeningCalls.{Digests}
use Rattle.reel_writer.specs.Damage.{IsRecordedFile}
use Rattle.reel_writer.specs.Reads.{WasHashed}
use Rattle.reel_writer.specs.inside.Ahead.{IsOnceTaken}
use Rattle.reel_writer.proofs.Once.{passed_once}
use Rattle.reel_writer.proofs.ReadCalls.{digested_made, made_along, made_wider, was_now}
use Rattle.reel_writer.proofs.Rooms.{all_still}
use Rattle.reel_writer.proofs.damage.digest_of.Goals as goal

pub returns-in-Ok-None-clause-hashed : goal.returns-in-Ok-None-clause-hashed
returns-in-Ok-None-clause-hashed g c =
    let new = (g.D.Disk.state c.digest_of_file.new.disk).calls in
    IfOk-weaker c.digest_of_file.result _ _ (λ digest made. subst (λ q. WasHashed q digest new) c.file_of.ensures (inl (was_now (Digests c.file_of.result digest) _ new made))) c.digest_of_file.ensures.calls

pub returns-in-Ok-None-clause-on : goal.returns-in-Ok-None-clause-on
returns-in-Ok-None-clause-on g c =
    let file = c.file_of.result in
    made_along (IsRecordedFile c.args.job.now c.args.view.now) _ _ _ c.digest_of.ensures.on
    (made_wider (λ q. q ≡ file) (IsRecordedFile c.args.job.now c.args.view.now) (λ q is. (c.args.i, c.requires.recorded, is ∙ c.file_of.ensures)) _ _
    (digested_made file c.digest_of_file.result _ _ c.digest_of_file.ensures.calls c.digest_of_file.ensures.failed))

pub returns-in-Ok-None-clause-ahead : goal.returns-in-Ok-None-clause-ahead
returns-in-Ok-None-clause-ahead g c =
    let file = c.file_of.result in
    IfOk-weaker c.digest_of_file.result _ _ (λ digest made.
    all_still c.args.job.now g.D.Disk.tells (λ q. q ≡ file) _ _ c.digest_of_file.ensures.reads (digested_made file c.digest_of_file.result _ _ c.digest_of_file.ensures.calls c.digest_of_file.ensures.failed)
    _ c.in-Ok-None.ensures.rooms) c.digest_of_file.ensures.calls

-- no file was read twice
pub returns-in-Ok-Some-clause-once : goal.returns-in-Ok-Some-clause-once
returns-in-Ok-Some-clause-once g c before sofar =
    subst (IsOnceTaken c.args.job.now c.args.i c.digest_of.new.self.next before (g.D.Disk.state c.digest_of.new.disk).calls c.digest_of.new.self.rooms.items)
    c.in-Ok-Some.field-0-is (c.in-Ok-Some.ensures.once before sofar)

pub returns-in-Ok-None-clause-once : goal.returns-in-Ok-None-clause-once
returns-in-Ok-None-clause-once g c before sofar =
    let taken = subst (IsOnceTaken c.args.job.now c.args.i c.digest_of.new.self.next before (g.D.Disk.state c.digest_of.new.disk).calls c.digest_of.new.self.rooms.items)
    c.in-Ok-None.field-0-is (c.in-Ok-None.ensures.once before sofar) in
    passed_once c.args.job.now c.args.i c.digest_of.new.self.next before c.digest_of.new.self.rooms.items (g.D.Disk.state c.digest_of.new.disk).calls taken.0 taken.1
    c.file_of.result c.file_of.ensures c.digest_of_file.result (g.D.Disk.state c.digest_of_file.new.disk).calls c.digest_of_file.ensures.calls c.digest_of_file.ensures.failed
