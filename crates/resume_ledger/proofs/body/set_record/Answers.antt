use Rattle.std.proofs.Common.{rules, ◌≡◌, ◌+◌, ◌*◌, ◌-◌, length, set, arith, ◌∙◌}
use borrow.Rule.Slice.PartMut.{put_mid}
use Rattle.resume_ledger.proofs.Records.{record_put, put_others}
use Rattle.resume_ledger.proofs.body.set_record.Goals as goal

pub returns-clause-record : goal.returns-clause-record
returns-clause-record c =
    let gap : 64 + 33 * c.args.i + 33 - (64 + 33 * c.args.i + 1) ≡ 32 = omega arith in
    let full : length c.copy_from_slice.new.self ≡ 32 = search rules in
    record_put c.args.body.now c.copy_from_slice.new.self c.args.i _ gap c.requires.within full ∙ search rules

pub returns-clause-others : goal.returns-clause-others
returns-clause-others c =
    let gap : 64 + 33 * c.args.i + 33 - (64 + 33 * c.args.i + 1) ≡ 32 = omega arith in
    let full : length c.copy_from_slice.new.self ≡ 32 = search rules in
    let size : length (put_mid (64 + 33 * c.args.i + 1) (64 + 33 * c.args.i + 33 - (64 + 33 * c.args.i + 1)) (set c.args.body.now (64 + 33 * c.args.i) 65) c.copy_from_slice.new.self) ≡ length c.args.body.now = search rules in
    put_others c.args.body.now c.copy_from_slice.new.self c.args.i _ gap c.requires.within full size
