use Rattle.std.proofs.Common.{◌≡◌, ◌∙◌, ap, rules}
use Rattle.std.specs.Prelude.{Some}
use Rattle.reel_disk.specs.declared.disk.Place.TheVariants.{Whole}
use Rattle.reel_disk.specs.declared.store.Step.TheVariants.{Wrote}
use Rattle.reel_disk.specs.Disk.{History, IsWritten}
use Rattle.reel_disk.specs.Memory.{find_file}
use Rattle.reel_disk.proofs.Steps.{from_to, written, back_whole}
use Rattle.reel_disk.proofs.store.write_file.Goals as goal

pub returns-clause-ok : goal.returns-clause-ok
returns-clause-ok c =
    let same = c.make_room.ensures.same in
    let copied : c.in_ok-copy.copy.items ≡ c.args.bytes.now = search rules in
    let files = find_file c.make_room.new.store.files in
    let there = c.in_ok-before.ensures in
    let back = back_whole files (find_file c.put.new.files) c.make_room.new.store.loose.items (Whole c.args.id) c.args.id c.in_ok-before.before there.before there.same in
    from_to (λ (old new : History). IsWritten old new (Whole c.args.id) (Some c.args.bytes.now)) _ _ _ _ _ _ _ _ _ _ _ (ap find_file same.0) same.1 same.2 c.loosen_place.ensures c.push_in_room.ensures
    (written files (find_file c.put.new.files) c.make_room.new.store.loose.items c.make_room.new.store.steps.items (Whole c.args.id) (Wrote c.args.id c.in_ok-before.before) (Some c.args.bytes.now) there.same back (there.there ∙ ap Some copied))
