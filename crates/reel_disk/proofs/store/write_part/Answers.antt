use Rattle.std.proofs.Common.{◌≡◌, ℕ, List, length, ◌∙◌, ap, sym}
use Rattle.std.specs.Prelude.{Option}
use Rattle.reel_disk.specs.declared.disk.Place.TheVariants.{Range}
use Rattle.reel_disk.specs.declared.store.Step.TheVariants.{Patched}
use Rattle.reel_disk.specs.Disk.{Files, History, IsWritten, with_range, view_of}
use Rattle.reel_disk.specs.Memory.{find_file, history_of}
use Rattle.reel_disk.proofs.Steps.{from_to, written, back_part, view_is}
use Rattle.reel_disk.proofs.store.write_part.Goals as goal

pub returns-clause-ok : goal.returns-clause-ok
returns-clause-ok c =
    let same = c.make_room.ensures.same in
    let files = find_file c.make_room.new.store.files in
    let place = Range c.args.id c.args.start (length c.args.bytes.now) in
    let patched = c.in_ok-before.ensures in
    let back = back_part files (find_file c.patch.new.files) c.make_room.new.store.loose.items place c.args.id c.args.start c.args.bytes.now c.in_ok-before.before patched.there patched.before patched.same in
    let view = ap (λ (f : Files). f c.args.id) (ap find_file same.0) ∙ sym (view_is (find_file c.args.store.now.files) c.args.store.now.loose.items c.args.store.now.steps.items c.args.id) in
    let content = with_range (view_of (history_of c.args.store.now) c.args.id) c.args.start c.args.bytes.now in
    let there : find_file c.patch.new.files c.args.id ≡ content = patched.there ∙ ap (λ (o : Option (List ℕ)). with_range o c.args.start c.args.bytes.now) view in
    from_to (λ (old new : History). IsWritten old new place content) _ _ _ _ _ _ _ _ _ _ _ (ap find_file same.0) same.1 same.2 c.loosen_place.ensures c.push_in_room.ensures
    (written files (find_file c.patch.new.files) c.make_room.new.store.loose.items c.make_room.new.store.steps.items place (Patched c.args.id c.args.start c.in_ok-before.before) content patched.same back there)
