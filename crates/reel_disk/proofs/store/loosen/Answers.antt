use Rattle.std.proofs.Common.{inr, ap}
use Rattle.reel_disk.specs.Disk.{History, IsLeftLoose}
use Rattle.reel_disk.specs.Memory.{find_file}
use Rattle.reel_disk.proofs.Steps.{from_to, left_loose}
use Rattle.reel_disk.proofs.store.loosen.Goals as goal

pub returns-then-is_ok-clause-time : goal.returns-then-is_ok-clause-time
returns-then-is_ok-clause-time c =
    let same = c.make_room.ensures.same in
    inr (from_to (λ (old new : History). IsLeftLoose old new c.args.place) _ _ _ _ _ _ _ _ _ _ _ (ap find_file same.0) same.1 same.2 c.loosen_place.ensures c.push_in_room.ensures
    (left_loose (find_file c.make_room.new.store.files) c.make_room.new.store.loose.items c.make_room.new.store.steps.items c.args.place))
