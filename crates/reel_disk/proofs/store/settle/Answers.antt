use Rattle.std.proofs.Common.{List, ◌∙◌, ap, ◌≡◌, sym, refl}
use Rattle.std.specs.Prelude.{filter, not, Vec}
use Rattle.std.specs.declared.alloc.Global.{Global}
use Rattle.cf_base.specs.FileId.{same_id}
use Rattle.reel_disk.specs.declared.disk.Place.{Place}
use Rattle.reel_disk.specs.Disk.{History, IsSynced, file_of}
use Rattle.reel_disk.specs.Memory.{find_file}
use Rattle.reel_disk.proofs.Steps.{from_to, synced}
use Rattle.reel_disk.proofs.store.settle.Goals as goal

pub returns-clause-ok : goal.returns-clause-ok
returns-clause-ok c =
    let same = c.make_room.ensures.same in
    let before = ap (λ (v : Vec Place Global). v.items) c.replace-before.ensures.value in
    let left : c.replace-before.new.dest.items ≡ filter (λ place. not (same_id (file_of place) c.args.id)) c.make_room.new.store.loose.items =
    ap (λ (v : Vec Place Global). v.items) c.replace-before.ensures.after ∙ c.in_ok-left.ensures ∙ ap (λ (l : List Place). filter (λ place. not (same_id (file_of place) c.args.id)) l) (c.deref.ensures.value ∙ sym same.1) in
    from_to (λ (old new : History). IsSynced old new c.args.id) _ _ _ _ _ _ _ _ _ _ _ (ap find_file same.0) same.1 same.2 refl c.push_in_room.ensures
    (synced (find_file c.make_room.new.store.files) c.make_room.new.store.loose.items c.replace-before.new.dest.items c.make_room.new.store.steps.items c.args.id c.replace-before.result before left)
