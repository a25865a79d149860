use Rattle.std.proofs.Common.{◌≡◌, List, ℕ, length, ap, ◌∙◌, sym, subst, rules}
use Rattle.frame_render.specs.Frame.{AreWordsOf, pixel_count}
use Rattle.frame_render.proofs.Filled.{decoded_is, refilled}
use Rattle.frame_render.proofs.decoded.Decoded.within.Goals as goal

pub unpack-requires-clause-room : goal.unpack-requires-clause-room
unpack-requires-clause-room g c =
    rw (c.requires.width, c.requires.height, c.requires.job) (ap length c.deref_mut.ensures.value ∙ ap length c.room.view_is ∙ c.requires.room)

pub invariant_of-result : goal.invariant_of-result
invariant_of-result g c =
    let room : length c.room.inside.words.items ≡ c.room.inside.words.len = search rules in
    let kept : length c.unpack.new.out ≡ c.room.inside.words.len = search rules in
    let same = refilled c.room.inside.words.len c.unpack.new.out c.room.inside.words.items room kept in
    let size : length c.unpack.new.out ≡ pixel_count g.N.Work.job = search rules in (
      ap length same ∙ size,
      subst (λ (words : List ℕ). AreWordsOf g.N.Work.job g.N.Work.files c.args.key words) (sym same)
          (decoded_is g.N.Work.job g.N.Work.files c.args.key c.args.info.now c.args.bytes.now c.unpack.new.out c.requires.whole c.unpack.ensures.words c.requires.file),
    )
