-- The first bytes are the header's, and the others stay.
use Rattle.std.proofs.Common.{◌≡◌, length, length-append, length-drop, drop, sym, ap, ◌∙◌, arith}
use Rattle.std.proofs.lemmas.List.{drop_at, length-take-le, take-append-le, take_all}
use Rattle.dpx_header.specs.Writing.{header_of}
use Rattle.frame_render.proofs.file.put_header.Goals as goal

pub copy_from_slice-requires : goal.copy_from_slice-requires
copy_from_slice-requires c = length-take-le 2048 c.args.out.now c.requires.room ∙ sym c.write_header.array_long

pub returns-clause-header : goal.returns-clause-header
returns-clause-header c =
    let is = c.copy_from_slice.ensures.after in
    let long : length c.copy_from_slice.new.self ≡ 2048 = ap length is ∙ c.write_header.array_long in
    take-append-le 2048 c.copy_from_slice.new.self (drop 2048 c.args.out.now) (omega (arith, long))
    ∙ take_all 2048 c.copy_from_slice.new.self (omega (arith, long))
    ∙ is
    ∙ c.write_header.ensures.header
    ∙ ap header_of c.out_head.ensures.head

pub returns-clause-behind : goal.returns-clause-behind
returns-clause-behind c =
    drop_at c.copy_from_slice.new.self (drop 2048 c.args.out.now) 2048 (ap length c.copy_from_slice.ensures.after ∙ c.write_header.array_long)

pub returns-clause-size : goal.returns-clause-size
returns-clause-size c =
    let long : length c.copy_from_slice.new.self ≡ 2048 = ap length c.copy_from_slice.ensures.after ∙ c.write_header.array_long in
    let room = c.requires.room in
    omega (arith, long, room, length-append c.copy_from_slice.new.self (drop 2048 c.args.out.now), length-drop 2048 c.args.out.now)
