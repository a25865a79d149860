use Rattle.std.proofs.Common.{◌++◌, List, ℕ, ap, ◌∙◌}
use Rattle.dpx_header.specs.Writing.{header_of}
use Rattle.demo.specs.Pictures.{source_file, picture}
use Rattle.demo.proofs.picture.source_file.Goals as goal

pub returns : goal.returns
unfolding source_file
returns c =
    c.in_ok-put_picture.ensures
    ∙ ap (λ (l : List ℕ). l ++ picture c.args.reel c.args.frame) (
    c.in_ok-extend_from_slice.ensures.items
    ∙ ap (λ (l : List ℕ). l ++ c.write_header.new.into) c.in_ok-file.ensures.items
    ∙ c.write_header.ensures.header
    ∙ ap header_of c.source_head.ensures.head
    )
