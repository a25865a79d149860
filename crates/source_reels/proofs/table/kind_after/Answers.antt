use Rattle.std.proofs.Common.{true, false, sym, refl, ◌∙◌}
use Rattle.source_reels.specs.Reels.{is_past_end}
use Rattle.source_reels.proofs.PlaceLaws.{kind_by}
use Rattle.source_reels.proofs.table.kind_after.Goals as goal

pub returns-then-contains_key : goal.returns-then-contains_key
returns-then-contains_key c before has = kind_by before c.args.places.now c.args.e.now true (is_past_end c.args.e.now) has (sym c.if-contains_key.true ∙ c.contains_key.ensures) refl

pub returns-then-is_past_end : goal.returns-then-is_past_end
returns-then-is_past_end c before has =
    kind_by before c.args.places.now c.args.e.now false true has (sym c.if-contains_key.false ∙ c.contains_key.ensures) (sym c.if-is_past_end.true ∙ c.is_past_end.ensures)

pub returns : goal.returns
returns c before has =
    kind_by before c.args.places.now c.args.e.now false false has (sym c.if-contains_key.false ∙ c.contains_key.ensures) (sym c.if-is_past_end.false ∙ c.is_past_end.ensures)
