use Rattle.std.proofs.Common.{◌≡◌, drop}
use Rattle.toml.specs.View.{items_view}
use Rattle.project_file.specs.Keys.{all_items, is_text}
use Rattle.project_file.proofs.cuts.all_texts.Given as goal

abbrev pub invariant-items : goal.invariant-items
invariant-items l = all_items is_text (items_view (drop l.item-index l.items)) ≡ all_items is_text (items_view l.items)
