use Rattle.std.proofs.Common.{◌≡◌, ◌∙◌, true, false, arith}
use Rattle.std.proofs.lemmas.Grind.{common_steps}
use Rattle.toml.specs.View.{view}
use Rattle.project_file.specs.Keys.{is_text}
use Rattle.project_file.proofs.Items.{passed, stopped}
use Rattle.project_file.proofs.cuts.all_texts.Goals as goal

pub items-preserved : goal.items-preserved
items-preserved c =
    let good : is_text (view c.item-item.result) ≡ true = grind (arith, common_steps) in
    passed is_text c.args.items.now c.items.item-index c.item-item.result c.items-test.true (grind (arith, common_steps)) good ∙ c.items.invariant

pub returns-then-not-is_str : goal.returns-then-not-is_str
returns-then-not-is_str c =
    let bad : is_text (view c.item-item.result) ≡ false = grind (arith, common_steps) in
    record { texts = stopped is_text c.args.items.now c.items.item-index c.item-item.result c.items-test.true (grind (arith, common_steps)) bad ∙ c.items.invariant }
