-- What is wrong with the mode is told before the start is looked at.
use Rattle.std.proofs.Common.{◌≡◌, Err, sym, ◌∙◌, rules}
use Rattle.std.specs.Prelude.{codes}
use Rattle.cf_base.specs.declared.timing.Mode.TheVariants.{NonDrop}
use Rattle.toml.specs.Data.{get_member}
use Rattle.toml.specs.View.{table_view}
use Rattle.project_file.specs.Keys.{optional}
use Rattle.project_file.specs.Projects.{mode_at}
use Rattle.project_file.proofs.reels.reel_of.Goals as goal

pub returns-in_err-mode-clause-reel : goal.returns-in_err-mode-clause-reel
returns-in_err-mode-clause-reel c =
    let refused : optional NonDrop (mode_at c.args.reel c.args.rate) (get_member (codes "drop") (table_view c.args.table.now)) ≡ Err c.in_err-mode.field-0.0 = sym c.mode_in.ensures.mode ∙ c.in_err-mode.was in
    search rules
