use Rattle.std.proofs.Common.{rules, ◌∙◌}
use Rattle.toml.specs.View.{view}
use Rattle.project_file.specs.Projects.{code_at}
use Rattle.project_file.proofs.Projects.{not_three}
use Rattle.project_file.proofs.RgbLaws.{rgb_is, of_three}
use Rattle.project_file.proofs.settings.rgb_of.Goals as goal

pub returns-then-items-ne3 : goal.returns-then-items-ne3
returns-then-items-ne3 c = record { color = not_three c.args.items.now (search rules) }

pub returns : goal.returns
returns c =
    let r = c.index-items-0 in
    let g = c.index-items-1 in
    let b = c.index-items-2 in
    record {
      color = rgb_is (code_at (view r.result)) (code_at (view g.result)) (code_at (view b.result)) _
          (c.code_at.ensures.code ∙ c.in-Some.is) (c.code_at-2.ensures.code ∙ c.in-Some-code_at.is) (c.code_at-3.ensures.code ∙ c.in-Some-code_at-2.is)
          ∙ of_three c.args.items.now r.result g.result b.result (search rules) r.is g.is b.is;
    }
