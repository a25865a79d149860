use Rattle.std.proofs.Common.{◌≡◌, ◌∙◌, ap, sym, refl, Ok, None, codes}
use Rattle.std.specs.Option.{option_map}
use Rattle.toml.specs.Data.{get_member}
use Rattle.toml.specs.View.{table_view, view}
use Rattle.project_file.specs.Projects.{usual_black}
use Rattle.project_file.proofs.RgbLaws.{same_rgb}
use Rattle.project_file.proofs.settings.black_in.Goals as goal

pub returns-in_default : goal.returns-in_default
returns-in_default c =
    let absent : get_member (codes "black") (table_view c.args.table.now) ≡ None = sym c.member.ensures.found ∙ ap (option_map (λ v. view v.now)) c.in_default.is in
    record { black = ap Ok (same_rgb _ usual_black refl refl refl) ∙ rw absent refl }
