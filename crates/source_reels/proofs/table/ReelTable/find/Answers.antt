use Rattle.std.proofs.Common.{ℕ, ◌<◌, List, length, ap, subst, sym, ◌∙◌, Option, IfSome}
use Rattle.cf_base.specs.declared.reel.ReelEntry.{ReelEntry}
use Rattle.source_reels.specs.Reels.{reel_place}
use Rattle.source_reels.proofs.PlaceLaws.{within_table}
use Rattle.source_reels.proofs.table.ReelTable.find.Goals as goal

pub returns-clause-within : goal.returns-clause-within
returns-clause-within c =
    let name = c.args.name.now in
    let place = c.copied.ensures ∙ c.get.ensures.value ∙ c.self.invariant.2 name ∙ ap (λ (entries : List ReelEntry). reel_place entries name) c.self.view_is in
    subst (λ (place : Option ℕ). IfSome place (λ reel. reel < length c.args.self.now)) (sym place) (within_table c.args.self.now name)
