-- By what the two calls answer.
use Rattle.std.proofs.Common.{◌≡◌, ℕ, Bool, true, false, not, ◌&&◌, Option, is_some, refl, ap, ◌∙◌}
use Rattle.std.specs.Prelude.{Some, None, is_none}
use Rattle.source_reels.specs.Reels.{reel_place}
use Rattle.conform_job.proofs.lines.is_unknown.Goals as goal

none_is : (place : Option ℕ) (gone : Bool) → is_some place ≡ not gone → gone ≡ is_none place
none_is None true is = refl
none_is None false is = cc
none_is (Some n) true is = cc
none_is (Some n) false is = refl

pub returns-then-not-is_black : goal.returns-then-not-is_black
returns-then-not-is_black c =
    none_is c.find.result c.is_none.result c.is_none.ensures ∙ ap is_none c.find.ensures.place
    ∙ ap (λ (black : Bool). not black && is_none (reel_place c.args.table.now c.args.e.now.reel)) c.if-not-is_black.ensures

pub returns-else-not-is_black : goal.returns-else-not-is_black
returns-else-not-is_black c =
    ap not c.if-not-is_black.false ∙ ap (λ (black : Bool). not black && is_none (reel_place c.args.table.now c.args.e.now.reel)) c.if-not-is_black.ensures
