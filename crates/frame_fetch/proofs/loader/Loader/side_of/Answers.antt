use Rattle.std.proofs.Common.{◌∷◌, [], sym, subst}
use Rattle.std.specs.Prelude.{Option}
use Rattle.cf_base.specs.declared.key.Key.{Key}
use Rattle.dpx_header.specs.declared.info.FrameInfo.{FrameInfo}
use Rattle.frame_share.specs.Share.{ShareView}
use Rattle.frame_fetch.specs.Asks.{key_of_side}
use Rattle.frame_fetch.specs.Sharing.{WereTried}
use Rattle.frame_fetch.proofs.loader.Loader.side_of.Goals as goal

-- the turn changes nothing of what is told
pub returns-in-Err-clause-tried : goal.returns-in-Err-clause-tried
returns-in-Err-clause-tried g c =
    subst (λ (n : Option (Key × FrameInfo)). WereTried (key_of_side n) (g.P.Shares.log c.args.share.now) (g.P.Shares.log c.end.new.self)) (sym c.in-Some.is)
    (subst (λ (a : Option ShareView). WereTried (c.in-Some.key ∷ []) a (g.P.Shares.log c.end.new.self)) c.begin.ensures
    (subst (λ (b : Option ShareView). WereTried (c.in-Some.key ∷ []) (g.P.Shares.log c.begin.new.self) b) (sym c.end.ensures) c.in-Err.ensures.tried))
