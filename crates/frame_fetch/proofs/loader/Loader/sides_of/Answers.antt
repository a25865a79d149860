use Rattle.std.proofs.Common.{rules, sym, ◌∙◌, ap, subst}
use Rattle.conform_job.specs.Job.{JobData, need_at}
use Rattle.conform_job.specs.declared.need.Need.{Need}
use Rattle.frame_fetch.specs.Asks.{key_of_side, keys_of_need}
use Rattle.frame_fetch.specs.Sharing.{WereAsked, WereTried}
use Rattle.frame_fetch.proofs.Asking.{IsKnown, known_at}
use Rattle.frame_fetch.proofs.Shared.{fetched_second}
use Rattle.frame_fetch.proofs.Tellings.{told_asked, told_more, told_tried}
use Rattle.frame_fetch.proofs.loader.Loader.sides_of.Goals as goal

pub side_of-requires-clause-known : goal.side_of-requires-clause-known
side_of-requires-clause-known g c =
    subst (λ (n : Need). IsKnown g.N.Work.job.infos n.old) (sym (c.need-need.ensures.need ∙ ap (λ (j : JobData). need_at j c.args.i) c.requires.ready.named)) (known_at g.N.Work.job c.args.i).0

pub side_of-requires-2-clause-known : goal.side_of-requires-2-clause-known
side_of-requires-2-clause-known g c =
    subst (λ (n : Need). IsKnown g.N.Work.job.infos n.new) (sym (c.need-need.ensures.need ∙ ap (λ (j : JobData). need_at j c.args.i) c.requires.ready.named)) (known_at g.N.Work.job c.args.i).1

pub returns-in-Err-clause-tried : goal.returns-in-Err-clause-tried
returns-in-Err-clause-tried g c =
    subst (λ (n : Need). WereTried (keys_of_need n) (g.P.Shares.log c.args.share.now) (g.P.Shares.log c.side_of.new.share)) (c.need-need.ensures.need ∙ ap (λ (j : JobData). need_at j c.args.i) c.requires.ready.named)
    (told_more (key_of_side c.need-need.result.old) (key_of_side c.need-need.result.new) _ _ c.in-Err.ensures.tried)

pub returns-in-Err-side_of-clause-tried : goal.returns-in-Err-side_of-clause-tried
returns-in-Err-side_of-clause-tried g c =
    subst (λ (n : Need). WereTried (keys_of_need n) (g.P.Shares.log c.args.share.now) (g.P.Shares.log c.side_of-2.new.share)) (c.need-need.ensures.need ∙ ap (λ (j : JobData). need_at j c.args.i) c.requires.ready.named)
    (told_tried (key_of_side c.need-need.result.old) (key_of_side c.need-need.result.new) _ (g.P.Shares.log c.side_of.new.share) _ c.in-Ok.ensures.asked c.in-Err-side_of.ensures.tried)

pub returns-in-Err-side_of-clause-loaded : goal.returns-in-Err-side_of-clause-loaded
returns-in-Err-side_of-clause-loaded g c = fetched_second _ _ _ _ _ _ _ _ _ _ c.in-Ok.ensures.loaded _ c.in-Err-side_of.ensures.loaded

pub returns-clause-asked : goal.returns-clause-asked
returns-clause-asked g c =
    subst (λ (n : Need). WereAsked (keys_of_need n) (g.P.Shares.log c.args.share.now) (g.P.Shares.log c.side_of-2.new.share)) (c.need-need.ensures.need ∙ ap (λ (j : JobData). need_at j c.args.i) c.requires.ready.named)
    (told_asked (key_of_side c.need-need.result.old) (key_of_side c.need-need.result.new) _ (g.P.Shares.log c.side_of.new.share) _ c.in-Ok.ensures.asked c.in-Ok-side_of.ensures.asked)

pub returns-clause-sides : goal.returns-clause-sides
returns-clause-sides g c = record { index = c.requires.index; old_key = search rules; new_key = search rules }
