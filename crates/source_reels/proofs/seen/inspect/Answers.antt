use Rattle.std.proofs.Common.{◌≡◌}
use Rattle.scan_source.proofs.Files.{told_head}
use Rattle.scan_source.specs.declared.scans.Head.TheVariants as head
use Rattle.source_reels.specs.Seen.{IsSeen}
use Rattle.source_reels.specs.declared.seen.Seen.TheVariants as seen
use Rattle.source_reels.proofs.Heads.{seen_in, follows_alike}
use Rattle.source_reels.proofs.seen.inspect.Goals as goal

pub returns-in-Found-clause-told : goal.returns-in-Found-clause-told
returns-in-Found-clause-told g c =
    told_head (g.S.Scans.state c.args.scans.now).world c.args.path.now (IsSeen c.seen_of.result) c.in-Found.len c.head.new.into c.in-Found.ensures.told
    (λ bytes. seen_in c.seen_of.result c.in-Found.len c.head.new.into bytes c.seen_of.ensures.seen)

pub returns-in-Found-clause-plan : goal.returns-in-Found-clause-plan
returns-in-Found-clause-plan g c =
    follows_alike (g.S.Scans.state c.args.scans.now).plan (g.S.Scans.state c.head.new.self).plan (head.Found c.in-Found.len ≡ head.Failed) (c.seen_of.result ≡ seen.Fault)
    (λ failed. absurd cc) (λ fault. absurd (c.seen_of.ensures.found fault)) c.in-Found.ensures.plan
