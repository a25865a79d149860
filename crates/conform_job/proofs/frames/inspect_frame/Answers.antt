use Rattle.std.proofs.Common.{◌≡◌, None, length, sym, ◌∙◌, ap, is_some, rules}
use Rattle.conform_job.proofs.Asking.{seen_told, on_both, none_by}
use Rattle.conform_job.proofs.Heads.{heads_same, heads_one}
use Rattle.conform_job.proofs.Growing.{grown_set}
use Rattle.conform_job.specs.Keys.{info_at}
use Rattle.conform_job.proofs.Ending.{ended_key, ended_memory, ended_none, ended_one, named_missing, named_same, second_ended}
use Rattle.conform_job.proofs.frames.inspect_frame.Goals as goal
use Rattle.conform_job.proofs.frames.inspect_frame.Given as given

pub returns-then-is_some-clause-told : goal.returns-then-is_some-clause-told
returns-then-is_some-clause-told g c = seen_told c.args.parts.now (g.S.Scans.state c.args.scans.now).world c.args.ask c.named_of-named.result c.in-Some.key c.args.infos.now
    (ap is_some (sym c.get.ensures) ∙ sym c.is_some.ensures ∙ c.if-is_some.true) c.named_of-named.ensures (sym c.in-Some.is ∙ c.key_of.ensures.key) c.requires.each

pub returns-then-is_some-clause-heads : goal.returns-then-is_some-clause-heads
returns-then-is_some-clause-heads g c = heads_same (length c.args.infos.now) (g.S.Scans.state c.args.scans.now).heads

new : (g : given.Over) (c : goal.After-keep g) → info_at c.args.infos.now c.in-Some.key ≡ None
new g c = none_by (info_at c.args.infos.now c.in-Some.key) (ap is_some (sym c.get.ensures) ∙ sym c.is_some.ensures ∙ c.if-is_some.false)

pub returns-in-Ok-clause-grows : goal.returns-in-Ok-clause-grows
returns-in-Ok-clause-grows g c = on_both c.keep.result _ _ _
    (λ set once. grown_set c.args.parts.now (g.S.Scans.state c.args.scans.now).world c.args.ask c.in-Some.key c.args.infos.now c.keep.new.infos c.in-Ok.info (sym c.key_of.ensures.key ∙ c.in-Some.is) set c.in-Ok.ensures.info c.requires.each (once (new g c)))
    c.keep.ensures.set c.keep.ensures.once

pub returns-in-Ok-clause-heads : goal.returns-in-Ok-clause-heads
returns-in-Ok-clause-heads g c = on_both c.keep.result _ _ _
    (λ len set. heads_one (length c.args.infos.now) (length c.keep.new.infos) (g.S.Scans.state c.args.scans.now).heads (g.S.Scans.state c.inspect_key.new.scans).heads (len (new g c)) c.in-Ok.ensures.heads)
    c.keep.ensures.len c.keep.ensures.set

pub returns-in_default-clause-end : goal.returns-in_default-clause-end
returns-in_default-clause-end g c =
    ended_one c.args.parts.now (g.S.Scans.state c.args.scans.now).world c.args.ask c.args.infos.now (g.S.Scans.state c.args.scans.now).heads _ _ c.requires.each
    (ended_none c.args.parts.now (g.S.Scans.state c.args.scans.now).world c.args.ask (g.S.Scans.state c.args.scans.now).heads (sym c.in_default.is ∙ c.key_of.ensures.key))
    (named_missing c.args.parts.now (g.S.Scans.state c.args.scans.now).world c.args.ask c.named_of-named.result _ c.named_of-named.ensures c.missing.ensures) (search rules)

pub returns-in-Err-clause-end : goal.returns-in-Err-clause-end
returns-in-Err-clause-end g c =
    ended_one c.args.parts.now (g.S.Scans.state c.args.scans.now).world c.args.ask c.args.infos.now (g.S.Scans.state c.args.scans.now).heads _ _ c.requires.each
    (ended_key c.args.parts.now (g.S.Scans.state c.args.scans.now).world c.args.ask c.in-Some.key _ _ (sym c.in-Some.is ∙ c.key_of.ensures.key) c.inspect_key.ensures.asked)
    (named_same c.args.parts.now (g.S.Scans.state c.args.scans.now).world c.args.ask c.named_of-named.result _ c.named_of-named.ensures c.in-Err.ensures.names) (search rules)

pub returns-in-Ok-clause-end : goal.returns-in-Ok-clause-end
returns-in-Ok-clause-end g c =
    second_ended c.keep.result _ _
    (λ why is. ended_memory c.args.parts.now (g.S.Scans.state c.args.scans.now).world c.args.ask c.args.infos.now (g.S.Scans.state c.args.scans.now).heads _ why c.requires.each
    (ended_key c.args.parts.now (g.S.Scans.state c.args.scans.now).world c.args.ask c.in-Some.key _ _ (sym c.in-Some.is ∙ c.key_of.ensures.key) c.inspect_key.ensures.asked) is)
    c.keep.ensures.err
