use Rattle.std.proofs.Common.{refl, sym, ◌∙◌, ap}
use Rattle.std.specs.Prelude.{List}
use Rattle.reel_disk.specs.declared.disk.Place.{Place}
use Rattle.reel_disk.specs.Memory.{find_file}
use Rattle.reel_disk.specs.inside.Memory.{is_whole_loose}
use Rattle.reel_disk.proofs.Walks.{whole_is_loose, whole_is_firm}
use Rattle.reel_disk.proofs.crash.reverted.Goals as goal

pub returns-then-whole_loose : goal.returns-then-whole_loose
returns-then-whole_loose c =
    let holds = sym (c.whole_loose.ensures ∙ ap (λ (l : List Place). is_whole_loose l c.args.id) c.deref.ensures.value) ∙ c.if-whole_loose.true in (
      λ loose. refl,
      λ firm. absurd (firm (whole_is_loose (find_file c.args.store.now.files) c.args.store.now.loose.items c.args.store.now.steps.items c.args.id holds)),
    )

pub returns : goal.returns
returns c =
    let fails = sym (c.whole_loose.ensures ∙ ap (λ (l : List Place). is_whole_loose l c.args.id) c.deref.ensures.value) ∙ c.if-whole_loose.false in (
      λ loose. absurd (whole_is_firm (find_file c.args.store.now.files) c.args.store.now.loose.items c.args.store.now.steps.items c.args.id fails loose),
      λ firm. c.in_ok-left.ensures,
    )
