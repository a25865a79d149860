use Rattle.std.proofs.Common.{inl, inr, List, ℕ, sym, ◌∙◌, ap, subst}
use Rattle.std.specs.Prelude.{Option, Vec}
use Rattle.std.specs.declared.alloc.Global.{Global}
use Rattle.cf_base.specs.declared.file.FileId.{FileId}
use Rattle.cf_base.specs.FileId.{decide_id}
use Rattle.reel_disk.specs.Disk.{view_of}
use Rattle.reel_disk.specs.Crash.{IsPicked}
use Rattle.reel_disk.specs.Memory.{history_of, find_file}
use Rattle.reel_disk.specs.inside.Memory.{find_in}
use Rattle.reel_disk.proofs.Entries.{find_later}
use Rattle.reel_disk.proofs.crash.files_left.Goals as goal

pub loop-id-preserved : goal.loop-id-preserved
loop-id-preserved c q = elim (decide_id q c.in-Some.id.now) [
  | inl here ↦ inl (subst (λ (x : FileId). Picked x (find_file c.put_left.new.files x)) (sym here) (elim c.in_ok-put_left.ensures.there [
    | inl there ↦ subst (Picked c.in-Some.id.now) (sym there) c.in_ok-left.ensures
    | inr kept ↦ subst (Picked c.in-Some.id.now) (sym kept.1) (elim (c.loop-id.invariant c.in-Some.id.now) [
      | inl picked ↦ picked
      | inr unreached ↦ subst (Picked c.in-Some.id.now) (kept.0 ∙ sym unreached.0) c.in_ok-left.ensures
    ])
  ]))
  | inr other ↦
      let same = c.in_ok-put_left.ensures.same q other in
      elim (c.loop-id.invariant q) [
        | inl picked ↦ inl (subst (Picked q) (sym same) picked)
        | inr unreached ↦ inr (
          same ∙ unreached.0,
          sym (find_later (c.in-Some.id.now, c.in-Some.field-0-1.now) c.next.new.self q other) ∙ ap (λ (l : List (FileId × Vec ℕ Global)). find_in l q) (sym c.in-Some.ensures.steps) ∙ unreached.1,
        )
      ]
]
  where
    Picked : FileId → Option (List ℕ) → Type 0
    Picked x = IsPicked c.args.pick (history_of c.args.store.now) x (view_of (history_of c.args.store.now) x)
