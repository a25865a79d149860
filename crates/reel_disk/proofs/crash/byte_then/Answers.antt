use Rattle.std.proofs.Common.{ℕ, List, sym, ◌∙◌, ap}
use Rattle.std.specs.Prelude.{Option}
use Rattle.reel_disk.specs.declared.store.Step.{Step}
use Rattle.reel_disk.specs.Memory.{view_before, put_back}
use Rattle.reel_disk.specs.inside.Memory.{byte_of}
use Rattle.reel_disk.proofs.Steps.{wrote_here, wrote_elsewhere, patched_here, patched_elsewhere}
use Rattle.reel_disk.proofs.crash.byte_then.Goals as goal

pub returns-then-is_same_file : goal.returns-then-is_same_file
returns-then-is_same_file c files is =
    c.byte_in.ensures ∙ ap (λ (o : Option (List ℕ)). byte_of o c.args.k) (sym (wrote_here c.in-Wrote.file c.args.id c.in-Wrote.before files (sym c.is_same_file.ensures ∙ c.if-is_same_file.true)))
    ∙ ap (λ (s : Step). byte_of (view_before s files c.args.id) c.args.k) (sym c.in-Wrote.is)

pub returns-else-is_same_file : goal.returns-else-is_same_file
returns-else-is_same_file c files is =
    is ∙ ap (λ (o : Option (List ℕ)). byte_of o c.args.k) (sym (wrote_elsewhere c.in-Wrote.file c.args.id c.in-Wrote.before files (sym c.is_same_file.ensures ∙ c.if-is_same_file.false)))
    ∙ ap (λ (s : Step). byte_of (view_before s files c.args.id) c.args.k) (sym c.in-Wrote.is)

pub returns-then-is_same_file-2 : goal.returns-then-is_same_file-2
returns-then-is_same_file-2 c files is =
    c.byte_under.ensures (files c.args.id) is
    ∙ ap (λ (l : List ℕ). byte_of (put_back (files c.args.id) c.in-Patched.start l) c.args.k) c.deref.ensures.value
    ∙ ap (λ (o : Option (List ℕ)). byte_of o c.args.k) (sym (patched_here c.in-Patched.file c.args.id c.in-Patched.start c.in-Patched.before files (sym c.is_same_file-in-Patched.ensures ∙ c.if-is_same_file-2.true)))
    ∙ ap (λ (s : Step). byte_of (view_before s files c.args.id) c.args.k) (sym c.in-Patched.is)

pub returns-else-is_same_file-2 : goal.returns-else-is_same_file-2
returns-else-is_same_file-2 c files is =
    is ∙ ap (λ (o : Option (List ℕ)). byte_of o c.args.k) (sym (patched_elsewhere c.in-Patched.file c.args.id c.in-Patched.start c.in-Patched.before files (sym c.is_same_file-in-Patched.ensures ∙ c.if-is_same_file-2.false)))
    ∙ ap (λ (s : Step). byte_of (view_before s files c.args.id) c.args.k) (sym c.in-Patched.is)
