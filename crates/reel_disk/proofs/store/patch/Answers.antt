use Rattle.std.proofs.Common.{rules, ◌≡◌, ◌+◌, ◌≤◌, List, length, ℕ, sym, ◌∙◌, ap, subst}
use Rattle.std.specs.Prelude.{Option, Some}
use Rattle.reel_disk.specs.Disk.{IsInFile, with_range, overwritten}
use Rattle.reel_disk.specs.Memory.{find_file, put_back, laid_over}
use Rattle.reel_disk.proofs.LaidOver.{laid_back}
use Rattle.reel_disk.proofs.store.patch.Goals as goal

pub returns-in-Ok-clause-before : goal.returns-in-Ok-clause-before
returns-in-Ok-clause-before c =
    let old = c.in-Some.file.now.items in
    let found : find_file c.args.files.now c.args.id ≡ Some old = search rules in
    let fits : c.args.start + length c.args.bytes.now ≤ length old = subst (λ (o : Option (List ℕ)). IsInFile o c.args.start (length c.args.bytes.now)) found c.requires in
    subst (λ (o : Option (List ℕ)). put_back (with_range o c.args.start c.args.bytes.now) c.args.start c.in-Ok.before.items ≡ o) (sym found)
    (ap (λ (l : List ℕ). Some (laid_over (overwritten old c.args.start c.args.bytes.now) c.args.start l)) c.in-Ok.ensures.before ∙ ap Some (laid_back old c.args.start c.args.bytes.now fits))
