use Rattle.std.proofs.Common.{rules, ◌≡◌, ◌+◌, ◌*◌, ◌∙◌, length, ap, arith}
use Rattle.cf_base.specs.declared.file.FileId.TheVariants.{Body2}
use Rattle.reel_disk.specs.Disk.{view_of, with_range}
use Rattle.resume_ledger.proofs.Parts.{note_safe}
use Rattle.resume_ledger.proofs.Noting.{noted_agrees, noted_record}
use Rattle.resume_ledger.proofs.ledger.Ledger.note.Goals as goal

-- it was done
pub returns-in-Ok-clause-safe : goal.returns-in-Ok-clause-safe
returns-in-Ok-clause-safe g c told =
    let at : c.gate.result + 1 ≡ 65 + 33 * c.args.i = omega (arith, c.gate.ensures) in
    let size : length c.args.hash ≡ 32 = search rules in
    note_safe _ _ _ (c.requires.agrees told) _ c.requires.within c.requires.fresh _ _ at size (c.patch_firmly.ensures.put told) (c.patch_firmly.ensures.spares told)

pub returns-in-Ok-clause-noted : goal.returns-in-Ok-clause-noted
returns-in-Ok-clause-noted g c told =
    let at : c.gate.result + 1 ≡ 65 + 33 * c.args.i = omega (arith, c.gate.ensures) in
    let size : length c.args.hash ≡ 32 = search rules in
    let firmly = c.in-Ok.ensures.firmly told in
    record {
      noted = noted_record _ _ _ (c.requires.agrees told) _ c.requires.within _ at _ size firmly;
      firm = firmly.others;
      written = firmly.there ∙ ap (λ n. with_range (view_of (g.D.Disk.state c.args.disk.now).history Body2) n c.args.hash) at;
      agrees = noted_agrees _ _ _ (c.requires.agrees told) _ c.requires.within _ at _ size firmly;
    }

-- the disk failed
pub returns-in-Err-clause-safe : goal.returns-in-Err-clause-safe
returns-in-Err-clause-safe g c told =
    let at : c.gate.result + 1 ≡ 65 + 33 * c.args.i = omega (arith, c.gate.ensures) in
    let size : length c.args.hash ≡ 32 = search rules in
    note_safe _ _ _ (c.requires.agrees told) _ c.requires.within c.requires.fresh _ _ at size (c.patch_firmly.ensures.put told) (c.patch_firmly.ensures.spares told)
