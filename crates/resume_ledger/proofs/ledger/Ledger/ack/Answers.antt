use Rattle.std.proofs.Common.{◌∷◌, [], ◌∙◌, ap, set, true, sym, subst}
use Rattle.cf_base.specs.declared.file.FileId.TheVariants.{Body2}
use Rattle.reel_disk.specs.Disk.{moment_of, view_of, with_range}
use Rattle.resume_ledger.specs.Ledger.{LedgerState, Agrees}
use Rattle.resume_ledger.proofs.Parts.{ack_safe}
use Rattle.resume_ledger.proofs.Noting.{acked_agrees, acked_then}
use Rattle.resume_ledger.proofs.ledger.Ledger.ack.Goals as goal

-- it was done
pub returns-in-Ok-clause-safe : goal.returns-in-Ok-clause-safe
returns-in-Ok-clause-safe g c told = ack_safe _ _ _ (c.requires.agrees told) _ c.requires.within c.requires.fresh _ c.gate-at.ensures (c.patch_firmly.ensures.put told) (c.patch_firmly.ensures.spares told)

pub returns-in-Ok-clause-acked : goal.returns-in-Ok-clause-acked
returns-in-Ok-clause-acked g c told =
    let firmly = c.in-Ok.ensures.firmly told in
    record {
      acked = acked_then _ _ _ (c.requires.agrees told) _ c.requires.within _ c.gate-at.ensures firmly;
      written = firmly.there ∙ ap (λ n. with_range (view_of (g.D.Disk.state c.args.disk.now).history Body2) n (65 ∷ [])) c.gate-at.ensures;
      agrees = subst (λ (l : LedgerState). Agrees (moment_of (g.D.Disk.state c.patch_firmly.new.disk).history) (record l { gates = set l.gates c.args.i true })) (sym c.self.view_is)
          (acked_agrees _ _ _ (c.requires.agrees told) _ c.requires.within _ c.gate-at.ensures firmly);
    }

-- the disk failed
pub returns-in-Err-clause-safe : goal.returns-in-Err-clause-safe
returns-in-Err-clause-safe g c told = ack_safe _ _ _ (c.requires.agrees told) _ c.requires.within c.requires.fresh _ c.gate-at.ensures (c.patch_firmly.ensures.put told) (c.patch_firmly.ensures.spares told)
