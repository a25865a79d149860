use Rattle.std.proofs.Common.{length, sym, ap, ◌∙◌, subst, arith}
use Rattle.reel_disk.specs.Disk.{view_of}
use Rattle.resume_ledger.specs.Ledger.{AreFlagsOf, IsFit, IsInForce}
use Rattle.resume_ledger.specs.declared.layout.Version.TheVariants.{Two}
use Rattle.reel_writer.specs.Reel.{frames_of}
use Rattle.reconform.specs.inside.Parts.{IsPart}
use Rattle.reconform.specs.Taken.{TakesOnly}
use Rattle.reconform.proofs.Going.{both_counted, both_passed, flags_are, is_fit}
use Rattle.reconform.proofs.adopting.adopt_opened.Goals as goal

pub returns-in-Ok-clause-answer : goal.returns-in-Ok-clause-answer
returns-in-Ok-clause-answer g c =
    let new = c.adopt_alike.new.reel in
    let of = c.acks.ensures.reel in
    let sum = of.kept in
    let kept = c.kept-kept.ensures in
    let acks = ap length c.acks.ensures.acks in
    record {
      acked = new.ledger.gates;
      exit = λ told. subst (λ d. AreFlagsOf g.N.Work.job.parts.digest (frames_of g.N.Work.job) (view_of (g.E.Disk.state d).history) new.ledger.gates) (sym c.close.ensures)
          (flags_are g.N.Work.job g.E.Disk.tells g.E.Disk.state new of c.in-Ok.ensures.adopted.stays_open told);
      fit = λ told. subst (λ d. IsFit g.N.Work.job.parts.digest (frames_of g.N.Work.job) (view_of (g.E.Disk.state d).history)) (sym c.close.ensures)
          (is_fit g.N.Work.job g.E.Disk.tells g.E.Disk.state new of c.in-Ok.ensures.adopted.stays_open told);
      exactly = c.in-Ok.ensures.adopted.served;
      kept_is = kept ∙ c.adopt_alike.ensures.adopted.stays.kept;
      adopted_is = omega (arith, sum, kept, acks);
    }

pub returns-in-Ok-clause-part : goal.returns-in-Ok-clause-part
returns-in-Ok-clause-part g c = subst (λ d. IsPart g.N.Work.job g.N.Work.files g.E.Disk.tells c.args.reel.ledger.gates (g.E.Disk.state c.args.reel.disk) (g.E.Disk.state d)) (sym c.close.ensures) c.adopt_alike.ensures.adopted.part

pub returns-in-Ok-clause-disks : goal.returns-in-Ok-clause-disks
returns-in-Ok-clause-disks g c = rw c.close.ensures (both_counted _ _ c.in-Ok.ensures.disks)

pub returns-in-Err-clause-part : goal.returns-in-Err-clause-part
returns-in-Err-clause-part g c = subst (λ d. IsPart g.N.Work.job g.N.Work.files g.E.Disk.tells c.args.reel.ledger.gates (g.E.Disk.state c.args.reel.disk) (g.E.Disk.state d)) (sym c.close-in-Err.ensures) c.adopt_alike.ensures.adopted.part

pub returns-in-Err-clause-disks : goal.returns-in-Err-clause-disks
returns-in-Err-clause-disks g c = rw c.close-in-Err.ensures (both_passed c.in-Err.fault c.in-Err.ensures.disks)

pub returns-in-Ok-clause-sealed : goal.returns-in-Ok-clause-sealed
returns-in-Ok-clause-sealed g c told =
    subst (λ d. IsInForce Two (view_of (g.E.Disk.state d).history)) (sym c.close.ensures) (c.acks.ensures.reel.agrees c.in-Ok.ensures.adopted.stays_open told).sealed

pub returns-in-Ok-clause-taken : goal.returns-in-Ok-clause-taken
returns-in-Ok-clause-taken g c =
    subst (λ d. TakesOnly g.N.Work.job g.O.Work.job c.args.view.now (g.D.Disk.state c.args.old.now).calls (g.D.Disk.state c.adopt_alike.new.old).calls (g.E.Disk.state c.args.reel.disk).calls (g.E.Disk.state d).calls) (sym c.close.ensures) c.adopt_alike.ensures.adopted.taken

pub returns-in-Err-clause-taken : goal.returns-in-Err-clause-taken
returns-in-Err-clause-taken g c =
    subst (λ d. TakesOnly g.N.Work.job g.O.Work.job c.args.view.now (g.D.Disk.state c.args.old.now).calls (g.D.Disk.state c.adopt_alike.new.old).calls (g.E.Disk.state c.args.reel.disk).calls (g.E.Disk.state d).calls) (sym c.close-in-Err.ensures) c.adopt_alike.ensures.adopted.taken
