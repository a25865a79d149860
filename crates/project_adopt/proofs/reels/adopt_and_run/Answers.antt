-- Frames are taken over, and the rest is run.
use Rattle.std.proofs.Common.{◌≡◌, refl, inr, ℕ, sym, ap, subst, ◌∙◌, arith}
use Rattle.std.specs.Prelude.{Err}
use Rattle.cf_base.specs.Count.{HasRisen}
use Rattle.conform_job.specs.Answers.{AreInfosOf}
use Rattle.conform_job.specs.Job.{JobData}
use Rattle.reconform.specs.declared.adopting.AdoptFault.TheVariants as faults
use Rattle.outcome.specs.declared.Outcome.TheVariants as outcomes
use Rattle.scan_source.proofs.Leaving.{leaves_still}
use Rattle.reel_disk.specs.State.{folder_state}
use Rattle.project_run.proofs.Runs.{match_each}
use Rattle.project_adopt.specs.Adopt.{IsOfAdopt, outcome_of_fault}
use Rattle.project_adopt.proofs.Composing.{by_disk, fault_adopts, never_source, promised_no_further, promised_on, rest_of, run_adopts, went_no_further, went_on}
use Rattle.project_adopt.proofs.reels.adopt_and_run.Goals as goal

pub run_rest-requires : goal.run_rest-requires
run_rest-requires g c =
    record { infos = subst (λ (j : JobData). AreInfosOf j.parts (g.S.Scans.state c.args.scan.now).world j.infos) (sym c.requires.job) c.requires.infos }

pub returns-in-Ok-clause-went : goal.returns-in-Ok-clause-went
returns-in-Ok-clause-went g c =
    let adopted = c.in-Ok.ensures in
    let by = went_on g.N.Work.job g.O.Work.job g.N.Work.files (g.S.Scans.state c.args.scan.now).world c.requires.files g.D.Disk.tells
    (g.D.Disk.state c.args.old.now) (g.D.Disk.state c.adopt.new.old) (g.D.Disk.state c.args.disk.now) (g.D.Disk.state c.adopt.new.disk) (g.D.Disk.state c.run_rest.new.disk)
    adopted.safe.sound_has adopted.reads adopted.safe.run adopted.safe.spares adopted.safe.writes adopted.taken c.in-Ok.done adopted.safe.own adopted.answer adopted.sealed
    (g.S.Scans.state c.args.scan.now).loads (g.S.Scans.state c.run_rest.new.scan).loads in
    match_each _ _ _ _ _ c.run_rest.ensures.ran (λ text rest. by _ _ (rest_of c.requires.job rest)) (λ outcome rest. by _ _ (rest_of c.requires.job rest))

pub returns-in-Ok-clause-promise : goal.returns-in-Ok-clause-promise
returns-in-Ok-clause-promise g c told =
    let adopted = c.in-Ok.ensures in
    let by = promised_on g.N.Work.job g.O.Work.job g.N.Work.files (g.S.Scans.state c.args.scan.now).world c.requires.files g.D.Disk.tells
    (g.D.Disk.state c.args.old.now) (g.D.Disk.state c.adopt.new.old) (g.D.Disk.state c.args.disk.now) (g.D.Disk.state c.adopt.new.disk) (g.D.Disk.state c.run_rest.new.disk)
    adopted.safe.sound_has adopted.reads adopted.safe.run adopted.safe.spares adopted.safe.writes adopted.taken c.in-Ok.done adopted.safe.own adopted.answer adopted.sealed
    (g.S.Scans.state c.args.scan.now).loads (g.S.Scans.state c.run_rest.new.scan).loads in
    match_each _ _ _ _ _ c.run_rest.ensures.ran (λ text rest. by _ _ (rest_of c.requires.job rest) told) (λ outcome rest. by _ _ (rest_of c.requires.job rest) told)

pub returns-in-Ok-clause-kind : goal.returns-in-Ok-clause-kind
returns-in-Ok-clause-kind g c = match_each _ _ _ _ _ c.run_rest.ensures.kind (λ text kind. tt) run_adopts

pub returns-in-Ok-clause-disks : goal.returns-in-Ok-clause-disks
returns-in-Ok-clause-disks g c =
    let adopted = c.in-Ok.ensures in
    let rest = c.run_rest.ensures.disk in record {
      cause = record {
        old_later = adopted.disks.cause.old_later;
        later = omega (arith, adopted.disks.cause.later, rest.counts.cause.later);
        failed = λ is. inr (subst (λ (n : ℕ). HasRisen n (g.D.Disk.state c.run_rest.new.disk).faults) (adopted.disks.steady (λ same. cc)) (rest.counts.cause.failed is));
      };
      steady = λ none. rest.counts.steady none ∙ adopted.disks.steady (λ same. cc);
      old_steady = λ none. adopted.disks.old_steady (λ same. cc);
      lent = rest.lent ∙ adopted.disks.lent;
      old_lent = adopted.disks.old_lent;
    }

pub returns-in-Err-clause-went : goal.returns-in-Err-clause-went
returns-in-Err-clause-went g c =
    let adopted = c.in-Err.ensures in
    went_no_further g.N.Work.job g.O.Work.job g.N.Work.files (g.S.Scans.state c.args.scan.now).world c.requires.files g.D.Disk.tells
    (g.D.Disk.state c.args.old.now) (g.D.Disk.state c.adopt.new.old) (g.D.Disk.state c.args.disk.now) (g.D.Disk.state c.adopt.new.disk) (g.D.Disk.state c.adopt.new.disk)
    adopted.safe.sound_has adopted.reads adopted.safe.run adopted.safe.spares adopted.safe.writes adopted.taken c.in-Err.fault adopted.safe.own adopted.answer
    (λ of_old. ap (λ (d : _). folder_state g.D.Disk.tells (g.D.Disk.state d)) (adopted.untouched of_old)) _ _ _ c.outcome_of_fault.ensures

pub returns-in-Err-clause-promise : goal.returns-in-Err-clause-promise
returns-in-Err-clause-promise g c told =
    let adopted = c.in-Err.ensures in
    promised_no_further g.N.Work.job g.O.Work.job g.N.Work.files (g.S.Scans.state c.args.scan.now).world c.requires.files g.D.Disk.tells
    (g.D.Disk.state c.args.old.now) (g.D.Disk.state c.adopt.new.old) (g.D.Disk.state c.args.disk.now) (g.D.Disk.state c.adopt.new.disk) (g.D.Disk.state c.adopt.new.disk)
    adopted.safe.sound_has adopted.reads adopted.safe.run adopted.safe.spares adopted.safe.writes adopted.taken c.in-Err.fault adopted.safe.own adopted.answer
    (λ of_old. ap (λ (d : _). folder_state g.D.Disk.tells (g.D.Disk.state d)) (adopted.untouched of_old)) (g.S.Scans.state c.args.scan.now).loads _ g.N.Work.job.parts.digest c.outcome_of_fault.ensures told

pub returns-in-Err-clause-kind : goal.returns-in-Err-clause-kind
returns-in-Err-clause-kind g c = subst IsOfAdopt (sym c.outcome_of_fault.ensures) (fault_adopts c.in-Err.fault)

pub returns-in-Ok-clause-scan : goal.returns-in-Ok-clause-scan
returns-in-Ok-clause-scan g c = record { lent = c.run_rest.ensures.scan; heads = c.run_rest.ensures.heads }

pub returns-in-Err-clause-scan : goal.returns-in-Err-clause-scan
returns-in-Err-clause-scan g c = record {
  lent =
      leaves_still
      (λ is. let same : c.outcome_of_fault.result ≡ outcomes.SourceFault = cc in never_source c.in-Err.fault (sym c.outcome_of_fault.ensures ∙ same));
  heads = refl;
}

pub returns-in-Err-clause-disks : goal.returns-in-Err-clause-disks
returns-in-Err-clause-disks g c =
    let adopted = c.in-Err.ensures in
    let unless : (c.outcome_of_fault.result ≡ outcomes.DiskFault → ⊥) → c.in-Err.fault ≡ faults.DiskFault → ⊥ =
    λ none is. none (c.outcome_of_fault.ensures ∙ ap outcome_of_fault is) in record {
      cause = record {
        old_later = adopted.disks.cause.old_later;
        later = adopted.disks.cause.later;
        failed = λ is. let same : c.outcome_of_fault.result ≡ outcomes.DiskFault = cc in adopted.disks.cause.failed (ap Err (by_disk c.in-Err.fault (sym c.outcome_of_fault.ensures ∙ same)));
      };
      steady = λ none. adopted.disks.steady (λ is. unless (λ same. none (ap Err same)) (let same : c.in-Err.fault ≡ faults.DiskFault = cc in same));
      old_steady = λ none. adopted.disks.old_steady (λ is. unless (λ same. none (ap Err same)) (let same : c.in-Err.fault ≡ faults.DiskFault = cc in same));
      lent = adopted.disks.lent;
      old_lent = adopted.disks.old_lent;
    }
