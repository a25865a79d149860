use Rattle.std.proofs.Common.{◌≡◌, ◌∙◌, ℕ, rules, true, List, length, subst}
use Rattle.reel_disk.specs.Disk.{moment_of, view_of}
use Rattle.reel_disk.specs.Runs.{Surely}
use Rattle.reel_disk.proofs.Writing.{writing_then}
use Rattle.resume_ledger.specs.Ledger.{LedgerState, HasRecord, Acks}
use Rattle.reel_writer.specs.inside.Reel.{FinishesStored, IsFinishing}
use Rattle.reel_writer.proofs.Finishing.{finishing_along, noted, acked, shown_still}
use Rattle.reel_writer.proofs.store.acknowledge.Goals as goal
use Rattle.reel_writer.proofs.store.acknowledge.Goals.{After-ack}
use Rattle.reel_writer.proofs.store.acknowledge.Given as given

-- the record wasn't stored
pub returns-in_default-clause-finishing : goal.returns-in_default-clause-finishing
returns-in_default-clause-finishing g c told file bytes frame hash there firm =
    noted _ _ _ _ frame _ _ (c.note.ensures.safe told)

pub ack-requires-clause-agrees : goal.ack-requires-clause-agrees
ack-requires-clause-agrees g c told = (c.in-Ok.ensures.noted told).agrees

-- the record was, and the gate was written, or a crash may find it so or not
module _ (g : given.Over) (c : After-ack g) (told : g.D.Disk.tells ≡ true) where
  finishing : FinishesStored c.args.ledger.now.digest (length c.args.ledger.now.gates) c.args.i c.args.hash (g.D.Disk.state c.args.disk.now).history (g.D.Disk.state c.ack.new.disk).history
  finishing file bytes frame hash there firm = finishing_along _ _ _ _ _ _ _ _ first second
    where
      first : IsFinishing c.args.ledger.now.digest (length c.args.ledger.now.gates) c.args.i file bytes (g.D.Disk.state c.args.disk.now).history (g.D.Disk.state c.note.new.disk).history
      first = noted _ _ _ _ frame _ _ (c.note.ensures.safe told)

      second : IsFinishing c.args.ledger.now.digest (length c.args.ledger.now.gates) c.args.i file bytes (g.D.Disk.state c.note.new.disk).history (g.D.Disk.state c.ack.new.disk).history
      second = subst (λ (l : LedgerState). IsFinishing l.digest (length l.gates) c.args.i file bytes (g.D.Disk.state c.note.new.disk).history (g.D.Disk.state c.ack.new.disk).history) c.in-Ok.ensures.ledger
          (acked _ _ _ _ frame _ _ (c.ack.ensures.safe told)
          (shown_still file frame _ _ (c.note.ensures.safe told).past (c.note.ensures.safe told).spares ∙ there) ((c.in-Ok.ensures.noted told).firm file firm)
          (subst (λ (l : List ℕ). HasRecord c.args.i l (view_of (g.D.Disk.state c.note.new.disk).history)) hash (c.in-Ok.ensures.noted told).noted))

pub returns-in-Ok-ack-clause-finishing : goal.returns-in-Ok-ack-clause-finishing
returns-in-Ok-ack-clause-finishing g c = finishing g (goal.at.returns-in-Ok-ack-clause-finishing g c).After-ack

pub returns-in-Err-clause-finishing : goal.returns-in-Err-clause-finishing
returns-in-Err-clause-finishing g c = finishing g (goal.at.returns-in-Err-clause-finishing g c).After-ack

pub returns-in-Ok-ack-clause-ledger : goal.returns-in-Ok-ack-clause-ledger
returns-in-Ok-ack-clause-ledger g c = record {
  acked = λ told. subst (λ (l : LedgerState). Surely (moment_of (g.D.Disk.state c.ack.new.disk).history) (Acks l.digest (length l.gates) c.args.i)) c.in-Ok.ensures.ledger (c.in-Ok-ack.ensures.acked told).acked;
  agrees = λ told. (c.in-Ok-ack.ensures.acked told).agrees;
  marked = search rules;
  digest = tt;
  gates = tt;
}

-- which files are written
pub returns-in_default-clause-own : goal.returns-in_default-clause-own
returns-in_default-clause-own g c = c.note.ensures.own

pub returns-in-Ok-ack-clause-own : goal.returns-in-Ok-ack-clause-own
returns-in-Ok-ack-clause-own g c = writing_then c.note.ensures.own c.ack.ensures.own

pub returns-in-Err-clause-own : goal.returns-in-Err-clause-own
returns-in-Err-clause-own g c = writing_then c.note.ensures.own c.ack.ensures.own
