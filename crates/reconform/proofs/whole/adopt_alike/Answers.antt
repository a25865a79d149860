use Rattle.std.proofs.Common.{rules}
use Rattle.resume_ledger.proofs.Reading.{reads_none}
use Rattle.reconform.proofs.Going.{both_itself, part_itself}
use Rattle.reconform.proofs.Serving.{adopted_none, same_itself}
use Rattle.reconform.proofs.Taking.{taken_none}
use Rattle.reconform.proofs.whole.adopt_alike.Goals as goal

pub adopt_all-requires-clause-can : goal.adopt_all-requires-clause-can
adopt_all-requires-clause-can g c = record {
  new_is = c.requires.new_job;
  old_is = c.requires.old_job;
  looked = c.requires.looked;
  donors = record { alike = search rules; titles = search rules; least = search rules };
}

-- the jobs aren't alike, or there is no room for the map
pub returns-clause-adopted : goal.returns-clause-adopted
returns-clause-adopted g c = record {
  served = search rules;
  stays = same_itself c.args.reel.now;
  stays_open = c.requires.is_open;
  end = tt;
  part = part_itself;
  taken = taken_none;
  reads = reads_none;
}

pub returns-in-Err-clause-adopted : goal.returns-in-Err-clause-adopted
returns-in-Err-clause-adopted g c = adopted_none g.N.Work.job g.O.Work.job g.N.Work.files g.D.Disk.tells g.D.Disk.state g.E.Disk.tells g.E.Disk.state c.args.view.now c.args.old.now c.args.reel.now

pub returns-clause-disks : goal.returns-clause-disks
returns-clause-disks g c = both_itself (λ is. cc)

pub returns-in-Err-clause-disks : goal.returns-in-Err-clause-disks
returns-in-Err-clause-disks g c = both_itself (λ is. cc)
