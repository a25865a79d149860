use Rattle.reconform.proofs.donors.set_number.Goals as goal

pub returns : goal.returns
returns g c = c.in_ok-insert.ensures.updates
