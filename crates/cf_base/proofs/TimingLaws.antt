-- Where labels can be counted.
use Rattle.std.proofs.Common.{◌≡◌, true}
use Rattle.std.proofs.lemmas.Bool.{false≢true}
use Rattle.cf_base.specs.declared.timing.Mode.{Mode}
use Rattle.cf_base.specs.declared.timing.Mode.TheVariants.{NonDrop, Drop}
use Rattle.cf_base.specs.declared.timing.Rate.{Rate}
use Rattle.cf_base.specs.declared.timing.Rate.TheVariants.{R24, R25, R30}
use Rattle.cf_base.specs.Timing.{CanCount, can_count}

pub counts_of : (rate : Rate) (mode : Mode) → can_count rate mode ≡ true → CanCount rate mode
counts_of rate NonDrop h = tt
counts_of R24 Drop h = false≢true h
counts_of R25 Drop h = false≢true h
counts_of R30 Drop h = tt
