-- The two rounds, as the code answers them: words of private clauses.
use Rattle.std.specs.Prelude.{ℕ, ◌≡◌, List, length, Some, Result, Ok, Err}
use Rattle.cf_base.specs.declared.timing.Rate.{Rate}
use Rattle.cf_base.specs.declared.fail.Fail.{Fail}
use Rattle.cf_base.specs.declared.fail.Fail.TheVariants.{Fault, NoMemory}
use Rattle.edl_events.specs.declared.ListRefusal.{ListRefusal}
use Rattle.edl_events.specs.declared.ListKind.{ListKind}
use Rattle.edl_events.specs.declared.reading.Reading.{Reading}
use Rattle.edl_events.specs.Places.{Line}
use Rattle.edl_events.specs.Lists.{first_round, refusal}
use Rattle.edl_events.specs.inside.Reads.{IsReading}

abbrev pub FirstRound : Rate → List Line → Result Reading (Fail ListRefusal) → Type 0
FirstRound rate lines (Ok reading) = IsReading rate lines (length lines) reading
FirstRound rate lines (Err (Fault first)) = first_round rate lines ≡ Some first
FirstRound rate lines (Err NoMemory) = Unit {0}

abbrev pub refused_at : ℕ → Fail ListKind → Fail ListRefusal
refused_at line (Fault kind) = Fault (refusal line kind)
refused_at line NoMemory = NoMemory
