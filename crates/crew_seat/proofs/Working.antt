-- How what a worker counts adds up.
use Rattle.std.proofs.Common.{ℕ, Bool, ◌∙◌, arith}
use Rattle.std.specs.Prelude.{Option}
use Rattle.scan_source.specs.World.{World}
use Rattle.station.specs.Marks.{Tallies}
use Rattle.crew_seat.specs.Worked.{HasCauses, KeepsParts}
use Rattle.crew_seat.specs.inside.Worked.{KeepsSources}

pub parts_along : (a b c : Tallies) → KeepsParts a b → KeepsParts b c → KeepsParts a c
parts_along a b c first second = record {
  source = second.source ∙ first.source;
  disk = second.disk ∙ first.disk;
  memory = second.memory ∙ first.memory;
  changed = second.changed ∙ first.changed;
  claims = second.claims ∙ first.claims;
}

module _ (told : Option World) where
  pub causes_none : (a b : Tallies) (all : ℕ) (failed : Bool) → KeepsParts a b → KeepsSources a b → HasCauses told all failed a b
  causes_none a b all failed parts sources = record {
    parts = parts;
    source = λ rose. absurd (omega (arith, rose, sources.source));
    changed = λ rose. absurd (omega (arith, rose, sources.changed));
  }
