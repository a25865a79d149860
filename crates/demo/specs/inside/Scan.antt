-- What is asked of the demonstration's scan.
use Rattle.std.specs.Prelude.{ℕ, List, Option}
use Rattle.std.specs.Option.{option_map}
use Rattle.scan_source.specs.Plan.{Plan}

-- which calls fail, where the scan tells that
abbrev pub fails_of : Option Plan → Option (List ℕ)
fails_of plan = option_map (λ (p : Plan). p.fails) plan
