-- What a call does to a scan's plan, also where the scan tells none.
use Rattle.std.specs.Prelude.{◌≡◌, Option, None, MatchOption}
use Rattle.scan_source.specs.Plan.{Plan, FollowsPlan}

-- a call follows the plan, and a scan that tells none goes on so
abbrev pub FollowsIfTold : (before now : Option Plan) (Failed : Type 0) → Type 0
FollowsIfTold before now Failed = MatchOption before (now ≡ None) (λ p. FollowsPlan p now Failed)
