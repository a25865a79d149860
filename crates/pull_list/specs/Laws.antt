-- What holds of the definition of a pull list by itself.
--     OnePullList      a job has one pull list
--     FewestRanges      and no list of ranges with the same frames is shorter
use Rattle.std.specs.Prelude.{◌≡◌, ◌↔◌, ℕ, ◌≤◌, List, length}
use Rattle.conform_job.specs.declared.parts.JobParts.{JobParts}
use Rattle.pull_list.specs.Pull.{HoldsIn, IsPullList}
use Rattle.pull_list.specs.declared.range.PullRange.{PullRange}

abbrev pub OnePullList : Type 0
OnePullList = (p : JobParts) (margin : ℕ) (a b : List PullRange) → IsPullList p margin a → IsPullList p margin b → a ≡ b

-- whatever its order, and also where some of its ranges overlap
abbrev pub FewestRanges : Type 0
FewestRanges = (p : JobParts) (margin : ℕ) (ranges others : List PullRange) → IsPullList p margin ranges
    → ((reel x : ℕ) → HoldsIn ranges reel x ↔ HoldsIn others reel x) → length ranges ≤ length others
