-- The number of a label by counting is its number by arithmetic.
use Rattle.std.proofs.Common.{◌≡◌, ℕ, sym, ◌∙◌}
use Rattle.cf_base.specs.declared.timing.Rate.{Rate}
use Rattle.cf_base.specs.declared.timing.Mode.{Mode}
use Rattle.cf_base.specs.Timing.{CanCount}
use Rattle.cf_timecode.specs.declared.Label.{Label}
use Rattle.cf_timecode.specs.Counting.{IsValid, number_of, label_after, CountsOnce, NumbersCount}

pub numbered_is : (rate : Rate) (mode : Mode) (label : Label) (n : ℕ) → CanCount rate mode → IsValid rate mode label → CountsOnce → NumbersCount → label_after rate mode n ≡ label → n ≡ number_of rate mode label
numbered_is rate mode label n counts valid once numbers reached = once rate mode n (number_of rate mode label) counts (reached ∙ sym (numbers rate mode label counts valid))
