-- Counts of heads, one more for each info.
use Rattle.std.proofs.Common.{◌≡◌, ℕ, zero, suc, List, [], length, ◌+◌, ◌-◌, refl, ap, ◌∙◌, arith}
use Rattle.scan_source.specs.Plan.{one_more}
use Rattle.conform_job.specs.Answers.{count_after, HeadsGrow}

pub heads_same : (n heads : ℕ) → HeadsGrow heads heads n n
heads_same n heads = let none : n - n ≡ 0 = omega arith in (omega arith, rw none refl)

pub heads_start : {A : Type 0} (heads : ℕ) (infos : List A) → infos ≡ [] → HeadsGrow heads heads 0 (length infos)
heads_start heads infos empty = rw empty (heads_same 0 heads)

pub heads_one : (few many before now : ℕ) → many ≡ few + 1 → now ≡ one_more before → HeadsGrow before now few many
heads_one few many before now more is = let one : many - few ≡ 1 = omega arith in (omega arith, rw one is)

pub count_sum : (more most heads : ℕ) → count_after more (count_after most heads) ≡ count_after (more + most) heads
count_sum zero most heads = let none : zero + most ≡ most = omega arith in rw none refl
count_sum (suc more) most heads = let step : suc more + most ≡ suc (more + most) = omega arith in rw step (ap one_more (count_sum more most heads))

-- some infos, and then others
pub heads_both : (a b c x y z : ℕ) → HeadsGrow a b x y → HeadsGrow b c y z → HeadsGrow a c x z
heads_both a b c x y z first second =
    let sum : (z - y) + (y - x) ≡ z - x = omega (arith, first.0, second.0) in
    (omega (arith, first.0, second.0), second.1 ∙ ap (count_after (z - y)) first.1 ∙ count_sum (z - y) (y - x) a ∙ ap (λ n. count_after n a) sum)
