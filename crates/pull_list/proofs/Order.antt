-- Frames of reels in their order, and ranges that stand apart.
use Rattle.std.proofs.Common.{◌≡◌, ℕ, suc, ◌+◌, ◌<◌, ◌≤◌, List, [], ◌∷◌, length, All, get_or, refl, arith, inl, inr}
use Rattle.std.specs.List.{AllPairs}
use Rattle.std.proofs.lemmas.Bool.{cases_lt}
use Rattle.std.proofs.lemmas.List.Elements.{All-cons, All-head, All-tail, All-nil}
use Rattle.std.proofs.lemmas.List.Kept.{AllPairs-cons}
use Rattle.pull_list.specs.declared.range.PullRange.{PullRange}
use Rattle.pull_list.specs.Pull.{HoldsIn, IsBefore}
use Rattle.pull_list.specs.inside.Spans.{IsFrom}

pub from_start : (reel x : ℕ) → IsFrom 0 0 reel x
from_start reel x = elim (cases_lt 0 reel) [ inl lt ↦ inl lt | inr ge ↦ inr (omega (arith, ge), omega arith) ]

pub from_trans : (q from a s t b x : ℕ) → IsFrom q from a s → s ≤ t → IsFrom a t b x → IsFrom q from b x
from_trans q from a s t b x (inl lt) le (inl more) = inl (omega (arith, lt, more))
from_trans q from a s t b x (inl lt) le (inr same) = inl (omega (arith, lt, same.0))
from_trans q from a s t b x (inr same) le (inl more) = inl (omega (arith, same.0, more))
from_trans q from a s t b x (inr same) le (inr more) = inr (omega (arith, same.0, more.0), omega (arith, same.1, le, more.1))

-- in one reel, and from a lower frame on
pub from_here : (q a s x : ℕ) → q ≡ a → s ≤ x → IsFrom q s a x
from_here q a s x same le = inr (same, le)

pub from_lower : (q s t b x : ℕ) → s ≤ t → IsFrom q t b x → IsFrom q s b x
from_lower q s t b x le on = from_trans q s q s t b x (from_here q q s s refl (omega arith)) le on

pub past_of : (q from b x : ℕ) → IsFrom q from b x → q ≡ b → from ≤ x
past_of q from b x (inl lt) same = absurd (omega (arith, lt, same))
past_of q from b x (inr is) same = is.1

pub from_both : (a x b y : ℕ) → IsFrom a x b y → IsFrom b y a x → (a ≡ b) × (x ≡ y)
from_both a x b y (inl lt) (inl gt) = absurd (omega (arith, lt, gt))
from_both a x b y (inl lt) (inr same) = absurd (omega (arith, lt, same.0))
from_both a x b y (inr same) (inl gt) = absurd (omega (arith, same.0, gt))
from_both a x b y (inr one) (inr two) = (one.0, omega (arith, one.1, two.1))

-- each range holds a frame, and starts behind the end of the one before
abbrev pub AreApart : ℕ → ℕ → List PullRange → Type 0
AreApart q from [] = Unit {0}
AreApart q from (range ∷ ranges) = IsFrom q from range.reel range.start × (range.start < range.end) × AreApart range.reel (range.end + 1) ranges

before_from : (r s : PullRange) → IsBefore r s → IsFrom r.reel (r.end + 1) s.reel s.start
before_from r s (inl lt) = inl lt
before_from r s (inr is) = inr (is.0, omega (arith, is.1))

from_before : (r s : PullRange) → IsFrom r.reel (r.end + 1) s.reel s.start → IsBefore r s
from_before r s (inl lt) = inl lt
from_before r s (inr is) = inr (is.0, omega (arith, is.1))

apart_from : (q from : ℕ) (ranges : List PullRange) → ((d : PullRange) → 0 < length ranges → IsFrom q from (get_or ranges 0 d).reel (get_or ranges 0 d).start)
    → All (λ (r : PullRange). r.start < r.end) ranges → AllPairs IsBefore ranges → AreApart q from ranges
apart_from q from [] first some order = tt
apart_from q from (r ∷ rs) first some order = (
  first r (omega arith),
  All-head (λ (r : PullRange). r.start < r.end) r rs some,
  apart_from r.reel (r.end + 1) rs
      (λ d lt. before_from r (get_or rs 0 d) (order 0 1 d (omega arith) (omega (arith, lt))))
      (All-tail (λ (r : PullRange). r.start < r.end) r rs some)
      (λ i j d lt le. order (suc i) (suc j) d (omega (arith, lt)) (omega (arith, le))),
)

pub apart_of : (ranges : List PullRange) → All (λ (r : PullRange). r.start < r.end) ranges → AllPairs IsBefore ranges → AreApart 0 0 ranges
apart_of ranges some order = apart_from 0 0 ranges (λ d lt. from_start (get_or ranges 0 d).reel (get_or ranges 0 d).start) some order

-- and back
some_of : (q from : ℕ) (ranges : List PullRange) → AreApart q from ranges → All (λ (r : PullRange). r.start < r.end) ranges
some_of q from [] apart = All-nil (λ (r : PullRange). r.start < r.end)
some_of q from (r ∷ rs) apart = All-cons (λ (r : PullRange). r.start < r.end) r rs apart.1 (some_of r.reel (r.end + 1) rs apart.2)

all_from : (q from : ℕ) (ranges : List PullRange) → AreApart q from ranges → All (λ (r : PullRange). IsFrom q from r.reel r.start) ranges
all_from q from [] apart = All-nil (λ (r : PullRange). IsFrom q from r.reel r.start)
all_from q from (r ∷ rs) apart =
    let rest = all_from r.reel (r.end + 1) rs apart.2 in
    All-cons (λ (r : PullRange). IsFrom q from r.reel r.start) r rs apart.0
    (λ k d lt. from_trans q from r.reel r.start (r.end + 1) (get_or rs k d).reel (get_or rs k d).start apart.0 (omega (arith, apart.1)) (rest k d lt))

order_of : (q from : ℕ) (ranges : List PullRange) → AreApart q from ranges → AllPairs IsBefore ranges
order_of q from [] apart = λ i j d lt le. absurd (omega (arith, le))
order_of q from (r ∷ rs) apart =
    let rest = all_from r.reel (r.end + 1) rs apart.2 in
    AllPairs-cons IsBefore r rs (λ k d lt. from_before r (get_or rs k d) (rest k d lt)) (order_of r.reel (r.end + 1) rs apart.2)

pub apart_some : (ranges : List PullRange) → AreApart 0 0 ranges → All (λ (r : PullRange). r.start < r.end) ranges
apart_some ranges apart = some_of 0 0 ranges apart

pub apart_order : (ranges : List PullRange) → AreApart 0 0 ranges → AllPairs IsBefore ranges
apart_order ranges apart = order_of 0 0 ranges apart

-- ---- which frames they hold

-- no frame before the first place
pub from_on : (q from : ℕ) (ranges : List PullRange) (reel x : ℕ) → AreApart q from ranges → HoldsIn ranges reel x → IsFrom q from reel x
from_on q from [] reel x apart h = absurd h
from_on q from (r ∷ rs) reel x apart (inl here) = from_trans q from r.reel r.start r.start reel x apart.0 (omega arith) (from_here r.reel reel r.start x here.0 here.1)
from_on q from (r ∷ rs) reel x apart (inr there) =
    from_trans q from r.reel r.start (r.end + 1) reel x apart.0 (omega (arith, apart.1)) (from_on r.reel (r.end + 1) rs reel x apart.2 there)

-- none before the first range's start
pub first_on : (q from : ℕ) (r : PullRange) (rs : List PullRange) (reel x : ℕ) → AreApart q from (r ∷ rs) → HoldsIn (r ∷ rs) reel x → IsFrom r.reel r.start reel x
first_on q from r rs reel x apart (inl here) = from_here r.reel reel r.start x here.0 here.1
first_on q from r rs reel x apart (inr there) = from_lower r.reel r.start (r.end + 1) reel x (omega (arith, apart.1)) (from_on r.reel (r.end + 1) rs reel x apart.2 there)

-- and not the first range's end
pub end_free : (q from : ℕ) (r : PullRange) (rs : List PullRange) → AreApart q from (r ∷ rs) → HoldsIn (r ∷ rs) r.reel r.end → ⊥
end_free q from r rs apart (inl here) = omega (arith, here.2)
end_free q from r rs apart (inr there) =
    let past = past_of r.reel (r.end + 1) r.reel r.end (from_on r.reel (r.end + 1) rs r.reel r.end apart.2 there) refl in omega (arith, past)

-- what is held behind the first range is held by the others
pub behind : (q from : ℕ) (r : PullRange) (rs : List PullRange) (reel x : ℕ) → IsFrom r.reel r.end reel x → HoldsIn (r ∷ rs) reel x → HoldsIn rs reel x
behind q from r rs reel x on (inl here) = let past = past_of r.reel r.end reel x on here.0 in absurd (omega (arith, here.2, past))
behind q from r rs reel x on (inr there) = there
