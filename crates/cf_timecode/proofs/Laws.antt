-- Counting meets arithmetic: the label that n steps lead to has the number n by the closed formulas, and no two labels have one number.
use Rattle.std.proofs.Common.{◌≡◌, ◌≢◌, ℕ, zero, suc, ◌+◌, ◌*◌, ◌/◌, ◌%◌, ◌<◌, ◌≤◌, ◌⊎◌, inl, inr, true, false, ◌==◌, cond, refl, ap, arith, lit<, lit≤, sym, ◌∙◌, subst, add-one}
use Rattle.std.proofs.lemmas.Bool.{cond_both, ltb-true, ltb-false, cases_eq, ne_eqb, cases_order}
use Rattle.std.proofs.lemmas.Bool.Decides.{nat_tests}
use Rattle.cf_base.specs.declared.timing.Rate.{Rate}
use Rattle.cf_base.specs.declared.timing.Rate.TheVariants.{R24, R25, R30}
use Rattle.cf_base.specs.declared.timing.Mode.{Mode}
use Rattle.cf_base.specs.declared.timing.Mode.TheVariants.{NonDrop, Drop}
use Rattle.cf_base.specs.Timing.{base_of, CanCount}
use Rattle.cf_timecode.specs.declared.Label.{Label}
use Rattle.cf_timecode.specs.Counting.{is_dropped, is_passed_over, is_in_range, IsValid, following, pass_over, next, label_after, second_of, minute_of, number_of as number, CountsOnce, FillsDay, NumbersCount, NumbersFit, NeverPassedOver, IsBefore, NumbersRise}

-- a label that counting can come to, in whatever hour
pub record IsKept (rate : Rate) (mode : Mode) (l : Label) : Type 0 where
  pub minute : l.m < 60
  pub second : l.s < 60
  pub frame : l.f < base_of rate
  pub kept : is_passed_over mode l ≡ false

-- the label is one that counting can come to, and has this number
pub record Has (rate : Rate) (mode : Mode) (n : ℕ) (l : Label) : Type 0 where
  pub is_kept : IsKept rate mode l
  pub numbered : number rate mode l ≡ n

-- what the test for dropped labels says
pub dropped_true : (h m s f : ℕ) → is_dropped (record { h = h; m = m; s = s; f = f }) ≡ true → (f < 2) × (s ≡ 0) × (m % 10 ≢ 0)
dropped_true h m s f e = grind (arith, nat_tests)

pub dropped_false : (h m s f : ℕ) → is_dropped (record { h = h; m = m; s = s; f = f }) ≡ false → (2 ≤ f) ⊎ ((s ≢ 0) ⊎ (m % 10 ≡ 0))
dropped_false h m s f e = grind (arith, nat_tests)

-- the four cases of the following label
pub following_cases : (rate : Rate) (h m s f : ℕ) (P : Label → Type 0)
    → (f + 1 < base_of rate → P (record { h = h; m = m; s = s; f = f + 1 }))
    → (base_of rate ≤ f + 1 → s + 1 < 60 → P (record { h = h; m = m; s = s + 1; f = 0 }))
    → (base_of rate ≤ f + 1 → 60 ≤ s + 1 → m + 1 < 60 → P (record { h = h; m = m + 1; s = 0; f = 0 }))
    → (base_of rate ≤ f + 1 → 60 ≤ s + 1 → 60 ≤ m + 1 → P (record { h = h + 1; m = 0; s = 0; f = 0 }))
    → P (following rate (record { h = h; m = m; s = s; f = f }))
following_cases rate h m s f P frame second minute hour =
    cond_both _ _ _ P (λ e. frame (ltb-true _ _ e)) (λ e. cond_both _ _ _ P (λ e'. second (ltb-false _ _ e) (ltb-true _ _ e'))
    (λ e'. cond_both _ _ _ P (λ e''. minute (ltb-false _ _ e) (ltb-false _ _ e') (ltb-true _ _ e'')) (λ e''. hour (ltb-false _ _ e) (ltb-false _ _ e') (ltb-false _ _ e''))))

-- one step of counting adds one to the number
pub one_more_24 : (n : ℕ) (l : Label) → Has R24 NonDrop n l → Has R24 NonDrop (n + 1) (next R24 NonDrop l)
one_more_24 n l has =
    following_cases R24 l.h l.m l.s l.f (Has R24 NonDrop (n + 1))
    (λ f. record { is_kept = record { minute = omega arith; second = omega arith; frame = omega arith; kept = refl }; numbered = omega arith })
    (λ f s. record { is_kept = record { minute = omega arith; second = omega arith; frame = omega arith; kept = refl }; numbered = omega arith })
    (λ f s m. record { is_kept = record { minute = omega arith; second = omega arith; frame = omega arith; kept = refl }; numbered = omega arith })
    (λ f s m. record { is_kept = record { minute = omega arith; second = omega arith; frame = omega arith; kept = refl }; numbered = omega arith })

-- one step of counting adds one to the number
pub one_more_25 : (n : ℕ) (l : Label) → Has R25 NonDrop n l → Has R25 NonDrop (n + 1) (next R25 NonDrop l)
one_more_25 n l has =
    following_cases R25 l.h l.m l.s l.f (Has R25 NonDrop (n + 1))
    (λ f. record { is_kept = record { minute = omega arith; second = omega arith; frame = omega arith; kept = refl }; numbered = omega arith })
    (λ f s. record { is_kept = record { minute = omega arith; second = omega arith; frame = omega arith; kept = refl }; numbered = omega arith })
    (λ f s m. record { is_kept = record { minute = omega arith; second = omega arith; frame = omega arith; kept = refl }; numbered = omega arith })
    (λ f s m. record { is_kept = record { minute = omega arith; second = omega arith; frame = omega arith; kept = refl }; numbered = omega arith })

-- one step of counting adds one to the number
pub one_more_30 : (n : ℕ) (l : Label) → Has R30 NonDrop n l → Has R30 NonDrop (n + 1) (next R30 NonDrop l)
one_more_30 n l has =
    following_cases R30 l.h l.m l.s l.f (Has R30 NonDrop (n + 1))
    (λ f. record { is_kept = record { minute = omega arith; second = omega arith; frame = omega arith; kept = refl }; numbered = omega arith })
    (λ f s. record { is_kept = record { minute = omega arith; second = omega arith; frame = omega arith; kept = refl }; numbered = omega arith })
    (λ f s m. record { is_kept = record { minute = omega arith; second = omega arith; frame = omega arith; kept = refl }; numbered = omega arith })
    (λ f s m. record { is_kept = record { minute = omega arith; second = omega arith; frame = omega arith; kept = refl }; numbered = omega arith })

-- passing over a label that stays, and one that is dropped
pub stays : (l : Label) → is_dropped l ≡ false → pass_over R30 Drop l ≡ l
stays l e = rw e refl

pub goes : (l : Label) → is_dropped l ≡ true → pass_over R30 Drop l ≡ following R30 l
goes l e = rw e refl

pub is_dropped-kept : (h m s f : ℕ) → (2 ≤ f) ⊎ ((s ≢ 0) ⊎ (m % 10 ≡ 0)) → is_dropped (record { h = h; m = m; s = s; f = f }) ≡ false
is_dropped-kept h m s f (inl k) = grind (arith, nat_tests)
is_dropped-kept h m s f (inr (inl k)) = grind (arith, nat_tests)
is_dropped-kept h m s f (inr (inr k)) = grind (arith, nat_tests)

pub is_dropped-gone : (h m f : ℕ) → f < 2 → m % 10 ≢ 0 → is_dropped (record { h = h; m = m; s = 0; f = f }) ≡ true
is_dropped-gone h m f k n = grind (arith, nat_tests)

-- where the following label stays, it is the next one
pub next_stays : (n : ℕ) (l : Label) → Has R30 Drop n l → Has R30 Drop n (pass_over R30 Drop (pass_over R30 Drop l))
next_stays n l has = rw (stays l has.is_kept.kept, stays l has.is_kept.kept) has

-- how many labels are dropped at the start of minute m
abbrev pub dropped_at : ℕ → ℕ
dropped_at m = cond (m % 10 == 0) 0 2

-- at the start of a minute two labels are dropped, but for every tenth minute
pub next_minute : (n h m : ℕ) → m < 60 → (h * 60 + m) * 1798 + (h * 60 + m) / 10 * 2 + dropped_at m ≡ n
    → Has R30 Drop n (pass_over R30 Drop (pass_over R30 Drop (record { h = h; m = m; s = 0; f = 0 })))
next_minute n h m small numbered =
    elim (cases_eq (m % 10) 0) [
      | inl tenth ↦ next_stays n (record { h = h; m = m; s = 0; f = 0 }) (record {
        is_kept = record { minute = small; second = lit< tt; frame = lit< tt; kept = is_dropped-kept h m 0 0 (inr (inr tenth)) };
        numbered = let e : dropped_at m ≡ 0 = rw tenth refl in omega (arith, e);
      })
      | inr other ↦
          rw (goes (record { h = h; m = m; s = 0; f = 0 }) (is_dropped-gone h m 0 (lit< tt) other), goes (record { h = h; m = m; s = 0; f = 1 }) (is_dropped-gone h m 1 (lit< tt) other))
          (record {
            is_kept = record { minute = small; second = lit< tt; frame = lit< tt; kept = is_dropped-kept h m 0 2 (inl (lit≤ tt)) };
            numbered = let e : dropped_at m ≡ 2 = rw (ne_eqb _ _ other) refl in omega (arith, e);
          })
    ]

-- the last frame of a minute, and the first of the next
pub minute_sum : (h m n : ℕ) → (h * 60 + m) * 1798 + (h * 60 + m) / 10 * 2 + 1799 ≡ n
    → (h * 60 + (m + 1)) * 1798 + (h * 60 + (m + 1)) / 10 * 2 + dropped_at (m + 1) ≡ n + 1
minute_sum h m n e =
    elim (cases_eq ((m + 1) % 10) 0) [
      | inl tenth ↦ let c : dropped_at (m + 1) ≡ 0 = rw tenth refl in omega (arith, c)
      | inr other ↦ let c : dropped_at (m + 1) ≡ 2 = rw (ne_eqb _ _ other) refl in omega (arith, c)
    ]

pub one_more_drop : (n : ℕ) (l : Label) → Has R30 Drop n l → Has R30 Drop (n + 1) (next R30 Drop l)
one_more_drop n l has =
    let old = dropped_false l.h l.m l.s l.f has.is_kept.kept in
    following_cases R30 l.h l.m l.s l.f (λ l'. Has R30 Drop (n + 1) (pass_over R30 Drop (pass_over R30 Drop l')))
    (λ f. next_stays (n + 1) (record { h = l.h; m = l.m; s = l.s; f = l.f + 1 }) (record {
      is_kept = record {
        minute = omega arith;
        second = omega arith;
        frame = f;
        kept = is_dropped-kept l.h l.m l.s (l.f + 1) (elim old [ inl k ↦ inl (omega arith) | inr k ↦ inr k ]);
      };
      numbered = omega arith;
    }))
    (λ f s. next_stays (n + 1) (record { h = l.h; m = l.m; s = l.s + 1; f = 0 }) (record {
      is_kept = record {
        minute = omega arith;
        second = s;
        frame = lit< tt;
        kept = is_dropped-kept l.h l.m (l.s + 1) 0 (inr (inl (λ e. omega arith)));
      };
      numbered = omega arith;
    }))
    (λ f s m. next_minute (n + 1) l.h (l.m + 1) m (minute_sum l.h l.m n (omega arith)))
    (λ f s m. next_minute (n + 1) (l.h + 1) 0 (lit< tt) (omega arith))

-- The label that n steps lead to has the number n.
pub counted : (rate : Rate) (mode : Mode) → CanCount rate mode → (n : ℕ) → Has rate mode n (label_after rate mode n)
counted R24 NonDrop can zero = record { is_kept = record { minute = lit< tt; second = lit< tt; frame = lit< tt; kept = refl }; numbered = refl }
counted R25 NonDrop can zero = record { is_kept = record { minute = lit< tt; second = lit< tt; frame = lit< tt; kept = refl }; numbered = refl }
counted R30 NonDrop can zero = record { is_kept = record { minute = lit< tt; second = lit< tt; frame = lit< tt; kept = refl }; numbered = refl }
counted R30 Drop can zero = record { is_kept = record { minute = lit< tt; second = lit< tt; frame = lit< tt; kept = refl }; numbered = refl }
counted R24 Drop can n = absurd can
counted R25 Drop can n = absurd can
counted R24 NonDrop can (suc n) = rw (← add-one) (one_more_24 n (label_after R24 NonDrop n) (counted R24 NonDrop can n))
counted R25 NonDrop can (suc n) = rw (← add-one) (one_more_25 n (label_after R25 NonDrop n) (counted R25 NonDrop can n))
counted R30 NonDrop can (suc n) = rw (← add-one) (one_more_30 n (label_after R30 NonDrop n) (counted R30 NonDrop can n))
counted R30 Drop can (suc n) = rw (← add-one) (one_more_drop n (label_after R30 Drop n) (counted R30 Drop can n))

-- labels with equal parts
pub same_label : (a b : Label) → a.h ≡ b.h → a.m ≡ b.m → a.s ≡ b.s → a.f ≡ b.f → a ≡ b
same_label a b h m s f = λ i. record { h = h i; m = m i; s = s i; f = f i }

-- a frame of an earlier minute has a lower number
pub earlier : (t u x y : ℕ) → t < u → x < 1800 → (2 ≤ y) ⊎ (u % 10 ≡ 0) → t * 1798 + t / 10 * 2 + x < u * 1798 + u / 10 * 2 + y
earlier t u x y before small (inl k) = omega arith
earlier t u x y before small (inr k) = omega arith

pub kept_part : (h m s f : ℕ) → (2 ≤ f) ⊎ ((s ≢ 0) ⊎ (m % 10 ≡ 0)) → (2 ≤ s * 30 + f) ⊎ ((h * 60 + m) % 10 ≡ 0)
kept_part h m s f (inl k) = inl (omega arith)
kept_part h m s f (inr (inl k)) = inl (omega arith)
kept_part h m s f (inr (inr k)) = inr (omega arith)

pub kept_of : (n : ℕ) (l : Label) → Has R30 Drop n l → (2 ≤ l.s * 30 + l.f) ⊎ (minute_of l % 10 ≡ 0)
kept_of n l x = kept_part l.h l.m l.s l.f (dropped_false l.h l.m l.s l.f x.is_kept.kept)

pub same_minute : (n : ℕ) (a b : Label) → Has R30 Drop n a → Has R30 Drop n b → minute_of a ≡ minute_of b
same_minute n a b x y =
    elim (cases_order (minute_of a) (minute_of b)) [
      | inl same ↦ same
      | inr (inl before) ↦ absurd (let h = earlier (minute_of a) (minute_of b) (a.s * 30 + a.f) (b.s * 30 + b.f) before (omega arith) (kept_of n b y) in omega (arith, h))
      | inr (inr after) ↦ absurd (let h = earlier (minute_of b) (minute_of a) (b.s * 30 + b.f) (a.s * 30 + a.f) after (omega arith) (kept_of n a x) in omega (arith, h))
    ]

-- No two labels have one number.
pub same_number : (rate : Rate) (mode : Mode) → CanCount rate mode → (n : ℕ) (a b : Label) → Has rate mode n a → Has rate mode n b → a ≡ b
same_number R24 NonDrop can n a b x y = same_label a b (omega arith) (omega arith) (omega arith) (omega arith)
same_number R25 NonDrop can n a b x y = same_label a b (omega arith) (omega arith) (omega arith) (omega arith)
same_number R30 NonDrop can n a b x y = same_label a b (omega arith) (omega arith) (omega arith) (omega arith)
same_number R30 Drop can n a b x y = let e = same_minute n a b x y in same_label a b (omega arith) (omega arith) (omega arith) (omega arith)
same_number R24 Drop can n a b x y = absurd can
same_number R25 Drop can n a b x y = absurd can

pub is_in_range-true : (rate : Rate) (l : Label) → is_in_range rate l ≡ true → (l.h < 24) × (l.m < 60) × (l.s < 60) × (l.f < base_of rate)
is_in_range-true R24 l e = grind (arith, nat_tests)
is_in_range-true R25 l e = grind (arith, nat_tests)
is_in_range-true R30 l e = grind (arith, nat_tests)

pub is_in_range-from : (rate : Rate) (l : Label) → (l.h < 24) → (l.m < 60) → (l.s < 60) → (l.f < base_of rate) → is_in_range rate l ≡ true
is_in_range-from R24 l h m s f = grind (arith, nat_tests)
is_in_range-from R25 l h m s f = grind (arith, nat_tests)
is_in_range-from R30 l h m s f = grind (arith, nat_tests)

-- a valid label has its number by arithmetic
pub has_number : (rate : Rate) (mode : Mode) (l : Label) → IsValid rate mode l → Has rate mode (number rate mode l) l
has_number rate mode l valid =
    let r = is_in_range-true rate l valid.0 in
    record { is_kept = record { minute = r.1; second = r.2; frame = r.3; kept = valid.1 }; numbered = refl }

-- A valid label is reached by as many steps as its number says.
pub reached : (rate : Rate) (mode : Mode) → CanCount rate mode → (l : Label) → IsValid rate mode l → label_after rate mode (number rate mode l) ≡ l
reached rate mode can l valid =
    same_number rate mode can (number rate mode l) (label_after rate mode (number rate mode l)) l (counted rate mode can (number rate mode l)) (has_number rate mode l valid)

-- A label in range that counting does not pass over, with the number n, is the one that n steps lead to.
pub reached_by : (rate : Rate) (mode : Mode) → CanCount rate mode → (n : ℕ) (l : Label) → is_in_range rate l ≡ true → is_passed_over mode l ≡ false → number rate mode l ≡ n → l ≡ label_after rate mode n
reached_by rate mode can n l in_range kept numbered =
    same_number rate mode can n l (label_after rate mode n) (subst (λ (k : ℕ). Has rate mode k l) numbered (has_number rate mode l (in_range, kept))) (counted rate mode can n)

-- The label of a second and a frame, as the code makes it.
abbrev pub plain : ℕ → ℕ → Label
plain second frame = record { h = second / 3600; m = second / 60 % 60; s = second % 60; f = frame }

pub plain_24 : (mode : Mode) (n : ℕ) → CanCount R24 mode → n < 2073600 → plain (n / 24) (n % 24) ≡ label_after R24 mode n
plain_24 NonDrop n can small = reached_by R24 NonDrop can n (plain (n / 24) (n % 24)) (is_in_range-from R24 (plain (n / 24) (n % 24)) (omega arith) (omega arith) (omega arith) (omega arith)) refl (omega arith)
plain_24 Drop n can small = absurd can

pub plain_25 : (mode : Mode) (n : ℕ) → CanCount R25 mode → n < 2160000 → plain (n / 25) (n % 25) ≡ label_after R25 mode n
plain_25 NonDrop n can small = reached_by R25 NonDrop can n (plain (n / 25) (n % 25)) (is_in_range-from R25 (plain (n / 25) (n % 25)) (omega arith) (omega arith) (omega arith) (omega arith)) refl (omega arith)
plain_25 Drop n can small = absurd can

pub plain_30 : (n : ℕ) → n < 2592000 → plain (n / 30) (n % 30) ≡ label_after R30 NonDrop n
plain_30 n small = reached_by R30 NonDrop tt n (plain (n / 30) (n % 30)) (is_in_range-from R30 (plain (n / 30) (n % 30)) (omega arith) (omega arith) (omega arith) (omega arith)) refl (omega arith)

pub parts_kept : (k : ℕ) → (2 ≤ k % 1800) ⊎ (k / 1800 % 10 ≡ 0) → (2 ≤ k % 30) ⊎ ((k / 30 % 60 ≢ 0) ⊎ (k / 30 / 60 % 60 % 10 ≡ 0))
parts_kept k (inr tenth) = inr (inr (omega arith))
parts_kept k (inl late) = elim (cases_eq (k / 30 % 60) 0) [ inl zero_second ↦ inl (omega arith) | inr other ↦ inr (inl other) ]

-- k is the number that the label would have if none were dropped
pub plain_drop : (n k : ℕ) → n < 2589408 → k / 1800 * 1798 + k / 1800 / 10 * 2 + k % 1800 ≡ n → (2 ≤ k % 1800) ⊎ (k / 1800 % 10 ≡ 0)
    → (is_in_range R30 (plain (k / 30) (k % 30)) ≡ true) × (is_dropped (plain (k / 30) (k % 30)) ≡ false) × (number R30 Drop (plain (k / 30) (k % 30)) ≡ n)
plain_drop n k small numbered kept = (
  is_in_range-from R30 (plain (k / 30) (k % 30)) (omega arith) (omega arith) (omega arith) (omega arith),
  is_dropped-kept (k / 30 / 3600) (k / 30 / 60 % 60) (k / 30 % 60) (k % 30) (parts_kept k kept),
  omega arith,
)

pub dropped_30 : (n k : ℕ) → n < 2589408 → k / 1800 * 1798 + k / 1800 / 10 * 2 + k % 1800 ≡ n → (2 ≤ k % 1800) ⊎ (k / 1800 % 10 ≡ 0) → plain (k / 30) (k % 30) ≡ label_after R30 Drop n
dropped_30 n k small numbered kept = let h = plain_drop n k small numbered kept in reached_by R30 Drop tt n (plain (k / 30) (k % 30)) h.0 h.1 h.2

pub reached_as : (rate : Rate) (mode : Mode) → CanCount rate mode → (l : Label) → IsValid rate mode l → (n : ℕ) → number rate mode l ≡ n → label_after rate mode n ≡ l
reached_as rate mode can l valid n e = subst (λ (k : ℕ). label_after rate mode k ≡ l) e (reached rate mode can l valid)

pub once : CountsOnce
once rate mode m n can e =
    sym (counted rate mode can m).numbered ∙ ap (number rate mode) e ∙ (counted rate mode can n).numbered

abbrev next_day : Label
next_day = record { h = 24; m = 0; s = 0; f = 0 }

pub full_day : FillsDay
full_day R24 NonDrop can = same_number R24 NonDrop can 2073600 (label_after R24 NonDrop 2073600) next_day (counted R24 NonDrop can 2073600) (record { is_kept = record { minute = lit< tt; second = lit< tt; frame = lit< tt; kept = refl }; numbered = refl })
full_day R25 NonDrop can = same_number R25 NonDrop can 2160000 (label_after R25 NonDrop 2160000) next_day (counted R25 NonDrop can 2160000) (record { is_kept = record { minute = lit< tt; second = lit< tt; frame = lit< tt; kept = refl }; numbered = refl })
full_day R30 NonDrop can = same_number R30 NonDrop can 2592000 (label_after R30 NonDrop 2592000) next_day (counted R30 NonDrop can 2592000) (record { is_kept = record { minute = lit< tt; second = lit< tt; frame = lit< tt; kept = refl }; numbered = refl })
full_day R30 Drop can = same_number R30 Drop can 2589408 (label_after R30 Drop 2589408) next_day (counted R30 Drop can 2589408) (record { is_kept = record { minute = lit< tt; second = lit< tt; frame = lit< tt; kept = refl }; numbered = refl })
full_day R24 Drop can = absurd can
full_day R25 Drop can = absurd can

pub numbers_count : NumbersCount
numbers_count rate mode label can valid = reached rate mode can label valid

pub never_passed_over : NeverPassedOver
never_passed_over R24 NonDrop l can valid = refl
never_passed_over R25 NonDrop l can valid = refl
never_passed_over R30 NonDrop l can valid = refl
never_passed_over R30 Drop l can valid = (one_more_drop (number R30 Drop l) l (has_number R30 Drop l valid)).is_kept.kept
never_passed_over R24 Drop l can valid = absurd can
never_passed_over R25 Drop l can valid = absurd can

pub numbers_fit : NumbersFit
numbers_fit R24 NonDrop l can valid = let r = is_in_range-true R24 l valid.0 in omega arith
numbers_fit R25 NonDrop l can valid = let r = is_in_range-true R25 l valid.0 in omega arith
numbers_fit R30 NonDrop l can valid = let r = is_in_range-true R30 l valid.0 in omega arith
numbers_fit R30 Drop l can valid = let r = is_in_range-true R30 l valid.0 in omega arith
numbers_fit R24 Drop l can valid = absurd can
numbers_fit R25 Drop l can valid = absurd can

-- ---- the order of labels

-- an earlier label has an earlier second, or the same second and an earlier frame
second_rises : (a b : Label) → a.m < 60 → b.m < 60 → a.s < 60 → b.s < 60 → IsBefore a b → (second_of a < second_of b) ⊎ ((second_of a ≡ second_of b) × (a.f < b.f))
second_rises a b am bm «as» bs (inl hour) = inl (omega arith)
second_rises a b am bm «as» bs (inr (inl minute)) = inl (omega arith)
second_rises a b am bm «as» bs (inr (inr (inl second))) = inl (omega arith)
second_rises a b am bm «as» bs (inr (inr (inr frame))) = inr (omega arith, frame.3)

-- an earlier label has an earlier minute, or the same minute and fewer frames in it
minute_rises : (a b : Label) → a.m < 60 → b.m < 60 → a.f < 30 → b.f < 30 → IsBefore a b → (minute_of a < minute_of b) ⊎ ((minute_of a ≡ minute_of b) × (a.s * 30 + a.f < b.s * 30 + b.f))
minute_rises a b am bm af bf (inl hour) = inl (omega arith)
minute_rises a b am bm af bf (inr (inl minute)) = inl (omega arith)
minute_rises a b am bm af bf (inr (inr (inl second))) = inr (omega arith, omega arith)
minute_rises a b am bm af bf (inr (inr (inr frame))) = inr (omega arith, omega arith)

number_rises : (rate : Rate) (mode : Mode) (a b : Label) → CanCount rate mode → IsValid rate mode a → IsValid rate mode b → IsBefore a b → number rate mode a < number rate mode b
number_rises R24 NonDrop a b can va vb before =
    let ra = is_in_range-true R24 a va.0 in
    let rb = is_in_range-true R24 b vb.0 in
    elim (second_rises a b ra.1 rb.1 ra.2 rb.2 before) [ inl less ↦ omega arith | inr same ↦ omega arith ]
number_rises R25 NonDrop a b can va vb before =
    let ra = is_in_range-true R25 a va.0 in
    let rb = is_in_range-true R25 b vb.0 in
    elim (second_rises a b ra.1 rb.1 ra.2 rb.2 before) [ inl less ↦ omega arith | inr same ↦ omega arith ]
number_rises R30 NonDrop a b can va vb before =
    let ra = is_in_range-true R30 a va.0 in
    let rb = is_in_range-true R30 b vb.0 in
    elim (second_rises a b ra.1 rb.1 ra.2 rb.2 before) [ inl less ↦ omega arith | inr same ↦ omega arith ]
number_rises R30 Drop a b can va vb before =
    let ra = is_in_range-true R30 a va.0 in
    let rb = is_in_range-true R30 b vb.0 in
    elim (minute_rises a b ra.1 rb.1 ra.3 rb.3 before) [
      | inl less ↦
          let kept = kept_of (number R30 Drop b) b (has_number R30 Drop b vb) in
          let h = earlier (minute_of a) (minute_of b) (a.s * 30 + a.f) (b.s * 30 + b.f) less (omega arith) kept in
          omega (arith, h)
      | inr same ↦ omega arith
    ]
number_rises R24 Drop a b can va vb before = absurd can
number_rises R25 Drop a b can va vb before = absurd can

-- of two labels one is before the other, or they are one
in_order : (a b : Label) → IsBefore a b ⊎ (IsBefore b a ⊎ (a ≡ b))
in_order a b = elim (cases_order a.h b.h) [
  | inr (inl less) ↦ inl (inl less)
  | inr (inr more) ↦ inr (inl (inl more))
  | inl hour ↦ elim (cases_order a.m b.m) [
    | inr (inl less) ↦ inl (inr (inl (hour, less)))
    | inr (inr more) ↦ inr (inl (inr (inl (sym hour, more))))
    | inl minute ↦ elim (cases_order a.s b.s) [
      | inr (inl less) ↦ inl (inr (inr (inl (hour, minute, less))))
      | inr (inr more) ↦ inr (inl (inr (inr (inl (sym hour, sym minute, more)))))
      | inl second ↦ elim (cases_order a.f b.f) [
        | inr (inl less) ↦ inl (inr (inr (inr (hour, minute, second, less))))
        | inr (inr more) ↦ inr (inl (inr (inr (inr (sym hour, sym minute, sym second, more)))))
        | inl frame ↦ inr (inr (same_label a b hour minute second frame))
      ]
    ]
  ]
]

pub numbers_rise : NumbersRise
numbers_rise rate mode a b can va vb = (
  (λ (less : number rate mode a < number rate mode b). elim (in_order a b) [
    | inl before ↦ before
    | inr (inl after) ↦ let more = number_rises rate mode b a can vb va after in absurd (omega arith)
    | inr (inr same) ↦ let equal : number rate mode a ≡ number rate mode b = ap (number rate mode) same in absurd (omega arith)
  ]),
  (λ (before : IsBefore a b). number_rises rate mode a b can va vb before),
)
