-- A record that is put into a body leaves all others.
use Rattle.std.proofs.Common.{◌≡◌, ◌≢◌, ℕ, ◌+◌, ◌*◌, ◌-◌, ◌<◌, ◌≤◌, List, length, get_or, set, take, drop, sym, ap, ◌∙◌, arith, inl, inr}
use Rattle.std.proofs.lemmas.Bool.{cases_lt}
use Rattle.std.proofs.lemmas.List.{length-set, take-set-le, drop-set-lt, drop-take, get_or-drop, get_or-take}
use Rattle.std.proofs.lemmas.Slice.{take-put_mid_below, drop-put_mid, between-put_mid}
use borrow.Rule.Slice.PartMut.{put_mid}
use Rattle.resume_ledger.specs.Body.{record_of}
use Rattle.resume_ledger.specs.Steps.{OthersKept}

-- what stands before the frame's 33 bytes, and what behind them
module _ (old new : List ℕ) (i : ℕ) (front : (n : ℕ) → n ≤ 64 + 33 * i → take n new ≡ take n old) (back : (n : ℕ) → 97 + 33 * i ≤ n → drop n new ≡ drop n old) where
  past : (k : ℕ) → k ≢ i → i ≤ k → i < k
  past k other le = elim (cases_lt i k) [ inl lt ↦ lt | inr ge ↦ absurd (other (omega (arith, le, ge))) ]

  pub same_gate : (k : ℕ) → k ≢ i → get_or new (64 + 33 * k) 0 ≡ get_or old (64 + 33 * k) 0
  same_gate k other = elim (cases_lt k i) [
    | inl lt ↦
        let n = 64 + 33 * k + 1 in
        sym (get_or-take n new (64 + 33 * k) 0 (omega arith)) ∙ ap (λ (l : List ℕ). get_or l (64 + 33 * k) 0) (front n (omega (arith, lt))) ∙ get_or-take n old (64 + 33 * k) 0 (omega arith)
    | inr ge ↦
        let at : 64 + 33 * k + 0 ≡ 64 + 33 * k = omega arith in
        ap (λ n. get_or new n 0) (sym at) ∙ sym (get_or-drop (64 + 33 * k) new 0 0) ∙ ap (λ (l : List ℕ). get_or l 0 0) (back (64 + 33 * k) (omega (arith, ge, past k other ge))) ∙ get_or-drop (64 + 33 * k) old 0 0 ∙ ap (λ n. get_or old n 0) at
  ]

  pub same_record : (k : ℕ) → k ≢ i → record_of new k ≡ record_of old k
  same_record k other = elim (cases_lt k i) [
    | inl lt ↦
        let q = 65 + 33 * k in
        sym (drop-take q 32 new) ∙ ap (drop q) (front (q + 32) (omega (arith, lt))) ∙ drop-take q 32 old
    | inr ge ↦
        ap (take 32) (back (65 + 33 * k) (omega (arith, ge, past k other ge)))
  ]

  pub others_kept : length new ≡ length old → OthersKept old new i
  others_kept size = record { size = size; head = front 64 (omega arith); gates = same_gate; records = same_record }

module _ (old part : List ℕ) (i j : ℕ) (size : j ≡ 32) (within : 64 + 33 * (i + 1) ≤ length old) (full : length part ≡ 32) where
  long : 64 + 33 * i + 1 ≤ length (set old (64 + 33 * i) 65)
  long = let e = length-set old (64 + 33 * i) 65 in omega (arith, e, within)

  front_of : (n : ℕ) → n ≤ 64 + 33 * i → take n (put_mid (64 + 33 * i + 1) j (set old (64 + 33 * i) 65) part) ≡ take n old
  front_of n le =
      take-put_mid_below (64 + 33 * i + 1) j (set old (64 + 33 * i) 65) part n (omega (arith, le)) long
      ∙ take-set-le n old (64 + 33 * i) 65 le

  back_of : (n : ℕ) → 97 + 33 * i ≤ n → drop n (put_mid (64 + 33 * i + 1) j (set old (64 + 33 * i) 65) part) ≡ drop n old
  back_of n le =
      drop-put_mid (64 + 33 * i + 1) j (set old (64 + 33 * i) 65) part n (omega (arith, le, size)) long (full ∙ sym size)
      ∙ drop-set-lt n old (64 + 33 * i) 65 (omega (arith, le))

  pub record_put : record_of (put_mid (64 + 33 * i + 1) j (set old (64 + 33 * i) 65) part) i ≡ part
  record_put =
      let e = 64 + 33 * i + 33 in
      let a = 64 + 33 * i + 1 in
      let gap : e - a ≡ 32 = omega arith in
      let at : 65 + 33 * i ≡ a = omega arith in
      ap (λ n. take 32 (drop n (put_mid (64 + 33 * i + 1) j (set old (64 + 33 * i) 65) part))) at
      ∙ ap (λ n. take n (drop (64 + 33 * i + 1) (put_mid (64 + 33 * i + 1) j (set old (64 + 33 * i) 65) part))) (sym gap)
      ∙ between-put_mid a j (set old (64 + 33 * i) 65) part e long (full ∙ sym gap)

  pub put_others : length (put_mid (64 + 33 * i + 1) j (set old (64 + 33 * i) 65) part) ≡ length old → OthersKept old (put_mid (64 + 33 * i + 1) j (set old (64 + 33 * i) 65) part) i
  put_others same = others_kept old (put_mid (64 + 33 * i + 1) j (set old (64 + 33 * i) 65) part) i front_of back_of same
