-- The first reel that is refused.
use Rattle.std.proofs.Common.{◌≡◌, ℕ, zero, suc, ◌+◌, ◌≤◌, Bool, true, false, cond, ltb, List, [], ◌∷◌, take, refl, sym, ◌∙◌, ap, arith, Option, inl, inr}
use Rattle.std.specs.Prelude.{Some, None, slice_get}
use Rattle.std.specs.Bool.{Decides}
use Rattle.std.specs.Option.{option_map}
use Rattle.std.specs.List.{list_any}
use Rattle.std.proofs.lemmas.Bool.{cases_Bool, cases_order, or_right, false≢true}
use Rattle.std.proofs.lemmas.Bool.Decides.{nat_tests, not_from_Decides, Decides-or, Decides-ltb}
use Rattle.std.proofs.lemmas.Option.{none-some, same_Some}
use Rattle.std.proofs.lemmas.Slice.Eq.{bytes_eq-Decides}
use Rattle.cf_base.specs.declared.reel.ReelEntry.{ReelEntry}
use Rattle.cf_base.proofs.FirstLaws.{nothing_in, nothing_from, first_from, get_take, get_take_within}
use Rattle.source_reels.specs.declared.table.ReelFault.{ReelFault}
use Rattle.source_reels.specs.declared.table.ReelKind.{ReelKind}
use Rattle.source_reels.specs.declared.table.ReelKind.TheVariants.{TwoNames, Range}
use Rattle.source_reels.specs.Laws.{IsNamedBefore, IsPastEnd, IsFaulty, IsGood, FindsFaults, NamesFirstFault}
use Rattle.source_reels.specs.Reels.{reels_fault, reel_fault_at, kind_after, is_past_end, has_name}
use Rattle.source_reels.specs.inside.Reels.{NoFaultBefore}

-- ---- the whole list

pub none_at : (entries : List ReelEntry) → reels_fault entries ≡ None → (i : ℕ) (e : ReelEntry) → slice_get entries i ≡ Some e → reel_fault_at entries i e ≡ None
none_at entries none i e at =
    let zero_plus : 0 + i ≡ i = omega arith in
    rw zero_plus at (nothing_in (λ (p : ℕ × ReelEntry). reel_fault_at entries p.0 p.1) 0 entries none i e at)

pub none_refused : (entries : List ReelEntry) → ((i : ℕ) (e : ReelEntry) → slice_get entries i ≡ Some e → reel_fault_at entries i e ≡ None) → reels_fault entries ≡ None
none_refused entries none = nothing_from (λ (p : ℕ × ReelEntry). reel_fault_at entries p.0 p.1) 0 entries (λ i e at.
    let zero_plus : 0 + i ≡ i = omega arith in rw zero_plus (none i e at))

pub first_refused : (entries : List ReelEntry) (i : ℕ) (e : ReelEntry) (kind : ReelKind) → slice_get entries i ≡ Some e → kind_after (take i entries) e ≡ Some kind
    → NoFaultBefore entries i → reels_fault entries ≡ Some (record { reel = i + 1; kind = kind })
first_refused entries i e kind at is none =
    let zero_plus : 0 + i ≡ i = omega arith in
    let given : reel_fault_at entries i e ≡ Some (record { reel = i + 1; kind = kind }) = ap (option_map (λ (kind : ReelKind). let f : ReelFault = record { reel = i + 1; kind = kind } in f)) is in
    first_from (λ (p : ℕ × ReelEntry). reel_fault_at entries p.0 p.1) 0 entries i e _ at (rw zero_plus given)
    (λ k z below there. let first : 0 + k ≡ k = omega arith in rw first (none k z below there))

-- one reel more that is not refused
pub no_fault_more : (entries : List ReelEntry) (i : ℕ) (e : ReelEntry) → slice_get entries i ≡ Some e → kind_after (take i entries) e ≡ None → NoFaultBefore entries i → NoFaultBefore entries (i + 1)
no_fault_more entries i e at is none k z below there = elim (cases_order k i) [
  | inl same ↦
      let one : z ≡ e = same_Some _ _ (sym there ∙ ap (slice_get entries) same ∙ at) in
      rw (same, one) (ap (option_map (λ (kind : ReelKind). let f : ReelFault = record { reel = i + 1; kind = kind } in f)) is)
  | inr (inl less) ↦ none k z less there
  | inr (inr more) ↦ absurd (omega arith)
]

-- ---- one reel

pub kind_none : (named past : Bool) → cond named (Some TwoNames) (cond past (Some Range) None) ≡ None → (named ≡ false) × (past ≡ false)
kind_none true past e = absurd (none-some TwoNames (sym e))
kind_none false true e = absurd (none-some Range (sym e))
kind_none false false e = (refl, refl)

mapped : (r : Option ReelKind) (n : ℕ) → option_map (λ (kind : ReelKind). let f : ReelFault = record { reel = n; kind = kind } in f) r ≡ None → r ≡ None
mapped None n e = refl
mapped (Some kind) n e = absurd (none-some (let f : ReelFault = record { reel = n; kind = kind } in f) (sym e))

-- a reel that is not refused has a new name and doesn't go past its end
pub not_refused : (entries : List ReelEntry) (i : ℕ) (e : ReelEntry) → reel_fault_at entries i e ≡ None → (list_any (has_name e.name) (take i entries) ≡ false) × (is_past_end e ≡ false)
not_refused entries i e none = kind_none (list_any (has_name e.name) (take i entries)) (is_past_end e) (mapped _ (i + 1) none)

fits : (e : ReelEntry) → is_past_end e ≡ false → e.file + e.frames ≤ 10000000
fits e h = grind (arith, nat_tests)

within_day : (e : ReelEntry) → is_past_end e ≡ false → e.start + e.frames ≤ e.day
within_day e h = grind (arith, nat_tests)

-- no reel of an accepted table goes past its end
pub accepted_fits : (entries : List ReelEntry) → reels_fault entries ≡ None → (i : ℕ) (e : ReelEntry) → slice_get entries i ≡ Some e → (e.file + e.frames ≤ 10000000) × (e.start + e.frames ≤ e.day)
accepted_fits entries none i e at =
    let ends = (not_refused entries i e (none_at entries none i e at)).1 in
    (fits e ends, within_day e ends)

-- ---- in the subject's words

any_in : {X : Type 0} (p : X → Bool) (xs : List X) → list_any p xs ≡ true → (j : ℕ) × (x : X) × (slice_get xs j ≡ Some x) × (p x ≡ true)
any_in p [] h = absurd (false≢true h)
any_in {X} p (x ∷ xs) h = elim (cases_Bool (p x)) [
  | inl passes ↦ (0, x, refl, passes)
  | inr fails ↦ let rest = any_in p xs (rw fails at h) in (suc rest.0, rest.1, rest.2, rest.3)
]

in_any : {X : Type 0} (p : X → Bool) (xs : List X) (j : ℕ) (x : X) → slice_get xs j ≡ Some x → p x ≡ true → list_any p xs ≡ true
in_any p [] j x at h = absurd (none-some x at)
in_any p (y ∷ xs) zero x at h = let same : y ≡ x = same_Some _ _ at in rw (same, h) refl
in_any p (y ∷ xs) (suc j) x at h = or_right (p y) _ (in_any p xs j x at h)

-- an earlier reel has the name
decides_named : (entries : List ReelEntry) (i : ℕ) (name : List ℕ) → Decides (list_any (has_name name) (take i entries)) (IsNamedBefore entries i name)
decides_named entries i name = (
  (λ h. let found = any_in (has_name name) (take i entries) h in
      let at = get_take_within entries i found.0 found.1 found.2 in
      (found.0, found.1, at.0, at.1, (bytes_eq-Decides found.1.name name).0 found.3)),
  (λ (h : IsNamedBefore entries i name). in_any (has_name name) (take i entries) h.0 h.1 (get_take entries i h.0 h.2 ∙ h.3) ((bytes_eq-Decides h.1.name name).1 h.4)),
)

decides_end : (e : ReelEntry) → Decides (is_past_end e) (IsPastEnd e)
decides_end e = Decides-or (ltb e.day (e.start + e.frames)) (ltb 10000000 (e.file + e.frames)) (Decides-ltb e.day (e.start + e.frames)) (Decides-ltb 10000000 (e.file + e.frames))

-- what is not so, by its test
not_so : {P : Type 0} (b : Bool) → Decides b P → (P → ⊥) → b ≡ false
not_so true d never = absurd (never (d.0 refl))
not_so false d never = refl

good_passes : (entries : List ReelEntry) (i : ℕ) (e : ReelEntry) → IsGood entries i e → reel_fault_at entries i e ≡ None
good_passes entries i e good =
    let named = not_so _ (decides_named entries i e.name) good.0 in
    let ends = not_so _ (decides_end e) good.1 in
    rw (named, ends) refl

passes_good : (entries : List ReelEntry) (i : ℕ) (e : ReelEntry) → reel_fault_at entries i e ≡ None → IsGood entries i e
passes_good entries i e none =
    let tests = not_refused entries i e none in
    (not_from_Decides _ (decides_named entries i e.name) tests.0, not_from_Decides _ (decides_end e) tests.1)

pub finds_faults : FindsFaults
finds_faults entries = (
  (λ (none : reels_fault entries ≡ None) (i : ℕ) (e : ReelEntry) (at : slice_get entries i ≡ Some e). passes_good entries i e (none_at entries none i e at)),
  (λ (good : (i : ℕ) (e : ReelEntry) → slice_get entries i ≡ Some e → IsGood entries i e). none_refused entries (λ i e at. good_passes entries i e (good i e at))),
)

kind_of : (entries : List ReelEntry) (i : ℕ) (e : ReelEntry) (kind : ReelKind) → IsFaulty entries i e kind → kind_after (take i entries) e ≡ Some kind
kind_of entries i e TwoNames is = let named = (decides_named entries i e.name).1 is in rw named refl
kind_of entries i e Range is =
    let named = not_so _ (decides_named entries i e.name) is.0 in
    let ends = (decides_end e).1 is.1 in
    rw (named, ends) refl

pub names_first_fault : NamesFirstFault
names_first_fault entries i e kind at good is =
    first_refused entries i e kind at (kind_of entries i e kind is) (λ k z below there. good_passes entries k z (good k z below there))
