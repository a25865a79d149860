-- The map of the places has one reel more.
use Rattle.std.proofs.Common.{◌≡◌, ℕ, ◌+◌, ◌<◌, Bool, true, false, cond, ltb, List, [], ◌∷◌, ◌++◌, length, refl, sym, ap, ◌∙◌, arith, Option, IfSome, inl, inr}
use Rattle.std.specs.Prelude.{Some, None, position}
use Rattle.std.specs.Str.{bytes_eq}
use Rattle.std.specs.Option.{is_some, option_or}
use Rattle.std.specs.List.{list_any, position_from, position_or_len}
use Rattle.std.specs.BTreeMap.{BTreeMap, Updates, get}
use Rattle.std.proofs.lemmas.Bool.{cases_Bool, false≢true}
use Rattle.std.proofs.lemmas.Bool.Decides.{Decides-ltb}
use Rattle.std.proofs.lemmas.Iterator.Adapters.{position_from-zero}
use Rattle.std.proofs.lemmas.Map.Text.{is_eq-slice_cmp}
use Rattle.std.proofs.lemmas.Slice.Eq.{bytes_eq-Decides}
use Rattle.cf_base.specs.declared.reel.ReelEntry.{ReelEntry}
use Rattle.source_reels.proofs.Faults.{kind_none}
use Rattle.source_reels.specs.inside.Places.{HasPlaces, name_cmp}
use Rattle.source_reels.specs.Reels.{reel_place, has_name, kind_after, is_past_end}
use Rattle.source_reels.specs.declared.table.ReelKind.TheVariants.{TwoNames, Range}

-- ---- the first that passes, behind others

any_from : {X : Type 0} (p : X → Bool) (i : ℕ) (xs : List X) → is_some (position_from p i xs) ≡ list_any p xs
any_from p i [] = refl
any_from p i (x ∷ xs) = elim (cases_Bool (p x)) [
  | inl passes ↦ rw passes refl
  | inr fails ↦ rw fails (any_from p (i + 1) xs)
]

is_any : {X : Type 0} (p : X → Bool) (xs : List X) → is_some (position p xs) ≡ list_any p xs
is_any p xs = ap is_some (position_from-zero p xs) ∙ any_from p 0 xs

from_more : {X : Type 0} (p : X → Bool) (i : ℕ) (xs : List X) (x : X) → position_from p i (xs ++ x ∷ []) ≡ option_or (position_from p i xs) (cond (p x) (Some (i + length xs)) None)
from_more p i [] x = let same : i + 0 ≡ i = omega arith in rw same refl
from_more p i (y ∷ ys) x =
    let same : i + length (y ∷ ys) ≡ i + 1 + length ys = omega arith in
    elim (cases_Bool (p y)) [
      | inl passes ↦ rw passes refl
      | inr fails ↦ rw (fails, same) (from_more p (i + 1) ys x)
    ]

place_more : (before : List ReelEntry) (e : ReelEntry) (name : List ℕ) → reel_place (before ++ e ∷ []) name ≡ option_or (reel_place before name) (cond (has_name name e) (Some (length before)) None)
place_more before e name =
    let zero_plus : 0 + length before ≡ length before = omega arith in
    position_from-zero (has_name name) (before ++ e ∷ []) ∙ rw zero_plus at (from_more (has_name name) 0 before e)
    ∙ ap (λ (o : Option ℕ). option_or o (cond (has_name name e) (Some (length before)) None)) (sym (position_from-zero (has_name name) before))

-- ---- the map with one reel more

no_more : (o : Option ℕ) → option_or o None ≡ o
no_more None = refl
no_more (Some n) = refl

added : (before : List ReelEntry) (e : ReelEntry) (name : List ℕ) (same : Bool) → has_name name e ≡ same → reel_place before e.name ≡ None
    → cond same (Some (length before)) (reel_place before name) ≡ option_or (reel_place before name) (cond same (Some (length before)) None)
added before e name true is none = rw (sym ((bytes_eq-Decides e.name name).0 is), none) refl
added before e name false is none = sym (no_more (reel_place before name))

pub places_more : (before : List ReelEntry) (i : ℕ) (e : ReelEntry) (m n : BTreeMap (List ℕ) ℕ) → length before ≡ i → HasPlaces before m → get name_cmp m e.name ≡ None → Updates name_cmp m n e.name (Some i) → HasPlaces (before ++ e ∷ []) n
places_more before i e m n long has none u name =
    u.0 name
    ∙ ap (λ (b : Bool). cond b (Some i) (get name_cmp m name)) (is_eq-slice_cmp e.name name)
    ∙ rw (has name, sym long) (added before e name (bytes_eq e.name name) refl (sym (has e.name) ∙ none))
    ∙ sym (place_more before e name)

-- ---- what is wrong with a reel

-- a name that the map has is that of an earlier reel
named : (before : List ReelEntry) (m : BTreeMap (List ℕ) ℕ) (name : List ℕ) → HasPlaces before m → is_some (get name_cmp m name) ≡ list_any (has_name name) before
named before m name has = ap is_some (has name) ∙ is_any (has_name name) before

pub kind_by : (before : List ReelEntry) (m : BTreeMap (List ℕ) ℕ) (e : ReelEntry) (known past : Bool) → HasPlaces before m → known ≡ is_some (get name_cmp m e.name) → past ≡ is_past_end e
    → cond known (Some TwoNames) (cond past (Some Range) None) ≡ kind_after before e
kind_by before m e known past has is_known ends = rw (is_known ∙ named before m e.name has, ends) refl

no_place : (o : Option ℕ) → is_some o ≡ false → o ≡ None
no_place None h = refl
no_place (Some n) h = absurd (false≢true (sym h))

-- the map has no place of a reel that is not refused
pub new_name : (before : List ReelEntry) (m : BTreeMap (List ℕ) ℕ) (e : ReelEntry) → HasPlaces before m → kind_after before e ≡ None → get name_cmp m e.name ≡ None
new_name before m e has good = no_place _ (named before m e.name has ∙ (kind_none (list_any (has_name e.name) before) (is_past_end e) good).0)

-- ---- the table

below : (b : Bool) (n m : ℕ) → ltb n m ≡ b → IfSome (cond b (Some n) None) (λ k. k < m)
below true n m h = (Decides-ltb n m).0 h
below false n m h = tt

-- a place is one of the table
pub within_table : (entries : List ReelEntry) (name : List ℕ) → IfSome (reel_place entries name) (λ reel. reel < length entries)
within_table entries name = below (ltb (position_or_len (has_name name) entries) (length entries)) (position_or_len (has_name name) entries) (length entries) refl
