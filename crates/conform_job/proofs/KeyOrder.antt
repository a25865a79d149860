-- Keys that tie in their order are equal.
use Rattle.std.proofs.Common.{◌≡◌, ℕ, Bool, true, false, cond, ◌&&◌, ◌==◌, List, [], ◌∷◌, refl, sym, ◌∙◌, ap, arith, Option}
use Rattle.std.specs.Prelude.{Some, None}
use Rattle.std.proofs.lemmas.Bool.{true≢false}
use Rattle.std.proofs.lemmas.Option.{none-some}
use Rattle.std.specs.Ordering.{is_eq, nat_cmp, ordering_then, match_ordering}
use Rattle.std.specs.declared.cmp.Ordering.{Ordering}
use Rattle.std.specs.declared.cmp.Ordering.TheVariants.{Less, Equal, Greater}
use Rattle.std.specs.Map.{lookup}
use Rattle.std.specs.BTreeMap.{is_at, get, BTreeMap, insert_entry}
use Rattle.std.proofs.lemmas.Bool.Decides.{nat_tests}
use Rattle.cf_base.specs.declared.key.Key.{Key}
use Rattle.cf_base.specs.contracts.key.KeyOrd.TheImpl.{cmp-value}
use Rattle.dpx_header.specs.declared.info.FrameInfo.{FrameInfo}
use Rattle.conform_job.specs.Infos.{HasEachOnce}
use Rattle.conform_job.proofs.Growing.{turned}
use Rattle.conform_job.specs.Keys.{is_key, info_at}

then_eq : (r s : Ordering) → is_eq (ordering_then r s) ≡ is_eq r && is_eq s
then_eq Less s = refl
then_eq Equal s = refl
then_eq Greater s = refl

nat_eq_cmp : (a b : ℕ) → is_eq (nat_cmp a b) ≡ (a == b)
nat_eq_cmp a b = grind (arith, nat_tests)

pub alike : (a b : Key) → is_eq (cmp-value.it a b) ≡ is_key a b
alike a b = then_eq (nat_cmp a.reel b.reel) (nat_cmp a.source b.source) ∙ rw (nat_eq_cmp a.reel b.reel, nat_eq_cmp a.source b.source) refl

pub found_alike : (m : BTreeMap Key FrameInfo) (q : Key) → get cmp-value.it m q ≡ info_at m.entries q
found_alike m q i = lookup (λ k. alike q k i) m.entries

pub set_alike : (old new : BTreeMap Key FrameInfo) (before : List (Key × FrameInfo)) (key : Key) (info : FrameInfo) (q : Key) → old.entries ≡ before
    → get cmp-value.it new q ≡ cond (is_at (cmp-value.it key) q) (Some info) (get cmp-value.it old q)
    → info_at new.entries q ≡ cond (is_key key q) (Some info) (info_at before q)
set_alike old new before key info q same step =
    sym (found_alike new q) ∙ step ∙ ap (λ b. cond b (Some info) (get cmp-value.it old q)) (alike key q) ∙ ap (cond (is_key key q) (Some info)) (found_alike old q ∙ ap (λ es. info_at es q) same)

-- ---- no key has two infos

still_none : (entries : List (Key × FrameInfo)) (key : Key) (info : FrameInfo) (q : Key) → is_key q key ≡ false → info_at entries q ≡ None → info_at (insert_entry cmp-value.it entries key info) q ≡ None
still_none [] key info q apart none = rw apart refl
still_none (e ∷ es) key info q apart none = by (still_none es key info q apart) (cmp-value.it key e.0) (is_key q e.0) refl none
  where
    by : (info_at es q ≡ None → info_at (insert_entry cmp-value.it es key info) q ≡ None) → (order : Ordering) (same : Bool) → is_key q e.0 ≡ same → cond same (Some e.1) (info_at es q) ≡ None
        → info_at (match_ordering order ((key, info) ∷ e ∷ es) ((e.0, info) ∷ es) (e ∷ insert_entry cmp-value.it es key info)) q ≡ None
    by later order true same none = absurd (none-some e.1 (sym none))
    by later Less false same none = rw (apart, same) none
    by later Equal false same none = rw same none
    by later Greater false same none = rw same (later none)

new_key : (b : Bool) (info : FrameInfo) (r : Option FrameInfo) → cond b (Some info) r ≡ None → (b ≡ false) × (r ≡ None)
new_key true info r h = absurd (none-some info (sym h))
new_key false info r h = (refl, h)

-- nor has one that a new key comes to
pub once_set : (entries : List (Key × FrameInfo)) (key : Key) (info : FrameInfo) → info_at entries key ≡ None → HasEachOnce entries → HasEachOnce (insert_entry cmp-value.it entries key info)
once_set [] key info none h = (refl, tt)
once_set (e ∷ es) key info none h = by (λ absent. once_set es key info absent h.1) (cmp-value.it key e.0) refl
  where
    apart : (is_key key e.0 ≡ false) × (info_at es key ≡ None)
    apart = new_key (is_key key e.0) e.1 (info_at es key) none

    by : (info_at es key ≡ None → HasEachOnce (insert_entry cmp-value.it es key info)) → (order : Ordering) → cmp-value.it key e.0 ≡ order
        → HasEachOnce (match_ordering order ((key, info) ∷ e ∷ es) ((e.0, info) ∷ es) (e ∷ insert_entry cmp-value.it es key info))
    by later Less is = (none, h)
    by later Equal is = absurd (true≢false (ap is_eq (sym is) ∙ alike key e.0 ∙ apart.0))
    by later Greater is = (still_none es key info e.0 (turned e.0 key ∙ apart.0) h.0, later apart.1)

pub once_by : (before after old : List (Key × FrameInfo)) (key : Key) (info : FrameInfo) → before ≡ old → after ≡ insert_entry cmp-value.it old key info → info_at before key ≡ None → HasEachOnce before → HasEachOnce after
once_by before after old key info same is none once = rw is (once_set old key info (rw same at none) (rw same at once))
