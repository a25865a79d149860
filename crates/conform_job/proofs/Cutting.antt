-- Cuts in turn: their frame numbers ascend, and the reel of a frame is the one in whose span it lies.
use Rattle.std.proofs.Common.{◌≡◌, ◌∙◌, ℕ, zero, suc, ◌+◌, ◌-◌, ◌<◌, ◌≤◌, Bool, true, false, cond, List, [], ◌∷◌, ◌++◌, length, map, filter_map, get_or, drop, Option, refl, sym, ap, subst, inl, inr, arith}
use Rattle.std.specs.Prelude.{Some, None, ◌↔◌, nat_lt, nat_le, slice_index}
use Rattle.std.specs.List.{count_by, AllWithin}
use Rattle.std.specs.List.Sorted.{IsNonDecreasing}
use Rattle.std.proofs.lemmas.Bool.{and_parts, cases_lt, le-leb, lt-leb, ltb-true}
use Rattle.std.proofs.lemmas.List.Sums.{count_by-le-length, sum_by-cons}
use Rattle.cf_base.specs.declared.lines.Span.{Span}
use Rattle.record_timeline.specs.Accepted.{first_frame, frame_count}
use Rattle.conform_job.specs.declared.parts.JobParts.{JobParts}
use Rattle.conform_job.specs.declared.parts.JobFault.{JobFault}
use Rattle.conform_job.specs.declared.parts.JobFault.TheVariants.{BadCut}
use Rattle.conform_job.specs.Cuts.{bad_cut, bad_cut_among, cut_number, cut_numbers, is_in_turn, record_end, record_reel, reel_count, reel_ends, reel_span, reel_starts, HasFramesOf, IsWithin}

-- ---- one cut after another

pub cut_found : (n a e : ℕ) (cut : Option ℕ) (others : List (Option ℕ)) → is_in_turn e (Some a) cut ≡ false → bad_cut_among n a e (cut ∷ others) ≡ Some (BadCut n)
cut_found n a e cut others bad = rw bad refl

pub cut_passed : (n a e c : ℕ) (others : List (Option ℕ)) → is_in_turn e (Some a) (Some c) ≡ true → bad_cut_among n a e (Some c ∷ others) ≡ bad_cut_among (n + 1) c e others
cut_passed n a e c others good = rw good refl

record InTurn (n a e : ℕ) (cut : Option ℕ) (others : List (Option ℕ)) : Type 0 where
  number : ℕ
  is : cut ≡ Some number
  above : a < number
  below : number < e
  rest : bad_cut_among (n + 1) number e others ≡ None

turn : (n a e : ℕ) (cut : Option ℕ) (others : List (Option ℕ)) → bad_cut_among n a e (cut ∷ others) ≡ None → InTurn n a e cut others
turn n a e None others none = absurd (let no : ◌≡◌ {A = Option JobFault} (Some (BadCut n)) None = none in cc)
turn n a e (Some c) others none = by_test (is_in_turn e (Some a) (Some c)) refl
  where
    by_test : (b : Bool) → is_in_turn e (Some a) (Some c) ≡ b → InTurn n a e (Some c) others
    by_test true good =
        let parts = and_parts (nat_lt a c) (nat_lt c e) good in
        record { number = c; is = refl; above = ltb-true a c parts.0; below = ltb-true c e parts.1; rest = sym (cut_passed n a e c others good) ∙ none }
    by_test false bad = absurd (let no : ◌≡◌ {A = Option JobFault} (Some (BadCut n)) None = sym (cut_found n a e (Some c) others bad) ∙ none in cc)

-- ---- numbers that ascend

-- each is above the one before it, the first above a, and all are below e
abbrev pub Ascends : ℕ → ℕ → List ℕ → Type 0
Ascends a e [] = Unit {0}
Ascends a e (c ∷ cs) = (a < c) × (c < e) × Ascends c e cs

module _ (f : List ℕ → Option ℕ) where
  pub ascending : (n a e : ℕ) (texts : List (List ℕ)) → bad_cut_among n a e (map f texts) ≡ None → Ascends a e (filter_map f texts)
  ascending n a e [] none = tt
  ascending n a e (text ∷ texts) none =
      let here = turn n a e (f text) (map f texts) none in
      rw here.is (here.above, here.below, ascending (n + 1) here.number e texts here.rest)

  pub each_a_cut : (n a e : ℕ) (texts : List (List ℕ)) → bad_cut_among n a e (map f texts) ≡ None → length (filter_map f texts) ≡ length texts
  each_a_cut n a e [] none = refl
  each_a_cut n a e (text ∷ texts) none =
      let here = turn n a e (f text) (map f texts) none in
      rw here.is (ap suc (each_a_cut (n + 1) here.number e texts here.rest))

behind : (c e : ℕ) (cs : List ℕ) (j d : ℕ) → Ascends c e cs → j < length cs → c ≤ get_or cs j d
behind c e [] j d up lt = absurd (omega (arith, lt))
behind c e (x ∷ cs) zero d up lt = omega (arith, up.0)
behind c e (x ∷ cs) (suc j) d up lt = omega (arith, up.0, behind x e cs j d up.2 (omega (arith, lt)))

pub never_fall : (a e : ℕ) (cs : List ℕ) → Ascends a e cs → IsNonDecreasing cs
never_fall a e [] up i j d le lt = absurd (omega (arith, lt))
never_fall a e (c ∷ cs) up zero zero d le lt = omega arith
never_fall a e (c ∷ cs) up zero (suc j) d le lt = behind c e cs j d up.2 (omega (arith, lt))
never_fall a e (c ∷ cs) up (suc i) zero d le lt = absurd (omega (arith, le))
never_fall a e (c ∷ cs) up (suc i) (suc j) d le lt = never_fall c e cs up.2 i j d (omega (arith, le)) (omega (arith, lt))

-- those that pass stand before those that don't
pub split_count : (p : ℕ → Bool) (xs : List ℕ) (i : ℕ) → i ≤ length xs → AllWithin (λ y. p y ≡ true) xs 0 i → AllWithin (λ y. p y ≡ false) xs i (length xs) → count_by p xs ≡ i
split_count p [] zero le before after = refl
split_count p [] (suc i) le before after = absurd (omega (arith, le))
split_count p (x ∷ xs) zero le before after =
    let first : p x ≡ false = after 0 x (omega arith) (omega arith) in
    let rest = split_count p xs 0 (omega arith) (λ k d low high. absurd (omega (arith, high))) (λ k d low high. after (suc k) d (omega arith) (omega (arith, high))) in
    sum_by-cons (λ y. cond (p y) 1 0) x xs ∙ rw (first, rest) refl
split_count p (x ∷ xs) (suc i) le before after =
    let first : p x ≡ true = before 0 x (omega arith) (omega arith) in
    let rest = split_count p xs i (omega (arith, le)) (λ k d low high. before (suc k) d (omega arith) (omega (arith, high))) (λ k d low high. after (suc k) d (omega (arith, low)) (omega (arith, high))) in
    sum_by-cons (λ y. cond (p y) 1 0) x xs ∙ rw (first, rest) (omega arith)

-- ---- the reel of a frame

-- a reel begins no earlier than the record
from_first : (a e : ℕ) (cs : List ℕ) (k : ℕ) → k ≤ length cs → Ascends a e cs → a ≤ slice_index (a ∷ cs) k
from_first a e cs zero le up = omega arith
from_first a e [] (suc k) le up = absurd (omega (arith, le))
from_first a e (c ∷ cs) (suc k) le up = let rest : c ≤ slice_index (c ∷ cs) k = from_first c e cs k (omega (arith, le)) up.2 in omega (arith, up.0, rest)

-- and ends no earlier
to_end : (a e : ℕ) (cs : List ℕ) (k : ℕ) → k ≤ length cs → a ≤ e → Ascends a e cs → a ≤ slice_index (cs ++ e ∷ []) k
to_end a e [] zero le high up = high
to_end a e [] (suc k) le high up = absurd (omega (arith, le))
to_end a e (c ∷ cs) zero le high up = omega (arith, up.0)
to_end a e (c ∷ cs) (suc k) le high up =
    let rest : c ≤ slice_index (cs ++ e ∷ []) k = to_end c e cs k (omega (arith, le)) (omega (arith, up.1)) up.2 in omega (arith, up.0, rest)

module _ (n : ℕ) where
  none_up_to : (c e : ℕ) (cs : List ℕ) → n < c → Ascends c e cs → count_by (λ cut. nat_le cut n) cs ≡ 0
  none_up_to c e [] below up = refl
  none_up_to c e (x ∷ cs) below up =
      let no : nat_le x n ≡ false = lt-leb x n (omega (arith, up.0)) in
      let rest = none_up_to x e cs (omega (arith, up.0)) up.2 in
      rw (no, rest) refl

  no_more : (c e : ℕ) (cs : List ℕ) → n < c → Ascends c e cs → count_by (λ cut. nat_le cut n) (c ∷ cs) ≡ 0
  no_more c e cs below up =
      let no : nat_le c n ≡ false = lt-leb c n below in
      let rest = none_up_to c e cs below up in
      rw (no, rest) refl

  one_more : (c : ℕ) (cs : List ℕ) → c ≤ n → count_by (λ cut. nat_le cut n) (c ∷ cs) ≡ 1 + count_by (λ cut. nat_le cut n) cs
  one_more c cs le = let here : nat_le c n ≡ true = le-leb c n le in sum_by-cons (λ cut. cond (nat_le cut n) 1 0) c cs ∙ rw here refl

  -- so many cuts are at or below the frame as it is behind reels
  pub lies_in : (a e : ℕ) (cs : List ℕ) (k : ℕ) → Ascends a e cs → a ≤ n → n < e → k ≤ length cs
      → (count_by (λ cut. nat_le cut n) cs ≡ k) ↔ ((slice_index (a ∷ cs) k ≤ n) × (n < slice_index (cs ++ e ∷ []) k))
  lies_in a e [] zero up low high le = ((λ is. (low, high)), (λ within. refl))
  lies_in a e [] (suc k) up low high le = absurd (omega (arith, le))
  lies_in a e (c ∷ cs) zero up low high le = elim (cases_lt n c) [
    | inl below ↦ ((λ is. (low, below)), (λ within. no_more c e cs below up.2))
    | inr reached ↦ ((λ is. absurd (omega (arith, is, one_more c cs reached))), (λ within. absurd (omega (arith, within.1, reached))))
  ]
  lies_in a e (c ∷ cs) (suc k) up low high le = elim (cases_lt n c) [
    | inl below ↦ (
      (λ is. absurd (omega (arith, is, no_more c e cs below up.2))),
      (λ within. absurd (omega (arith, within.0, below, from_first c e cs k (omega (arith, le)) up.2))),
    )
    | inr reached ↦ (
      (λ is. (lies_in c e cs k up.2 reached high (omega (arith, le))).0 (omega (arith, is, one_more c cs reached))),
      (λ within. omega (arith, one_more c cs reached, (lies_in c e cs k up.2 reached high (omega (arith, le))).1 within)),
    )
  ]

module _ (p : JobParts) (good : bad_cut p ≡ None) where
  pub cuts_ascend : Ascends (first_frame p.timeline.events) (record_end p.timeline) (cut_numbers p)
  unfolding bad_cut
  cuts_ascend = ascending (cut_number p) 1 (first_frame p.timeline.events) (record_end p.timeline) p.project.cuts good

  pub cut_count : length (cut_numbers p) ≡ length p.project.cuts
  unfolding bad_cut
  cut_count = each_a_cut (cut_number p) 1 (first_frame p.timeline.events) (record_end p.timeline) p.project.cuts good

  pub reel_most : (i : ℕ) → record_reel p i ≤ reel_count p
  unfolding record_reel
  reel_most i = omega (arith, count_by-le-length (λ cut. nat_le cut (first_frame p.timeline.events + i)) (cut_numbers p), cut_count)

  pub reel_some : (i : ℕ) → 1 ≤ record_reel p i
  unfolding record_reel
  reel_some i = omega arith

  -- the first frame of a reel isn't before the record's
  pub start_low : (reel : ℕ) → reel ≤ reel_count p → first_frame p.timeline.events ≤ slice_index (reel_starts p) (reel - 1)
  start_low reel most = from_first (first_frame p.timeline.events) (record_end p.timeline) (cut_numbers p) (reel - 1) (omega (arith, most, cut_count)) cuts_ascend

  pub end_low : (reel : ℕ) → reel ≤ reel_count p → first_frame p.timeline.events ≤ slice_index (reel_ends p) (reel - 1)
  end_low reel most = to_end (first_frame p.timeline.events) (record_end p.timeline) (cut_numbers p) (reel - 1) (omega (arith, most, cut_count)) (omega arith) cuts_ascend

  pub has_frames : (reel : ℕ) → 1 ≤ reel → reel ≤ reel_count p → HasFramesOf p reel (reel_span p reel)
  unfolding record_reel reel_span
  has_frames reel some most i lt =
      let law = lies_in (first_frame p.timeline.events + i) (first_frame p.timeline.events) (record_end p.timeline) (cut_numbers p) (reel - 1) cuts_ascend (omega arith) (omega (arith, lt)) (omega (arith, most, cut_count)) in
      let low = start_low reel most in (
        (λ is. let within = law.0 (omega (arith, is, some)) in (omega (arith, within.0, low), omega (arith, within.1))),
        (λ within. omega (arith, law.1 (omega (arith, within.0, low), omega (arith, within.1)), some)),
      )

  pub own_span : (i : ℕ) → i < frame_count p.timeline.events → IsWithin i (reel_span p (record_reel p i))
  own_span i lt = (has_frames (record_reel p i) (reel_some i) (reel_most i) i lt).0 refl

-- what the calls find
module _ (p : JobParts) (good : bad_cut p ≡ None) (cuts : List ℕ) (first : ℕ) (all : cuts ≡ cut_numbers p) (begins : first ≡ first_frame p.timeline.events) where
  pub few_cuts : length p.project.cuts ≤ 998 → length cuts ≤ 998
  few_cuts few = omega (arith, ap length all, cut_count p good, few)

  pub no_falls : IsNonDecreasing cuts
  no_falls = subst IsNonDecreasing (sym all) (never_fall (first_frame p.timeline.events) (record_end p.timeline) (cut_numbers p) (cuts_ascend p good))

  pub reel_found : (i count : ℕ) → count ≡ count_by (λ cut. nat_le cut (first + i)) cuts → 1 + count ≡ record_reel p i
  unfolding record_reel
  reel_found i count is = rw (is, all, begins) refl

  module _ (reel place : ℕ) (some : 1 ≤ reel) (most : reel ≤ reel_count p) (at : place ≡ reel - 1) where
    pub place_low : place ≤ length cuts
    place_low = omega (arith, at, ap length all, cut_count p good, most, some)

    pub start_found : (start : ℕ) → start ≡ slice_index (first ∷ cuts) place → start ≡ slice_index (reel_starts p) (reel - 1)
    start_found start is = is ∙ rw (all, begins, at) refl

    pub end_found : (end : ℕ) → end ≡ slice_index (cuts ++ record_end p.timeline ∷ []) place → end ≡ slice_index (reel_ends p) (reel - 1)
    end_found end is = is ∙ rw (all, at) refl

    pub start_above : (start : ℕ) → start ≡ slice_index (first ∷ cuts) place → first ≤ start
    start_above start is = omega (arith, begins, start_found start is, start_low p good reel most)

    pub end_above : (end : ℕ) → end ≡ slice_index (cuts ++ record_end p.timeline ∷ []) place → first ≤ end
    end_above end is = omega (arith, begins, end_found end is, end_low p good reel most)

    pub span_found : (start end : ℕ) → start ≡ slice_index (first ∷ cuts) place → end ≡ slice_index (cuts ++ record_end p.timeline ∷ []) place
        → ◌≡◌ {A = Span} (record { start = start - first; end = end - first }) (reel_span p reel)
    unfolding reel_span
    span_found start end begin finish = rw (start_found start begin, end_found end finish, begins) refl

-- ---- a pass over the cuts

-- what stands before the cut at a place: its number, the numbers of those before it, and what is left to test
pub record CutsSoFar (p : JobParts) (texts : List (List ℕ)) (index number before : ℕ) (done : List ℕ) : Type 0 where
  pub count : number ≡ index + 1
  pub taken : filter_map (cut_number p) texts ≡ done ++ filter_map (cut_number p) (drop index texts)
  pub rest : bad_cut_among 1 (first_frame p.timeline.events) (record_end p.timeline) (map (cut_number p) texts)
      ≡ bad_cut_among number before (record_end p.timeline) (map (cut_number p) (drop index texts))
