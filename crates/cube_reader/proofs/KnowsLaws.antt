-- What is known after some lines, a line more.
use Rattle.std.proofs.Common.{◌≡◌, ℕ, ◌+◌, ◌<◌, ◌≤◌, Bool, true, false, not, cond, ◌&&◌, ◌||◌, ◌==◌, List, [], ◌∷◌, ◌++◌, length, map, refl, ap, sym, subst, ◌∙◌, arith, Option, Result, inl, inr, ℤ, pos, negsuc, zero, suc}
use Rattle.std.specs.Prelude.{Some, None, Ok, Err, nat_le, nat_lt, unsigned_abs, slice_index_or, unwrap_or}
use Rattle.std.specs.List.{list_any, list_all, filter, count_by}
use Rattle.std.specs.Str.Parse.{digits_value}
use Rattle.std.specs.Char.{is_ascii_digit}
use Rattle.std.proofs.lemmas.Bool.{cases_Bool, or_parts, and_parts, false≢true, true≢false, eqb-true, eqb-false, leb-true, leb-false, ltb-false}
use Rattle.std.proofs.lemmas.Int.{ints}
use Rattle.std.proofs.lemmas.List.{append-nil, map-append, length-map}
use Rattle.std.proofs.lemmas.List.Elements.{All-append, All-cons, All-nil}
use Rattle.cf_base.specs.declared.fixed.Fixed.{Fixed}
use Rattle.cube_reader.specs.declared.fault.CubeKind.{CubeKind}
use Rattle.cube_reader.specs.declared.fault.CubeKind.TheVariants.{Keyword as BadKeyword, Size, Number, Domain, Both}
use Rattle.cube_reader.specs.declared.keywords.Keyword.{Keyword}
use Rattle.cube_reader.specs.declared.keywords.Keyword.TheVariants.{Title, LineSize, CubeSize, DomainMin, DomainMax, LineRange, CubeRange}
use Rattle.cube_reader.specs.declared.state.State.{State}
use Rattle.cube_reader.specs.Table.{IsBound, units, entry_count, greatest_size}
use Rattle.cube_reader.specs.Text.{Line, word, arguments, is_data, is_size_line, has_size, are_numbers, numbers, is_far, is_size, on_all, low_set, high_set, size_of, low_of, high_of, clamped}
use Rattle.cube_reader.specs.inside.Steps.{judged, bounds, size_in, spelling, is_word, has_stood, names, changed, sized, bounded, known_step, keyword_step, knows_size, are_ordered, is_full_state, data_step, entries_of, IsSound, Knows}
use Rattle.cube_reader.proofs.MoreLaws.{any_more, any_either, none_left, filter_one, count_more, last_more}
use Rattle.cube_reader.proofs.WordLaws.{numbers_length}
use Rattle.cube_reader.proofs.KeywordLaws.{no_data, no_word, no_size_set, no_low_set, no_high_set, has_noted}

-- Bounds.

near : (z : ℤ) → nat_lt 100000000000 (unsigned_abs z) ≡ false → IsBound z
near (pos n) h = let most : n ≤ 100000000000 = ltb-false _ _ h in (omega (arith, ints), omega (arith, ints))
near (negsuc n) h = let most : suc n ≤ 100000000000 = ltb-false _ _ h in (omega (arith, ints), omega (arith, ints))

zero_bound : IsBound (pos 0)
zero_bound = (omega (arith, ints), omega (arith, ints))

one_bound : IsBound (pos 1000000000)
one_bound = (omega (arith, ints), omega (arith, ints))

pub near_each : (vs : List Fixed) → list_any is_far vs ≡ false → (c : ℕ) → IsBound (units vs c)
near_each [] h c = zero_bound
near_each (v ∷ vs) h zero = near v.0 (or_parts _ _ h).0
near_each (v ∷ vs) h (suc c) = near_each vs (or_parts _ _ h).1 c

near_all : (vs : List Fixed) (n : ℕ) → list_any is_far vs ≡ false → (c : ℕ) → c < 3 → IsBound (units (on_all vs n) c)
near_all vs n h zero small = near_each vs h n
near_all vs n h (suc zero) small = near_each vs h n
near_all vs n h (suc (suc zero)) small = near_each vs h n
near_all vs n h (suc (suc (suc c))) small = absurd (omega arith)

bounds_parts : (n : ℕ) (ws : List (List ℕ)) (vs : List Fixed) → bounds n ws ≡ Ok vs → (are_numbers n ws ≡ true) × (numbers ws ≡ vs) × (list_any is_far vs ≡ false)
bounds_parts n ws vs = by_tests (are_numbers n ws) (numbers ws) (list_any is_far (numbers ws)) refl
  where
    never : (kind : CubeKind) → ◌≡◌ {A = Result (List Fixed) CubeKind} (Err kind) (Ok vs) → ⊥
    never kind h = cc

    same_ok : (x : List Fixed) → ◌≡◌ {A = Result (List Fixed) CubeKind} (Ok x) (Ok vs) → x ≡ vs
    same_ok x h = cc

    by_tests : (good : Bool) (xs : List Fixed) (far : Bool) → list_any is_far xs ≡ far → judged (cond good (Some xs) None) ≡ Ok vs → (good ≡ true) × (xs ≡ vs) × (list_any is_far vs ≡ false)
    by_tests false xs far is h = absurd (never Number h)
    by_tests true xs true is h = absurd (never Domain (rw is at h))
    by_tests true xs false is h = let same : xs ≡ vs = same_ok xs (rw is at h) in (refl, same, rw same at is)

size_parts : (greatest : ℕ) (ws : List (List ℕ)) (n : ℕ) → size_in greatest ws ≡ Some n → (n ≡ digits_value 10 (slice_index_or ws 0 [])) × (2 ≤ n) × (n ≤ greatest)
size_parts greatest ws n h =
    let token : List ℕ = slice_index_or ws 0 [] in
    let v : ℕ = digits_value 10 token in
    let is = parts (is_size greatest ws) v h in
    let e = and_parts (length ws == 1 && nat_le 1 (length token) && nat_le (length token) 6 && list_all is_ascii_digit token && nat_le 2 v) (nat_le v greatest) is.0 in
    let d = and_parts (length ws == 1 && nat_le 1 (length token) && nat_le (length token) 6 && list_all is_ascii_digit token) (nat_le 2 v) e.0 in
    let same : v ≡ n = is.1 in
    (sym same, rw same at (leb-true 2 v d.1), rw same at (leb-true v greatest e.1))
  where
    parts : (b : Bool) (v : ℕ) → ◌≡◌ {A = Option ℕ} (cond b (Some v) None) (Some n) → (b ≡ true) × (v ≡ n)
    parts true v h = (refl, cc)
    parts false v h = absurd (never h)
      where
        never : ◌≡◌ {A = Option ℕ} None (Some n) → ⊥
        never h = cc

abbrev pub data_more : State → State
data_more s = record { seen = s.seen; size = s.size; low = s.low; high = s.high; data_lines = s.data_lines + 1 }

-- the parts of a state without a fault for a data line
pub data_parts : (s : State) → data_step s ≡ None → (knows_size s ≡ true) × ((s.data_lines == 0 && not (are_ordered s)) ≡ false) × (is_full_state s ≡ false)
data_parts s h = elim (cases_Bool (knows_size s)) [
  | inr f ↦ absurd (never _ (rw f at h))
  | inl t ↦ elim (cases_Bool (s.data_lines == 0 && not (are_ordered s))) [
    | inl bad ↦ absurd (never _ (rw (t, bad) at h))
    | inr good ↦ elim (cases_Bool (is_full_state s)) [
      | inl full ↦ absurd (never _ (rw (t, good, full) at h))
      | inr room ↦ (t, good, room)
    ]
  ]
]
  where
    never : (kind : CubeKind) → ◌≡◌ {A = Option CubeKind} (Some kind) None → ⊥
    never kind h = cc

-- the entries, a line more
pub entries_more : (before : List Line) (line : Line) → entries_of (before ++ line ∷ []) ≡ entries_of before ++ map (λ line. map clamped (numbers line)) (cond (is_data line) (line ∷ []) [])
entries_more before line =
    ap (map (λ line. map clamped (numbers line))) (filter_one is_data before line) ∙ map-append (λ line. map clamped (numbers line)) (filter is_data before) (cond (is_data line) (line ∷ []) [])

module _ (before : List Line) (s : State) (h : Knows before s) where
  pub size_known : knows_size s ≡ has_size before
  size_known = rw (h.seen LineSize, h.seen CubeSize) (sym (any_either (is_word LineSize) (is_word CubeSize) before))

  module _ (line : Line) where
    size_kept : is_size_line line ≡ false → size_of (before ++ line ∷ []) ≡ size_of before
    size_kept none =
        let same : filter is_size_line (before ++ line ∷ []) ≡ filter is_size_line before = filter_one is_size_line before line ∙ rw none (append-nil (filter is_size_line before)) in
        ap (λ (ls : List Line). digits_value 10 (slice_index_or (arguments (slice_index_or ls 0 [])) 0 [])) same

    size_set : is_size_line line ≡ true → has_size before ≡ false → size_of (before ++ line ∷ []) ≡ digits_value 10 (slice_index_or (arguments line) 0 [])
    size_set some none =
        let one : filter is_size_line (before ++ line ∷ []) ≡ line ∷ [] = filter_one is_size_line before line ∙ rw (some, none_left is_size_line before none) refl in
        ap (λ (ls : List Line). digits_value 10 (slice_index_or (arguments (slice_index_or ls 0 [])) 0 [])) one

    low_more : (o : Option (List Fixed)) → low_set line ≡ o → low_of (before ++ line ∷ []) ≡ unwrap_or o (low_of before)
    low_more o is = last_more low_set _ before line ∙ rw is refl

    high_more : (o : Option (List Fixed)) → high_set line ≡ o → high_of (before ++ line ∷ []) ≡ unwrap_or o (high_of before)
    high_more o is = last_more high_set _ before line ∙ rw is refl

    pub entries_same : is_data line ≡ false → entries_of (before ++ line ∷ []) ≡ entries_of before
    entries_same none = entries_more before line ∙ rw (none, append-nil) refl

    lines_same : is_data line ≡ false → s.data_lines ≡ count_by is_data (before ++ line ∷ [])
    lines_same none = let e = count_more is_data before line in let f = h.data_lines in let z : ◌≡◌ {A = ℕ} (cond (is_data line) 1 0) 0 = rw none refl in omega (arith, e, f, z)

    -- a line that is passed over
    pub knows_passed : ((k : Keyword) → is_word k line ≡ false) → is_data line ≡ false → Knows (before ++ line ∷ []) s
    knows_passed none plain = record {
      seen = λ k. h.seen k ∙ sym (any_more (is_word k) before line ∙ rw (none k) refl);
      size = h.size ∙ sym (size_kept (no_size_set line none));
      low = h.low ∙ sym (low_more None (no_low_set line none));
      high = h.high ∙ sym (high_more None (no_high_set line none));
      data_lines = lines_same plain;
      three = rw (entries_same plain) h.three;
      sound = h.sound;
    }

    -- a data line
    pub knows_data : is_data line ≡ true → data_step s ≡ None → are_numbers 3 line ≡ true → Knows (before ++ line ∷ []) (data_more s)
    knows_data begins fine three =
        let none = no_word line begins in
        let parts = data_parts s fine in
        let room : s.data_lines < entry_count s.seen.cube_size s.size = leb-false _ _ parts.2 in
        record {
          seen = λ k. h.seen k ∙ sym (any_more (is_word k) before line ∙ rw (none k) refl);
          size = h.size ∙ sym (size_kept (no_size_set line none));
          low = h.low ∙ sym (low_more None (no_low_set line none));
          high = h.high ∙ sym (high_more None (no_high_set line none));
          data_lines = (let e = count_more is_data before line in let f = h.data_lines in let z : ◌≡◌ {A = ℕ} (cond (is_data line) 1 0) 1 = rw begins refl in omega (arith, e, f, z));
          three = rw (entries_more before line, begins)
              (All-append (λ (e : List Fixed). length e ≡ 3) (entries_of before) (map clamped (numbers line) ∷ []) h.three
              (All-cons (λ (e : List Fixed). length e ≡ 3) (map clamped (numbers line)) [] (length-map (numbers line) clamped ∙ numbers_length 3 line three) (All-nil (λ (e : List Fixed). length e ≡ 3))));
          sound = record {
            least = h.sound.least;
            greatest = h.sound.greatest;
            low_three = h.sound.low_three;
            high_three = h.sound.high_three;
            low = h.sound.low;
            high = h.sound.high;
            sized = λ some. parts.0;
            ordered = λ some. ordered_by (s.data_lines == 0) (are_ordered s) refl parts.1 refl;
            few = omega (arith, room);
          };
        }
      where
        ordered_by : (first b : Bool) → (s.data_lines == 0) ≡ first → (first && not b) ≡ false → are_ordered s ≡ b → are_ordered s ≡ true
        ordered_by true true is e same = same
        ordered_by true false is e same = absurd (true≢false e)
        ordered_by false b is e same = h.sound.ordered (let some : s.data_lines ≡ 0 → ⊥ = eqb-false _ _ is in omega arith)

    -- a keyword line, by what it sets
    module _ (k : Keyword) (e : word line ≡ spelling k) where
      knows_changed : (size : ℕ) (low high : List Fixed) → size ≡ size_of (before ++ line ∷ []) → low ≡ low_of (before ++ line ∷ []) → high ≡ high_of (before ++ line ∷ []) → IsSound (changed s k size low high)
          → Knows (before ++ line ∷ []) (changed s k size low high)
      knows_changed size low high a b c sound = record {
        seen = λ j. has_noted s.seen k j ∙ ap (λ (b : Bool). names k j || b) (h.seen j) ∙ sym (any_more (is_word j) before line ∙ rw e refl);
        size = a;
        low = b;
        high = c;
        data_lines = lines_same (no_data k line e);
        three = rw (entries_same (no_data k line e)) h.three;
        sound = sound;
      }

      sound_changed : s.data_lines ≡ 0 → (size : ℕ) (low high : List Fixed) → (knows_size (changed s k size low high) ≡ true → 2 ≤ size) → size ≤ greatest_size (names k CubeSize || s.seen.cube_size)
          → length low ≡ 3 → length high ≡ 3 → ((c : ℕ) → c < 3 → IsBound (units low c)) → ((c : ℕ) → c < 3 → IsBound (units high c)) → IsSound (changed s k size low high)
      sound_changed first size low high least greatest a b c d = record {
        least = least;
        greatest = greatest;
        low_three = a;
        high_three = b;
        low = c;
        high = d;
        sized = λ some. absurd (omega arith);
        ordered = λ some. absurd (omega arith);
        few = omega arith;
      }

-- what a keyword that stands for the first time sets
module _ (before : List Line) (s : State) (h : Knows before s) (line : Line) (first : s.data_lines ≡ 0) where
  ok_is : (x t : State) → ◌≡◌ {A = Result State CubeKind} (Ok x) (Ok t) → x ≡ t
  ok_is x t e = cc

  never : (kind : CubeKind) (t : State) → ◌≡◌ {A = Result State CubeKind} (Err kind) (Ok t) → ⊥
  never kind t e = cc

  one_size : (both : Bool) (t : State) (r : Result State CubeKind) → cond both (Err Both) r ≡ Ok t → (both ≡ false) × (r ≡ Ok t)
  one_size true t r given = absurd (never Both t given)
  one_size false t r given = (refl, given)

  next : (k : Keyword) → word line ≡ spelling k → is_size_line line ≡ false → (low high : List Fixed) → low ≡ low_of (before ++ line ∷ []) → high ≡ high_of (before ++ line ∷ [])
      → knows_size (changed s k s.size low high) ≡ knows_size s → (names k CubeSize || s.seen.cube_size) ≡ s.seen.cube_size
      → length low ≡ 3 → length high ≡ 3 → ((c : ℕ) → c < 3 → IsBound (units low c)) → ((c : ℕ) → c < 3 → IsBound (units high c))
      → (t : State) → changed s k s.size low high ≡ t → Knows (before ++ line ∷ []) t
  next k e none low high a b c d f g i j t is =
      subst (Knows (before ++ line ∷ [])) is
      (knows_changed before s h line k e s.size low high (h.size ∙ sym (size_kept before s h line none)) a b
      (sound_changed before s h line k e first s.size low high (λ some. h.sound.least (sym c ∙ some)) (rw d h.sound.greatest) f g i j))

  bounds_next : (k : Keyword) → word line ≡ spelling k → is_size_line line ≡ false → (n : ℕ) (low high : List Fixed → List Fixed)
      → ((vs : List Fixed) → numbers (arguments line) ≡ vs → low vs ≡ low_of (before ++ line ∷ [])) → ((vs : List Fixed) → numbers (arguments line) ≡ vs → high vs ≡ high_of (before ++ line ∷ []))
      → (names k LineSize || s.seen.line_size) ≡ s.seen.line_size → (names k CubeSize || s.seen.cube_size) ≡ s.seen.cube_size
      → ((vs : List Fixed) → length vs ≡ n → length (low vs) ≡ 3) → ((vs : List Fixed) → length vs ≡ n → length (high vs) ≡ 3)
      → ((vs : List Fixed) → list_any is_far vs ≡ false → (c : ℕ) → c < 3 → IsBound (units (low vs) c)) → ((vs : List Fixed) → list_any is_far vs ≡ false → (c : ℕ) → c < 3 → IsBound (units (high vs) c))
      → (t : State) (r : Result (List Fixed) CubeKind) → bounds n (arguments line) ≡ r → bounded (λ vs. changed s k s.size (low vs) (high vs)) r ≡ Ok t → Knows (before ++ line ∷ []) t
  bounds_next k e none n low high a b c d f g i j t (Err kind) is given = absurd (never kind t given)
  bounds_next k e none n low high a b c d f g i j t (Ok vs) is given =
      let parts = bounds_parts n (arguments line) vs is in
      let long : length vs ≡ n = rw parts.1 at (numbers_length n (arguments line) parts.0) in
      next k e none (low vs) (high vs) (a vs parts.1) (b vs parts.1) (rw (c, d) refl) d (f vs long) (g vs long) (i vs parts.2) (j vs parts.2) t (ok_is _ t given)

  size_next : (k : Keyword) → word line ≡ spelling k → is_size_line line ≡ true → has_size before ≡ false → low_set line ≡ None → high_set line ≡ None → (greatest : ℕ) → greatest_size (names k CubeSize || s.seen.cube_size) ≡ greatest
      → (t : State) (o : Option ℕ) → size_in greatest (arguments line) ≡ o → sized s k o ≡ Ok t → Knows (before ++ line ∷ []) t
  size_next k e some none low high greatest most t None is given = absurd (never Size t given)
  size_next k e some none low high greatest most t (Some n) is given =
      let parts = size_parts greatest (arguments line) n is in
      subst (Knows (before ++ line ∷ [])) (ok_is _ t given)
      (knows_changed before s h line k e n s.low s.high (parts.0 ∙ sym (size_set before s h line some none)) (h.low ∙ sym (low_more before s h line None low)) (h.high ∙ sym (high_more before s h line None high))
      (sound_changed before s h line k e first n s.low s.high (λ sized. parts.1) (rw most parts.2) h.sound.low_three h.sound.high_three h.sound.low h.sound.high))

  no_size : s.seen.line_size ≡ false → s.seen.cube_size ≡ false → has_size before ≡ false
  no_size a b = sym (size_known before s h) ∙ rw (a, b) refl

  kept_low : low_set line ≡ None → s.low ≡ low_of (before ++ line ∷ [])
  kept_low none = h.low ∙ sym (low_more before s h line None none)

  kept_high : high_set line ≡ None → s.high ≡ high_of (before ++ line ∷ [])
  kept_high none = h.high ∙ sym (high_more before s h line None none)

  ranges : (k : Keyword) → word line ≡ spelling k → is_size_line line ≡ false → low_set line ≡ Some (on_all (numbers (arguments line)) 0) → high_set line ≡ Some (on_all (numbers (arguments line)) 1)
      → (names k LineSize || s.seen.line_size) ≡ s.seen.line_size → (names k CubeSize || s.seen.cube_size) ≡ s.seen.cube_size
      → (t : State) → bounded (λ vs. changed s k s.size (on_all vs 0) (on_all vs 1)) (bounds 2 (arguments line)) ≡ Ok t → Knows (before ++ line ∷ []) t
  ranges k e none low high c d t given =
      bounds_next k e none 2 (λ vs. on_all vs 0) (λ vs. on_all vs 1)
      (λ vs is. rw (← is) (sym (low_more before s h line _ low))) (λ vs is. rw (← is) (sym (high_more before s h line _ high)))
      c d (λ vs long. refl) (λ vs long. refl) (λ vs close. near_all vs 0 close) (λ vs close. near_all vs 1 close) t _ refl given

  knows_known : (k : Keyword) → word line ≡ spelling k → has_stood s.seen k ≡ false → (t : State) → known_step s k (arguments line) ≡ Ok t → Knows (before ++ line ∷ []) t
  knows_known Title e new t given =
      next Title e (rw e refl) s.low s.high (kept_low (rw e refl)) (kept_high (rw e refl)) refl refl h.sound.low_three h.sound.high_three h.sound.low h.sound.high t (ok_is _ t given)
  knows_known LineSize e new t given =
      let alone = one_size s.seen.cube_size t _ given in
      size_next LineSize e (rw e refl) (no_size new alone.0) (rw e refl) (rw e refl) 65536 (rw alone.0 refl) t _ refl alone.1
  knows_known CubeSize e new t given =
      let alone = one_size s.seen.line_size t _ given in
      size_next CubeSize e (rw e refl) (no_size alone.0 new) (rw e refl) (rw e refl) 129 refl t _ refl alone.1
  knows_known DomainMin e new t given =
      bounds_next DomainMin e (rw e refl) 3 (λ vs. vs) (λ vs. s.high)
      (λ vs is. rw (← is) (sym (low_more before s h line (Some (numbers (arguments line))) (rw e refl)))) (λ vs is. kept_high (rw e refl))
      refl refl (λ vs long. long) (λ vs long. h.sound.high_three) (λ vs close c small. near_each vs close c) (λ vs close. h.sound.high) t _ refl given
  knows_known DomainMax e new t given =
      bounds_next DomainMax e (rw e refl) 3 (λ vs. s.low) (λ vs. vs)
      (λ vs is. kept_low (rw e refl)) (λ vs is. rw (← is) (sym (high_more before s h line (Some (numbers (arguments line))) (rw e refl))))
      refl refl (λ vs long. h.sound.low_three) (λ vs long. long) (λ vs close. h.sound.low) (λ vs close c small. near_each vs close c) t _ refl given
  knows_known LineRange e new t given = ranges LineRange e (rw e refl) (rw e refl) (rw e refl) refl refl t given
  knows_known CubeRange e new t given = ranges CubeRange e (rw e refl) (rw e refl) (rw e refl) refl refl t given

-- a keyword line
pub knows_keyword : (before : List Line) (s : State) → Knows before s → (line : Line) (k : Keyword) → word line ≡ spelling k → (t : State) → keyword_step s k (arguments line) ≡ Ok t → Knows (before ++ line ∷ []) t
knows_keyword before s h line k e t given = elim (cases_Bool (not (s.data_lines == 0) || has_stood s.seen k)) [
  | inl late ↦ absurd (late_keyword (rw late at given))
  | inr fine ↦
      let parts = or_parts (not (s.data_lines == 0)) (has_stood s.seen k) fine in
      knows_known before s h line (first_by (s.data_lines == 0) refl parts.0) k e parts.1 t (rw fine at given)
]
  where
    late_keyword : ◌≡◌ {A = Result State CubeKind} (Err BadKeyword) (Ok t) → ⊥
    late_keyword e = cc

    first_by : (b : Bool) → (s.data_lines == 0) ≡ b → not b ≡ false → s.data_lines ≡ 0
    first_by true is e = eqb-true _ _ is
    first_by false is e = absurd (true≢false e)

-- what is known of no line
abbrev pub start : State
start = record {
  seen = record { title = false; line_size = false; cube_size = false; domain_min = false; domain_max = false; line_range = false; cube_range = false };
  size = 0;
  low = on_all (record { 0 = pos 0 } ∷ []) 0;
  high = on_all (record { 0 = pos 1000000000 } ∷ []) 0;
  data_lines = 0;
}

pub knows_start : Knows [] start
knows_start = record {
  seen = none;
  size = refl;
  low = refl;
  high = refl;
  data_lines = refl;
  three = All-nil (λ (e : List Fixed). length e ≡ 3);
  sound = record {
    least = λ some. absurd (false≢true some);
    greatest = omega arith;
    low_three = refl;
    high_three = refl;
    low = low;
    high = high;
    sized = λ some. absurd (omega arith);
    ordered = λ some. absurd (omega arith);
    few = omega arith;
  };
}
  where
    none : (k : Keyword) → has_stood start.seen k ≡ list_any (is_word k) []
    none Title = refl
    none LineSize = refl
    none CubeSize = refl
    none DomainMin = refl
    none DomainMax = refl
    none LineRange = refl
    none CubeRange = refl

    low : (c : ℕ) → c < 3 → IsBound (units start.low c)
    low zero small = zero_bound
    low (suc zero) small = zero_bound
    low (suc (suc zero)) small = zero_bound
    low (suc (suc (suc c))) small = absurd (omega arith)

    high : (c : ℕ) → c < 3 → IsBound (units start.high c)
    high zero small = one_bound
    high (suc zero) small = one_bound
    high (suc (suc zero)) small = one_bound
    high (suc (suc (suc c))) small = absurd (omega arith)
