-- The sums of boxes, run by run, and the means that they give.
use Rattle.std.proofs.Common.{◌≡◌, ◌≢◌, ℕ, zero, suc, ◌+◌, ◌*◌, ◌/◌, ◌%◌, ◌^◌, ◌<◌, ◌≤◌, ◌-◌, take, drop, ◌&&◌, ◌==◌, Bool, true, false, cond, inl, inr, List, [], ◌∷◌, length, filter, map, get_or, replicate, set, Option, Some, None, refl, sym, ap, subst, ◌∙◌, arith}
use Rattle.std.specs.List.{range_with_len, sum_by}
use Rattle.std.proofs.lemmas.Bool.{and_from, and_left, and_right, cases_lt}
use Rattle.std.proofs.lemmas.Bool.Decides.{eqb_tells}
use Rattle.std.proofs.lemmas.List.{drop_more, get_or-set_same, get_or-set_other, length-append, length-replicate, length-set, set-get_or}
use Rattle.std.proofs.lemmas.List.Elements.{filter-append}
use Rattle.std.proofs.lemmas.List.Sums.{length-filter, count_by-le-length, sum_by-append, sum_by-cons, sum_by-le}
use Rattle.std.proofs.lemmas.List.FromFn.{length-range_with_len}
use Rattle.std.proofs.Math.Nat.{mul-le-mul}
use Rattle.std.proofs.lemmas.Nat.{div-mul-add, div_below, mod-mul-add, mul-add-lt, same_from_place}
use Rattle.cf_base.proofs.RangeLaws.{range_from_more, range_more}
use Rattle.conform_job.specs.Job.{JobData}
use Rattle.reel_qc.specs.inside.Boxes.{AreSums, HasSums, HasPicture, HasRoomAt, IsBoxAt, mean_at, run_start}
use Rattle.reel_qc.specs.Counts.{blue_of, green_of, red_of}
use Rattle.reel_qc.specs.Sheet.{box_colour, box_pixels, boxes_of, rounded_mean}
use Rattle.reel_qc.specs.declared.sheet.boxes.Boxes.{Boxes}
use Rattle.reel_qc.specs.declared.sheet.boxes.Sums.{Sums}

abbrev in_box : (width u v k : ℕ) → Bool
in_box width u v k = (k % width / 16 == u) && (k / width / 16 == v)

set_twice : (l : List ℕ) (i a b : ℕ) → set (set l i a) i b ≡ set l i b
set_twice [] zero a b = refl
set_twice [] (suc i) a b = refl
set_twice (x ∷ xs) zero a b = refl
set_twice (x ∷ xs) (suc i) a b = ap (λ l. x ∷ l) (set_twice xs i a b)

-- what the words of a run add up to
run_sum : (f : ℕ → ℕ) (words : List ℕ) (start len : ℕ) → start + len ≤ length words
    → sum_by f (take len (drop start words)) ≡ sum_by (λ k. f (get_or words k 0)) (range_with_len start len)
run_sum f words start zero within = refl
run_sum f words start (suc len) within =
    let word = get_or words start 0 in
    ap (λ l. sum_by f (take (suc len) l)) (drop_more words start 0 (omega (arith, within))) ∙ sum_by-cons f word (take len (drop (start + 1) words))
    ∙ ap (λ s. f word + s) (run_sum f words (start + 1) len (omega (arith, within)))
    ∙ sym (sum_by-cons (λ k. f (get_or words k 0)) start (range_with_len (start + 1) len))

module _ (code : ℕ → ℕ) where
  one_more : (k : ℕ) (b : Bool) → sum_by code (cond b (k ∷ []) []) ≡ cond b (code k) 0
  one_more k true = let one = sum_by-cons code k [] in omega (arith, one)
  one_more k false = refl

  sum_more : (width n u v : ℕ) → sum_by code (box_pixels width (n + 1) u v) ≡ sum_by code (box_pixels width n u v) + cond (in_box width u v n) (code n) 0
  sum_more width n u v =
      ap (sum_by code) (ap (filter (in_box width u v)) (range_more n) ∙ filter-append (in_box width u v) (range_with_len 0 n) (n ∷ []))
      ∙ sum_by-append code (box_pixels width n u v) (cond (in_box width u v n) (n ∷ []) [])
      ∙ ap (λ s. sum_by code (box_pixels width n u v) + s) (one_more n (in_box width u v n))

  -- the pixel in column x of line y is added
  pixel_added : (width n x y columns lines : ℕ) (sums : List ℕ) → n ≡ y * width + x → x < width → x / 16 < columns → y / 16 < lines
      → AreSums code width n columns lines sums
      → AreSums code width (n + 1) columns lines (set sums (y / 16 * columns + x / 16) (get_or sums (y / 16 * columns + x / 16) 0 + code n))
  pixel_added width n x y columns lines sums is lt column line was = record {
    size = length-set sums at _ ∙ was.size;
    each = each;
  }
    where
      at : ℕ
      at = y / 16 * columns + x / 16

      within : at < length sums
      within = let below = mul-add-lt (y / 16) columns (x / 16) lines line column in omega (arith, below, was.size)

      across : n % width ≡ x
      across = ap (λ m. m % width) is ∙ mod-mul-add y width x lt

      down : n / width ≡ y
      down = ap (λ m. m / width) is ∙ div-mul-add y width x lt

      now : ℕ
      now = get_or sums at 0 + code n

      -- a box that the pixel is not in
      other : (u v : ℕ) → u < columns → v < lines → in_box width u v n ≡ false → v * columns + u ≢ at
          → get_or (set sums at now) (v * columns + u) 0 ≡ sum_by code (box_pixels width (n + 1) u v)
      other u v in_columns in_lines out apart =
          let more = sum_more width n u v ∙ ap (λ b. sum_by code (box_pixels width n u v) + cond b (code n) 0) out in
          let same = was.each u v in_columns in_lines in
          get_or-set_other sums at (v * columns + u) now 0 apart ∙ same ∙ omega (arith, more)

      each : (u v : ℕ) → u < columns → v < lines → get_or (set sums at now) (v * columns + u) 0 ≡ sum_by code (box_pixels width (n + 1) u v)
      each u v in_columns in_lines = elim (eqb_tells (x / 16) u) [
        | inl column_is ↦ elim (eqb_tells (y / 16) v) [
          | inl line_is ↦
              let place : v * columns + u ≡ at = λ i. sym line_is.1 i * columns + sym column_is.1 i in
              let inside : in_box width u v n ≡ true = and_from _ _ (ap (λ m. m / 16 == u) across ∙ column_is.0) (ap (λ m. m / 16 == v) down ∙ line_is.0) in
              let more = sum_more width n u v ∙ ap (λ b. sum_by code (box_pixels width n u v) + cond b (code n) 0) inside in
              let old = was.each u v in_columns in_lines in
              ap (λ k. get_or (set sums at now) k 0) place ∙ get_or-set_same sums at now 0 within
              ∙ ap (λ k. get_or sums k 0 + code n) (sym place) ∙ ap (λ s. s + code n) old ∙ sym more
          | inr line_not ↦ other u v in_columns in_lines (and_right _ _ (ap (λ m. m / 16 == v) down ∙ line_not.0))
              (λ same. line_not.1 (sym (same_from_place v u (y / 16) (x / 16) columns in_columns column same).0))
        ]
        | inr column_not ↦ other u v in_columns in_lines (and_left _ _ (ap (λ m. m / 16 == u) across ∙ column_not.0))
            (λ same. column_not.1 (sym (same_from_place v u (y / 16) (x / 16) columns in_columns column same).1))
      ]

  sum_longer : (n len : ℕ) → sum_by code (range_with_len n (suc len)) ≡ sum_by code (range_with_len n len) + code (n + len)
  sum_longer n len =
      ap (sum_by code) (range_from_more n len) ∙ sum_by-append code (range_with_len n len) ((n + len) ∷ [])
      ∙ ap (λ s. sum_by code (range_with_len n len) + s) (one_more (n + len) true)

  -- so many pixels from n on are added to the box in column u of the boxes of line y
  abbrev RunAdded : (width n u y columns lines len : ℕ) → List ℕ → Type 0
  RunAdded width n u y columns lines len sums = AreSums code width (n + len) columns lines
      (set sums (y / 16 * columns + u) (get_or sums (y / 16 * columns + u) 0 + sum_by code (range_with_len n len)))

  nothing_added : (width n u y columns lines : ℕ) (sums : List ℕ) → AreSums code width n columns lines sums → RunAdded width n u y columns lines 0 sums
  nothing_added width n u y columns lines sums was =
      let at = y / 16 * columns + u in
      let none : n ≡ n + 0 = omega arith in
      let nothing : get_or sums at 0 + 0 ≡ get_or sums at 0 = omega arith in
      let same : set sums at (get_or sums at 0 + 0) ≡ sums = ap (set sums at) nothing ∙ set-get_or sums at 0 in
      subst (λ m. AreSums code width m columns lines (set sums at (get_or sums at 0 + 0))) none (subst (λ l. AreSums code width n columns lines l) (sym same) was)

  one_longer : (width n u y columns lines len : ℕ) (sums : List ℕ) → n ≡ y * width + 16 * u → 16 * u + suc len ≤ width → suc len ≤ 16 → u < columns → y / 16 < lines
      → length sums ≡ columns * lines → RunAdded width n u y columns lines len sums → RunAdded width n u y columns lines (suc len) sums
  one_longer width n u y columns lines len sums is within few column line size was =
      subst (λ m. AreSums code width m columns lines (set sums at (get_or sums at 0 + sum_by code (range_with_len n (suc len))))) next
      (subst (λ l. AreSums code width (n + len + 1) columns lines l) same more)
    where
      at : ℕ
      at = y / 16 * columns + u

      before : List ℕ
      before = set sums at (get_or sums at 0 + sum_by code (range_with_len n len))

      here : (16 * u + len) / 16 ≡ u
      here = omega (arith, few)

      more : AreSums code width (n + len + 1) columns lines
          (set before (y / 16 * columns + (16 * u + len) / 16) (get_or before (y / 16 * columns + (16 * u + len) / 16) 0 + code (n + len)))
      more = pixel_added width (n + len) (16 * u + len) y columns lines before (omega (arith, is)) (omega (arith, within))
          (subst (λ m. m < columns) (sym here) column) line was

      place : at < length sums
      place = let below = mul-add-lt (y / 16) columns u lines line column in omega (arith, below, size)

      value : get_or before at 0 + code (n + len) ≡ get_or sums at 0 + sum_by code (range_with_len n (suc len))
      value =
          let was_there = get_or-set_same sums at (get_or sums at 0 + sum_by code (range_with_len n len)) 0 place in
          let sum = sum_longer n len in
          omega (arith, was_there, sum)

      same : set before (y / 16 * columns + (16 * u + len) / 16) (get_or before (y / 16 * columns + (16 * u + len) / 16) 0 + code (n + len))
          ≡ set sums at (get_or sums at 0 + sum_by code (range_with_len n (suc len)))
      same = ap (λ m. set before (y / 16 * columns + m) (get_or before (y / 16 * columns + m) 0 + code (n + len))) here
          ∙ set_twice sums at (get_or sums at 0 + sum_by code (range_with_len n len)) (get_or before at 0 + code (n + len)) ∙ ap (set sums at) value

      next : n + len + 1 ≡ n + suc len
      next = omega arith

  run_added : (width n u y columns lines len : ℕ) (sums : List ℕ) → n ≡ y * width + 16 * u → 16 * u + len ≤ width → len ≤ 16 → u < columns → y / 16 < lines
      → AreSums code width n columns lines sums → RunAdded width n u y columns lines len sums
  run_added width n u y columns lines zero sums is within few column line was = nothing_added width n u y columns lines sums was
  run_added width n u y columns lines (suc len) sums is within few column line was =
      one_longer width n u y columns lines len sums is within few column line was.size
      (run_added width n u y columns lines len sums is (omega (arith, within)) (omega (arith, few)) column line was)

  -- none is past so much for each pixel
  pub sum_most : (width n u v most : ℕ) → ((k : ℕ) → code k ≤ most) → sum_by code (box_pixels width n u v) ≤ length (box_pixels width n u v) * most
  sum_most width n u v most small = sum_by-le code most (box_pixels width n u v) (λ k d lt. small _)

pub few_pixels : (width n u v : ℕ) → length (box_pixels width n u v) ≤ n
few_pixels width n u v =
    let count = length-filter (in_box width u v) (range_with_len 0 n) in
    let most = count_by-le-length (in_box width u v) (range_with_len 0 n) in
    omega (arith, count, most, length-range_with_len 0 n)

pub red_small : (word : ℕ) → word < 2 ^ 32 → red_of word ≤ 1023
red_small word lt = omega (arith, lt)

below_1024 : (n : ℕ) → n % 2 ^ 10 ≤ 1023
below_1024 n = omega arith

pub green_small : (word : ℕ) → green_of word ≤ 1023
green_small word = below_1024 (word / 2 ^ 12)

pub blue_small : (word : ℕ) → blue_of word ≤ 1023
blue_small word = below_1024 (word / 2 ^ 2)

mul_most : (a b : ℕ) → a ≤ 4096 → b ≤ 4096 → a * b ≤ 16777216
mul_most a b la lb = let most : a * b ≤ 4096 * 4096 = mul-le-mul la lb in omega (arith, most)

counted : (xs : List ℕ) → sum_by (λ k. 1) xs ≡ length xs
counted [] = refl
counted (x ∷ xs) = let more = sum_by-cons (λ k. 1) x xs in let rest = counted xs in omega (arith, more, rest)

full_line : (width height y : ℕ) → y < height → y * width + width ≤ width * height
full_line width height y line =
    let next : y + 1 ≤ height = omega (arith, line) in
    let same : width ≤ width = omega arith in
    let all = mul-le-mul next same in
    omega (arith, all)

-- the pixels of line y in column u of the boxes of a picture, whose boxes have these sums of the pixels before them
module _ (words : List ℕ) (width height u y at across : ℕ) (boxes : Boxes) (at_is : at ≡ y / 16 * across + u) (across_is : across ≡ boxes_of width)
    (column : u < boxes_of width) (line : y < height) (whole : length words ≡ width * height)
    (has : HasSums words width (y * width + run_start width u) (boxes_of width) (boxes_of height) boxes) where
  abbrev before : ℕ
  before = y * width + run_start width u

  abbrev behind : ℕ
  behind = y * width + run_start width (u + 1)

  abbrev amount : ℕ
  amount = run_start width (u + 1) - run_start width u

  abbrev place : ℕ
  place = y / 16 * boxes_of width + u

  place_is : at ≡ place
  place_is = at_is ∙ ap (λ n. y / 16 * n + u) across_is

  start_is : run_start width u ≡ 16 * u
  start_is = omega (arith, column)

  starts : run_start width u < width
  starts = omega (arith, column)

  in_line : y / 16 < boxes_of height
  in_line = omega (arith, line)

  pub room_there : ((k : ℕ) → get_or words k 0 < 2 ^ 32) → width ≤ 4096 → height ≤ 4096 → HasRoomAt boxes at
  room_there small w_most h_most = subst (λ n. HasRoomAt boxes n) (sym place_is) (record {
    in_red = omega (arith, within, has.red.size);
    in_green = omega (arith, within, has.green.size);
    in_blue = omega (arith, within, has.blue.size);
    in_pixels = omega (arith, within, has.pixels.size);
    red = most (λ k. red_of (get_or words k 0)) boxes.red.items has.red (λ k. red_small (get_or words k 0) (small k));
    green = most (λ k. green_of (get_or words k 0)) boxes.green.items has.green (λ k. green_small (get_or words k 0));
    blue = most (λ k. blue_of (get_or words k 0)) boxes.blue.items has.blue (λ k. blue_small (get_or words k 0));
    pixels = most (λ k. 1) boxes.pixels.items has.pixels (λ k. omega arith);
  })
    where
      within : place < boxes_of width * boxes_of height
      within = mul-add-lt (y / 16) (boxes_of width) u (boxes_of height) in_line column

      most : (code : ℕ → ℕ) (sums : List ℕ) → AreSums code width before (boxes_of width) (boxes_of height) sums → ((k : ℕ) → code k ≤ 1023)
          → get_or sums place 0 ≤ 17180000000
      most code sums are codes =
          let sum = are.each u (y / 16) column in_line in
          let bound = sum_most code width before u (y / 16) 1023 codes in
          let few = few_pixels width before u (y / 16) in
          let below = mul-add-lt y width (run_start width u) height line starts in
          let area = mul_most width height w_most h_most in
          omega (arith, sum, bound, few, below, area)

  abbrev Added : (ℕ → ℕ) → List ℕ → List ℕ → ℕ → Type 0
  Added code sums new more = AreSums code width before (boxes_of width) (boxes_of height) sums
      → new ≡ set sums at (get_or sums at 0 + more) → more ≡ sum_by code (range_with_len before amount) → AreSums code width behind (boxes_of width) (boxes_of height) new

  added : (code : ℕ → ℕ) (sums new : List ℕ) (more : ℕ) → Added code sums new more
  added code sums new more are is sum =
      let same : new ≡ set sums place (get_or sums place 0 + sum_by code (range_with_len before amount)) =
      is ∙ ap (λ n. set sums n (get_or sums n 0 + more)) place_is ∙ ap (λ n. set sums place (get_or sums place 0 + n)) sum in
      let all : before + amount ≡ behind = omega (arith, column) in
      let first : before ≡ y * width + 16 * u = ap (λ n. y * width + n) start_is in
      subst (λ l. AreSums code width behind (boxes_of width) (boxes_of height) l) (sym same)
      (subst (λ n. AreSums code width n (boxes_of width) (boxes_of height) (set sums place (get_or sums place 0 + sum_by code (range_with_len before amount)))) all
      (run_added code width before u y (boxes_of width) (boxes_of height) amount sums first (omega (arith, column)) (omega (arith, column)) column in_line are))

  in_words : before + amount ≤ length words
  in_words =
      let full = full_line width height y line in
      omega (arith, full, whole, column)

  run_is : (f : ℕ → ℕ) (start end : ℕ) → start ≡ before → end ≡ behind → sum_by f (take (end - start) (drop start words)) ≡ sum_by (λ k. f (get_or words k 0)) (range_with_len before amount)
  run_is f start end start_at end_at =
      let long : end - start ≡ amount = omega (arith, start_at, end_at, column) in
      ap (λ n. sum_by f (take n (drop start words))) long ∙ ap (λ n. sum_by f (take amount (drop n words))) start_at ∙ run_sum f words before amount in_words

  pub all_added : (run : Sums) (new : Boxes) (start end : ℕ) → start ≡ before → end ≡ behind
      → run.red ≡ sum_by red_of (take (end - start) (drop start words))
      → run.green ≡ sum_by green_of (take (end - start) (drop start words))
      → run.blue ≡ sum_by blue_of (take (end - start) (drop start words))
      → run.pixels ≡ length (take (end - start) (drop start words))
      → new.red.items ≡ set boxes.red.items at (get_or boxes.red.items at 0 + run.red)
      → new.green.items ≡ set boxes.green.items at (get_or boxes.green.items at 0 + run.green)
      → new.blue.items ≡ set boxes.blue.items at (get_or boxes.blue.items at 0 + run.blue)
      → new.pixels.items ≡ set boxes.pixels.items at (get_or boxes.pixels.items at 0 + run.pixels)
      → HasSums words width behind (boxes_of width) (boxes_of height) new
  all_added run new start end start_at end_at run_red run_green run_blue run_pixels red green blue pixels = record {
    red = added (λ k. red_of (get_or words k 0)) boxes.red.items new.red.items run.red has.red red (run_red ∙ run_is red_of start end start_at end_at);
    green = added (λ k. green_of (get_or words k 0)) boxes.green.items new.green.items run.green has.green green (run_green ∙ run_is green_of start end start_at end_at);
    blue = added (λ k. blue_of (get_or words k 0)) boxes.blue.items new.blue.items run.blue has.blue blue (run_blue ∙ run_is blue_of start end start_at end_at);
    pixels = added (λ k. 1) boxes.pixels.items new.pixels.items run.pixels has.pixels pixels
        (run_pixels ∙ sym (counted (take (end - start) (drop start words))) ∙ run_is (λ k. 1) start end start_at end_at);
  }

last_one : (p : ℕ → Bool) (m : ℕ) → p m ≡ true → length (filter p (m ∷ [])) ≡ 1
last_one p m is = ap (λ b. length (cond b (m ∷ []) [])) is

some_in : (p : ℕ → Bool) (n k : ℕ) → k < n → p k ≡ true → 0 < length (filter p (range_with_len 0 n))
some_in p zero k lt is = absurd (omega (arith, lt))
some_in p (suc n) k lt is =
    let more = ap (filter p) (range_from_more 0 n) ∙ filter-append p (range_with_len 0 n) ((0 + n) ∷ []) in
    let long = ap length more ∙ length-append (filter p (range_with_len 0 n)) (filter p ((0 + n) ∷ [])) in
    elim (cases_lt k n) [
      | inl before ↦ let rest = some_in p n k before is in omega (arith, long, rest)
      | inr last ↦
          let here : k ≡ 0 + n = omega (arith, last, lt) in
          let one = last_one p (0 + n) (subst (λ m. p m ≡ true) here is) in
          omega (arith, long, one)
    ]

-- each box has its first pixel
some_pixels : (width height u v : ℕ) → u < boxes_of width → v < boxes_of height → 0 < length (box_pixels width (width * height) u v)
some_pixels width height u v in_columns in_lines =
    let x : ℕ = u * 16 in
    let y : ℕ = v * 16 in
    let column : x < width = omega (arith, in_columns) in
    let line : y < height = omega (arith, in_lines) in
    let across : (y * width + x) % width / 16 ≡ u = ap (λ m. m / 16) (mod-mul-add y width x column) ∙ omega arith in
    let down : (y * width + x) / width / 16 ≡ v = ap (λ m. m / 16) (div-mul-add y width x column) ∙ omega arith in
    some_in (in_box width u v) (width * height) (y * width + x) (mul-add-lt y width x height line column)
    (and_from _ _ (same_test _ u across) (same_test _ v down))
  where
    same_test : (a b : ℕ) → a ≡ b → (a == b) ≡ true
    same_test a b is = elim (eqb_tells a b) [ inl same ↦ same.0 | inr apart ↦ absurd (apart.1 is) ]

module _ (words : List ℕ) (width height : ℕ) (boxes : Boxes) (has : HasSums words width (width * height) (boxes_of width) (boxes_of height) boxes)
    (small : (k : ℕ) → get_or words k 0 < 2 ^ 32) (w_most : width ≤ 4096) (h_most : height ≤ 4096) (u v : ℕ) (column : u < boxes_of width) (line : v < boxes_of height) where
  abbrev at : ℕ
  at = v * boxes_of width + u

  abbrev pixels : List ℕ
  pixels = box_pixels width (width * height) u v

  count_is : get_or boxes.pixels.items at 0 ≡ length pixels
  count_is = has.pixels.each u v column line ∙ counted pixels

  within : at < boxes_of width * boxes_of height
  within = mul-add-lt v (boxes_of width) u (boxes_of height) line column

  most : (code : ℕ → ℕ) (sums : List ℕ) → AreSums code width (width * height) (boxes_of width) (boxes_of height) sums → ((k : ℕ) → code k ≤ 1023)
      → get_or sums at 0 ≤ 1023 * get_or boxes.pixels.items at 0
  most code sums are codes =
      let sum = are.each u v column line in
      let bound = sum_most code width (width * height) u v 1023 codes in
      omega (arith, sum, bound, count_is)

  pub box_there : IsBoxAt boxes at
  box_there = record {
    in_red = omega (arith, within, has.red.size);
    in_green = omega (arith, within, has.green.size);
    in_blue = omega (arith, within, has.blue.size);
    in_pixels = omega (arith, within, has.pixels.size);
    some = let some = some_pixels width height u v column line in omega (arith, some, count_is);
    few = let few = few_pixels width (width * height) u v in let area = mul_most width height w_most h_most in omega (arith, few, area, count_is);
    red = most (λ k. red_of (get_or words k 0)) boxes.red.items has.red (λ k. red_small (get_or words k 0) (small k));
    green = most (λ k. green_of (get_or words k 0)) boxes.green.items has.green (λ k. green_small (get_or words k 0));
    blue = most (λ k. blue_of (get_or words k 0)) boxes.blue.items has.blue (λ k. blue_small (get_or words k 0));
  }

  pub means_are : mean_at boxes at ≡ map (λ channel. rounded_mean (sum_by (λ k. channel (get_or words k 0)) pixels) (length pixels)) (red_of ∷ green_of ∷ blue_of ∷ [])
  means_are = λ i. rounded_mean (has.red.each u v column line i) (count_is i)
      ∷ rounded_mean (has.green.each u v column line i) (count_is i)
      ∷ rounded_mean (has.blue.each u v column line i) (count_is i)
      ∷ []

zeros_are : (n k zero_code : ℕ) → zero_code ≡ 0 → get_or (replicate n zero_code) k 0 ≡ 0
zeros_are zero k zero_code is = refl
zeros_are (suc n) zero zero_code is = is
zeros_are (suc n) (suc k) zero_code is = zeros_are n k zero_code is

none_added : (code : ℕ → ℕ) (width columns lines : ℕ) (sums : List ℕ) → sums ≡ replicate (columns * lines) 0 → AreSums code width 0 columns lines sums
none_added code width columns lines sums is = record {
  size = ap length is ∙ length-replicate (columns * lines) 0;
  each = λ u v lu lv. ap (λ (l : List ℕ). get_or l (v * columns + u) 0) is ∙ zeros_are (columns * lines) (v * columns + u) 0 refl;
}

-- nothing is added yet
pub none_yet : (words : List ℕ) (width columns lines count : ℕ) (boxes : Boxes) → count ≡ columns * lines → boxes.red.items ≡ replicate count 0 → boxes.green.items ≡ replicate count 0
    → boxes.blue.items ≡ replicate count 0 → boxes.pixels.items ≡ replicate count 0 → HasSums words width 0 columns lines boxes
none_yet words width columns lines count boxes is red green blue pixels = record {
  red = none_added _ width columns lines boxes.red.items (red ∙ ap (λ n. replicate n 0) is);
  green = none_added _ width columns lines boxes.green.items (green ∙ ap (λ n. replicate n 0) is);
  blue = none_added _ width columns lines boxes.blue.items (blue ∙ ap (λ n. replicate n 0) is);
  pixels = none_added _ width columns lines boxes.pixels.items (pixels ∙ ap (λ n. replicate n 0) is);
}

pub first_line : (words : List ℕ) (width height columns lines : ℕ) (boxes : Boxes) → columns ≡ boxes_of width → lines ≡ boxes_of height → HasSums words width 0 columns lines boxes
    → HasSums words width (0 * width) (boxes_of width) (boxes_of height) boxes
first_line words width height columns lines boxes across down has =
    let none : 0 ≡ 0 * width = omega arith in
    subst (λ n. HasSums words width n (boxes_of width) (boxes_of height) boxes) none
    (subst (λ n. HasSums words width 0 (boxes_of width) n boxes) down (subst (λ n. HasSums words width 0 n lines boxes) across has))

pub all_lines : (words : List ℕ) (width height y : ℕ) (boxes : Boxes) → y ≡ height → HasSums words width (y * width) (boxes_of width) (boxes_of height) boxes
    → HasSums words width (width * height) (boxes_of width) (boxes_of height) boxes
all_lines words width height y boxes is has =
    let all : y * width ≡ width * height = ap (λ n. n * width) is ∙ omega arith in
    subst (λ n. HasSums words width n (boxes_of width) (boxes_of height) boxes) all has

pub line_begins : (words : List ℕ) (width height y : ℕ) (boxes : Boxes) → HasSums words width (y * width) (boxes_of width) (boxes_of height) boxes
    → HasSums words width (y * width + run_start width 0) (boxes_of width) (boxes_of height) boxes
line_begins words width height y boxes has =
    let none : y * width ≡ y * width + run_start width 0 = omega arith in
    subst (λ n. HasSums words width n (boxes_of width) (boxes_of height) boxes) none has

pub line_ends : (words : List ℕ) (width height u y : ℕ) (boxes : Boxes) → u ≡ boxes_of width → HasSums words width (y * width + run_start width u) (boxes_of width) (boxes_of height) boxes
    → HasSums words width ((y + 1) * width) (boxes_of width) (boxes_of height) boxes
line_ends words width height u y boxes is has =
    let all : y * width + run_start width u ≡ (y + 1) * width = omega (arith, is) in
    subst (λ n. HasSums words width n (boxes_of width) (boxes_of height) boxes) all has

-- a mean of codes is a code
pub mean_small : (sum pixels : ℕ) → 0 < pixels → sum ≤ 1023 * pixels → rounded_mean sum pixels ≤ 1023
mean_small sum pixels some most =
    let below = div_below (2 * sum + pixels) (2 * pixels) 1024 (omega (arith, some)) (omega (arith, some, most)) in
    omega (arith, below)

pub cell_cases : (job : JobData) (cell : Option Boxes) (boxes : Boxes) (colour : List ℕ) (u v : ℕ) → cell ≡ Some boxes
    → ((words : List ℕ) → HasPicture job (Some words) (Some boxes) → colour ≡ box_colour job (Some words) u v)
    → (picture : Option (List ℕ)) → HasPicture job picture cell → colour ≡ box_colour job picture u v
cell_cases job cell boxes colour u v is each None has = absurd (subst (HasPicture job None) is has)
cell_cases job cell boxes colour u v is each (Some words) has = each words (subst (HasPicture job (Some words)) is has)
