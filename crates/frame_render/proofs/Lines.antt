-- The words of a line, and the lines of a picture.
use Rattle.std.proofs.Common.{◌≡◌, ℕ, zero, suc, ◌+◌, ◌-◌, ◌*◌, ◌<◌, ◌≤◌, List, [], ◌∷◌, ◌++◌, length, take, replicate, map, get_or, flat_map, refl, ap, sym, ◌∙◌, arith, append-nil, length-append, add-one, append_assoc, Option}
use Rattle.std.proofs.Math.Nat.{mul-le-mul_right}
use Rattle.std.proofs.lemmas.List.Concat.{flat_map-append}
use Rattle.std.proofs.lemmas.List.{get_or_append_left, get_or-append_right, take_all}
use Rattle.std.proofs.lemmas.Slice.{take-put_mid}
use borrow.Rule.Slice.PartMut.{put_mid}
use Rattle.std.proofs.lemmas.List.FromFn.{fill_by_all, get_or-map-range_with_len, length-map-range_with_len}
use Rattle.std.specs.List.{range_with_len}
use Rattle.byteorder.specs.Endian.{big_bytes}
use Rattle.byteorder.specs.Numbers.{length-bytes_high_first}
use Rattle.cf_base.proofs.RangeLaws.{range_from_more}
use Rattle.dpx_pack.specs.Pixels.{colour_word}
use Rattle.tetra_look.specs.Look.{look_of}
use Rattle.tetra_look.specs.Words.{look_word}
use Rattle.record_timeline.specs.declared.Shot.{Shot}
use Rattle.conform_job.specs.Job.{JobData}
use Rattle.frame_render.specs.Frame.{black_of, line_of, line_words, picture, seen_word, shot_colour, some_lines}
use Rattle.frame_render.specs.inside.Lines.{HasColours, lines_from, stride}

-- words that stand in their places make a line
pub line_is : (job : JobData) (colour : ℕ → List ℕ) (out : List ℕ) → length out ≡ job.parts.project.width
    → ((x : ℕ) → x < job.parts.project.width → get_or out x 0 ≡ seen_word job (colour x))
    → out ≡ line_of job colour
line_is job colour out wide each =
    fill_by_all (λ x. seen_word job (colour x)) out job.parts.project.width 0 wide each

-- a line of these colours, under the look
pub seen_line : (job : JobData) (colour : ℕ → List ℕ) (line out : List ℕ) → HasColours job colour line → length out ≡ job.parts.project.width
    → ((x : ℕ) → x < length out → get_or out x 0 ≡ look_word job.parts.look (get_or line x 0))
    → out ≡ line_of job colour
seen_line job colour line out has wide each =
    line_is job colour out wide
    (λ x lt. each x (omega (arith, wide, lt)) ∙ ap (λ c. colour_word (look_of job.parts.look c)) (has.each x lt))

-- lines of the same colours
pub same_line : (job : JobData) (f g : ℕ → List ℕ) → ((x : ℕ) → x < job.parts.project.width → f x ≡ g x) → line_of job f ≡ line_of job g
same_line job f g same =
    let w : ℕ = job.parts.project.width in
    line_is job g (line_of job f) (length-map-range_with_len (λ x. seen_word job (f x)) 0 w)
    (λ x lt. get_or-map-range_with_len (λ x. seen_word job (f x)) 0 w x x 0 lt (omega arith) ∙ ap (seen_word job) (same x lt))

one_word : (word n a : ℕ) → replicate n word ≡ map (λ x. word) (range_with_len a n)
one_word word zero a = refl
one_word word (suc n) a = ap (λ r. word ∷ r) (one_word word n (a + 1))

-- one word everywhere makes a line of black
pub black_line : (job : JobData) (out : List ℕ) (n word : ℕ) → out ≡ replicate n word
    → n ≡ job.parts.project.width → word ≡ seen_word job (black_of job)
    → out ≡ line_of job (λ x. black_of job)
black_line job out n word is wide black =
    is ∙ rw (wide, black) (one_word (seen_word job (black_of job)) job.parts.project.width 0)

zero_times : (n : ℕ) → 0 ≡ 0 * n
zero_times n = omega arith

bytes_long : (words : List ℕ) → length (flat_map (big_bytes 4) words) ≡ 4 * length words
bytes_long [] = refl
bytes_long (word ∷ words) =
    let more = bytes_long words in
    let four = length-bytes_high_first 4 word in
    let both : length (flat_map (big_bytes 4) (word ∷ words)) ≡ length (big_bytes 4 word) + length (flat_map (big_bytes 4) words) = length-append (big_bytes 4 word) (flat_map (big_bytes 4) words) in
    omega (arith, more, four, both)

module _ (job : JobData) (shot : Shot) (old new : Option (List ℕ)) where
  abbrev bytes_at : ℕ → List ℕ
  bytes_at y = flat_map (big_bytes 4) (line_words job shot old new y)

  line_long : (y : ℕ) → length (bytes_at y) ≡ stride job
  line_long y =
      let words = length-map-range_with_len (λ x. seen_word job (shot_colour job shot old new x y)) 0 job.parts.project.width in
      omega (arith, bytes_long (line_words job shot old new y), words)

  lines_more : (first n : ℕ) → lines_from job shot old new first (suc n) ≡ lines_from job shot old new first n ++ bytes_at (first + n)
  unfolding lines_from
  lines_more first n =
      ap (flat_map bytes_at) (range_from_more first n)
      ∙ flat_map-append bytes_at (range_with_len first n) ((first + n) ∷ [])
      ∙ ap (λ r. lines_from job shot old new first n ++ r) (append-nil (bytes_at (first + n)))

  none_from : (first : ℕ) → lines_from job shot old new first 0 ≡ []
  unfolding lines_from
  none_from first = refl

  -- one line behind the others
  line_behind : (first n : ℕ) (made : List ℕ) → made ≡ bytes_at (first + n)
      → lines_from job shot old new first n ++ made ≡ lines_from job shot old new first (n + 1)
  line_behind first n made is = rw (is, add-one) (sym (lines_more first n))

  -- no lines at the start, one line more when it has been written behind those before it, and all of them at the end
  pub no_lines : (first s : ℕ) (out : List ℕ) → take (0 * s) out ≡ lines_from job shot old new first 0
  no_lines first s out = let none : 0 * s ≡ 0 = omega arith in rw none (sym (none_from first))

  pub line_written : (first n s k : ℕ) (out made : List ℕ) → take (n * s) out ≡ lines_from job shot old new first n
      → made ≡ bytes_at (first + n) → length made ≡ s → n * s + s ≤ length out
      → take ((n + 1) * s) (put_mid (n * s) k out made) ≡ lines_from job shot old new first (n + 1)
  line_written first n s k out made before is long room =
      take-put_mid (n * s) k out made ((n + 1) * s) (omega (arith, long)) (omega arith)
      ∙ ap (λ r. r ++ made) before
      ∙ line_behind first n made is

  pub all_lines : (first n count s : ℕ) (out : List ℕ) → take (n * s) out ≡ lines_from job shot old new first n → n ≡ count → length out ≡ count * s
      → out ≡ lines_from job shot old new first count
  all_lines first n count s out before is long =
      let enough : length out ≤ n * s = rw is (omega arith) in
      sym (take_all (n * s) out enough) ∙ before ∙ ap (lines_from job shot old new first) is

  -- lines behind lines
  pub lines_joined : (first a b : ℕ) → lines_from job shot old new first a ++ lines_from job shot old new (first + a) b ≡ lines_from job shot old new first (a + b)
  lines_joined first a zero =
      let same : a + 0 ≡ a = omega arith in
      rw (none_from (first + a), same) (append-nil (lines_from job shot old new first a))
  lines_joined first a (suc b) =
      let at : first + a + b ≡ first + (a + b) = omega arith in
      let more : a + suc b ≡ suc (a + b) = omega arith in
      ap (λ r. lines_from job shot old new first a ++ r) (lines_more (first + a) b)
      ∙ sym (append_assoc (lines_from job shot old new first a) (lines_from job shot old new (first + a) b) (bytes_at (first + a + b)))
      ∙ ap (λ r. r ++ bytes_at (first + a + b)) (lines_joined first a b)
      ∙ ap (λ y. lines_from job shot old new first (a + b) ++ bytes_at y) at
      ∙ sym (lines_more first (a + b))
      ∙ ap (lines_from job shot old new first) (sym more)

  pub lines_long : (first n : ℕ) → length (lines_from job shot old new first n) ≡ n * stride job
  lines_long first zero = ap length (none_from first) ∙ zero_times (stride job)
  lines_long first (suc n) =
      let before = lines_long first n in
      let last = line_long (first + n) in
      let both = length-append (lines_from job shot old new first n) (bytes_at (first + n)) in
      ap length (lines_more first n) ∙ omega (arith, before, last, both)

  -- a band behind the others
  pub band_written : (first end a e s k : ℕ) (out made : List ℕ) → first ≡ a → end ≡ e → a ≤ e → take (a * s) out ≡ lines_from job shot old new 0 a
      → made ≡ lines_from job shot old new first (end - first) → length made ≡ (end - first) * s → e * s ≤ length out
      → take (e * s) (put_mid (first * s) k out made) ≡ lines_from job shot old new 0 e
  band_written first end a e s k out made is_first is_end order before is long room =
      let lines : (a + (e - a)) * s ≡ e * s = ap (λ n. n * s) (omega arith) in
      let all : a + (e - a) ≡ e = omega arith in
      let from : 0 + a ≡ a = omega arith in
      let size : length made ≡ (e - a) * s = rw (is_first, is_end) at long in
      let made_is : made ≡ lines_from job shot old new (0 + a) (e - a) = rw (is_first, is_end) at is ∙ ap (λ y. lines_from job shot old new y (e - a)) (sym from) in
      rw is_first
      (take-put_mid (a * s) k out made (e * s) (omega (arith, size, lines)) (omega (arith, lines))
      ∙ ap (λ r. r ++ made) before
      ∙ ap (λ r. lines_from job shot old new 0 a ++ r) made_is
      ∙ lines_joined 0 a (e - a)
      ∙ ap (lines_from job shot old new 0) all)

  -- all of them are the picture
  pub picture_is : picture job shot old new ≡ lines_from job shot old new 0 job.parts.project.height
  unfolding lines_from some_lines
  picture_is = refl

  pub picture_long : length (picture job shot old new) ≡ job.parts.project.height * stride job
  picture_long = ap length picture_is ∙ lines_long 0 job.parts.project.height

  -- a place of the picture, by the lines that it lies in
  pub place_from : (first count k : ℕ) → first + count ≤ job.parts.project.height → k < count * stride job
      → get_or (lines_from job shot old new first count) k 0 ≡ get_or (picture job shot old new) (first * stride job + k) 0
  place_from first count k within lt =
      let h : ℕ = job.parts.project.height in
      let rest : ℕ = h - (first + count) in
      let all : first + count + rest ≡ h = omega arith in
      let front = lines_long 0 first in
      let middle = lines_long first count in
      let before : lines_from job shot old new 0 first ++ lines_from job shot old new (0 + first) count ≡ lines_from job shot old new 0 (first + count) = lines_joined 0 first count in
      let behind : lines_from job shot old new 0 (first + count) ++ lines_from job shot old new (0 + (first + count)) rest ≡ lines_from job shot old new 0 (first + count + rest) = lines_joined 0 (first + count) rest in
      let from_first : 0 + first ≡ first = omega arith in
      let back : first * stride job + k - first * stride job ≡ k = omega arith in
      sym
      (ap (λ p. get_or p (first * stride job + k) 0) (picture_is ∙ ap (lines_from job shot old new 0) (sym all) ∙ sym behind ∙ ap (λ r. r ++ lines_from job shot old new (0 + (first + count)) rest) (sym before))
      ∙ get_or_append_left (lines_from job shot old new 0 first ++ lines_from job shot old new (0 + first) count) (lines_from job shot old new (0 + (first + count)) rest) 0 (first * stride job + k)
      (simp length-append (rw from_first (omega (arith, front, middle))))
      ∙ get_or-append_right (lines_from job shot old new 0 first) (lines_from job shot old new (0 + first) count) (first * stride job) (first * stride job + k) 0 front (omega arith)
      ∙ ap (λ i. get_or (lines_from job shot old new (0 + first) count) i 0) back
      ∙ ap (λ y. get_or (lines_from job shot old new y count) k 0) from_first)

-- a line's bytes fit behind those of the lines before it
pub room_for : (y w h n : ℕ) → y < h → n ≡ h * (4 * w) → y * (4 * w) + 4 * w ≤ n
room_for y w h n lt is =
    let least : (y + 1) * (4 * w) ≤ h * (4 * w) = mul-le-mul_right (4 * w) (omega arith) in
    omega (arith, least, is)
