-- Each source frame that the reels have is a file of the demonstration, and its header is read.
use Rattle.std.proofs.Common.{◌≡◌, ◌≢◌, ℕ, zero, suc, ◌+◌, ◌-◌, ◌*◌, ◌/◌, ◌%◌, ◌<◌, ◌≤◌, Bool, true, false, List, [], ◌∷◌, ◌++◌, map, take, drop, refl, sym, ap, ◌∙◌, arith, inl, inr}
use Rattle.std.specs.Prelude.{Option, Some, None}
use Rattle.std.specs.List.{flat_map, range_with_len}
use Rattle.std.specs.Ordering.{nat_cmp, eq_by_cmp}
use Rattle.std.specs.Cmp.Lexicographic.{slice_cmp}
use Rattle.std.specs.FinMap.{get-from_entries, find}
use Rattle.std.specs.Char.{digit_value}
use Rattle.std.specs.Str.Parse.{digits_value}
use Rattle.std.proofs.lemmas.Cmp.{nat_list_cmp_total}
use Rattle.std.proofs.lemmas.Map.Text.{is_eq-slice_cmp}
use Rattle.std.proofs.lemmas.Slice.Eq.{bytes_eq-Decides}
use Rattle.std.proofs.lemmas.Bool.{cases_lt, cases_Bool}
use Rattle.std.proofs.lemmas.Bool.Decides.{nat_tests}
use Rattle.scan_source.specs.World.{file_at}
use Rattle.demo.specs.Demo.{demo_world}
use Rattle.demo.specs.Counts.{source_count}
use Rattle.demo.specs.Files.{File, source_path, source_entry, reel_files, demo_files, project_path, list_path}
use Rattle.demo.specs.Pictures.{source_file}
use Rattle.demo.specs.Texts.{hour, project_text, list_text}

abbrev looked : List ℕ → List File → Option (List ℕ)
looked q files = find (slice_cmp nat_cmp) q files

abbrev tied : List ℕ → List ℕ → Bool
tied q k = eq_by_cmp (slice_cmp nat_cmp) q k

looked_append : (q : List ℕ) (a b : List File) → looked q a ≡ None → looked q (a ++ b) ≡ looked q b
looked_append q [] b none = refl
looked_append q (f ∷ a) b none = elim (cases_Bool (tied q f.0)) [
  | inl same ↦ absurd (never (rw same at none))
  | inr other ↦ rw other (looked_append q a b (rw other at none))
]
  where
    never : Some f.1 ≡ None → ⊥
    never h = cc

looked_first : (q : List ℕ) (a b : List File) (bytes : List ℕ) → looked q a ≡ Some bytes → looked q (a ++ b) ≡ Some bytes
looked_first q [] b bytes some = absurd (never some)
  where
    never : ◌≡◌ {A = Option (List ℕ)} None (Some bytes) → ⊥
    never h = cc
looked_first q (f ∷ a) b bytes some = elim (cases_Bool (tied q f.0)) [
  | inl same ↦ rw same (rw same at some)
  | inr other ↦ rw other (looked_first q a b bytes (rw other at some))
]

-- different frames of a reel have different paths
digit_worth : (n : ℕ) → digit_value (48 + n % 10) ≡ n % 10
digit_worth n = grind (arith, nat_tests)

seven : (n a b c d e f g : ℕ) → n < 10000000 → a ≡ n / 1000000 % 10 → b ≡ n / 100000 % 10 → c ≡ n / 10000 % 10 → d ≡ n / 1000 % 10 → e ≡ n / 100 % 10 → f ≡ n / 10 % 10 → g ≡ n / 1 % 10
    → ((((((0 * 10 + a) * 10 + b) * 10 + c) * 10 + d) * 10 + e) * 10 + f) * 10 + g ≡ n
seven n a b c d e f g small ha hb hc hd he hf hg = omega arith

abbrev number_in : List ℕ → ℕ
number_in path = digits_value 10 (take 7 (drop 3 path))

number_of_path : (r m : ℕ) → m < 10000000 → number_in (source_path r m) ≡ m
unfolding source_path
number_of_path r m small = seven m _ _ _ _ _ _ _ small (digit_worth (m / 1000000)) (digit_worth (m / 100000)) (digit_worth (m / 10000)) (digit_worth (m / 1000)) (digit_worth (m / 100)) (digit_worth (m / 10)) (digit_worth (m / 1))

paths_differ : (r m n : ℕ) → m < 10000000 → n < 10000000 → m ≢ n → tied (source_path r m) (source_path r n) ≡ false
paths_differ r m n small low other = elim (cases_Bool (tied (source_path r m) (source_path r n))) [
  | inl same ↦
      let one : source_path r m ≡ source_path r n = (bytes_eq-Decides (source_path r m) (source_path r n)).0 (sym (is_eq-slice_cmp (source_path r m) (source_path r n)) ∙ same) in
      absurd (other (sym (number_of_path r m small) ∙ ap number_in one ∙ number_of_path r n low))
  | inr apart ↦ apart
]

path_itself : (r m : ℕ) → tied (source_path r m) (source_path r m) ≡ true
path_itself r m = is_eq-slice_cmp (source_path r m) (source_path r m) ∙ (bytes_eq-Decides (source_path r m) (source_path r m)).1 refl

-- a file of the reel
abbrev files_from : (r a n : ℕ) → List File
files_from r a n = map (λ k. source_entry r (hour + k)) (range_with_len a n)

found_from : (r a n j : ℕ) → a ≤ j → j < a + n → a + n ≤ 10000 → looked (source_path r (hour + j)) (files_from r a n) ≡ Some (source_file r (hour + j))
found_from r a zero j low high few = absurd (omega arith)
found_from r a (suc n) j low high few = elim (cases_lt a j) [
  | inl later ↦ rw (paths_differ r (hour + j) (hour + a) (omega arith) (omega arith) (λ same. omega arith)) (found_from r (a + 1) n j (omega arith) (omega arith) (omega arith))
  | inr here ↦
      let same : j ≡ a = omega arith in
      rw (same, path_itself r (hour + a)) refl
]

found_in : (r n j : ℕ) → j < n → n ≤ 10000 → looked (source_path r (hour + j)) (reel_files n r) ≡ Some (source_file r (hour + j))
found_in r n j high few = found_from r 0 n j (omega arith) (omega arith) (omega arith)

-- another reel has none of its paths
abbrev IsOther : ℕ → ℕ → Type 0
IsOther r s = (m n : ℕ) → tied (source_path r m) (source_path s n) ≡ false

none_from : (r s : ℕ) → IsOther r s → (q a n : ℕ) → looked (source_path r q) (files_from s a n) ≡ None
none_from r s other q a zero = refl
none_from r s other q a (suc n) = rw (other q (hour + a)) (none_from r s other q (a + 1) n)

other_10 : IsOther 1 0
unfolding source_path
other_10 m n = refl

other_20 : IsOther 2 0
unfolding source_path
other_20 m n = refl

other_21 : IsOther 2 1
unfolding source_path
other_21 m n = refl

other_30 : IsOther 3 0
unfolding source_path
other_30 m n = refl

other_31 : IsOther 3 1
unfolding source_path
other_31 m n = refl

other_32 : IsOther 3 2
unfolding source_path
other_32 m n = refl

-- nor has the project or the list
apart_project : (r m : ℕ) → tied (source_path r m) project_path ≡ false
unfolding source_path
apart_project r m = refl

apart_list : (r m : ℕ) → tied (source_path r m) list_path ≡ false
unfolding source_path
apart_list r m = refl

abbrev frames : ℕ → List File
frames n = flat_map (reel_files n) (range_with_len 0 4)

in_frames : (r n j : ℕ) → r < 4 → j < n → n ≤ 10000 → looked (source_path r (hour + j)) (frames n) ≡ Some (source_file r (hour + j))
in_frames zero n j reel high few = looked_first (source_path 0 (hour + j)) (reel_files n 0) (flat_map (reel_files n) (range_with_len 1 3)) (source_file 0 (hour + j)) (found_in 0 n j high few)
in_frames (suc zero) n j reel high few =
    let q = source_path 1 (hour + j) in
    looked_append q (reel_files n 0) (flat_map (reel_files n) (range_with_len 1 3)) (none_from 1 0 other_10 (hour + j) 0 n)
    ∙ looked_first q (reel_files n 1) (flat_map (reel_files n) (range_with_len 2 2)) (source_file 1 (hour + j)) (found_in 1 n j high few)
in_frames (suc (suc zero)) n j reel high few =
    let q = source_path 2 (hour + j) in
    looked_append q (reel_files n 0) (flat_map (reel_files n) (range_with_len 1 3)) (none_from 2 0 other_20 (hour + j) 0 n)
    ∙ looked_append q (reel_files n 1) (flat_map (reel_files n) (range_with_len 2 2)) (none_from 2 1 other_21 (hour + j) 0 n)
    ∙ looked_first q (reel_files n 2) (flat_map (reel_files n) (range_with_len 3 1)) (source_file 2 (hour + j)) (found_in 2 n j high few)
in_frames (suc (suc (suc zero))) n j reel high few =
    let q = source_path 3 (hour + j) in
    looked_append q (reel_files n 0) (flat_map (reel_files n) (range_with_len 1 3)) (none_from 3 0 other_30 (hour + j) 0 n)
    ∙ looked_append q (reel_files n 1) (flat_map (reel_files n) (range_with_len 2 2)) (none_from 3 1 other_31 (hour + j) 0 n)
    ∙ looked_append q (reel_files n 2) (flat_map (reel_files n) (range_with_len 3 1)) (none_from 3 2 other_32 (hour + j) 0 n)
    ∙ looked_first q (reel_files n 3) [] (source_file 3 (hour + j)) (found_in 3 n j high few)
in_frames (suc (suc (suc (suc r)))) n j reel high few = absurd (omega arith)

world_at : (events : ℕ) (q : List ℕ) → file_at (demo_world events) q ≡ looked q (demo_files events)
unfolding demo_world
world_at events q = get-from_entries nat_list_cmp_total (demo_files events) q

pub frame_at : (events r m : ℕ) → r < 4 → events ≤ 1000 → hour ≤ m → m < hour + source_count events → file_at (demo_world events) (source_path r m) ≡ Some (source_file r m)
unfolding demo_files
frame_at events r m reel few low high =
    let at : hour + (m - hour) ≡ m = omega arith in
    world_at events (source_path r m)
    ∙ rw (apart_project r m, apart_list r m) (rw at at (in_frames r (source_count events) (m - hour) reel (omega arith) (omega arith)))

pub project_at : (events : ℕ) → file_at (demo_world events) project_path ≡ Some (project_text events)
unfolding demo_files
project_at events = world_at events project_path

pub list_at : (events : ℕ) → file_at (demo_world events) list_path ≡ Some (list_text events)
unfolding demo_files
list_at events = world_at events list_path
