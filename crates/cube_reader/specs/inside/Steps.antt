-- One line more, from what the lines before it say: words of private clauses.
--     values count words      so many words, each of which is a number, as numbers
--     keyword_step s k words      what the lines say with a keyword line more, or its fault
--     IsReading lines n r      what is known after the first n lines
use Rattle.std.specs.Prelude.{◌≡◌, ◌≤◌, ◌<◌, ℕ, ◌+◌, Bool, true, false, not, pos, ◌&&◌, ◌||◌, ◌==◌, nat_le, if◌then◌else◌, List, [], ◌∷◌, length, map, take, filter, count_by, codes, slice_get, slice_index_or, Option, Some, None, Result, Ok, Err}
use Rattle.std.specs.List.{list_any, list_all, All}
use Rattle.std.specs.Str.{bytes_eq}
use Rattle.std.specs.Str.Parse.{digits_value}
use Rattle.std.specs.Char.{is_ascii_digit}
use Rattle.cf_base.specs.declared.fixed.Fixed.{Fixed}
use Rattle.cf_base.specs.declared.fail.Fail.{Fail}
use Rattle.cf_base.specs.declared.fail.Fail.TheVariants.{Fault, NoMemory}
use Rattle.cf_base.specs.Fixed.{fixed_of}
use Rattle.cf_base.specs.Tokens.{Token, tokens_from}
use Rattle.cube_reader.specs.declared.fault.CubeFault.{CubeFault}
use Rattle.cube_reader.specs.declared.fault.CubeKind.{CubeKind}
use Rattle.cube_reader.specs.declared.fault.CubeKind.TheVariants.{Keyword as BadKeyword, Size, Number, Count, Domain, Both, NoSize}
use Rattle.cube_reader.specs.declared.keywords.Keyword.{Keyword}
use Rattle.cube_reader.specs.declared.keywords.Keyword.TheVariants.{Title, LineSize, CubeSize, DomainMin, DomainMax, LineRange, CubeRange}
use Rattle.cube_reader.specs.declared.keywords.Keywords.{Keywords}
use Rattle.cube_reader.specs.declared.state.State.{State}
use Rattle.cube_reader.specs.declared.reading.Reading.{Reading}
use Rattle.cube_reader.specs.Table.{IsBound, units, entry_count, greatest_size}
use Rattle.cube_reader.specs.Text.{Line, word, is_data, are_numbers, numbers, ok_of, is_far, is_size, on_all, is_under, size_of, low_of, high_of, clamped, line_fault, faults_of, at_line}

-- Words of a line.

abbrev pub words_from : (line : List ℕ) (at : ℕ) → List (List ℕ)
words_from line at = map (λ (token : Token). token.bytes) (tokens_from line at)

abbrev pub first_number : List (List ℕ) → Option Fixed
first_number [] = None
first_number (w ∷ more) = ok_of (fixed_of w)

abbrev pub values : (count : ℕ) → List (List ℕ) → Option (List Fixed)
values count words = if are_numbers count words then Some (numbers words) else None

abbrev pub judged : Option (List Fixed) → Result (List Fixed) CubeKind
judged None = Err Number
judged (Some vs) = if list_any is_far vs then Err Domain else Ok vs

abbrev pub bounds : (count : ℕ) → List (List ℕ) → Result (List Fixed) CubeKind
bounds count words = judged (values count words)

abbrev pub small_number : (greatest : ℕ) → List ℕ → Option ℕ
small_number greatest token =
    if nat_le 1 (length token) && nat_le (length token) 6 && list_all is_ascii_digit token
    && nat_le 2 (digits_value 10 token) && nat_le (digits_value 10 token) greatest
    then Some (digits_value 10 token) else None

abbrev pub size_in : (greatest : ℕ) → List (List ℕ) → Option ℕ
size_in greatest words = if is_size greatest words then Some (digits_value 10 (slice_index_or words 0 [])) else None

-- Keywords.

abbrev pub spelling : Keyword → List ℕ
spelling Title = codes "TITLE"
spelling LineSize = codes "LUT_1D_SIZE"
spelling CubeSize = codes "LUT_3D_SIZE"
spelling DomainMin = codes "DOMAIN_MIN"
spelling DomainMax = codes "DOMAIN_MAX"
spelling LineRange = codes "LUT_1D_INPUT_RANGE"
spelling CubeRange = codes "LUT_3D_INPUT_RANGE"

abbrev pub is_word : Keyword → Line → Bool
is_word k line = bytes_eq (word line) (spelling k)

abbrev pub has_stood : Keywords → Keyword → Bool
has_stood s Title = s.title
has_stood s LineSize = s.line_size
has_stood s CubeSize = s.cube_size
has_stood s DomainMin = s.domain_min
has_stood s DomainMax = s.domain_max
has_stood s LineRange = s.line_range
has_stood s CubeRange = s.cube_range

abbrev pub names : Keyword → Keyword → Bool
names k j = bytes_eq (spelling k) (spelling j)

abbrev pub noted : Keywords → Keyword → Keywords
noted s k = record {
  title = names k Title || s.title;
  line_size = names k LineSize || s.line_size;
  cube_size = names k CubeSize || s.cube_size;
  domain_min = names k DomainMin || s.domain_min;
  domain_max = names k DomainMax || s.domain_max;
  line_range = names k LineRange || s.line_range;
  cube_range = names k CubeRange || s.cube_range;
}

-- What the lines say with one more.

-- what no line says: no size, and inputs from 0 to 1
abbrev pub new_state : State
new_state = record {
  seen = record {
    title = false;
    line_size = false;
    cube_size = false;
    domain_min = false;
    domain_max = false;
    line_range = false;
    cube_range = false;
  };
  size = 0;
  low = on_all (record { 0 = pos 0 } ∷ []) 0;
  high = on_all (record { 0 = pos 1000000000 } ∷ []) 0;
  data_lines = 0;
}

abbrev pub changed : State → Keyword → ℕ → List Fixed → List Fixed → State
changed s k size low high = record { seen = noted s.seen k; size = size; low = low; high = high; data_lines = s.data_lines }

abbrev pub sized : State → Keyword → Option ℕ → Result State CubeKind
sized s k None = Err Size
sized s k (Some n) = Ok (changed s k n s.low s.high)

abbrev pub bounded : (List Fixed → State) → Result (List Fixed) CubeKind → Result State CubeKind
bounded f (Err kind) = Err kind
bounded f (Ok vs) = Ok (f vs)

abbrev pub known_step : State → Keyword → List (List ℕ) → Result State CubeKind
known_step s Title words = Ok (changed s Title s.size s.low s.high)
known_step s LineSize words = if s.seen.cube_size then Err Both else sized s LineSize (size_in 65536 words)
known_step s CubeSize words = if s.seen.line_size then Err Both else sized s CubeSize (size_in 129 words)
known_step s DomainMin words = bounded (λ vs. changed s DomainMin s.size vs s.high) (bounds 3 words)
known_step s DomainMax words = bounded (λ vs. changed s DomainMax s.size s.low vs) (bounds 3 words)
known_step s LineRange words = bounded (λ vs. changed s LineRange s.size (on_all vs 0) (on_all vs 1)) (bounds 2 words)
known_step s CubeRange words = bounded (λ vs. changed s CubeRange s.size (on_all vs 0) (on_all vs 1)) (bounds 2 words)

abbrev pub keyword_step : State → Keyword → List (List ℕ) → Result State CubeKind
keyword_step s k words = if not (s.data_lines == 0) || has_stood s.seen k then Err BadKeyword else known_step s k words

abbrev pub knows_size : State → Bool
knows_size s = s.seen.line_size || s.seen.cube_size

abbrev pub are_ordered : State → Bool
are_ordered s = list_all (is_under s.low s.high) (0 ∷ 1 ∷ 2 ∷ [])

abbrev pub is_full_state : State → Bool
is_full_state s = nat_le (entry_count s.seen.cube_size s.size) s.data_lines

-- the fault of a data line that its numbers don't give
abbrev pub data_step : State → Option CubeKind
data_step s =
    if not (knows_size s) then Some NoSize
    else if s.data_lines == 0 && not (are_ordered s) then Some Domain
    else if is_full_state s then Some Count
    else None

abbrev pub end_step : State → Option CubeKind
end_step s = if not (knows_size s) then Some NoSize else if is_full_state s then None else Some Count

-- What is known.

abbrev pub entries_of : List Line → List (List Fixed)
entries_of lines = map (λ line. map clamped (numbers line)) (filter is_data lines)

pub record IsSound (s : State) : Type 0 where
  pub least : knows_size s ≡ true → 2 ≤ s.size
  pub greatest : s.size ≤ greatest_size s.seen.cube_size
  pub low_three : length s.low ≡ 3
  pub high_three : length s.high ≡ 3
  pub low : (channel : ℕ) → channel < 3 → IsBound (units s.low channel)
  pub high : (channel : ℕ) → channel < 3 → IsBound (units s.high channel)
  pub sized : 0 < s.data_lines → knows_size s ≡ true
  pub ordered : 0 < s.data_lines → are_ordered s ≡ true
  pub few : s.data_lines ≤ entry_count s.seen.cube_size s.size

pub record Knows (before : List Line) (s : State) : Type 0 where
  pub seen : (k : Keyword) → has_stood s.seen k ≡ list_any (is_word k) before
  pub size : s.size ≡ size_of before
  pub low : s.low ≡ low_of before
  pub high : s.high ≡ high_of before
  pub data_lines : s.data_lines ≡ count_by is_data before
  pub three : All (λ (e : List Fixed). length e ≡ 3) (entries_of before)
  pub sound : IsSound s

pub record IsReading (lines : List Line) (n : ℕ) (r : Reading) : Type 0 where
  pub done : r.lines ≡ n
  pub knows : Knows (take n lines) r.state
  pub faultless : (k : ℕ) (l : Line) → k < n → slice_get lines k ≡ Some l → line_fault (take k lines) l ≡ None
  pub entries : r.entries.items ≡ entries_of (take n lines)

-- what holds behind the line at n, or why the reading ends with it
abbrev pub After : List Line → ℕ → Result (Unit {0}) (Fail CubeKind) → Reading → Type 0
After lines n (Ok u) r = IsReading lines (n + 1) r
After lines n (Err (Fault kind)) r = slice_get (faults_of lines) 0 ≡ Some (at_line (n + 1) kind)
After lines n (Err NoMemory) r = Unit {0}

-- a line is read behind those before it, in each text where it is the next
abbrev pub ReadsLine : Line → Reading → Result (Unit {0}) (Fail CubeKind) → Reading → Type 0
ReadsLine line before answer after = (lines : List Line) → slice_get lines before.lines ≡ Some line
    → IsReading lines before.lines before → After lines before.lines answer after

abbrev pub ReadsAll : List Line → Result Reading (Fail CubeFault) → Type 0
ReadsAll lines (Ok r) = IsReading lines (length lines) r
ReadsAll lines (Err (Fault fault)) = slice_get (faults_of lines) 0 ≡ Some fault
ReadsAll lines (Err NoMemory) = Unit {0}

abbrev pub refused_at : ℕ → Fail CubeKind → Fail CubeFault
refused_at line (Fault kind) = Fault (at_line line kind)
refused_at line NoMemory = NoMemory
