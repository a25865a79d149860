-- What a cube text stands for, or why it is refused.
-- * cube of a text [Table, Entry]: what each line is, what the lines before it have set, and the first line with a fault; else
--   the size, the bounds of each channel and the values of each data line. Law: each text that is accepted is a table of the
--   right size with its bounds in order and its values from 0 to 1
--
-- A line is its tokens; lines are numbered from 1. Each rule is asked of a line and of all the lines
-- before it. The first line with a fault is refused, and then the end of the text.
use Prim.Native.String.{String}
use Rattle.std.specs.Prelude.{◌≡◌, ℕ, ◌+◌, Bool, not, ◌&&◌, ◌||◌, ◌==◌, nat_lt, nat_le, if◌then◌else◌, List, [], ◌∷◌, length, map, filter, filter_map, count_by, take, drop, slice_get, slice_index, slice_index_or, codes, pos, unsigned_abs, int_lt, Option, Some, None, is_ok, unwrap_or, option_map, Result, Ok, Err, max}
use Rattle.std.specs.List.{list_any, list_all, enumerate_from, last_or}
use Rattle.std.specs.Int.{int_max, int_min}
use Rattle.std.specs.Str.{bytes_eq}
use Rattle.std.specs.Str.Parse.{digits_value}
use Rattle.std.specs.Char.{is_ascii_digit}
use Rattle.cf_base.specs.declared.limits.TheConstants.{CUBE_BYTES}
use Rattle.cf_base.specs.declared.fixed.Fixed.{Fixed}
use Rattle.cf_base.specs.declared.fixed.FixedFault.{FixedFault}
use Rattle.cf_base.specs.Fixed.{fixed_of}
use Rattle.cf_base.specs.Lines.{lines_of}
use Rattle.cf_base.specs.Tokens.{Token, tokens}
use Rattle.cube_reader.specs.declared.fault.CubeFault.{CubeFault}
use Rattle.cube_reader.specs.declared.fault.CubeKind.{CubeKind}
use Rattle.cube_reader.specs.declared.fault.CubeKind.TheVariants.{Keyword, Size, Number, Count, Domain, Both, NoSize, TooLong}
use Rattle.cube_reader.specs.Table.{Table, IsTable, units, entry_count}

-- a line's tokens
abbrev pub Line : Type 0
Line = List (List ℕ)

abbrev pub tokens_of : (line : List ℕ) → Line
tokens_of line = map (λ (token : Token). token.bytes) (tokens line)

-- the lines of a text
abbrev pub lines_in : (text : List ℕ) → List Line
lines_in text = map tokens_of (lines_of text)

abbrev pub word : Line → List ℕ
word line = slice_index_or line 0 []

abbrev pub arguments : Line → List (List ℕ)
arguments line = drop 1 line

-- Kinds of lines, by the first byte that isn't a blank.

-- a line of blanks, or a comment
abbrev pub is_passed_over : Line → Bool
is_passed_over line = length line == 0 || slice_index (word line) 0 == 35

-- it begins as a number does
abbrev pub is_data : Line → Bool
is_data line = let c = slice_index (word line) 0 in is_ascii_digit c || c == 43 || c == 45 || c == 46

abbrev pub says : String → Line → Bool
says keyword line = bytes_eq (word line) (codes keyword)

abbrev pub is_known : Line → Bool
is_known line =
    says "TITLE" line || says "LUT_1D_SIZE" line || says "LUT_3D_SIZE" line || says "DOMAIN_MIN" line || says "DOMAIN_MAX" line
    || says "LUT_1D_INPUT_RANGE" line || says "LUT_3D_INPUT_RANGE" line

-- Numbers of lines.

-- so many tokens, each of which is a number
abbrev pub are_numbers : (count : ℕ) → List (List ℕ) → Bool
are_numbers count tokens = length tokens == count && list_all (λ token. is_ok (fixed_of token)) tokens

abbrev pub ok_of : Result Fixed FixedFault → Option Fixed
ok_of (Ok v) = Some v
ok_of (Err e) = None

abbrev pub numbers : List (List ℕ) → List Fixed
numbers tokens = filter_map (λ token. ok_of (fixed_of token)) tokens

-- over 100 in size
abbrev pub is_far : Fixed → Bool
is_far v = nat_lt 100000000000 (unsigned_abs v.0)

-- one token of one to six digits, from 2 to the greatest
abbrev pub is_size : (greatest : ℕ) → List (List ℕ) → Bool
is_size greatest tokens =
    let token = slice_index_or tokens 0 [] in
    length tokens == 1 && nat_le 1 (length token) && nat_le (length token) 6 && list_all is_ascii_digit token
    && nat_le 2 (digits_value 10 token) && nat_le (digits_value 10 token) greatest

-- What a list of lines sets.

abbrev pub is_size_line : Line → Bool
is_size_line line = says "LUT_1D_SIZE" line || says "LUT_3D_SIZE" line

abbrev pub has_size : List Line → Bool
has_size lines = list_any is_size_line lines

abbrev pub is_3d : List Line → Bool
is_3d lines = list_any (says "LUT_3D_SIZE") lines

-- the first size that is set
abbrev pub size_of : List Line → ℕ
size_of lines = digits_value 10 (slice_index_or (arguments (slice_index_or (filter is_size_line lines) 0 [])) 0 [])

abbrev pub is_range_line : Line → Bool
is_range_line line = says "LUT_1D_INPUT_RANGE" line || says "LUT_3D_INPUT_RANGE" line

-- the same number on the three channels
abbrev pub on_all : List Fixed → (n : ℕ) → List Fixed
on_all values n = let v = slice_index_or values n (record { 0 = pos 0 }) in v ∷ v ∷ v ∷ []

abbrev pub low_set : Line → Option (List Fixed)
low_set line =
    if says "DOMAIN_MIN" line then Some (numbers (arguments line))
    else if is_range_line line then Some (on_all (numbers (arguments line)) 0)
    else None

abbrev pub high_set : Line → Option (List Fixed)
high_set line =
    if says "DOMAIN_MAX" line then Some (numbers (arguments line))
    else if is_range_line line then Some (on_all (numbers (arguments line)) 1)
    else None

-- 0 and 1 on each channel, where no line sets another; of several lines the last counts
abbrev pub low_of : List Line → List Fixed
low_of lines = unwrap_or (last_or None (filter_map low_set lines)) (on_all (record { 0 = pos 0 } ∷ []) 0)

abbrev pub high_of : List Line → List Fixed
high_of lines = unwrap_or (last_or None (filter_map high_set lines)) (on_all (record { 0 = pos 1000000000 } ∷ []) 0)

abbrev pub is_under : (low high : List Fixed) (channel : ℕ) → Bool
is_under low high channel = int_lt (units low channel) (units high channel)

abbrev pub is_ordered : List Line → Bool
is_ordered lines = list_all (is_under (low_of lines) (high_of lines)) (0 ∷ 1 ∷ 2 ∷ [])

abbrev pub is_full : List Line → Bool
is_full lines = nat_le (entry_count (is_3d lines) (size_of lines)) (count_by is_data lines)

-- The fault of a line, after the lines before it.

abbrev pub bounds_fault : (count : ℕ) → Line → Option CubeKind
bounds_fault count line =
    if not (are_numbers count (arguments line)) then Some Number
    else if list_any is_far (numbers (arguments line)) then Some Domain
    else None

abbrev pub keyword_fault : (before : List Line) (line : Line) → Option CubeKind
keyword_fault before line =
    if list_any is_data before || not (is_known line) || list_any (λ m. bytes_eq (word m) (word line)) before then Some Keyword
    else if says "TITLE" line then None
    else if says "LUT_1D_SIZE" line then (if list_any (says "LUT_3D_SIZE") before then Some Both else if is_size 65536
    (arguments line) then None else Some Size)
    else if says "LUT_3D_SIZE" line then (if list_any (says "LUT_1D_SIZE") before then Some Both else if is_size 129
    (arguments line) then None else Some Size)
    else if is_range_line line then bounds_fault 2 line
    else bounds_fault 3 line

abbrev pub data_fault : (before : List Line) (line : Line) → Option CubeKind
data_fault before line =
    if not (has_size before) then Some NoSize
    else if not (list_any is_data before) && not (is_ordered before) then Some Domain
    else if is_full before then Some Count
    else if are_numbers 3 line then None
    else Some Number

abbrev pub line_fault : (before : List Line) (line : Line) → Option CubeKind
line_fault before line =
    if is_passed_over line then None
    else if is_data line then data_fault before line
    else keyword_fault before line

abbrev pub end_fault : List Line → Option CubeKind
end_fault lines =
    if not (has_size lines) then Some NoSize
    else if is_full lines then None
    else Some Count

abbrev pub at_line : (number : ℕ) → CubeKind → CubeFault
at_line number kind = record { line = number; kind = kind }

-- the faults of all lines, in order, each after those before it
abbrev pub faults_of : List Line → List CubeFault
faults_of lines =
    filter_map (λ (p : ℕ × Line). option_map (at_line (p.0 + 1)) (line_fault (take p.0 lines) p.1)) (enumerate_from 0 lines)

-- between 0 and 1
abbrev pub clamped : Fixed → Fixed
clamped v = record { 0 = int_max (pos 0) (int_min v.0 (pos 1000000000)) }

abbrev pub table_of : List Line → Table
table_of lines = record {
  is_3d = is_3d lines;
  size = size_of lines;
  low = low_of lines;
  high = high_of lines;
  entries = map (λ line. map clamped (numbers line)) (filter is_data lines);
}

-- the table, unless the text ends too early
abbrev pub ended : List Line → Option CubeKind → Result Table CubeFault
ended lines (Some kind) = Err (at_line (max 1 (length lines)) kind)
ended lines None = Ok (table_of lines)

abbrev pub settled : List Line → Option CubeFault → Result Table CubeFault
settled lines (Some first) = Err first
settled lines None = ended lines (end_fault lines)

abbrev pub cube_of : (text : List ℕ) → Result Table CubeFault
cube_of text =
    if nat_lt CUBE_BYTES (length text) then Err (at_line 0 TooLong)
    else settled (lines_in text) (slice_get (faults_of (lines_in text)) 0)

-- A table that is read is one.
abbrev pub AcceptsTables : Type 0
AcceptsTables = (text : List ℕ) (t : Table) → cube_of text ≡ Ok t → IsTable t
