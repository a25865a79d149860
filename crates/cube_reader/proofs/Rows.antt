-- Worked examples of cube texts, each by computing the definition.
use Rattle.std.proofs.Common.{◌≡◌, refl, ℕ, pos, codes, List, [], ◌∷◌, false}
use Rattle.std.specs.List.{join_with_byte}
use Rattle.std.specs.Prelude.{Result, Ok, Err, replicate, ◌++◌}
use Rattle.cf_base.specs.declared.fixed.Fixed.{Fixed}
use Rattle.cube_reader.specs.declared.fault.CubeFault.{CubeFault}
use Rattle.cube_reader.specs.declared.fault.CubeKind.{CubeKind}
use Rattle.cube_reader.specs.declared.fault.CubeKind.TheVariants.{Keyword, Size, Number, Count, Domain, Both, NoSize}
use Rattle.cube_reader.specs.Table.{Table}
use Rattle.cube_reader.specs.Text.{cube_of}

abbrev text : List (List ℕ) → List ℕ
text lines = join_with_byte 10 lines

abbrev refused : ℕ → CubeKind → Result Table CubeFault
refused line kind = Err (record { line = line; kind = kind })

-- a size of 2 in three dimensions and seven data lines, nine lines in all
missing_line : cube_of (text (codes "# made by hand" ∷ codes "LUT_3D_SIZE 2" ∷ replicate 7 (codes "0 0 0") ++ [] ∷ [])) ≡ refused 9 Count
missing_line = refl

-- and nine data lines, ten lines in all
line_too_many : cube_of (text (codes "LUT_3D_SIZE 2" ∷ replicate 9 (codes "0 0 0"))) ≡ refused 10 Count
line_too_many = refl

no_data_lines : cube_of (codes "LUT_3D_SIZE 129") ≡ refused 1 Count
no_data_lines = refl

-- a byte order mark is part of the first word
order_mark : cube_of (239 ∷ 187 ∷ 191 ∷ codes "LUT_3D_SIZE 2") ≡ refused 1 Keyword
order_mark = refl

-- the bounds are asked at the first data line
equal_bounds : cube_of (text (codes "LUT_3D_SIZE 2" ∷ codes "DOMAIN_MIN 0 0 0" ∷ codes "DOMAIN_MAX 0 1 1" ∷ codes "0 0 0" ∷ [])) ≡ refused 4 Domain
equal_bounds = refl

far_exponent : cube_of (text (codes "LUT_3D_SIZE 2" ∷ codes "1e100 0 0" ∷ [])) ≡ refused 2 Number
far_exponent = refl

size_too_large : cube_of (codes "LUT_3D_SIZE 256") ≡ refused 1 Size
size_too_large = refl

-- one-dimensional, with a value that is clamped, small numbers and a title
abbrev whole : ℕ → Fixed
whole n = record { 0 = pos n }

read : cube_of (text (codes "TITLE x" ∷ codes "LUT_1D_SIZE 2" ∷ codes "1e-05 0 -1" ∷ codes "0 1 2.5" ∷ []))
    ≡ Ok (record {
      is_3d = false;
      size = 2;
      low = whole 0 ∷ whole 0 ∷ whole 0 ∷ [];
      high = whole 1000000000 ∷ whole 1000000000 ∷ whole 1000000000 ∷ [];
      entries = (whole 10000 ∷ whole 0 ∷ whole 0 ∷ []) ∷ (whole 0 ∷ whole 1000000000 ∷ whole 1000000000 ∷ []) ∷ [];
    })
read = refl

no_text : cube_of [] ≡ refused 1 NoSize
no_text = refl

both_sizes : cube_of (text (codes "LUT_1D_SIZE 2" ∷ codes "LUT_3D_SIZE 2" ∷ [])) ≡ refused 2 Both
both_sizes = refl

twice : cube_of (text (codes "LUT_1D_SIZE 2" ∷ codes "LUT_1D_SIZE 2" ∷ [])) ≡ refused 2 Keyword
twice = refl

late_keyword : cube_of (text (codes "LUT_1D_SIZE 2" ∷ codes "0 0 0" ∷ codes "TITLE x" ∷ [])) ≡ refused 3 Keyword
late_keyword = refl

no_way : cube_of (text (codes "LUT_1D_SIZE 2" ∷ codes "DOMAIN_MIN 1 0 0" ∷ codes "0 0 0" ∷ [])) ≡ refused 3 Domain
no_way = refl

too_many : cube_of (text (codes "LUT_1D_SIZE 2" ∷ codes "0 0 0" ∷ codes "0 0 0" ∷ codes "a b" ∷ [])) ≡ refused 4 Keyword
too_many = refl

full : cube_of (text (codes "LUT_1D_SIZE 2" ∷ codes "0 0 0" ∷ codes "0 0 0" ∷ codes "0 x" ∷ [])) ≡ refused 4 Count
full = refl
