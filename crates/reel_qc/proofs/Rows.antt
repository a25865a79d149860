-- Rows that compute.
use Rattle.std.proofs.Common.{◌≡◌, ℕ, List, [], ◌∷◌, ◌++◌, codes, refl}
use Rattle.std.specs.Fmt.{digits}
use Rattle.reel_qc.specs.Counts.{count_of}
use Rattle.dpx_pack.specs.Pixels.{colour_word}
use Rattle.reel_qc.specs.Sheet.{box_pixels, boxes_of, rounded_mean}
use Rattle.reel_qc.specs.Table.{row_line, table_of}
use Rattle.reel_qc.specs.Tones.{squared}
use Rattle.reel_qc.specs.Words.{words_from}
use Rattle.reel_qc.specs.declared.table.probe.ProbeKind.TheVariants.{High, Low, Sum}

-- (1023, 0, 512), (1019, 4, 4) with a filler that is no code, and (1020, 3, 3)
abbrev three_words : List ℕ
three_words = 0xFFC0_0800 ∷ 0xFEC0_4013 ∷ 0xFF00_300C ∷ []

highs : count_of High three_words ≡ 2
highs = refl

lows : count_of Low three_words ≡ 2
lows = refl

sums : count_of Sum three_words ≡ 3588
sums = refl

-- the third word isn't whole
cut : words_from 1 4 (9 ∷ 0xFF ∷ 0xC0 ∷ 0x08 ∷ 0x00 ∷ 0xFE ∷ 0xC0 ∷ 0x40 ∷ 0x13 ∷ 0xFF ∷ 0 ∷ 0 ∷ []) ≡ 0xFFC0_0800 ∷ 0xFEC0_4013 ∷ []
unfolding words_from
cut = refl

-- no more than are asked for
most : words_from 0 1 (0xFF ∷ 0xC0 ∷ 0x08 ∷ 0x00 ∷ 0xFE ∷ 0xC0 ∷ 0x40 ∷ 0x13 ∷ []) ≡ 0xFFC0_0800 ∷ []
unfolding words_from
most = refl

line : row_line (High ∷ Low ∷ Sum ∷ []) (record { frame = 12; words = three_words }) ≡ codes "12 2 2 3588" ++ 10 ∷ []
unfolding row_line digits
line = refl

no_probe : row_line [] (record { frame = 0; words = three_words }) ≡ codes "0" ++ 10 ∷ []
unfolding row_line digits
no_probe = refl

-- an empty folder
no_frame : table_of (High ∷ Low ∷ Sum ∷ []) [] ≡ codes "qc high low sum" ++ 10 ∷ [] ++ codes "frames 0" ++ 10 ∷ []
unfolding table_of digits
no_frame = refl

-- the mean of three and of four thirds, and the pixels of a second box
half_up : rounded_mean 3 2 ≡ 2
half_up = refl

third_down : rounded_mean 4 3 ≡ 1
third_down = refl

second_box : box_pixels 17 34 1 0 ≡ 16 ∷ 33 ∷ []
second_box = refl

partial_box : boxes_of 17 ≡ 2
partial_box = refl

-- a grey of 100 and one of 110 under the square tone
square_of_100 : colour_word (squared 100 ∷ squared 100 ∷ squared 100 ∷ []) ≡ 0x0280_A028
square_of_100 = refl

square_of_110 : colour_word (squared 110 ∷ squared 110 ∷ squared 110 ∷ []) ≡ 0x0300_C030
square_of_110 = refl
