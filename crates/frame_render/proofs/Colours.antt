-- The colours of a line: black, a side's, and those that a transition makes.
use Rattle.std.proofs.Common.{◌≡◌, ℕ, ◌+◌, ◌*◌, ◌/◌, ◌%◌, ◌^◌, ◌<◌, ◌≤◌, Bool, true, false, List, length, map, slice_index, take, replicate, refl, ap, ◌∙◌, arith}
use Rattle.std.specs.Prelude.{if◌then◌else◌}
use Rattle.std.proofs.lemmas.List.{get_or-take, get_or-replicate, length-take-le, length-replicate}
use Rattle.cf_base.specs.declared.pixel.Rgb.{Rgb}
use Rattle.cf_base.specs.Rgb.{codes_of}
use Rattle.dpx_pack.specs.Pixels.{IsPixelOf, word_codes}
use Rattle.dpx_pack.proofs.Colours.{word_codes-colour_word}
use Rattle.trans_mix.specs.Mix.{mixed_code}
use Rattle.trans_mix.proofs.MixLemmas.{mixed_code-most}
use Rattle.tetra_look.specs.Look.{channels}
use Rattle.conform_job.specs.Job.{JobData}
use Rattle.frame_render.specs.Frame.{black_of}
use Rattle.frame_render.specs.inside.Lines.{HasColours}
use Rattle.band_kernels.specs.Words.{HasChosen, chosen_word, mixed_word}

-- a word's pixel has the word's codes
pub codes_are : (word : ℕ) (p : Rgb) → IsPixelOf word p → word_codes word ≡ codes_of p
codes_are word p is = rw (is.red, is.green, is.blue) refl

-- a dissolve's word has the dissolve's codes
pub mixed_codes : (k d old new : ℕ) → k < d
    → word_codes (mixed_word k d old new) ≡ map (λ c. mixed_code (slice_index (word_codes old) c) (slice_index (word_codes new) c) k d) channels
mixed_codes k d old new frame =
    word_codes-colour_word _ _ _
    (mixed_code-most (old / 2 ^ 12 % 2 ^ 10) (new / 2 ^ 12 % 2 ^ 10) k d (omega arith) (omega arith) frame)
    (mixed_code-most (old / 2 ^ 2 % 2 ^ 10) (new / 2 ^ 2 % 2 ^ 10) k d (omega arith) (omega arith) frame)

-- a chosen word has the codes of the side that is chosen
pub chosen_codes : (shows : Bool) (old new : ℕ) → word_codes (chosen_word shows old new) ≡ (if shows then word_codes new else word_codes old)
chosen_codes true old new = refl
chosen_codes false old new = refl

pub wiped_codes : (shows : (x n : ℕ) → Bool) (w x : ℕ) (old new out : List ℕ) → HasChosen shows w old new out → x < w → length out ≡ w
    → word_codes (slice_index out x) ≡ (if shows x 0 then word_codes (slice_index new x) else word_codes (slice_index old x))
wiped_codes shows w x old new out chosen lt long =
    let place : 0 * w + x ≡ x = omega arith in
    let within : 0 * w + x < length out = omega arith in
    ap word_codes (rw place at (chosen x 0 lt within)) ∙ chosen_codes (shows x 0) (slice_index old x) (slice_index new x)

-- one word of black everywhere
pub black_colours : (job : JobData) (w word : ℕ) (black : Rgb) → IsPixelOf word black → black ≡ job.parts.project.black → w ≡ job.parts.project.width → w ≤ 4096
    → HasColours job (λ x. black_of job) (take w (replicate 4096 word))
black_colours job w word black pixel is wide most = record {
  wide = length-take-le w (replicate 4096 word) (rw length-replicate most) ∙ wide;
  each = λ x lt.
      let in_w : x < w = omega (arith, wide, lt) in
      let in_all : x < 4096 = omega arith in
      ap word_codes (get_or-take w (replicate 4096 word) x 0 in_w ∙ get_or-replicate 4096 x word 0 in_all) ∙ codes_are word black pixel ∙ ap codes_of is;
}
