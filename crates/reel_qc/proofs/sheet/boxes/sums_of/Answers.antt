-- One word more is added, by its own codes.
use Rattle.std.proofs.Common.{◌≡◌, ◌∙◌, ℕ, ◌+◌, ◌<◌, List, length, take, get_or, sym, arith}
use Rattle.std.specs.List.{sum_by}
use Rattle.std.proofs.lemmas.List.Sums.{sum_by_more}
use Rattle.reel_qc.specs.Counts.{blue_of, green_of, red_of}
use Rattle.reel_qc.proofs.sheet.boxes.sums_of.Goals as goal

added : (f : ℕ → ℕ) (words : List ℕ) (i sum code : ℕ) → i < length words → sum ≡ sum_by f (take i words) → code ≡ f (get_or words i 0) → sum + code ≡ sum_by f (take (i + 1) words)
added f words i sum code within before is = (λ t. before t + is t) ∙ sym (sum_by_more f words i 0 within)

pub loop-word-preserved : goal.loop-word-preserved
loop-word-preserved c =
    let words = c.args.words.now in
    let before = c.loop-word.invariant in
    record {
      red = added red_of words c.loop-word.word-index _ _ c.loop-word-test.true before.red c.red_in-red.ensures.red;
      green = added green_of words c.loop-word.word-index _ _ c.loop-word-test.true before.green c.green_in-green.ensures.green;
      blue = added blue_of words c.loop-word.word-index _ _ c.loop-word-test.true before.blue c.blue_in-blue.ensures.blue;
      red_most = omega (arith, before.red_most, c.red_in-red.ensures.code);
      green_most = omega (arith, before.green_most, c.green_in-green.ensures.code);
      blue_most = omega (arith, before.blue_most, c.blue_in-blue.ensures.code);
    }
