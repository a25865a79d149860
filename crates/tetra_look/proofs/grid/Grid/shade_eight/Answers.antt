-- Each turn finds the sums of one way, and then writes one word.
use Rattle.std.proofs.Common.{◌≡◌, ℕ, ◌<◌, List, [], get_or, length, length-set, map, ap, ◌∙◌, sym, subst, arith}
use Rattle.dpx_pack.specs.Pixels.{colour_word, word_codes}
use Rattle.tetra_look.specs.Look.{cube_code, channels}
use Rattle.tetra_look.specs.inside.Look.{IsLattice}
use Rattle.tetra_look.specs.inside.Grid.{green_step, blue_step}
use Rattle.tetra_look.specs.inside.Ways.{IsWay}
use Rattle.tetra_look.specs.inside.Lanes.{start_of}
use Rattle.tetra_look.specs.inside.Sums.{IsSummed, row_codes}
use Rattle.tetra_look.specs.inside.Words.{cube_word}
use Rattle.tetra_look.proofs.Mapped.{mapped_none, mapped_more}
use Rattle.tetra_look.proofs.Sets.{set_row}
use Rattle.tetra_look.proofs.FoundWays.{colour_is, first_within, second_within, third_within}
use Rattle.tetra_look.proofs.grid.Grid.shade_eight.Goals as goal

pub way_sums-requires : goal.way_sums-requires
way_sums-requires c =
    let l = c.args.self.now in
    let k : ℕ = c.loop-k.k in
    let colour : List ℕ = word_codes (get_or c.args.words.now k 0) in
    let gs_is : c.self.inside.green_step ≡ green_step l = c.self.invariant.green_is ∙ ap green_step c.self.view_is in
    let bs_is : c.self.inside.blue_step ≡ blue_step l = c.self.invariant.blue_is ∙ ap blue_step c.self.view_is in
    let h : IsLattice l = subst IsLattice c.self.view_is c.self.invariant.lattice in
    let s = c.find_starts.ensures.each k c.loop-k-test.true in
    let start = start_of c.find_starts.new.starts k in
    let w = subst (IsWay c.self.inside.green_step c.self.inside.blue_step start.r start.g start.b) (sym c.way.ensures) (c.find.ensures k c.loop-k-test.true) in
    let first = first_within l colour c.requires.three _ _ gs_is bs_is _ s _ w h in
    record {
      first = first.0;
      second = second_within l colour c.requires.three _ _ gs_is bs_is _ s _ w h;
      third = third_within l colour c.requires.three _ _ gs_is bs_is _ s _ w h;
      count = first.1;
      whole = w.whole;
    }

pub loop-k-preserved : goal.loop-k-preserved
loop-k-preserved c =
    let l = c.args.self.now in
    let k : ℕ = c.loop-k.k in
    let v = c.loop-k.invariant in
    let colour : List ℕ = word_codes (get_or c.args.words.now k 0) in
    let gs_is : c.self.inside.green_step ≡ green_step l = c.self.invariant.green_is ∙ ap green_step c.self.view_is in
    let bs_is : c.self.inside.blue_step ≡ blue_step l = c.self.invariant.blue_is ∙ ap blue_step c.self.view_is in
    let s = c.find_starts.ensures.each k c.loop-k-test.true in
    let start = start_of c.find_starts.new.starts k in
    let w = subst (IsWay c.self.inside.green_step c.self.inside.blue_step start.r start.g start.b) (sym c.way.ensures) (c.find.ensures k c.loop-k-test.true) in
    let codes : row_codes c.way_sums.result ≡ map (cube_code l colour) channels = c.way_sums.ensures.codes ∙ colour_is l colour c.requires.three _ _ gs_is bs_is _ s _ w in
    let one : IsSummed l (get_or c.args.words.now k 0) c.way_sums.result =
    record { codes = codes; red = c.way_sums.ensures.red; green = c.way_sums.ensures.green; blue = c.way_sums.ensures.blue } in
    record {
      rows = length-set c.loop-k.sums k _ ∙ v.rows;
      each = set_row (λ j row. IsSummed l (get_or c.args.words.now j 0) row) k c.loop-k.sums _ (omega (arith, v.rows, c.loop-k-test.true)) v.each one;
    }

pub loop-i-init : goal.loop-i-init
loop-i-init c = mapped_none (cube_word c.args.self.now) c.args.words.now

pub loop-i-preserved : goal.loop-i-preserved
loop-i-preserved c =
    let l = c.args.self.now in
    let i : ℕ = c.loop-i.i in
    let s = c.loop-k.invariant.each i (omega (arith, c.loop-k-test.false, c.loop-i-test.true)) in
    let within : i < length c.loop-i.words = omega (arith, c.loop-i.auto.words, c.requires.count, c.loop-i-test.true) in
    mapped_more (cube_word l) i c.word_of.result c.args.words.now c.loop-i.words c.loop-i.invariant within (c.word_of.ensures.word ∙ ap colour_word (c.colour_of.ensures ∙ s.codes))

pub returns : goal.returns
returns c = λ i lt. c.loop-i.invariant.done i (omega (arith, lt, c.loop-i-test.false, c.loop-i.auto.words, c.requires.count))
