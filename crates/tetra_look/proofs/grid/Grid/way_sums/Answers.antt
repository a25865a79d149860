-- Each channel's sum is that of the way.
use Rattle.std.proofs.Common.{◌≡◌, ℕ, ◌+◌, ◌<◌, refl, ap, ◌∙◌, arith}
use Rattle.tetra_look.specs.Look.{value_at, code_of_sum, way_code}
use Rattle.tetra_look.specs.inside.Grid.{green_step, blue_step}
use Rattle.tetra_look.specs.inside.Ways.{way_entries, way_parts}
use Rattle.tetra_look.proofs.SumLemmas.{sum_is}
use Rattle.tetra_look.proofs.grid.Grid.way_sums.Goals as goal

pub returns-clause-codes : goal.returns-clause-codes
returns-clause-codes c =
    let l = c.args.self.now in
    let w = c.args.way in
    let gs_is : c.self.inside.green_step ≡ green_step l = c.self.invariant.green_is ∙ ap green_step c.self.view_is in
    let bs_is : c.self.inside.blue_step ≡ blue_step l = c.self.invariant.blue_is ∙ ap blue_step c.self.view_is in
    let end : 1 + c.self.inside.green_step + c.self.inside.blue_step ≡ 1 + green_step l + blue_step l = omega (arith, gs_is, bs_is) in
    let at : (n : ℕ) → value_at l (c.args.place + (1 + c.self.inside.green_step + c.self.inside.blue_step)) n ≡ value_at l (c.args.place + (1 + green_step l + blue_step l)) n
    = λ n. ap (λ (k : ℕ). value_at l (c.args.place + k) n) end in
    let red : code_of_sum c.weigh.result ≡ way_code l (way_entries (green_step l) (blue_step l) c.args.place w) (way_parts w) 0 =
    sum_is _ _ _ _ _ _ _ _ w.at_start w.at_first w.at_second w.at_end c.weigh.result c.requires.whole c.weigh.ensures.sum
    (c.entry-a.ensures.values 0 (omega arith)) (c.entry-b.ensures.values 0 (omega arith)) (c.entry-c.ensures.values 0 (omega arith)) (c.entry-d.ensures.values 0 (omega arith) ∙ at 0) in
    let green : code_of_sum c.weigh-2.result ≡ way_code l (way_entries (green_step l) (blue_step l) c.args.place w) (way_parts w) 1 =
    sum_is _ _ _ _ _ _ _ _ w.at_start w.at_first w.at_second w.at_end c.weigh-2.result c.requires.whole c.weigh-2.ensures.sum
    (c.entry-a.ensures.values 1 (omega arith)) (c.entry-b.ensures.values 1 (omega arith)) (c.entry-c.ensures.values 1 (omega arith)) (c.entry-d.ensures.values 1 (omega arith) ∙ at 1) in
    let blue : code_of_sum c.weigh-3.result ≡ way_code l (way_entries (green_step l) (blue_step l) c.args.place w) (way_parts w) 2 =
    sum_is _ _ _ _ _ _ _ _ w.at_start w.at_first w.at_second w.at_end c.weigh-3.result c.requires.whole c.weigh-3.ensures.sum
    (c.entry-a.ensures.values 2 (omega arith)) (c.entry-b.ensures.values 2 (omega arith)) (c.entry-c.ensures.values 2 (omega arith)) (c.entry-d.ensures.values 2 (omega arith) ∙ at 2) in
    rw (red, green, blue) refl
