-- A frame has a pixel at least.
use Rattle.std.proofs.Common.{◌≤◌, arith}
use Rattle.std.proofs.Math.Nat.{mul-le-mul}
use Rattle.reel_qc.proofs.words.pixels_of.Goals as goal

pub returns-clause-some : goal.returns-clause-some
returns-clause-some c =
    let planned = c.recall.ensures.job.planned in
    let wide : 1 ≤ c.width.result = omega (arith, planned.some_width) in
    let high : 1 ≤ c.height.result = omega (arith, planned.some_height) in
    omega (arith, mul-le-mul wide high)
