use Rattle.std.proofs.Common.{◌≡◌, arith, subst}
use Rattle.reel_writer.specs.Reel.{frames_of}
use Rattle.reconform.specs.inside.Donor.{AreLeast}
use Rattle.reconform.proofs.Donating.{least_first}
use Rattle.reconform.proofs.donors.Donors.of.Goals as goal

pub loop-j-init : goal.loop-j-init
loop-j-init c = record {
  within = omega arith;
  ending = c.count-j-end.ensures.count;
  least = least_first c.args.job.now c.args.view.now.gates c.none-donors.result.by_plan c.none-donors.ensures;
}

pub consider-requires-clause-least : goal.consider-requires-clause-least
consider-requires-clause-least c = c.loop-j.invariant.least

pub loop-j-preserved : goal.loop-j-preserved
loop-j-preserved c = record {
  within = let lt = c.loop-j-test.true in let all = c.loop-j.invariant.ending in omega (arith, lt, all);
  ending = c.loop-j.invariant.ending;
  least = c.in_ok-consider.ensures.least;
}

pub returns : goal.returns
returns c =
    let inv = c.loop-j.invariant in
    let late = c.loop-j-test.false in
    let within = inv.within in
    let ending = inv.ending in
    let all : c.loop-j.j ≡ frames_of c.args.job.now = omega (arith, late, within, ending) in
    record { donors = subst (λ n. AreLeast c.args.job.now c.args.view.now.gates n c.loop-j.donors.by_plan) all inv.least }
