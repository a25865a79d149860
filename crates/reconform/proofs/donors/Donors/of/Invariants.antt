use Rattle.std.proofs.Common.{◌≡◌, ◌≤◌}
use Rattle.reel_writer.specs.Reel.{frames_of}
use Rattle.reconform.specs.inside.Donor.{AreLeast}
use Rattle.reconform.proofs.donors.Donors.of.Given as goal

-- the map has the donors among the frames below j
abbrev pub invariant-loop-j : goal.invariant-loop-j
invariant-loop-j l = record {
  within : l.j ≤ frames_of l.fn.job;
  ending : l.j-end ≡ frames_of l.fn.job;
  least : AreLeast l.fn.job l.fn.view.gates l.j l.donors.by_plan;
}
