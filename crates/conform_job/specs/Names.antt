-- The name of a job.
-- * name of a job: the job of a run, and the files of its scans where they are told: what the type of a value names that stands
--   behind a lock
--     no_job      what a name means that nothing was picked for
--     Tells told here      a scan that is handed in tells the files of the name, where these are told
use Rattle.std.specs.Prelude.{◌≡◌, [], Option, Some, None, IfSome}
use Rattle.cf_base.specs.declared.timing.Rate.TheVariants.{R24}
use Rattle.cf_base.specs.declared.timing.Mode.TheVariants.{NonDrop}
use Rattle.std.proofs.Common.{lit≤}
use Rattle.scan_source.specs.World.{World}
use Rattle.conform_job.specs.Job.{JobData}

abbrev pub no_job : JobData
no_job = record {
  parts = record {
    digest = [];
    project = record {
      title = [];
      rate = R24;
      width = 0;
      height = 0;
      black = record { r = 0; g = 0; b = 0; r_in_range = lit≤ tt; g_in_range = lit≤ tt; b_in_range = lit≤ tt };
      bands = 0;
      edl = [];
      cube = None;
      reels = [];
      cuts = [];
    };
    reels = [];
    timeline = record { rate = R24; mode = NonDrop; events = [] };
    look = None;
  };
  infos = [];
}

abbrev pub Tells : Option World → Option World → Type 0
Tells told here = IfSome told (λ world. here ≡ Some world)
