-- What a plan finds of its parts, where it refuses nothing.
use Rattle.std.specs.Prelude.{◌≡◌, [], Option, None}
use Rattle.scan_source.specs.World.{World}
use Rattle.conform_job.specs.Answers.{Grows}
use Rattle.conform_job.specs.Asks.{asks_of}
use Rattle.conform_job.specs.Cuts.{bad_cut, cut_numbers}
use Rattle.conform_job.specs.inside.Lines.{places_of}
use Rattle.conform_job.specs.Refusals.{unknown_of}
use Rattle.conform_job.specs.declared.job.Found.{Found}
use Rattle.conform_job.specs.declared.parts.JobParts.{JobParts}

pub record IsFound (p : JobParts) (told : Option World) (found : Found) : Type 0 where
  pub cut : bad_cut p ≡ None
  pub known : unknown_of p.reels p.timeline.events ≡ None
  pub cuts : found.cuts.items ≡ cut_numbers p
  pub places : found.places.items ≡ places_of p.reels p.timeline.events
  pub grows : Grows p told (asks_of p.timeline) [] found.infos
