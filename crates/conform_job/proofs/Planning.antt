-- The first refusal of a job: that of its cuts, or else of its lines, or else of its frames.
use Rattle.std.proofs.Common.{◌≡◌, ◌≢◌, refl, ap, Option, Result}
use Rattle.std.specs.Prelude.{Some, None, Ok, Err, IfSome}
use Rattle.scan_source.specs.World.{World, file_at}
use Rattle.source_reels.proofs.Heads.{told_more}
use Rattle.conform_job.specs.declared.frames.Named.{Named}
use Rattle.conform_job.specs.declared.parts.JobParts.{JobParts}
use Rattle.conform_job.specs.declared.parts.JobFault.{JobFault}
use Rattle.conform_job.specs.declared.parts.JobFault.TheVariants as fault
use Rattle.conform_job.specs.Answers.{IsRefusal, IsOfFrame}
use Rattle.conform_job.specs.Asks.{asks_of}
use Rattle.conform_job.specs.Job.{IsByLines}
use Rattle.conform_job.specs.Cuts.{bad_cut}
use Rattle.conform_job.specs.inside.Lines.{IsCutUnless, IsPlacedUnless}
use Rattle.conform_job.specs.Refusals.{Files, first_refusal, told_refusal, unknown_of, asks_refusal}

-- an error is the same in a result of another type, and no value
pub err_as : {A B E : Type 0} (e f : E) → ◌≡◌ {A = Result A E} (Err e) (Err f) → ◌≡◌ {A = Result B E} (Err e) (Err f)
err_as e f is = let same : e ≡ f = cc in ap Err same

pub no_err : {A E : Type 0} (a : A) (e : E) → ◌≢◌ {A = Result A E} (Ok a) (Err e)
no_err a e is = cc

module _ (p : JobParts) where
  -- where a cut is refused
  cut_first : (files : Files) (why : JobFault) → IsCutUnless (bad_cut p) why → IsRefusal why (first_refusal p files)
  cut_first files fault.NoMemory is = tt
  cut_first files (fault.BadCut cut) is = rw is refl
  cut_first files (fault.UnknownReel line) is = absurd is
  cut_first files fault.SourceFault is = absurd is
  cut_first files (fault.MissingFrame line reel source) is = absurd is
  cut_first files (fault.BadFrame line reel source bad) is = absurd is
  cut_first files (fault.Geometry line reel source) is = absurd is

  pub cut_told : (told : Option World) (why : JobFault) → IsCutUnless (bad_cut p) why → IfSome told (λ world. IsRefusal why (first_refusal p (file_at world)))
  cut_told None why is = tt
  cut_told (Some world) why is = cut_first (file_at world) why is

  pub cut_lines : (why : JobFault) → IsCutUnless (bad_cut p) why → IsByLines why (told_refusal p)
  cut_lines fault.NoMemory is = tt
  cut_lines (fault.BadCut cut) is = rw is refl
  cut_lines (fault.UnknownReel line) is = absurd is
  cut_lines fault.SourceFault is = absurd is
  cut_lines (fault.MissingFrame line reel source) is = absurd is
  cut_lines (fault.BadFrame line reel source bad) is = absurd is
  cut_lines (fault.Geometry line reel source) is = absurd is

  pub cut_steady : {A : Type 0} (why : JobFault) → IsCutUnless (bad_cut p) why → ◌≢◌ {A = Result A JobFault} (Err why) (Err fault.SourceFault)
  cut_steady fault.NoMemory is e = cc
  cut_steady (fault.BadCut cut) is e = cc
  cut_steady (fault.UnknownReel line) is e = absurd is
  cut_steady fault.SourceFault is e = absurd is
  cut_steady (fault.MissingFrame line reel source) is e = absurd is
  cut_steady (fault.BadFrame line reel source bad) is e = absurd is
  cut_steady (fault.Geometry line reel source) is e = absurd is

  -- where no cut is, and a line is
  placed_first : (files : Files) (why : JobFault) → bad_cut p ≡ None → IsPlacedUnless p.reels p.timeline.events why → IsRefusal why (first_refusal p files)
  placed_first files fault.NoMemory good is = tt
  placed_first files (fault.BadCut cut) good is = absurd is
  placed_first files (fault.UnknownReel line) good is = rw (good, is) refl
  placed_first files fault.SourceFault good is = absurd is
  placed_first files (fault.MissingFrame line reel source) good is = absurd is
  placed_first files (fault.BadFrame line reel source bad) good is = absurd is
  placed_first files (fault.Geometry line reel source) good is = absurd is

  pub placed_told : (told : Option World) (why : JobFault) → bad_cut p ≡ None → IsPlacedUnless p.reels p.timeline.events why → IfSome told (λ world. IsRefusal why (first_refusal p (file_at world)))
  placed_told None why good is = tt
  placed_told (Some world) why good is = placed_first (file_at world) why good is

  pub placed_lines : (why : JobFault) → bad_cut p ≡ None → IsPlacedUnless p.reels p.timeline.events why → IsByLines why (told_refusal p)
  placed_lines fault.NoMemory good is = tt
  placed_lines (fault.BadCut cut) good is = absurd is
  placed_lines (fault.UnknownReel line) good is = rw (good, is) refl
  placed_lines fault.SourceFault good is = absurd is
  placed_lines (fault.MissingFrame line reel source) good is = absurd is
  placed_lines (fault.BadFrame line reel source bad) good is = absurd is
  placed_lines (fault.Geometry line reel source) good is = absurd is

  pub placed_steady : {A : Type 0} (why : JobFault) → IsPlacedUnless p.reels p.timeline.events why → ◌≢◌ {A = Result A JobFault} (Err why) (Err fault.SourceFault)
  placed_steady fault.NoMemory is e = cc
  placed_steady (fault.BadCut cut) is e = absurd is
  placed_steady (fault.UnknownReel line) is e = cc
  placed_steady fault.SourceFault is e = absurd is
  placed_steady (fault.MissingFrame line reel source) is e = absurd is
  placed_steady (fault.BadFrame line reel source bad) is e = absurd is
  placed_steady (fault.Geometry line reel source) is e = absurd is

  pub none_told : bad_cut p ≡ None → unknown_of p.reels p.timeline.events ≡ None → told_refusal p ≡ None
  none_told good known = rw (good, known) refl

  -- where neither is
  module _ (told : Option World) (good : bad_cut p ≡ None) (known : unknown_of p.reels p.timeline.events ≡ None) where
    pub frames_none : IfSome told (λ world. asks_refusal p (file_at world) (asks_of p.timeline) ≡ None) → IfSome told (λ world. first_refusal p (file_at world) ≡ None)
    frames_none h = told_more told _ _ (λ world is. rw (good, known) is) h

    pub frames_told : (why : JobFault) → IfSome told (λ world. IsRefusal why (asks_refusal p (file_at world) (asks_of p.timeline))) → IfSome told (λ world. IsRefusal why (first_refusal p (file_at world)))
    frames_told why h = told_more told _ _ (λ world is. rw (good, known) is) h

    pub frames_lines : (named : Option Named) (why : JobFault) → IsOfFrame named why → IsByLines why (told_refusal p)
    frames_lines named fault.NoMemory is = tt
    frames_lines named (fault.BadCut cut) is = absurd is
    frames_lines named (fault.UnknownReel line) is = absurd is
    frames_lines named fault.SourceFault is = none_told good known
    frames_lines named (fault.MissingFrame line reel source) is = none_told good known
    frames_lines named (fault.BadFrame line reel source bad) is = none_told good known
    frames_lines named (fault.Geometry line reel source) is = none_told good known
