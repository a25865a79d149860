-- What is made of a file that was looked at is what the definition has.
use Rattle.std.proofs.Common.{◌≡◌, ℕ, Bool, true, false, cond, ◌&&◌, ◌==◌, List, refl, Option, Result}
use Rattle.std.specs.Prelude.{Some, None, Ok, Err, IfSome, IfOk, IfErr}
use Rattle.cf_base.specs.declared.key.Key.{Key}
use Rattle.dpx_header.specs.declared.info.FrameInfo.{FrameInfo}
use Rattle.scan_source.specs.World.{World, file_at}
use Rattle.source_reels.specs.Seen.{IsSeen, IsSeenFrame}
use Rattle.source_reels.specs.declared.seen.Seen.{Seen}
use Rattle.source_reels.specs.declared.seen.Seen.TheVariants as seen
use Rattle.conform_job.specs.declared.frames.Named.{Named}
use Rattle.conform_job.specs.declared.parts.JobParts.{JobParts}
use Rattle.conform_job.specs.declared.parts.JobFault.{JobFault}
use Rattle.conform_job.specs.declared.parts.JobFault.TheVariants as fault
use Rattle.conform_job.specs.Answers.{IsStep, IsInfoOf, IsOfFrame}
use Rattle.conform_job.specs.inside.Answers.{IsJudged, unless}
use Rattle.conform_job.specs.Refusals.{file_refusal, file_of_key}

fault_apart : (a b : JobFault) → ◌≡◌ {A = Result FrameInfo JobFault} (Err a) (Err b) → a ≡ b
fault_apart a b e = cc

module _ (n : Named) (width height : ℕ) where
  step_unless : (b : Bool) (info : FrameInfo) (result : Result FrameInfo JobFault) → result ≡ unless info (cond b None (Some (fault.Geometry n.line n.reel n.source)))
      → IsStep result (cond b None (Some (fault.Geometry n.line n.reel n.source)))
  step_unless true info result e = rw e refl
  step_unless false info result e = rw e refl

  not_failed : (b : Bool) (info : FrameInfo) (result : Result FrameInfo JobFault) → result ≡ unless info (cond b None (Some (fault.Geometry n.line n.reel n.source)))
      → result ≡ Err fault.SourceFault → ⊥
  not_failed true info result e h = cc
  not_failed false info result e h = cc

  pub judged_told : (s : Seen) (result : Result FrameInfo JobFault) (file : Option (List ℕ)) → IsJudged n width height s result → IsSeen s file → IsStep result (file_refusal n width height file)
  judged_told (seen.Info info) result None j h = absurd h
  judged_told (seen.Info info) result (Some bytes) j h = rw h (step_unless (info.width == width && info.height == height) info result j.0)
  judged_told (seen.Bad bad) result None j h = absurd h
  judged_told (seen.Bad bad) result (Some bytes) j h = rw (j, h) refl
  judged_told seen.Absent result file j h = rw (j, h) refl
  judged_told seen.Fault result file j h = rw j tt

  named_unless : (b : Bool) (info : FrameInfo) (result : Result FrameInfo JobFault) → result ≡ unless info (cond b None (Some (fault.Geometry n.line n.reel n.source)))
      → IfErr result (IsOfFrame (Some n))
  named_unless true info result e = rw e tt
  named_unless false info result e = rw e refl

  -- each refusal names the frame
  pub judged_named : (s : Seen) (result : Result FrameInfo JobFault) → IsJudged n width height s result → IfErr result (IsOfFrame (Some n))
  judged_named (seen.Info info) result j = named_unless (info.width == width && info.height == height) info result j.0
  judged_named (seen.Bad bad) result j = rw j refl
  judged_named seen.Absent result j = rw j refl
  judged_named seen.Fault result j = rw j tt

  -- the end is a fault of the scan just where the file was not seen for one
  pub judged_failed : (s : Seen) (result : Result FrameInfo JobFault) → IsJudged n width height s result → result ≡ Err fault.SourceFault → s ≡ seen.Fault
  judged_failed (seen.Info info) result j e = absurd (not_failed (info.width == width && info.height == height) info result j.0 e)
  judged_failed (seen.Bad bad) result j e = absurd (cc)
  judged_failed seen.Absent result j e = absurd (cc)
  judged_failed seen.Fault result j e = refl

  pub failed_judged : (s : Seen) (result : Result FrameInfo JobFault) → IsJudged n width height s result → s ≡ seen.Fault → result ≡ Err fault.SourceFault
  failed_judged (seen.Info info) result j e = absurd (cc)
  failed_judged (seen.Bad bad) result j e = absurd (cc)
  failed_judged seen.Absent result j e = absurd (cc)
  failed_judged seen.Fault result j e = j

module _ (p : JobParts) (told : Option World) (key : Key) (n : Named) where
  kept_info : (info : FrameInfo) (result : Result FrameInfo JobFault) → IfSome told (λ world. IsSeen (seen.Info info) (file_of_key p.reels (file_at world) key)) → IsSeenFrame (seen.Info info)
      → IsJudged n p.project.width p.project.height (seen.Info info) result → IfOk result (IsInfoOf p told key)
  kept_info info (Err why) h frame j = tt
  kept_info info (Ok kept) h frame j = rw j.1.0 (record { frame = frame; width = j.1.1; height = j.1.2; file = h })

  pub judged_info : (s : Seen) (result : Result FrameInfo JobFault) → IfSome told (λ world. IsSeen s (file_of_key p.reels (file_at world) key)) → IsSeenFrame s
      → IsJudged n p.project.width p.project.height s result → IfOk result (IsInfoOf p told key)
  judged_info (seen.Info info) result h frame j = kept_info info result h frame j
  judged_info (seen.Bad bad) result h frame j = rw j tt
  judged_info seen.Absent result h frame j = rw j tt
  judged_info seen.Fault result h frame j = rw j tt
