-- From the reply of a run to the headline, and from the causes of all answers to completeness.
use Rattle.std.proofs.Common.{◌≡◌, ◌≢◌, ℕ, true, List, Option, Some, None, IfSome, Ok, refl, sym, ap, subst, ◌∙◌, arith, inl, inr}
use Rattle.std.specs.Prelude.{◌⊎◌}
use Rattle.cf_base.specs.Sink.{SinkState}
use Rattle.cf_base.specs.declared.file.FileId.{FileId}
use Rattle.cf_base.specs.declared.file.FileId.TheVariants.{Seal, Seal2}
use Rattle.cf_base.specs.declared.reel.ReelEntry.{ReelEntry}
use Rattle.scan_source.specs.State.{ScanState}
use Rattle.scan_source.specs.World.{World, file_at}
use Rattle.conform_job.specs.Job.{JobData}
use Rattle.frame_render.specs.Frame.{frame_file, some_lines, words_of_key}
use Rattle.record_timeline.specs.Accepted.{frame_count}
use Rattle.reel_disk.specs.Disk.{Files, Moment, History, IsImage, IsFirm, moment_of, view_of}
use Rattle.reel_disk.proofs.Images.{firm_image, view_is_image}
use Rattle.reel_disk.specs.Runs.{LeavesOnly, Surely, NeverForgets}
use Rattle.resume_ledger.specs.Ledger.{Acks, IsInForce}
use Rattle.resume_ledger.specs.declared.layout.Version.{Version}
use Rattle.resume_ledger.specs.declared.layout.Version.TheVariants.{One, Two}
use Rattle.reel_writer.specs.Reel.{frames_of, HasAcked, IsSoundReel, HasFrameFiles, IsReelRun, KeepsReel}
use Rattle.frame_range.specs.Parts.{range_of}
use Rattle.frame_range.specs.Parts.{IsIn}
use Rattle.frame_range.specs.declared.range.Extent.{Extent}
use Rattle.frame_range.specs.declared.range.Extent.TheVariants.{Whole}
use Rattle.frame_range.specs.declared.range.FrameRange.{FrameRange}
use Rattle.run_alone.specs.Run.{AreAllAcked}
use Rattle.frame_fetch.specs.declared.run_end.RunEnd.{RunEnd}
use Rattle.frame_fetch.specs.declared.run_end.RunEnd.TheVariants as ends
use Rattle.project_job.specs.Jobs.{ComesTo, IsOfJob}
use Rattle.project_job.specs.Laws.{OneJob}
use Rattle.project_adopt.specs.Adopt.{GoesOn, IsAdoptReply, IsOldSound, of_old_project}
use Rattle.reel_disk.specs.State.{FolderState}
use Rattle.project_run.specs.Run.{IsOfRun, IsRunReply, outcome_of_end}
use Rattle.command_words.specs.declared.command.Command.TheVariants as commands
use Rattle.outcome.specs.Status.{status_of}
use Rattle.outcome.specs.declared.Outcome.{Outcome}
use Rattle.outcome.specs.declared.Outcome.TheVariants as outcomes
use Rattle.command_answers.specs.Reply.{IsKindOf}
use Rattle.command_answers.specs.States.{Folders, House}
use Rattle.command_answers.specs.Answer.{IsPut, IsUnread, Answered}
use Rattle.command_answers.specs.Adoption.{AdoptsJob}
use Rattle.command_answers.specs.Folders.{IsEmptyFolder, IsBeginning, left_with}
use Rattle.command_answers.specs.Headline.{RunsJob, KeepsItsPromise, HasEnded}

pub at_world : (told : Option World) (world : World) (P : World → Type 0) → told ≡ Some world → IfSome told P → P world
at_world told world P is holds = subst (λ t. IfSome t P) is holds

-- ---- a job's reel looks at its parts alone

sound_by : (a b : JobData) (world : World) → a.parts ≡ b.parts → ◌≡◌ {A = Files → Type 0} (IsSoundReel a world) (IsSoundReel b world)
unfolding frame_file some_lines words_of_key
sound_by a b world same = ap (λ parts. IsSoundReel (record { parts = parts; infos = b.infos }) world) same

keeps_by : (a b : JobData) (old new : History) → a.parts ≡ b.parts → (HasFrameFiles a (view_of old) → KeepsReel a old new) → HasFrameFiles b (view_of old) → KeepsReel b old new
keeps_by a b old new same = subst (λ parts. HasFrameFiles (record { parts = parts; infos = b.infos }) (view_of old) → KeepsReel (record { parts = parts; infos = b.infos }) old new) same

has_by : (a b : JobData) (world : World) → a.parts ≡ b.parts → ((w : World) (files : Files) → IsSoundReel a w files → HasFrameFiles a files) → (files : Files) → IsSoundReel b world files → HasFrameFiles b files
unfolding frame_file some_lines words_of_key
has_by a b world same has files = subst (λ parts. IsSoundReel (record { parts = parts; infos = b.infos }) world files → HasFrameFiles (record { parts = parts; infos = b.infos }) files) same (has world files)

-- ---- where a run may begin

empty_sound : (job : JobData) (world : World) (moment : Moment) → IsEmptyFolder moment → Surely moment (IsSoundReel job world)
empty_sound job world moment empty files image = record { sound = λ i acks. absurd (unsealed acks.version acks.in_force); fit = λ version in_force. absurd (unsealed version in_force) }
  where
    gone : (id : FileId) → files id ≡ None
    gone id = firm_image moment files id (subst (λ places. IsFirm places id) (sym empty.firm) (λ place loose. absurd loose)) image ∙ empty.none id

    unsealed : (version : Version) → IsInForce version files → ⊥
    unsealed Two in_force = let none = sym (gone Seal2) ∙ in_force in cc
    unsealed One in_force = let none = sym (gone Seal) ∙ in_force.1 in cc

begun_sound : (job : JobData) (world : World) (moment : Moment) → IsBeginning job world moment → Surely moment (IsSoundReel job world)
begun_sound job world moment (inl empty) = empty_sound job world moment empty
begun_sound job world moment (inr sound) = sound

files_ext : (a b : Files) → ((id : FileId) → a id ≡ b id) → a ≡ b
files_ext a b same = λ i id. same id i

-- with nothing loose a crash leaves the view alone
left_alone : (files other : Files) → IsImage (left_with files) other → files ≡ other
left_alone files other image = files_ext files other (λ id. sym (firm_image (left_with files) other id (λ place loose. absurd loose) image))

-- ---- the promise

begins_again : (job : JobData) (world : World) (files : Files) → IsSoundReel job world files → IsBeginning job world (left_with files)
begins_again job world files sound = inr (λ other image. subst (IsSoundReel job world) (left_alone files other image) sound)

-- a run that began and ended with the same history
pub still_promise : (job : JobData) (range : FrameRange) (world : World) (now : History) (Ended : Type 0) → (Ended → ⊥) → KeepsItsPromise job range world now now Ended
still_promise job range world now Ended none = record {
  time = record { later = omega arith; kept = λ m early. refl };
  sound = sound;
  again = λ begun m from to files image. begins_again job world files (sound begun m from to files image);
  kept = λ begun i. still i;
  kept_of_any = λ had i. still i;
  whole = λ ended. absurd (none ended);
}
  where
    still : (i : ℕ) → NeverForgets now now (HasAcked job i)
    still i m later from mid to had = subst (λ k. Surely (now.past k) (HasAcked job i)) (omega (arith, from, mid, to)) had

    sound : IsBeginning job world (moment_of now) → LeavesOnly now now (IsSoundReel job world)
    sound begun m from to = subst (λ k. Surely (now.past k) (IsSoundReel job world)) (omega (arith, from, to)) (begun_sound job world (moment_of now) begun)

-- a run of a job with these parts
pub run_promise : (job ran : JobData) (extent : Extent) (told : Option World) (world : World) (opening now : History) (Ended : Type 0) → told ≡ Some world → ran.parts ≡ job.parts
    → IsReelRun ran told opening now → ((w : World) (files : Files) → IsSoundReel ran w files → HasFrameFiles ran files) → (Ended → AreAllAcked ran (range_of extent (frames_of ran)).low (range_of extent (frames_of ran)).high (moment_of now))
    → KeepsItsPromise job (range_of extent (frames_of job)) world opening now Ended
run_promise job ran extent told world opening now Ended is same run has acked = record {
  time = run.extends;
  sound = sound;
  again = λ begun m from to files image. begins_again job world files (sound begun m from to files image);
  kept = λ begun. kept (has_by ran job world same has (view_of opening) (begun_sound job world (moment_of opening) begun (view_of opening) (view_is_image (moment_of opening))));
  kept_of_any = kept;
  whole = λ ended begun files image. record {
    there = λ i within. ((sound begun now.now run.extends.later (omega arith) files image).sound i (all ended i within files image)).file;
    acked = λ i within. all ended i within files image;
  };
}
  where
    kept : HasFrameFiles job (view_of opening) → KeepsReel job opening now
    kept = keeps_by ran job opening now same run.keeps

    sound : IsBeginning job world (moment_of opening) → LeavesOnly opening now (IsSoundReel job world)
    sound begun = subst (λ P. Surely (moment_of opening) P → LeavesOnly opening now P) (sound_by ran job world same)
        (at_world told world (λ w. Surely (moment_of opening) (IsSoundReel ran w) → LeavesOnly opening now (IsSoundReel ran w)) is run.sound)
        (begun_sound job world (moment_of opening) begun)

    all : Ended → (i : ℕ) → IsIn (range_of extent (frames_of job)) i → Surely (moment_of now) (HasAcked job i)
    all ended = subst (λ parts. (i : ℕ) → IsIn (range_of extent (frame_count parts.timeline.events)) i → Surely (moment_of now) (Acks parts.digest (frame_count parts.timeline.events) i)) same (λ i within. (acked ended).each i within.0 within.1)

-- ---- what was reached where a command has ended

done_status : (outcome : Outcome) → status_of outcome ≡ 0 → outcome ≡ outcomes.Done
done_status outcomes.Done is = refl
done_status outcomes.Usage is = absurd (omega (arith, is))
done_status (outcomes.Refused refusal) is = absurd (omega (arith, is))
done_status (outcomes.OtherJob kept wanted) is = absurd (omega (arith, is))
done_status (outcomes.BadLedger len) is = absurd (omega (arith, is))
done_status (outcomes.OldRefused refusal) is = absurd (omega (arith, is))
done_status (outcomes.OldOtherJob kept wanted) is = absurd (omega (arith, is))
done_status (outcomes.OldBadLedger len) is = absurd (omega (arith, is))
done_status (outcomes.Damaged frame kept found) is = absurd (omega (arith, is))
done_status (outcomes.Changed reel key was now) is = absurd (omega (arith, is))
done_status outcomes.SourceFault is = absurd (omega (arith, is))
done_status outcomes.DiskFault is = absurd (omega (arith, is))
done_status (outcomes.SinkFault instead) is = absurd (omega (arith, is))
done_status outcomes.NoMemory is = absurd (omega (arith, is))

same_instead : (a b : ℕ) → outcomes.SinkFault a ≡ outcomes.SinkFault b → a ≡ b
same_instead a b is = cc

pub reached_done : (sink sink_after : SinkState) (reached : Outcome) (output : List ℕ) (result : Outcome) → IsPut sink sink_after reached output result
    → ((instead : ℕ) → reached ≢ outcomes.SinkFault instead) → HasEnded result → reached ≡ outcomes.Done
reached_done sink sink_after reached output result (inl put) not_the_sink (inl ended) = sym put.0 ∙ ended
reached_done sink sink_after reached output result (inl put) not_the_sink (inr ended) = absurd (not_the_sink 0 (sym put.0 ∙ ended))
reached_done sink sink_after reached output result (inr put) not_the_sink (inl ended) = absurd (let is = sym put.0 ∙ ended in cc)
reached_done sink sink_after reached output result (inr put) not_the_sink (inr ended) = done_status reached (same_instead _ _ (sym put.0 ∙ ended))

end_done : (reels : List ReelEntry) (how : RunEnd) → outcomes.Done ≡ outcome_of_end reels how → how ≡ ends.Done
end_done reels ends.Done is = refl
end_done reels (ends.OtherJob kept wanted) is = absurd (cc)
end_done reels (ends.BadLedger len) is = absurd (cc)
end_done reels (ends.Changed key was now) is = absurd (cc)
end_done reels ends.SourceFault is = absurd (cc)
end_done reels ends.DiskFault is = absurd (cc)
end_done reels ends.NoMemory is = absurd (cc)

pub how_done : (reels : List ReelEntry) (how : RunEnd) (reached : Outcome) → reached ≡ outcomes.Done → (reached ≡ outcome_of_end reels how) ⊎ (reached ≡ outcomes.NoMemory) → how ≡ ends.Done
how_done reels how reached done (inl is) = end_done reels how (sym done ∙ is)
how_done reels how reached done (inr is) = absurd (let no = sym done ∙ is in cc)

pub job_not_done : (reached : Outcome) → IsOfJob reached → reached ≢ outcomes.Done
job_not_done reached kind is = subst IsOfJob is kind

pub of_run_not_sink : (reached : Outcome) → (reached ≡ outcomes.Done) ⊎ IsOfRun reached → (instead : ℕ) → reached ≢ outcomes.SinkFault instead
of_run_not_sink reached (inl done) instead is = let no = sym done ∙ is in cc
of_run_not_sink reached (inr kind) instead is = subst IsOfRun is kind

pub memory_not_done : (sink sink_after : SinkState) (reached : Outcome) (output : List ℕ) (result : Outcome) → IsPut sink sink_after reached output result → reached ≡ outcomes.NoMemory → HasEnded result → ⊥
memory_not_done sink sink_after reached output result put memory ended =
    let done = reached_done sink sink_after reached output result put (λ instead is. let no = sym memory ∙ is in cc) ended in
    let no = sym memory ∙ done in cc

-- ---- one thread

unread_promise : (words : List (List ℕ)) (scan scan_after : ScanState) (folders folders_after : Folders) (sink sink_after : SinkState) (result reached : Outcome) (output : List ℕ) (job : JobData) (range : FrameRange) (world : World)
    → IsPut sink sink_after reached output result → IsUnread outcomes.NoMemory scan scan_after folders folders_after reached output
    → KeepsItsPromise job range world folders.reel.history folders_after.reel.history (HasEnded result)
unread_promise words scan scan_after folders folders_after sink sink_after result reached output job range world put unread =
    subst (λ (after : Folders). KeepsItsPromise job range world folders.reel.history after.reel.history (HasEnded result)) (sym unread.untouched_folders)
    (still_promise job range world folders.reel.history (HasEnded result) (λ ended. memory_not_done sink sink_after reached output result put unread.reached_is ended))

module _ (laws : OneJob) (job : JobData) (world : World) (path : List ℕ) (comes : ComesTo (file_at world) path (Ok job.parts)) where
  reply_promise : {share : ℕ} (extent : Extent) (told : Option World) (disk disk_after : FolderState) (loads loads_after : ℕ) (reached : Outcome) (output : List ℕ) (Ended : Type 0)
      → told ≡ Some world → disk.tells ≡ true → (Ended → reached ≡ outcomes.Done) → IsRunReply path extent share told loads loads_after disk disk_after reached output
      → KeepsItsPromise job (range_of extent (frames_of job)) world disk.history disk_after.history Ended
  reply_promise extent told disk disk_after loads loads_after reached output Ended is tells done (inl has) =
      run_promise job has.job extent told world disk.history disk_after.history Ended is
      (laws.one (file_at world) path has.job.parts job.parts (at_world told world (λ w. ComesTo (file_at w) path (Ok has.job.parts)) is has.comes.told) comes)
      (has.ran.keeps.run tells) has.ran.keeps.sound_has (λ ended. has.ran.keeps.acked (how_done _ _ _ (done ended) has.ran.reply.reached_is) tells)
  reply_promise extent told disk disk_after loads loads_after reached output Ended is tells done (inr none) =
      subst (λ (after : FolderState). KeepsItsPromise job (range_of extent (frames_of job)) world disk.history after.history Ended) (sym none.untouched)
      (still_promise job (range_of extent (frames_of job)) world disk.history Ended (λ ended. job_not_done reached none.kind (done ended)))

-- by the answer of one thread
pub answered_promise : {house : House} (laws : OneJob) (words : List (List ℕ)) (scan scan_after : ScanState) (folders folders_after : Folders) (sink sink_after : SinkState) (result : Outcome)
    → Answered house words scan scan_after folders folders_after sink sink_after result
    → (world : World) (job : JobData) (extent : Extent) → RunsJob words scan.world folders.reel.tells world job extent → KeepsItsPromise job (range_of extent (frames_of job)) world folders.reel.history folders_after.reel.history (HasEnded result)
answered_promise laws words scan scan_after folders folders_after sink sink_after result answered world job extent runs = elim (answered.reply (commands.Run runs.path extent runs.workers runs.share) runs.spells) [
  | inl whole ↦ reply_promise laws job world runs.path runs.comes extent scan.world folders.reel folders_after.reel scan.loads scan_after.loads answered.reached answered.output (HasEnded result) runs.scans_tell runs.disk_tells
      (reached_done sink sink_after answered.reached answered.output result answered.put (λ instead is. subst (IsKindOf (commands.Run runs.path extent runs.workers runs.share)) is whole.reply.kind)) whole.folder
  | inr unread ↦ unread_promise words scan scan_after folders folders_after sink sink_after result answered.reached answered.output job (range_of extent (frames_of job)) world answered.put unread
]

-- ---- an adoption

no_old_job : (found : Outcome) → IsOfJob found → of_old_project found ≢ outcomes.Done
no_old_job (outcomes.Refused refusal) kind is = cc
no_old_job outcomes.SourceFault kind is = cc
no_old_job outcomes.NoMemory kind is = cc
no_old_job outcomes.Done kind is = absurd kind
no_old_job outcomes.Usage kind is = absurd kind
no_old_job (outcomes.OtherJob kept wanted) kind is = absurd kind
no_old_job (outcomes.BadLedger len) kind is = absurd kind
no_old_job (outcomes.OldRefused refusal) kind is = absurd kind
no_old_job (outcomes.OldOtherJob kept wanted) kind is = absurd kind
no_old_job (outcomes.OldBadLedger len) kind is = absurd kind
no_old_job (outcomes.Damaged frame kept found) kind is = absurd kind
no_old_job (outcomes.Changed reel key was now) kind is = absurd kind
no_old_job outcomes.DiskFault kind is = absurd kind
no_old_job (outcomes.SinkFault instead) kind is = absurd kind

module _ (laws : OneJob) (job : JobData) (world : World) (path old_path : List ℕ) (comes : ComesTo (file_at world) path (Ok job.parts)) (told : Option World) (is : told ≡ Some world) where
  -- the old project came to some job, or to none
  onward_promise : (ran : JobData) (old old_after disk disk_after : FolderState) (loads loads_after : ℕ) (reached : Outcome) (output : List ℕ) (Ended : Type 0)
      → ((old_job : JobData) → ComesTo (file_at world) old_path (Ok old_job.parts) → IsOldSound old_job world (view_of old.history))
      → ran.parts ≡ job.parts → disk.tells ≡ true → (Ended → reached ≡ outcomes.Done) → GoesOn ran old_path told loads loads_after old old_after disk disk_after reached output
      → KeepsItsPromise job (range_of Whole (frames_of job)) world disk.history disk_after.history Ended
  onward_promise ran old old_after disk disk_after loads loads_after reached output Ended sound same tells done (inl has) =
      let came = at_world told world (λ w. ComesTo (file_at w) old_path (Ok has.old_job.parts)) is has.came.comes.told in
      let promised = has.sound tells (subst (λ t. IfSome t (λ w. IsOldSound has.old_job w (view_of old.history))) (sym is) (sound has.old_job came)) in
      run_promise job ran Whole told world disk.history disk_after.history Ended is same promised.run has.went.sound_has (λ ended. has.went.acked (done ended) tells)
  onward_promise ran old old_after disk disk_after loads loads_after reached output Ended sound same tells done (inr none) =
      subst (λ (after : FolderState). KeepsItsPromise job (range_of Whole (frames_of job)) world disk.history after.history Ended) (sym none.unplanned.untouched)
      (still_promise job (range_of Whole (frames_of job)) world disk.history Ended (λ ended. no_old_job none.found none.unplanned.kind (sym none.reached_is ∙ done ended)))

  adopt_promise : (old old_after disk disk_after : FolderState) (loads loads_after : ℕ) (reached : Outcome) (output : List ℕ) (Ended : Type 0)
      → ((old_job : JobData) → ComesTo (file_at world) old_path (Ok old_job.parts) → IsOldSound old_job world (view_of old.history))
      → disk.tells ≡ true → (Ended → reached ≡ outcomes.Done) → IsAdoptReply path old_path told loads loads_after old old_after disk disk_after reached output
      → KeepsItsPromise job (range_of Whole (frames_of job)) world disk.history disk_after.history Ended
  adopt_promise old old_after disk disk_after loads loads_after reached output Ended sound tells done (inl has) =
      onward_promise has.job old old_after disk disk_after has.planned loads_after reached output Ended sound
      (laws.one (file_at world) path has.job.parts job.parts (at_world told world (λ w. ComesTo (file_at w) path (Ok has.job.parts)) is has.came.comes.told) comes) tells done has.went
  adopt_promise old old_after disk disk_after loads loads_after reached output Ended sound tells done (inr none) =
      subst (λ (after : FolderState). KeepsItsPromise job (range_of Whole (frames_of job)) world disk.history after.history Ended) (sym none.unplanned.untouched)
      (still_promise job (range_of Whole (frames_of job)) world disk.history Ended (λ ended. job_not_done reached none.unplanned.kind (done ended)))

pub answered_adoption : {house : House} (laws : OneJob) (words : List (List ℕ)) (scan scan_after : ScanState) (folders folders_after : Folders) (sink sink_after : SinkState) (result : Outcome)
    → Answered house words scan scan_after folders folders_after sink sink_after result
    → (world : World) (job : JobData) → AdoptsJob words scan.world folders.reel.tells world (view_of folders.old.history) job → KeepsItsPromise job (range_of Whole (frames_of job)) world folders.reel.history folders_after.reel.history (HasEnded result)
answered_adoption laws words scan scan_after folders folders_after sink sink_after result answered world job adopts = elim (answered.reply (commands.Adopt adopts.path adopts.old_path) adopts.spells) [
  | inl whole ↦ adopt_promise laws job world adopts.path adopts.old_path adopts.comes scan.world adopts.scans_tell folders.old folders_after.old folders.reel folders_after.reel scan.loads scan_after.loads answered.reached answered.output (HasEnded result) adopts.old_sound adopts.disk_tells
      (reached_done sink sink_after answered.reached answered.output result answered.put (λ instead is. subst (IsKindOf (commands.Adopt adopts.path adopts.old_path)) is whole.reply.kind)) whole.folder
  | inr unread ↦ unread_promise words scan scan_after folders folders_after sink sink_after result answered.reached answered.output job (range_of Whole (frames_of job)) world answered.put unread
]
