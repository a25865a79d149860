use Rattle.std.proofs.Common.{rules, ◌≡◌, ◌<◌, true, Option, ℕ, List, ◌++◌, drop, length, refl, sym, ap, ◌∙◌, subst}
use Rattle.std.specs.Prelude.{Some, IfSome}
use Rattle.std.proofs.lemmas.Bool.{false≢true}
use Rattle.dpx_header.specs.Writing.{header_of}
use Rattle.conform_job.specs.Job.{file_of}
use Rattle.frame_render.specs.Frame.{IsFileOf, frame_file, out_head}
use Rattle.frame_render.proofs.Filled.{refilled}
use Rattle.scan_source.specs.World.{file_at}
use Rattle.reel_disk.specs.Disk.{view_of}
use Rattle.reel_writer.specs.Reads.{WasReadWhole}
use Rattle.reel_writer.specs.Reel.{frames_of}
use Rattle.reconform.specs.Donor.{HasIntactDonor}
use Rattle.reconform.specs.inside.Donor.{donor_in}
use Rattle.reconform.specs.Plan.{plan_at}
use Rattle.reconform.specs.Taken.{IsTakenOver}
use Rattle.reconform.proofs.Dressing.{dressed_donor, dressed_pixels, dressed_read, fresh_begun, sizes_alike}
use Rattle.reconform.proofs.Holding.{intact_is_kept, some_same}
use Rattle.reconform.proofs.takeover.Takeover.dress.Goals as goal

pub rehead-requires-clause-pixels : goal.rehead-requires-clause-pixels
rehead-requires-clause-pixels g c =
    let files = view_of (g.D.Disk.state c.args._old.now).history in
    let room = c.args.room.now in
    subst (λ (bytes : List ℕ). IfSome g.N.Work.files (λ world. drop 2048 bytes ≡ drop 2048 (frame_file g.N.Work.job (file_at world) c.in-Some.i))) (sym c.deref_mut.ensures.value)
    (subst (λ (bytes : List ℕ). IfSome g.N.Work.files (λ world. drop 2048 bytes ≡ drop 2048 (frame_file g.N.Work.job (file_at world) c.in-Some.i))) (sym (ap (λ v. v.items) c.digest-digest.ensures.bytes))
    (dressed_pixels g.N.Work.job g.O.Work.job g.N.Work.files g.D.Disk.tells files c.args.self.now.view.now c.args.self.now.donors.now.by_plan c.in-Some.i room.bytes.items c.digest-digest.result
    c.requires.can.donors (c.is_kept.ensures.kept.0 c.if-is_kept.true)
    (subst (λ (frame : Option ℕ). IfSome frame (λ i. g.D.Disk.tells ≡ true → IfSome (donor_in c.args.self.now.donors.now.by_plan (plan_at g.N.Work.job i)) (λ j. files (file_of g.O.Work.job j) ≡ Some room.bytes.items))) c.in-Some.is c.requires.read.file)
    c.requires.can.looked))

pub returns-then-is_kept : goal.returns-then-is_kept
returns-then-is_kept g c =
    let files = view_of (g.D.Disk.state c.args._old.now).history in
    let by_plan = c.args.self.now.donors.now.by_plan in
    let room = c.args.room.now in
    let after = c.digest-digest.new.self in
    let read = subst (λ (frame : Option ℕ). IfSome frame (λ i. g.D.Disk.tells ≡ true → IfSome (donor_in by_plan (plan_at g.N.Work.job i)) (λ j. files (file_of g.O.Work.job j) ≡ Some room.bytes.items))) c.in-Some.is c.requires.read.file in
    let at : after.frame ≡ Some c.in-Some.i = c.digest-digest.ensures.frame ∙ c.in-Some.is in
    let long : length after.bytes.items ≡ after.bytes.len = search rules in
    let size : length after.bytes.items ≡ length room.bytes.items = ap (λ v. length v.items) c.digest-digest.ensures.bytes in
    let calls = (g.D.Disk.state c.args._old.now).calls in
    let was = subst (λ (frame : Option ℕ). IfSome frame (λ i. IfSome (donor_in by_plan (plan_at g.N.Work.job i)) (λ j. WasReadWhole (file_of g.O.Work.job j) room.bytes.items calls))) c.in-Some.is c.requires.read.read in
    let taken : IsTakenOver g.N.Work.job g.O.Work.job c.args.self.now.view.now calls (file_of g.N.Work.job c.in-Some.i) c.rehead.new.file = record {
      frame = c.in-Some.i;
      within = subst (λ (frame : Option ℕ). IfSome frame (λ i. i < frames_of g.N.Work.job)) c.in-Some.is c.requires.read.within;
      named = refl;
      file = room.bytes.items;
      read = dressed_read g.N.Work.job g.O.Work.job g.N.Work.files g.D.Disk.tells files c.args.self.now.view.now by_plan c.in-Some.i room.bytes.items c.digest-digest.result
          c.requires.can.donors (c.is_kept.ensures.kept.0 c.if-is_kept.true) read calls was (c.digest-digest.ensures.digest c.requires.read.begun) c.requires.read.size;
      made = c.rehead.ensures.made ∙ ap (λ bytes. header_of (out_head g.N.Work.job c.in-Some.i) ++ drop 2048 bytes) (c.deref_mut.ensures.value ∙ ap (λ v. v.items) c.digest-digest.ensures.bytes);
    } in
    let same = refilled after.bytes.len c.rehead.new.file after.bytes.items long (c.rehead.ensures.size ∙ sym c.requires.read.size ∙ sym size ∙ long) in
    record {
      frame = record {
        holds = record {
          size = ap length same ∙ c.rehead.ensures.size;
          within = subst (λ (frame : Option ℕ). IfSome frame (λ i. i < frames_of g.N.Work.job)) (sym c.digest-digest.ensures.frame) c.requires.read.within;
          donor = subst (λ (frame : Option ℕ). IfSome frame (λ i. g.D.Disk.tells ≡ true → HasIntactDonor g.N.Work.job g.O.Work.job c.args.self.now.view.now files i)) (sym at)
              (dressed_donor g.N.Work.job g.O.Work.job g.N.Work.files g.D.Disk.tells files c.args.self.now.view.now by_plan c.in-Some.i room.bytes.items c.digest-digest.result
              c.requires.can.donors (c.is_kept.ensures.kept.0 c.if-is_kept.true) read (c.digest-digest.ensures.digest c.requires.read.begun) (c.requires.read.size ∙ sizes_alike g.N.Work.job g.O.Work.job c.requires.can.donors.alike));
          taken = subst (λ (made : Option ℕ × List ℕ). IfSome made.0 (λ i. IsTakenOver g.N.Work.job g.O.Work.job c.args.self.now.view.now calls (file_of g.N.Work.job i) made.1)) (λ t. (sym at t, sym same t)) taken;
          file = subst (λ (made : Option ℕ × List ℕ). IfSome made.0 (λ i. IsFileOf g.N.Work.job g.N.Work.files i made.1)) (λ t. (sym at t, sym same t)) c.rehead.ensures.file;
        };
        begun = fresh_begun _ (record { none = c.digest-digest.ensures.fresh.none; holds = c.digest-digest.ensures.fresh.holds });
      };
      stays = λ told k has was. c.digest-digest.ensures.frame ∙ was;
    }

-- the digest isn't the one that is kept, so the donor isn't intact
pub returns-else-is_kept : goal.returns-else-is_kept
returns-else-is_kept g c =
    let files = view_of (g.D.Disk.state c.args._old.now).history in
    let by_plan = c.args.self.now.donors.now.by_plan in
    let room = c.args.room.now in
    record {
      frame = search rules;
      stays = λ told k has was.
          let same : k ≡ c.in-Some.i = some_same k c.in-Some.i room.frame was c.in-Some.is in
          let read = subst (λ (frame : Option ℕ). IfSome frame (λ i. g.D.Disk.tells ≡ true → IfSome (donor_in by_plan (plan_at g.N.Work.job i)) (λ j. files (file_of g.O.Work.job j) ≡ Some room.bytes.items))) c.in-Some.is c.requires.read.file in
          let kept = intact_is_kept g.N.Work.job g.O.Work.job c.args.self.now.view.now files by_plan c.in-Some.i room.bytes.items c.digest-digest.result c.requires.can.donors (read told)
          (c.digest-digest.ensures.digest c.requires.read.begun) (subst (HasIntactDonor g.N.Work.job g.O.Work.job c.args.self.now.view.now files) same has) in
          absurd (false≢true (sym c.if-is_kept.false ∙ c.is_kept.ensures.kept.1 kept));
    }
