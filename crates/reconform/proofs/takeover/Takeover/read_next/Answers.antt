use Rattle.std.proofs.Common.{rules, ◌≡◌, ℕ, ◌+◌, ◌++◌, Bool, true, length, take, drop, refl, sym, ap, ◌∙◌, subst, arith, Option}
use Rattle.std.specs.Prelude.{IfSome, Ok, Err, Some}
use Rattle.std.proofs.lemmas.Bool.{false≢true}
use Rattle.conform_job.specs.Job.{JobData, file_of}
use Rattle.frame_render.specs.Frame.{frame_size}
use Rattle.frame_render.proofs.Filled.{refilled}
use Rattle.reel_disk.specs.Disk.{view_of}
use Rattle.resume_ledger.specs.Sound.{HasSize}
use Rattle.reel_writer.specs.Reads.{WasReadWhole}
use Rattle.reel_writer.specs.Reel.{frames_of}
use Rattle.reconform.proofs.Asking.{asks_as, asks_none}
use Rattle.reconform.proofs.Dressing.{donor_read}
use Rattle.reconform.proofs.Holding.{asked_donor, held_here, held_more, intact_size}
use Rattle.reconform.proofs.takeover.Takeover.read_next.Goals as goal

-- the next frame's donor is as long as a frame
pub returns-in-Ok-true-clause-next : goal.returns-in-Ok-true-clause-next
returns-in-Ok-true-clause-next g c =
    let within = c.in-Some.ensures.within in
    record { later = omega (arith, within.0); within = omega (arith, within.1); more = λ lt. omega (arith, within.0) }

pub returns-in-Ok-true-clause-read : goal.returns-in-Ok-true-clause-read
returns-in-Ok-true-clause-read g c =
    let bytes = c.begin.new.self.bytes in
    let long : length bytes.items ≡ bytes.len = search rules in
    let filled = take bytes.len (c.read_whole.new.into ++ drop (length c.read_whole.new.into) bytes.items) in
    let same : filled ≡ c.read_whole.new.into = refilled bytes.len c.read_whole.new.into bytes.items long (c.read_whole.ensures.room ∙ ap length c.deref_mut.ensures.value ∙ long) in
    let named = c.file_of.ensures ∙ ap (λ (job : JobData). file_of job c.in-Some.j) c.requires.can.old_is in
    record {
      size = search rules;
      within = search rules;
      file = search rules;
      read = subst (λ found. IfSome found (λ j. WasReadWhole (file_of g.O.Work.job j) filled (g.D.Disk.state c.read_whole.new.disk).calls)) (sym c.in-Some.ensures.donor)
          (donor_read (file_of g.O.Work.job c.in-Some.j) c.file_of.result named c.read_whole.new.into filled same _ _ (c.in-Ok-true.ensures.calls c.in-Ok-true.field-0-test));
      begun = search rules;
    }

pub returns-in-Ok-true-clause-held : goal.returns-in-Ok-true-clause-held
returns-in-Ok-true-clause-held g c told =
    let files = view_of (g.D.Disk.state c.args.old.now).history in
    let held = λ (k : ℕ). ◌≡◌ {A = Option ℕ} (Some c.in-Some.i) (Some k) in
    held_more g.N.Work.job g.O.Work.job c.args.self.now.view.now files c.args.from c.in-Some.i c.args.reel.now.ledger.gates held
    (held_here g.N.Work.job g.O.Work.job c.args.self.now.view.now files c.args.self.now.donors.now.by_plan c.args.from c.in-Some.i c.args.reel.now.ledger.gates held c.requires.can.donors c.in-Some.ensures.passed)
    (λ has. refl)

pub returns-in-Ok-true-clause-asks : goal.returns-in-Ok-true-clause-asks
returns-in-Ok-true-clause-asks g c =
    let sized = ap length c.deref_mut.ensures.value ∙ ap (λ v. length v.items) c.begin.ensures.bytes ∙ c.requires.size in
    let named = c.file_of.ensures ∙ ap (λ (job : JobData). file_of job c.in-Some.j) c.requires.can.old_is in
    asked_donor c.in-Some.i c.in-Some.j (Ok true) c.requires.can.donors c.in-Some.ensures.donor c.in-Some.ensures.within.0 (omega arith)
    (asks_as _ (file_of g.O.Work.job c.in-Some.j) _ (frame_size g.N.Work.job) _ (Ok true) _ _ named sized (c.in-Ok-true.is ∙ ap Ok c.in-Ok-true.field-0-test) c.read_whole.ensures.asks)

-- it isn't, so the frame has no intact one
pub returns-in-Ok-false-clause-next : goal.returns-in-Ok-false-clause-next
returns-in-Ok-false-clause-next g c =
    let within = c.in-Some.ensures.within in
    record { later = omega (arith, within.0); within = omega (arith, within.1); more = λ lt. omega (arith, within.0) }

pub returns-in-Ok-false-clause-held : goal.returns-in-Ok-false-clause-held
returns-in-Ok-false-clause-held g c told =
    let files = view_of (g.D.Disk.state c.args.old.now).history in
    let sized = ap length c.deref_mut.ensures.value ∙ ap (λ v. length v.items) c.begin.ensures.bytes ∙ c.requires.size in
    let named = c.file_of.ensures ∙ ap (λ (job : JobData). file_of job c.in-Some.j) c.requires.can.old_is in
    let held = λ (k : ℕ). c.begin.new.self.frame ≡ Some k in
    held_more g.N.Work.job g.O.Work.job c.args.self.now.view.now files c.args.from c.in-Some.i c.args.reel.now.ledger.gates held
    (held_here g.N.Work.job g.O.Work.job c.args.self.now.view.now files c.args.self.now.donors.now.by_plan c.args.from c.in-Some.i c.args.reel.now.ledger.gates held c.requires.can.donors c.in-Some.ensures.passed)
    (λ has. absurd (false≢true (sym c.in-Ok-false.field-0-test ∙ (c.in-Ok-false.ensures.whole told).1
    (subst (λ (n : ℕ). HasSize n (files c.file_of.result)) (sym sized) (subst (λ q. HasSize (frame_size g.N.Work.job) (files q)) (sym named)
    (intact_size g.N.Work.job g.O.Work.job c.args.self.now.view.now files c.args.self.now.donors.now.by_plan c.in-Some.i c.in-Some.j c.requires.can.donors c.in-Some.ensures.donor has))))))

pub returns-in-Ok-false-clause-asks : goal.returns-in-Ok-false-clause-asks
returns-in-Ok-false-clause-asks g c =
    let sized = ap length c.deref_mut.ensures.value ∙ ap (λ v. length v.items) c.begin.ensures.bytes ∙ c.requires.size in
    let named = c.file_of.ensures ∙ ap (λ (job : JobData). file_of job c.in-Some.j) c.requires.can.old_is in
    asked_donor c.in-Some.i c.in-Some.j c.read_whole.result c.requires.can.donors c.in-Some.ensures.donor c.in-Some.ensures.within.0 (omega arith)
    (asks_as _ (file_of g.O.Work.job c.in-Some.j) _ (frame_size g.N.Work.job) _ c.read_whole.result _ _ named sized refl c.read_whole.ensures.asks)

-- the old folder failed
pub returns-in-Err-clause-asks : goal.returns-in-Err-clause-asks
returns-in-Err-clause-asks g c =
    let sized = ap length c.deref_mut.ensures.value ∙ ap (λ v. length v.items) c.begin.ensures.bytes ∙ c.requires.size in
    let named = c.file_of.ensures ∙ ap (λ (job : JobData). file_of job c.in-Some.j) c.requires.can.old_is in
    asked_donor c.in-Some.i c.in-Some.j c.read_whole.result c.requires.can.donors c.in-Some.ensures.donor c.in-Some.ensures.within.0 c.in-Some.ensures.within.1
    (asks_as _ (file_of g.O.Work.job c.in-Some.j) _ (frame_size g.N.Work.job) _ c.read_whole.result _ _ named sized refl c.read_whole.ensures.asks)

-- no frame is left
pub returns-in-None-clause-next : goal.returns-in-None-clause-next
returns-in-None-clause-next g c =
    let end = c.count-end.ensures.count ∙ ap frames_of c.requires.can.new_is in
    let from = c.requires.from in
    record { later = omega (arith, end, from); within = omega (arith, end); more = λ lt. omega (arith, end, lt) }

pub returns-in-None-clause-held : goal.returns-in-None-clause-held
returns-in-None-clause-held g c told =
    let files = view_of (g.D.Disk.state c.args.old.now).history in
    let end = c.count-end.ensures.count ∙ ap frames_of c.requires.can.new_is in
    held_here g.N.Work.job g.O.Work.job c.args.self.now.view.now files c.args.self.now.donors.now.by_plan c.args.from c.count-end.result c.args.reel.now.ledger.gates _ c.requires.can.donors
    (λ k above below. c.in-None.ensures.passed k above (omega (arith, end, below)))

pub returns-in-None-clause-asks : goal.returns-in-None-clause-asks
returns-in-None-clause-asks g c = asks_none
