use Rattle.std.proofs.Common.{rules, ◌≡◌, ◌≢◌, ◌∙◌, ◌+◌, ◌<◌, ℕ, Bool, true, false, List, [], ◌∷◌, ◌++◌, length, get_or, set, ap, sym, subst, arith}
use Rattle.std.specs.Prelude.{Some, Result, Ok, Err, count_by}
use Rattle.std.proofs.lemmas.List.{length-set}
use Rattle.cf_base.specs.declared.file.FileId.{FileId}
use Rattle.conform_job.specs.Job.{file_of}
use Rattle.frame_render.specs.Frame.{FrameBytes, IsFileOf}
use Rattle.reel_disk.specs.Call.{Call, OnlyWrites}
use Rattle.reel_disk.specs.Runs.{Spares}
use Rattle.resume_ledger.specs.Sound.{AddsAtMost}
use Rattle.reel_disk.specs.Disk.{moment_of}
use Rattle.reel_disk.proofs.Images.{view_is_image}
use Rattle.resume_ledger.specs.Ledger.{LedgerState, Agrees}
use Rattle.reel_writer.specs.Calls.{Finishes}
use Rattle.reel_writer.specs.View.{ReelView, after_fault}
use Rattle.reel_writer.specs.Reel.{frames_of, IsReelRun, IsSafeFinish, KeepsReel, IsWrittenFile}
use Rattle.reel_writer.specs.inside.Reel.{IsFinishing}
use Rattle.reel_writer.proofs.Keeping.{acked_more, once_more, kept_more, has_room, disk_along, gates_same}
use Rattle.reel_writer.proofs.ReelLaws.{finishing_of, finished_run, acked_of}
use Rattle.reel_writer.proofs.reel.Reel.finish.Goals as goal
use Rattle.reel_writer.proofs.reel.Reel.finish.Goals.{After-bytes}
use Rattle.reel_writer.proofs.reel.Reel.finish.Given as given

-- the frame's number and its file
index_is : (g : given.Over) (c : After-bytes g) → c.index-i.result ≡ c.args.frame.now.index
index_is g c = c.index-i.ensures.index ∙ ap (λ (f : FrameBytes). f.index) c.frame-frame.ensures

file_is : (g : given.Over) (c : After-bytes g) → c.file.result ≡ file_of g.N.Work.job c.args.frame.now.index
file_is g c = c.file.ensures.own ∙ ap (λ (f : FrameBytes). file_of g.N.Work.job f.index) c.frame-frame.ensures

-- what the calls leave that were made, whether the disk failed or not
module _ (g : given.Over) (c : After-bytes g) (after : g.row.D.Denot)
    (left : IsFinishing c.self.inside.ledger.digest (length c.self.inside.ledger.gates) c.index-i.result c.file.result c.bytes.result.now (g.D.Disk.state c.self.inside.disk).history (g.D.Disk.state after).history) where
  finishing : IsFinishing g.N.Work.job.parts.digest (frames_of g.N.Work.job) c.args.frame.now.index (file_of g.N.Work.job c.args.frame.now.index) c.bytes.result.now (g.D.Disk.state c.self.inside.disk).history (g.D.Disk.state after).history
  finishing =
      finishing_of g.N.Work.job c.self.inside.ledger.digest (length c.self.inside.ledger.gates) c.index-i.result c.args.frame.now.index c.file.result c.bytes.result.now (g.D.Disk.state c.self.inside.disk).history (g.D.Disk.state after).history
      c.self.invariant.0.digest c.self.invariant.0.size (index_is g c) (file_is g c) left

  ran : IsReelRun g.N.Work.job g.N.Work.files (g.D.Disk.state c.args.self.now.disk).history (g.D.Disk.state after).history
  ran =
      disk_along _ _ c.self.view_is (λ d. IsReelRun g.N.Work.job g.N.Work.files (g.D.Disk.state d).history (g.D.Disk.state after).history)
      (finished_run g.N.Work.job g.N.Work.files (g.D.Disk.state c.self.inside.disk).history (g.D.Disk.state after).history c.args.frame.now.index c.bytes.result.now
      (subst (λ n. IsFileOf g.N.Work.job g.N.Work.files n c.bytes.result.now) (ap (λ (f : FrameBytes). f.index) c.frame-frame.ensures) c.bytes.ensures.defined) finishing)

  safe : IsSafeFinish g.N.Work.job g.N.Work.files c.args.frame.now.index (g.D.Disk.state c.args.self.now.disk).history (g.D.Disk.state after).history
  safe = record {
    run = ran;
    none_lost = disk_along _ _ c.self.view_is (λ d. KeepsReel g.N.Work.job (g.D.Disk.state d).history (g.D.Disk.state after).history) finishing.keeps;
    others = disk_along _ _ c.self.view_is (λ d. AddsAtMost c.args.frame.now.index g.N.Work.job.parts.digest (frames_of g.N.Work.job) (g.D.Disk.state d).history (g.D.Disk.state after).history) finishing.others;
    spares = disk_along _ _ c.self.view_is (λ d. Spares (g.D.Disk.state d).history (g.D.Disk.state after).history (IsWrittenFile (file_of g.N.Work.job c.args.frame.now.index))) finishing.spares;
  }

-- the calls that were made
called : (g : given.Over) (c : After-bytes g) {A B : Type 0} (result : Result A B) (after : List Call) → c.bytes.result.now ≡ c.args.frame.now.bytes
    → Finishes c.index-i.result c.file.result c.bytes.result.now result (g.D.Disk.state c.self.inside.disk).calls after
    → Finishes c.args.frame.now.index (file_of g.N.Work.job c.args.frame.now.index) c.args.frame.now.bytes result (g.D.Disk.state c.args.self.now.disk).calls after
called g c result after bytes made =
    let before = (g.D.Disk.state c.self.inside.disk).calls in
    let all = c.args.frame.now.bytes in
    disk_along _ _ c.self.view_is (λ d. Finishes c.args.frame.now.index (file_of g.N.Work.job c.args.frame.now.index) all result (g.D.Disk.state d).calls after)
    (subst (λ (n : ℕ). Finishes n (file_of g.N.Work.job c.args.frame.now.index) all result before after) (index_is g c)
    (subst (λ (q : FileId). Finishes c.index-i.result q all result before after) (file_is g c)
    (subst (λ (l : List ℕ). Finishes c.index-i.result c.file.result l result before after) bytes made)))

-- the files that were written
own : (g : given.Over) (c : After-bytes g) (after : List Call) → OnlyWrites (IsWrittenFile c.file.result) (g.D.Disk.state c.self.inside.disk).calls after
    → OnlyWrites (IsWrittenFile (file_of g.N.Work.job c.args.frame.now.index)) (g.D.Disk.state c.args.self.now.disk).calls after
own g c after writing =
    disk_along _ _ c.self.view_is (λ d. OnlyWrites (IsWrittenFile (file_of g.N.Work.job c.args.frame.now.index)) (g.D.Disk.state d).calls after)
    (subst (λ (q : FileId). OnlyWrites (IsWrittenFile q) (g.D.Disk.state c.self.inside.disk).calls after) (file_is g c) writing)

-- it was done
pub returns-in-Ok-clause-own : goal.returns-in-Ok-clause-own
returns-in-Ok-clause-own g c = own g (goal.at.returns-in-Ok-clause-own g c).After-bytes (g.D.Disk.state c.store.new.disk).calls c.store.ensures.own

pub returns-in-Ok-clause-safe : goal.returns-in-Ok-clause-safe
returns-in-Ok-clause-safe g c told = safe g (goal.at.returns-in-Ok-clause-safe g c).After-bytes c.store.new.disk (c.store.ensures.finishing told)

pub returns-in-Ok-clause-calls : goal.returns-in-Ok-clause-calls
returns-in-Ok-clause-calls g c =
    called g (goal.at.returns-in-Ok-clause-calls g c).After-bytes {A = Unit {0}} {B = Unit {0}} (Ok tt) (g.D.Disk.state c.store.new.disk).calls (search rules) c.in-Ok.ensures.calls

-- the disk failed
pub returns-in-Err-clause-own : goal.returns-in-Err-clause-own
returns-in-Err-clause-own g c = own g (goal.at.returns-in-Err-clause-own g c).After-bytes (g.D.Disk.state c.store.new.disk).calls c.store.ensures.own

pub returns-in-Err-clause-calls : goal.returns-in-Err-clause-calls
returns-in-Err-clause-calls g c =
    called g (goal.at.returns-in-Err-clause-calls g c).After-bytes {A = Unit {0}} {B = Unit {0}} (Err tt) (g.D.Disk.state c.store.new.disk).calls (search rules) c.in-Err.ensures.calls

pub returns-in-Err-clause-safe : goal.returns-in-Err-clause-safe
returns-in-Err-clause-safe g c told = safe g (goal.at.returns-in-Err-clause-safe g c).After-bytes c.store.new.disk (c.store.ensures.finishing told)

pub returns-in-Ok-clause-acked : goal.returns-in-Ok-clause-acked
returns-in-Ok-clause-acked g c told =
    let index : c.index-i.result ≡ c.args.frame.now.index = c.index-i.ensures.index ∙ ap (λ (f : FrameBytes). f.index) c.frame-frame.ensures in
    acked_of g.N.Work.job _ _ c.index-i.result c.args.frame.now.index _ c.self.invariant.0.digest c.self.invariant.0.size index (c.in-Ok.ensures.ledger.acked told)

pub returns-in-Ok-clause-stored : goal.returns-in-Ok-clause-stored
returns-in-Ok-clause-stored g c told files image =
    let file : c.file.result ≡ file_of g.N.Work.job c.args.frame.now.index = c.file.ensures.own ∙ ap (λ (f : FrameBytes). file_of g.N.Work.job f.index) c.frame-frame.ensures in
    let bytes : c.bytes.result.now ≡ c.args.frame.now.bytes = search rules in
    ap files (sym file) ∙ c.in-Ok.ensures.stored told files image ∙ ap Some bytes

pub returns-in-Ok-clause-shown : goal.returns-in-Ok-clause-shown
returns-in-Ok-clause-shown g c told =
    let now = moment_of (g.D.Disk.state c.store.new.disk).history in
    returns-in-Ok-clause-stored g c told now.view (view_is_image now)

pub push_reserved-requires : goal.push_reserved-requires
push_reserved-requires g c =
    let of = c.self.invariant.0 in
    let below = c.index-i.ensures.below in
    let size = of.size in
    let index : c.index-i.result ≡ c.args.frame.now.index = c.index-i.ensures.index ∙ ap (λ (f : FrameBytes). f.index) c.frame-frame.ensures in
    has_room g.N.Work.job g.D.Disk.tells g.D.Disk.state _ of c.index-i.result (omega (arith, below, size))
    (ap (λ (l : List Bool). get_or l c.index-i.result false) (gates_same _ _ c.self.view_is) ∙ ap (λ n. get_or c.args.self.now.ledger.gates n false) index ∙ c.requires.fresh)
    _ _ c.self.inside.acks.ok.0 c.self.invariant.1

pub store-requires-clause-agrees : goal.store-requires-clause-agrees
store-requires-clause-agrees g c told =
    let shut : c.self.inside.closed ≡ false = ap (λ (r : ReelView _). r.ledger.closed) c.self.view_is ∙ c.requires.is_open in
    let open_ledger : c.self.inside.ledger.closed ≡ false = c.self.invariant.2 shut in
    subst (λ b. Agrees (moment_of (g.D.Disk.state c.self.inside.disk).history) (record { digest = c.self.inside.ledger.digest; gates = c.self.inside.ledger.gates; closed = b })) (shut ∙ sym open_ledger) (c.self.invariant.0.agrees shut told)

pub invariant_of-self : goal.invariant_of-self
invariant_of-self g c =
    let of = c.self.invariant.0 in
    let shut : c.self.inside.closed ≡ false = ap (λ (r : ReelView _). r.ledger.closed) c.self.view_is ∙ c.requires.is_open in
    let open_ledger : c.self.inside.ledger.closed ≡ false = c.self.invariant.2 shut in
    let index : c.index-i.result ≡ c.args.frame.now.index = c.index-i.ensures.index ∙ ap (λ (f : FrameBytes). f.index) c.frame-frame.ensures in
    let below = c.index-i.ensures.below in
    let size = of.size in
    let within : c.index-i.result < length c.self.inside.ledger.gates = omega (arith, below, size) in
    let fresh = ap (λ (l : List Bool). get_or l c.index-i.result false) (gates_same _ _ c.self.view_is) ∙ ap (λ n. get_or c.args.self.now.ledger.gates n false) index ∙ c.requires.fresh in
    let gates : c.store.new.ledger.gates ≡ set c.self.inside.ledger.gates c.index-i.result true = ap (λ (l : LedgerState). l.gates) c.in-Ok.ensures.ledger.marked in
    let acks : c.push_reserved.new.self.items ≡ c.self.inside.acks.items ++ c.index-i.result ∷ [] = c.push_reserved.ensures.items in (
      record {
        digest = ap (λ (l : LedgerState). l.digest) c.in-Ok.ensures.ledger.marked ∙ of.digest;
        size = ap length gates ∙ length-set c.self.inside.ledger.gates c.index-i.result true ∙ of.size;
        acked = subst (λ (l : List Bool). (j : ℕ) → j < length c.push_reserved.new.self.items → get_or l (get_or c.push_reserved.new.self.items j 0) false ≡ true) (sym gates)
            (subst (λ (a : List ℕ). (j : ℕ) → j < length a → get_or (set c.self.inside.ledger.gates c.index-i.result true) (get_or a j 0) false ≡ true) (sym acks) (acked_more g.N.Work.job g.D.Disk.tells g.D.Disk.state _ of c.index-i.result within fresh));
        once = subst (λ (a : List ℕ). (j k : ℕ) → j < k → k < length a → get_or a j 0 ≢ get_or a k 0) (sym acks) (once_more g.N.Work.job g.D.Disk.tells g.D.Disk.state _ of c.index-i.result within fresh);
        kept = ap (λ (a : List ℕ). c.self.inside.kept + length a) acks ∙ kept_more g.N.Work.job g.D.Disk.tells g.D.Disk.state _ of c.index-i.result within fresh ∙ sym (ap (λ (l : List Bool). count_by (λ gate. gate) l) gates);
        agrees = λ _ told. subst (λ b. Agrees (moment_of (g.D.Disk.state c.store.new.disk).history) (record { digest = c.store.new.ledger.digest; gates = c.store.new.ledger.gates; closed = b })) (ap (λ (l : LedgerState). l.closed) c.in-Ok.ensures.ledger.marked ∙ open_ledger ∙ sym shut) (c.in-Ok.ensures.ledger.agrees told);
      },
      search rules,
      λ _. ap (λ (l : LedgerState). l.closed) c.in-Ok.ensures.ledger.marked ∙ open_ledger,
    )

-- where the disk failed, the reel is closed and as it was
pub invariant_of-self-in-Err : goal.invariant_of-self-in-Err
invariant_of-self-in-Err g c =
    let of = c.self.invariant.0 in
    let room = c.self.invariant.1 in
    let gates = c.in-Err.ensures.ledger.gates in (
      record {
        digest = c.in-Err.ensures.ledger.digest ∙ of.digest;
        size = ap length gates ∙ of.size;
        acked = subst (λ (l : List Bool). (j : ℕ) → j < length c.self.inside.acks.items → get_or l (get_or c.self.inside.acks.items j 0) false ≡ true) (sym gates) of.acked;
        once = of.once;
        kept = of.kept ∙ sym (ap (λ (l : List Bool). count_by (λ gate. gate) l) gates);
        agrees = λ never told. cc;
      },
      let same = ap length gates in omega (arith, same, room),
      λ never. cc,
    )

pub returns-in-Err-clause-closed : goal.returns-in-Err-clause-closed
returns-in-Err-clause-closed g c =
    let after : List ℕ → List Bool → ReelView g.row.D.Denot = λ digest gates. record {
      disk = c.store.new.disk;
      ledger = record { digest = digest; gates = gates; closed = true };
      acks = c.self.inside.acks.items;
      kept = c.self.inside.kept;
    } in
    ap (λ digest. after digest c.store.new.ledger.gates) c.in-Err.ensures.ledger.digest ∙ ap (after c.self.inside.ledger.digest) c.in-Err.ensures.ledger.gates
    ∙ ap (λ (r : ReelView g.row.D.Denot). after_fault r c.store.new.disk) c.self.view_is
