use Rattle.std.proofs.Common.{◌≡◌, ℕ, List, length, rules, sym, ◌∙◌, ap, subst, arith}
use Rattle.frame_share.specs.declared.step.ShareStep.{ShareStep}
use Rattle.frame_share.specs.Share.{IsLegal, ShareView}
use Rattle.frame_share.specs.Units.{Tally}
use Rattle.run_alone.specs.Ran.{WereFinished}
use Rattle.frame_fetch.specs.Scanned.{IsScannedAlone}
use Rattle.frame_fetch.specs.Sharing.{IsPaired}
use Rattle.frame_fetch.specs.declared.run_end.RunEnd.TheVariants as end
use Rattle.run_alone.proofs.Determined.{determined}
use Rattle.run_alone.proofs.Running.{not_begun, unbegun}
use Rattle.run_alone.proofs.alone.run_shared.Goals as goal

-- no room for the share
pub returns-in-Err-clause-finished : goal.returns-in-Err-clause-finished
returns-in-Err-clause-finished g c = unbegun g.N.Work.job c.args.task.now.range.low c.args.task.now.range.high c.args.reel.now.ledger.gates end.NoMemory _ _ (λ same. cc) (ap length c.requires.opened.unfinished) c.empty.ensures

pub returns-in-Err-clause-reel : goal.returns-in-Err-clause-reel
returns-in-Err-clause-reel g c = not_begun g.N.Work.job c.args.task.now.range.low c.args.task.now.range.high g.N.Work.files g.D.Disk.tells g.D.Disk.state end.NoMemory c.args.reel.now (λ same. cc) tt c.requires.opened

pub run_frames-end-requires-clause-ready : goal.run_frames-end-requires-clause-ready
run_frames-end-requires-clause-ready g c =
    let units = c.in-Ok.ensures.units in
    let loader = c.new-loader.ensures in
    record {
      named = c.requires.task.job;
      tells = search rules;
      infos = c.requires.infos;
      few = let none = loader.none in omega (arith, none);
      closed = ap (λ (t : Tally). t.pending) (loader.units ∙ units);
    }

pub run_frames-end-requires-clause-none : goal.run_frames-end-requires-clause-none
run_frames-end-requires-clause-none g c = (c.new-loader.ensures.none, ap (λ (t : Tally). t.amount) (c.new-loader.ensures.units ∙ c.in-Ok.ensures.units))

pub run_frames-end-requires-clause-unasked : goal.run_frames-end-requires-clause-unasked
run_frames-end-requires-clause-unasked g c = ap (λ (s : ShareView). s.steps) c.in-Ok.ensures.share

pub settle-requires : goal.settle-requires
settle-requires g c = record { all = ap (λ (t : Tally). t.parts) c.into_parts-scan.ensures.units ∙ c.run_frames-end.ensures.parts ∙ ap (λ (t : Tally). t.parts) (c.new-loader.ensures.units ∙ c.in-Ok.ensures.units) }

pub returns-clause-reel : goal.returns-clause-reel
returns-clause-reel g c = c.run_frames-end.ensures.reel

pub returns-clause-scan : goal.returns-clause-scan
returns-clause-scan g c =
    let parts = c.into_parts-scan.ensures in
    subst (λ (n : ℕ). IsScannedAlone n (c.run_frames-end.result ≡ end.SourceFault) (g.S.Scans.state c.args.scan) (g.S.Scans.state c.into_parts-scan.result.0)) (sym parts.loads)
    (subst (λ (s : _). IsScannedAlone c.run_frames-end.new.loader.loads (c.run_frames-end.result ≡ end.SourceFault) (g.S.Scans.state c.args.scan) (g.S.Scans.state s)) (sym parts.scan)
    (subst (λ (s : _). IsScannedAlone c.run_frames-end.new.loader.loads (c.run_frames-end.result ≡ end.SourceFault) (g.S.Scans.state s) (g.S.Scans.state c.run_frames-end.new.loader.scan)) c.new-loader.ensures.scan c.run_frames-end.ensures.scan))

pub returns-clause-legal : goal.returns-clause-legal
returns-clause-legal g c =
    let room : c.settle.new.self.capacity ≡ c.args.task.now.share = ap (λ (s : ShareView). s.capacity) c.settle.ensures.same ∙ c.run_frames-end.ensures.room ∙ ap (λ (s : ShareView). s.capacity) c.in-Ok.ensures.share in
    subst (λ n. IsLegal n c.into_log.result) room (subst (λ xs. IsLegal c.settle.new.self.capacity xs) (sym c.into_log.ensures.steps) c.into_log.ensures.kept.legal)

pub returns-clause-finished : goal.returns-clause-finished
returns-clause-finished g c = subst (λ (l : List ShareStep). WereFinished g.N.Work.job c.args.task.now.range.low c.args.task.now.range.high c.args.reel.now.ledger.gates c.run_frames-end.result (length c.run_frames-end.new.reel.acks) l) (sym (c.into_log.ensures.steps ∙ ap (λ s. s.steps) c.settle.ensures.same)) c.run_frames-end.ensures.finished

pub returns-clause-determined : goal.returns-clause-determined
returns-clause-determined g c =
    let kept = c.into_log.ensures.kept in
    let room : c.settle.new.self.capacity ≡ c.args.task.now.share = ap (λ s. s.capacity) c.settle.ensures.same ∙ c.run_frames-end.ensures.room ∙ ap (λ s. s.capacity) c.in-Ok.ensures.share in
    determined c.args.task.now.share c.into_log.result
    (subst (λ n. IsLegal n c.into_log.result) room (subst (λ xs. IsLegal c.settle.new.self.capacity xs) (sym c.into_log.ensures.steps) kept.legal))
    (subst (λ xs. IsPaired (Unit {0}) xs) (sym (c.into_log.ensures.steps ∙ ap (λ s. s.steps) c.settle.ensures.same)) c.run_frames-end.ensures.finished.paired)
