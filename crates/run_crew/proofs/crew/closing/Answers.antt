use Rattle.std.proofs.Common.{◌≡◌, ◌∙◌, ℕ, ap, arith, rules, sym, subst, refl}
use Rattle.reel_disk.specs.Call.{OnlyWrites}
use Rattle.reel_disk.specs.Disk.{moment_of}
use Rattle.render_board.specs.History.{first_why}
use Rattle.reel_writer.specs.Reel.{frames_of, IsRunFile}
use Rattle.reel_writer.specs.View.{IsReelOf}
use Rattle.run_crew.specs.Crews.{end_by}
use Rattle.run_alone.specs.declared.report.Report.{Report}
use Rattle.run_alone.specs.Run.{AreAllAcked}
use Rattle.run_crew.proofs.Crewing.{crew_acked, whole_range}
use Rattle.run_crew.proofs.Gathering.{end_done}
use Rattle.run_crew.proofs.crew.closing.Goals as goal

pub returns-clause-made : goal.returns-clause-made
returns-clause-made g c =
    let range = c.into_parts-reel.ensures.range.1 in
    let within = c.requires.within in
    record {
      station = c.args.station;
      is = c.into_parts-reel.ensures.kept;
      named = c.into_parts-reel.ensures.named;
      range = c.into_parts-reel.ensures.range;
      disk_is = search rules;
      steps_are = refl;
      ends = search rules;
      whole = whole_range c.args.station.log (frames_of g.N.Work.job) (omega (arith, range, within)) c.requires.finished.0;
      kept = search rules;
      rendered = search rules;
      few = let few = c.requires.finished.1 in let same = ap (λ (r : Report). r.loads) c.report_of-report.ensures.report in omega (arith, few, same);
    }

pub returns-clause-own : goal.returns-clause-own
returns-clause-own g c =
    let same : c.close.result ≡ c.args.station.reel.disk = search rules in
    subst (λ d. OnlyWrites (IsRunFile g.N.Work.job g.C.Crewed.low g.C.Crewed.high) g.N.Start.calls (g.D.Disk.state d).calls) (sym same) c.into_parts-reel.ensures.own

pub returns-clause-acked : goal.returns-clause-acked
returns-clause-acked g c done told =
    let ends : c.end_of-end.result ≡ end_by (first_why c.args.station.log.steps) = search rules in
    let none = end_done c.args.station.log.steps (first_why c.args.station.log.steps) refl (sym ends ∙ done) in
    let of = subst (IsReelOf g.N.Work.job g.D.Disk.tells g.D.Disk.state) c.into_parts-reel.ensures.reel c.report_of-report.ensures.reel in
    let range = c.into_parts-reel.ensures.range in
    let high = range.1 in
    let within = c.requires.within in
    let same : c.close.result ≡ c.args.station.reel.disk = search rules in
    subst (λ (n : ℕ). AreAllAcked g.N.Work.job n g.C.Crewed.high (moment_of (g.D.Disk.state c.close.result).history)) range.0
    (subst (λ (n : ℕ). AreAllAcked g.N.Work.job c.args.station.log.low n (moment_of (g.D.Disk.state c.close.result).history)) high
    (subst (λ d. AreAllAcked g.N.Work.job c.args.station.log.low c.args.station.log.high (moment_of (g.D.Disk.state d).history)) (sym same)
    (crew_acked g.N.Work.job g.N.Work.files g.N.Start.start g.D.Disk.tells g.D.Disk.state c.args.station c.into_parts-reel.ensures.kept of none (whole_range c.args.station.log (frames_of g.N.Work.job) (omega (arith, high, within)) c.requires.finished.0 none) told)))
