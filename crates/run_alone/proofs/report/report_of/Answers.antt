use Rattle.std.proofs.Common.{ℕ, length, ◌∙◌, ap}
use Rattle.reel_writer.specs.Reel.{frames_of}
use Rattle.run_alone.proofs.report.report_of.Goals as goal

pub returns-clause-report : goal.returns-clause-report
returns-clause-report g c =
    ap (λ (n : ℕ). record { frames = n; kept = c.kept.result; rendered = length c.acks.result.now; loads = c.args.loads; misses = c.args.loads }) (c.count.ensures.count ∙ ap frames_of c.requires.job)
    ∙ ap (λ (n : ℕ). record { frames = frames_of g.N.Work.job; kept = n; rendered = length c.acks.result.now; loads = c.args.loads; misses = c.args.loads }) c.kept.ensures
    ∙ ap (λ (n : ℕ). record { frames = frames_of g.N.Work.job; kept = c.args.reel.now.kept; rendered = n; loads = c.args.loads; misses = c.args.loads }) (ap length c.acks.ensures.acks)
