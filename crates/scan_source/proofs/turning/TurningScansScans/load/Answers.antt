-- The scan that serves the call answers it.
use Rattle.std.proofs.Common.{◌≡◌, true, false, ap, sym, ◌∙◌}
use Rattle.scan_source.specs.Turning.{turning_of, is_before}
use Rattle.scan_source.proofs.turning.TurningScansScans.load.Goals as goal

pub returns-then-goes_first-clause-answer : goal.returns-then-goes_first-clause-answer
returns-then-goes_first-clause-answer c =
    let test : is_before (turning_of c.args.self.now) ≡ true = sym c.goes_first.ensures.first ∙ c.if-goes_first.true in
    let kept : c.goes_first.new.self.first ≡ c.args.self.now.first = ap (λ scan. scan.first) c.goes_first.ensures.changed in
    rw (test, ← kept) (record { told = c.load.ensures.told; fails = c.load.ensures.plan.failed })

pub returns-else-goes_first-clause-answer : goal.returns-else-goes_first-clause-answer
returns-else-goes_first-clause-answer c =
    let test : is_before (turning_of c.args.self.now) ≡ false = sym c.goes_first.ensures.first ∙ c.if-goes_first.false in
    let kept : c.goes_first.new.self.later ≡ c.args.self.now.later = ap (λ scan. scan.later) c.goes_first.ensures.changed in
    rw (test, ← kept) (record { told = c.load-else-goes_first.ensures.told; fails = c.load-else-goes_first.ensures.plan.failed })
