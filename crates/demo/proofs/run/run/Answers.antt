-- The run was begun on an empty disk.
use Rattle.std.proofs.Common.{◌≡◌, ◌+◌, arith, rules, refl, sym}
use Rattle.cf_base.specs.Count.{HasRisen}
use Rattle.reel_writer.specs.Reel.{frames_of}
use Rattle.demo.proofs.Fresh.{acked_at_done, whole_at_done, ends_in_memory}
use Rattle.demo.proofs.run.run.Goals as goal

pub unreachable-requires : goal.unreachable-requires
unreachable-requires c =
    let never : HasRisen 0 0 → ⊥ = λ rose. omega arith in
    ends_in_memory _ _ c.requires.empty c.args.job.now c.count.result c.count.ensures.count _ _ _ _ _ _ c.run_alone-end.ensures.ran refl
    (λ same. never (c.run_alone-end.ensures.scan.scanned.failed same)) c.in_default.not-Done c.in_default.not-DiskFault c.in_default.not-NoMemory

pub overflow_add-result : goal.overflow_add-result
overflow_add-result c =
    let all : c.run_alone-end.result.1.kept + c.run_alone-end.result.1.rendered ≡ frames_of c.args.job.now =
    acked_at_done _ _ c.requires.empty c.args.job.now c.count.result c.count.ensures.count _ _ _ _ _ (rw c.in-Done.is at c.run_alone-end.ensures.ran) in
    rw (all, sym c.run_alone-end.ensures.frames) (search rules)

pub returns-in-Done-clause-acknowledged : goal.returns-in-Done-clause-acknowledged
returns-in-Done-clause-acknowledged c = acked_at_done _ _ c.requires.empty c.args.job.now c.count.result c.count.ensures.count _ _ _ _ _ (rw c.in-Done.is at c.run_alone-end.ensures.ran)

pub returns-in-Done-clause-whole : goal.returns-in-Done-clause-whole
returns-in-Done-clause-whole c = whole_at_done _ _ c.requires.empty c.args.job.now c.count.result c.count.ensures.count _ _ (c.run_alone-end.ensures.keeps.whole c.in-Done.is refl)
