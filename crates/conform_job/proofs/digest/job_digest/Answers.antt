-- Each of the three byte strings goes in behind its length.
use Rattle.std.proofs.Common.{ap, sym, ◌∙◌}
use Rattle.std.specs.Option.{option_copied}
use Rattle.conform_job.specs.Digest.{digest_of}
use Rattle.conform_job.proofs.Digests.{with_cube, without_cube}
use Rattle.conform_job.proofs.digest.job_digest.Goals as goal

pub returns-in-Some : goal.returns-in-Some
returns-in-Some c =
    c.finalize.ensures _ (c.update-in-Some-2.ensures _ (c.update-in-Some.ensures _ (c.update-4.ensures _ (c.update-3.ensures _ (c.update-2.ensures _ (c.update.ensures _ c.new-hasher.ensures))))))
    ∙ with_cube c.args.project.now c.args.edl.now c.in-Some.bytes.now _ _ _ c.to_be_bytes.ensures c.to_be_bytes-2.ensures c.to_be_bytes-in-Some.ensures
    ∙ ap (λ cube. digest_of c.args.project.now c.args.edl.now (option_copied cube)) (sym c.in-Some.is)

pub returns-in-None : goal.returns-in-None
returns-in-None c =
    c.finalize-in-None.ensures _ (c.update-in-None.ensures _ (c.update-4.ensures _ (c.update-3.ensures _ (c.update-2.ensures _ (c.update.ensures _ c.new-hasher.ensures)))))
    ∙ without_cube c.args.project.now c.args.edl.now _ _ _ c.to_be_bytes.ensures c.to_be_bytes-2.ensures c.to_be_bytes-in-None.ensures
    ∙ ap (λ cube. digest_of c.args.project.now c.args.edl.now (option_copied cube)) (sym c.in-None.is)
