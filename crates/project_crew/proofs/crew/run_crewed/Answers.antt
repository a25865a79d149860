-- The project comes to its job, which a crew runs in the folder.
use Rattle.std.proofs.Common.{◌≡◌, ◌∙◌, Err, ap, ◌<◌, ℕ, get_or, length, rules, set, subst}
use Rattle.project_crew.proofs.Crews.{all_tell, crewed, error_as, failed_before, failed_first, first_loaded, still_tell, uncrewed}
use Rattle.frame_range.specs.Parts.{range_of}
use Rattle.reel_disk.specs.State.{OnDisk}
use Rattle.project_job.specs.Asked.{IsInspected}
use Rattle.project_crew.specs.Crew.{IsJobRunByCrew, told_by}
use Rattle.project_run.specs.Calls.{Replies}
use Rattle.project_run.proofs.Runs.{match_each}
use Rattle.project_run.proofs.Leaving.{end_unrefused, left_by}
use Rattle.project_crew.proofs.crew.run_crewed.Goals as goal

pub returns-in-Err-clause-reply : goal.returns-in-Err-clause-reply
returns-in-Err-clause-reply g c =
    let some : 0 < length c.args.scans.items = search rules in
    let first : get_or c.args.scans.items 0 c.index_mut.result.now ≡ c.index_mut.result.now = search rules in
    let job = c.in-Err.ensures in
    uncrewed g.S.Scans.state c.planned.new.scan c.args.path.now c.args.size.workers c.args.size.share c.args.scans.items c.index_mut.result.now _ _ _ some first
    job.told job.read job.kind job.loads job.refused job.refused_heads (λ is. job.scan.ends (ap Err is)) (λ other. job.scan.counts.steady (λ is. other cc)) job.scan.counts.cause.later job.scan.told job.scan.lent

pub returns-in-Err-clause-failed : goal.returns-in-Err-clause-failed
returns-in-Err-clause-failed g c is =
    let some : 0 < length c.args.scans.items = search rules in
    let first : get_or c.args.scans.items 0 c.index_mut.result.now ≡ c.index_mut.result.now = search rules in
    failed_first g.S.Scans.state c.planned.new.scan c.args.scans.items c.index_mut.result.now some first (c.in-Err.ensures.scan.counts.cause.failed (error_as _ _ is))

pub run_job-ended-requires-clause-one_world : goal.run_job-ended-requires-clause-one_world
run_job-ended-requires-clause-one_world g c κs within =
    let some : 0 < length c.args.scans.items = search rules in
    let first : get_or c.args.scans.items 0 c.index_mut.result.now ≡ c.index_mut.result.now = search rules in
    still_tell g.S.Scans.state c.planned.new.scan c.args.scans.items c.index_mut.result.now some first c.planned.ensures.scan.told
    (all_tell g.S.Scans.state c.args.scans.items c.requires.one_world)

pub returns-clause-reply : goal.returns-clause-reply
returns-clause-reply g c =
    let some : 0 < length c.args.scans.items = search rules in
    let first : get_or c.args.scans.items 0 c.index_mut.result.now ≡ c.index_mut.result.now = search rules in
    let job = c.in-Ok.ensures in
    let texts = first_loaded g.S.Scans.state c.planned.new.scan _ c.args.scans.items c.index_mut.result.now some first job.loaded (job.scan.counts.steady (λ is. cc)) job.scan.told job.scan.lent in
    let all = c.range_of.ensures.range ∙ ap (range_of c.args.extent) c.count.ensures.count in
    let reply = crewed g.S.Scans.state c.planned.new.scan c.in-Ok.job c.args.extent c.range_of.result c.args.path.now c.args.size.workers c.args.size.share c.args.scans.items _ c.index_mut.result.now _ _ in
    let scans = set c.args.scans.items 0 c.planned.new.scan in
    let ran = subst (λ (n : ℕ). Replies c.run_job-ended.result.result (OnDisk g.D.Disk.tells (g.D.Disk.state c.args.disk) (g.D.Disk.state c.run_job-ended.result.disk)
    (IsJobRunByCrew g.S.Scans.state c.in-Ok.job c.args.extent c.range_of.result (told_by g.S.Scans.state scans) c.args.size.workers n scans c.run_job-ended.result.scans.items))) c.from.ensures c.run_job-ended.ensures.ran in
    let inspected : IsInspected (g.S.Scans.state c.index_mut.result.now).world c.in-Ok.job (g.S.Scans.state c.index_mut.result.now).heads (g.S.Scans.state c.planned.new.scan).heads
    = record { needed = job.job; once = job.once; heads = job.heads } in
    match_each _ _ _ _ _ ran (λ text ran. reply _ _ all some first job.told job.read job.scan.told texts inspected ran)
    (λ outcome ran. reply _ _ all some first job.told job.read job.scan.told texts inspected ran)

pub returns-clause-failed : goal.returns-clause-failed
returns-clause-failed g c is =
    let some : 0 < length c.args.scans.items = search rules in
    let first : get_or c.args.scans.items 0 c.index_mut.result.now ≡ c.index_mut.result.now = search rules in
    failed_before g.S.Scans.state c.planned.new.scan c.args.scans.items _ c.index_mut.result.now some first (c.in-Ok.ensures.scan.counts.steady (λ is. cc)) (c.run_job-ended.ensures.failed is)

pub returns-clause-untouched : goal.returns-clause-untouched
returns-clause-untouched g c = left_by _ _ _ _ _ c.run_job-ended.ensures.ran (λ reached ran. end_unrefused _ ran.how reached ran.reply.reached_is)

pub returns-in-Err-clause-handed_back : goal.returns-in-Err-clause-handed_back
returns-in-Err-clause-handed_back g c = search rules
