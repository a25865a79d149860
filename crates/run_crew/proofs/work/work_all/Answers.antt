use Rattle.std.proofs.Common.{sym, ◌∙◌, subst, arith}
use Rattle.std.proofs.lemmas.List.{get_or-set_other}
use Rattle.conform_job.specs.Names.{Tells}
use Rattle.run_crew.proofs.Gathering.{worked_all}
use Rattle.crew_seat.specs.Worked.{rest_loads, seat_loads, worker_loads}
use Rattle.run_crew.proofs.work.work_all.Goals as goal

pub work_on_first-requires-clause-may : goal.work_on_first-requires-clause-may
work_on_first-requires-clause-may g c _ _ k d lt = (record { shared = c.type_bounds.sync-R.shared }, c.requires.job, c.requires.infos, c.requires.ready k d lt)

pub finish_rest-requires-clause-files : goal.finish_rest-requires-clause-files
finish_rest-requires-clause-files g c =
    let some = c.requires.some in
    let within = c.requires.within in
    subst (Tells g.N.Work.files) (sym (c.work_on_first.ensures.has 0 c.index-seats-0.result c.requires.some).scanned.scanned.told) (c.requires.ready 0 c.index-seats-0.result (omega (arith, some, within))).tells

pub finish_rest-requires-clause-few : goal.finish_rest-requires-clause-few
finish_rest-requires-clause-few g c = (c.work_on_first.ensures.has 0 c.index-seats-0.result c.requires.some).few

pub finish_rest-requires-clause-put : goal.finish_rest-requires-clause-put
finish_rest-requires-clause-put g c is =
    let some = c.requires.some in
    let within = c.requires.within in
    let size = c.work_on_first.ensures.size in
    c.are_put-all_put.ensures.0 is 0 c.index-seats-0.result (omega (arith, some, within, size))

pub returns-clause-worked : goal.returns-clause-worked
returns-clause-worked g c =
    worked_all g.N.Work.files g.S.Scans.state
    c.args.seats.now c.work_on_first.new.items c.finish_rest.new.seat c.args.threads worker_loads rest_loads seat_loads c.requires.some (omega arith) c.work_on_first.ensures.size c.requires.ready c.work_on_first.ensures.has c.work_on_first.ensures.others
    c.index-seats-0.result c.finish_rest.ensures.stepped

pub returns-clause-unused : goal.returns-clause-unused
returns-clause-unused g c k d late =
    let some = c.requires.some in
    get_or-set_other c.work_on_first.new.items 0 k c.finish_rest.new.seat d (λ zero. absurd (omega (arith, some, late, zero))) ∙ c.work_on_first.ensures.others k d late
