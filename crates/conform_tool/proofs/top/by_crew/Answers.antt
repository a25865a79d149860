-- A crew's run gives its answer.
use Rattle.conform_tool.proofs.Conforming.{crew_answered, put_left}
use Rattle.conform_tool.proofs.top.by_crew.Goals as goal

pub returns-clause-crew : goal.returns-clause-crew
returns-clause-crew g c =
    let crew = c.run_crewed-result.ensures in
    crew_answered g.S.Scans.state _ _ _ _ _ _ _ _ c.run_crewed-result.result.result _ _ _ c.put_result-outcome.ensures.put crew.reply crew.kind crew.failed crew.disk.failed crew.disk.later

pub returns-clause-untouched : goal.returns-clause-untouched
returns-clause-untouched g c = put_left c.run_crewed-result.result.result
    (g.K.Sink.state c.args.out.now) (g.K.Sink.state c.put_result-outcome.new.out) c.put_result-outcome.result _ _
    c.put_result-outcome.ensures.put c.run_crewed-result.ensures.untouched
