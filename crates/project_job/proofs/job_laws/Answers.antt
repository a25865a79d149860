use Rattle.project_job.proofs.Laws.{one_answer, one_job}
use Rattle.project_job.proofs.job_laws.Goals as goal

pub returns-clause-answer : goal.returns-clause-answer
returns-clause-answer c = one_answer c.project_laws.ensures.one

pub returns-clause-job : goal.returns-clause-job
returns-clause-job c = one_job c.project_laws.ensures.one
