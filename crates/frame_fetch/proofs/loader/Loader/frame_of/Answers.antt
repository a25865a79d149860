use Rattle.frame_fetch.proofs.Logs.{tried_miss}
use Rattle.frame_fetch.proofs.Tellings.{told_as}
use Rattle.frame_fetch.proofs.loader.Loader.frame_of.Goals as goal

-- it was missed, and no put followed
pub returns-in-Err-clause-tried : goal.returns-in-Err-clause-tried
returns-in-Err-clause-tried g c = told_as _ _ _ _ (λ x y asked. tried_miss x y c.args.key asked.2) c.in-Miss.ensures.answer
