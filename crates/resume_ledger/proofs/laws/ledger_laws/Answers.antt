use Rattle.resume_ledger.proofs.Bodies.{closed_is_own}
use Rattle.resume_ledger.proofs.LawProofs.{agrees_spared, sound_has_files, one_answer, one_number}
use Rattle.resume_ledger.proofs.Versions.{acks_as, fit_as, agrees_shown}
use Rattle.resume_ledger.proofs.laws.ledger_laws.Goals as goal

pub returns-clause-by_its_files : goal.returns-clause-by_its_files
returns-clause-by_its_files c = record {
  acks = λ digest count i files others same. acks_as files others same digest count i;
  fit = λ digest count files others same. fit_as files others same digest count;
}

pub returns-clause-spared : goal.returns-clause-spared
returns-clause-spared c = agrees_spared

pub returns-clause-shown : goal.returns-clause-shown
returns-clause-shown c = agrees_shown

pub returns-clause-has_its_files : goal.returns-clause-has_its_files
returns-clause-has_its_files c = sound_has_files

pub returns-clause-one_answer : goal.returns-clause-one_answer
returns-clause-one_answer c = one_answer

pub returns-clause-one_number : goal.returns-clause-one_number
returns-clause-one_number c = one_number

pub returns-clause-closed_is_own : goal.returns-clause-closed_is_own
returns-clause-closed_is_own c = closed_is_own
