-- Each way to an outcome gives its answer.
use Rattle.std.proofs.Common.{refl}
use Rattle.command_answers.proofs.Answering.{none_found, one_found, answered_usage, answered_by, answered_line, done_unrefused, put_refused}
use Rattle.command_answers.proofs.one_thread.answer_found.Goals as goal

pub returns-in_default-clause-answered : goal.returns-in_default-clause-answered
returns-in_default-clause-answered g c words says =
    answered_usage _ _ _ _ _ _ (none_found _ _ c.in_default.is says) c.put_line.ensures.put

pub returns-in-Ok-clause-answered : goal.returns-in-Ok-clause-answered
returns-in-Ok-clause-answered g c words says =
    answered_by _ c.in-Some.command _ _ _ _ _ _ _ _ _ (one_found _ _ _ c.in-Some.is says) c.in-Ok.ensures.reply (rw c.deref.ensures.value at c.put.ensures.put)

pub returns-in-Err-clause-answered : goal.returns-in-Err-clause-answered
returns-in-Err-clause-answered g c words says =
    answered_line _ c.in-Some.command _ _ _ _ _ _ _ _ (one_found _ _ _ c.in-Some.is says) c.in-Err.ensures.reply c.put_line-in-Err.ensures.put

pub returns-in_default-clause-folders : goal.returns-in_default-clause-folders
returns-in_default-clause-folders g c = record { reel = λ _. refl; old = λ _. refl; reel_lent = refl; old_lent = refl }

pub returns-in-Ok-clause-folders : goal.returns-in-Ok-clause-folders
returns-in-Ok-clause-folders g c = record {
  reel = λ refused. absurd (done_unrefused _ _ _ _ c.put.ensures.put refused);
  old = λ refused. absurd (done_unrefused _ _ _ _ c.put.ensures.put refused);
  reel_lent = c.carried_out.ensures.disk_same;
  old_lent = c.carried_out.ensures.old_same;
}

pub returns-in-Err-clause-folders : goal.returns-in-Err-clause-folders
returns-in-Err-clause-folders g c = record {
  reel = λ refused. c.in-Err.ensures.untouched (put_refused _ _ _ _ c.put_line-in-Err.ensures.put refused);
  old = λ refused. c.in-Err.ensures.old_untouched (put_refused _ _ _ _ c.put_line-in-Err.ensures.put refused);
  reel_lent = c.carried_out.ensures.disk_same;
  old_lent = c.carried_out.ensures.old_same;
}

pub returns-in_default-clause-uncalled : goal.returns-in_default-clause-uncalled
returns-in_default-clause-uncalled g c words says = record { reel = λ _. refl; old = λ _. refl }

pub returns-in-Ok-clause-uncalled : goal.returns-in-Ok-clause-uncalled
returns-in-Ok-clause-uncalled g c words says = record {
  reel = λ none. c.in-Ok.ensures.no_call (none c.in-Some.command (one_found _ _ _ c.in-Some.is says));
  old = λ none. c.in-Ok.ensures.no_old_call (none c.in-Some.command (one_found _ _ _ c.in-Some.is says));
}

pub returns-in-Err-clause-uncalled : goal.returns-in-Err-clause-uncalled
returns-in-Err-clause-uncalled g c words says = record {
  reel = λ none. c.in-Err.ensures.no_call (none c.in-Some.command (one_found _ _ _ c.in-Some.is says));
  old = λ none. c.in-Err.ensures.no_old_call (none c.in-Some.command (one_found _ _ _ c.in-Some.is says));
}

pub returns-in-Ok-clause-unread : goal.returns-in-Ok-clause-unread
returns-in-Ok-clause-unread g c words says none = absurd (none c.in-Some.command (one_found _ _ _ c.in-Some.is says))

pub returns-in-Err-clause-unread : goal.returns-in-Err-clause-unread
returns-in-Err-clause-unread g c words says none = absurd (none c.in-Some.command (one_found _ _ _ c.in-Some.is says))
